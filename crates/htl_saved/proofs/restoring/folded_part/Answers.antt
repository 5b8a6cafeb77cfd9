-- The rows name stacks of the table, and the tree of what they count with these stacks has what they tell.
use Rattle.std.proofs.Common.{◌≡◌, List, length, map, ◌<◌, sym, ◌∙◌, ap, subst, arith}
use Rattle.std.specs.Prelude.{Contains}
use Rattle.std.proofs.lemmas.Grind.{common_steps}
use Rattle.htl_tree.specs.Trees.{by_stack}
use Rattle.htl_state.specs.declared.rows.CountRow.{CountRow}
use Rattle.htl_state.specs.declared.rows.LatestRow.{LatestRow}
use Rattle.htl_state.specs.Rows.{Part}
use Rattle.htl_saved.specs.Restored.{counted, listed}
use Rattle.htl_saved.proofs.Tallies.{map_after}
use Rattle.htl_saved.proofs.restoring.folded_part.Goals as goal

pub counts_of_rows-requires : goal.counts_of_rows-requires
counts_of_rows-requires c =
    record {
      here = subst (λ (l : List CountRow). (row : CountRow) → Contains l row → row.stack < length c.args.table.now)
          (sym (c.deref.ensures.value ∙ ap (λ (p : Part). p.counts) c.part.view_is)) c.requires.counted;
    }

pub events_of_rows-requires : goal.events_of_rows-requires
events_of_rows-requires c =
    record {
      here = subst (λ (l : List LatestRow). (row : LatestRow) → Contains l row → row.stack < length c.args.table.now)
          (sym (c.deref-3.ensures.value ∙ ap (λ (p : Part). p.latest) c.part.view_is)) c.requires.named;
    }

pub returns : goal.returns
returns c =
    let table = c.args.table.now in
    let tree : c.in_ok-tree.tree ≡ map (counted table) c.deref.result.now =
    c.in_ok-tree.ensures ∙ ap (map by_stack) (c.deref-2.ensures.value ∙ c.in_ok-counts.ensures)
    ∙ sym (map_after by_stack (listed table) c.deref.result.now) in
    grind (arith, common_steps, tree)
