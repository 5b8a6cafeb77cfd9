-- The table has the stacks of the part's tally, and those of its latest events.
use Rattle.std.proofs.Common.{List, map, sym, ◌∙◌, subst}
use Rattle.std.specs.Prelude.{Contains}
use Rattle.htl_event.specs.Events.{Event}
use Rattle.htl_event.proofs.Members.{all_left, all_right}
use Rattle.htl_tree.specs.Trees.{Tree}
use Rattle.htl_saved.specs.Tables.{HasAll}
use Rattle.htl_saved.proofs.Tallies.{Counted}
use Rattle.htl_saved.proofs.parts.rows_of_part.Goals as goal

pub count_rows-requires-clause-here : goal.count_rows-requires-clause-here
count_rows-requires-clause-here g c =
    subst (λ (tree : Tree). HasAll c.args.table.now (map (λ (row : Counted). row.0.0) tree)) (sym c.tree-tree.ensures)
    (all_left (Contains c.args.table.now) (map (λ (row : Counted). row.0.0) c.args.part.now.folded.tree)
    (map (λ (e : Event). e.stack) c.args.part.now.folded.latest) c.requires.here)

pub latest_rows-requires-clause-here : goal.latest_rows-requires-clause-here
latest_rows-requires-clause-here g c =
    subst (λ (latest : List Event). HasAll c.args.table.now (map (λ (e : Event). e.stack) latest)) (sym (c.rows.ensures.value ∙ c.latest.ensures))
    (all_right (Contains c.args.table.now) (map (λ (row : Counted). row.0.0) c.args.part.now.folded.tree)
    (map (λ (e : Event). e.stack) c.args.part.now.folded.latest) c.requires.here)
