-- The stacks of the part are those of its tally, which the tree lists, and those of its latest events.
use Rattle.std.proofs.Common.{◌≡◌, ◌++◌, ℕ, List, map, ap, ◌∙◌, append_assoc}
use Rattle.htl_event.specs.Events.{Event}
use Rattle.htl_tree.specs.Trees.{by_stack}
use Rattle.htl_saved.proofs.Tallies.{Listed, Counted, map_after}
use Rattle.htl_saved.proofs.table.push_stacks.Goals as goal

pub returns : goal.returns
returns g c =
    let old = c.args.stacks.now.items in
    let counts = c.in_ok-counts.counts.items in
    let fold = c.args.part.now.folded in
    let listed : List (List ℕ) = map (λ (row : Listed). row.0.1) c.deref.result.now in
    let counted : List (List ℕ) = map (λ (row : Counted). row.0.0) fold.tree in
    let rows : List (List ℕ) = map (λ (e : Event). e.stack) c.rows.result.now in
    let first : listed ≡ counted =
    ap (map (λ (row : Listed). row.0.1)) c.deref.ensures.value
    ∙ map_after (λ (row : Counted). row.0.0) by_stack counts
    ∙ ap (map (λ (row : Counted). row.0.0)) (c.in_ok-counts.ensures ∙ c.tree.ensures) in
    let second : rows ≡ map (λ (e : Event). e.stack) fold.latest =
    ap (map (λ (e : Event). e.stack)) (c.rows.ensures.value ∙ c.latest.ensures) in
    c.in_ok-push_latest.ensures
    ∙ ap (λ (l : List (List ℕ)). l ++ rows) c.in_ok-push_counted.ensures
    ∙ append_assoc old listed rows
    ∙ ap (λ (l : List (List ℕ)). old ++ (l ++ rows)) first
    ∙ ap (λ (l : List (List ℕ)). old ++ (counted ++ l)) second
