-- An analyst has one list of rows: its stacks have one table, and the rows of each processor are made with it.
use Rattle.std.proofs.Common.{◌≡◌, ℕ, ◌<◌, List, length, get_or, sym, ◌∙◌, ap, arith, ext_get_or}
use Rattle.htl_taken.specs.Numbers.{front_at}
use Rattle.htl_analyst.specs.States.{part_at}
use Rattle.htl_state.specs.Rows.{Part, state}
use Rattle.htl_saved.specs.AnalystRows.{part_rows, no_rows}
use Rattle.htl_saved.specs.Laws.{AreDetermined}
use Rattle.htl_saved.proofs.TablesOf.{tables_are_one}

pub are_determined : AreDetermined
are_determined a r s x y =
    let stacks : r.stacks ≡ s.stacks = tables_are_one a.parts r.stacks s.stacks x.stacks y.stacks in
    let ids : r.trace_id ≡ s.trace_id = x.trace_id ∙ sym y.trace_id in
    let len : length r.parts ≡ length s.parts = x.processors ∙ sym y.processors in
    let parts : r.parts ≡ s.parts = ext_get_or no_rows r.parts s.parts len (same stacks) in
    ap (λ (z : ℕ). state z r.stacks r.parts) ids
    ∙ ap (λ (z : List (List ℕ)). state s.trace_id z r.parts) stacks
    ∙ ap (λ (z : List Part). state s.trace_id s.stacks z) parts
  where
    same : r.stacks ≡ s.stacks → (p : ℕ) → p < length r.parts → get_or r.parts p no_rows ≡ get_or s.parts p no_rows
    same stacks p lt =
        let within : p < a.processors = omega (arith, x.processors, lt) in
        x.parts p within
        ∙ ap (λ (t : List (List ℕ)). part_rows t (front_at a.taken p) (part_at a.parts p)) stacks
        ∙ sym (y.parts p within)
