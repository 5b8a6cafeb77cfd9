-- Rows of a state tell it: those of each processor tell its numbers and its part.
use Rattle.std.proofs.Common.{◌≡◌, ℕ, ◌<◌, List, length, map, sym, ◌∙◌, ap, arith, ext_get_or}
use Rattle.std.specs.List.{AllByRecursion}
use Rattle.std.specs.Prelude.{Contains}
use Rattle.std.proofs.lemmas.List.{length-map, get_or-map}
use Rattle.std.proofs.lemmas.List.Elements.{Contains-get_or}
use Rattle.htl_event.specs.Events.{Event}
use Rattle.htl_event.proofs.Members.{all_left, all_right}
use Rattle.htl_tree.specs.Trees.{Tree}
use Rattle.htl_taken.specs.Numbers.{Numbers, no_numbers, numbers_at, front_at}
use Rattle.htl_analyst.specs.States.{Part as Kept, part as kept, folded, no_part, part_at, State as Analyst, state as analyst}
use Rattle.htl_state.specs.Rows.{State}
use Rattle.htl_saved.specs.Tables.{HasAll}
use Rattle.htl_saved.specs.AnalystRows.{AreRowsOf, part_rows, stacks_of, no_rows, rows_at}
use Rattle.htl_saved.specs.Restored.{numbers_told, kept_told, state_told}
use Rattle.htl_saved.specs.Laws.{IsPlain, IsPlainState, TellItself}
use Rattle.htl_saved.proofs.Tallies.{Counted}
use Rattle.htl_saved.proofs.TablesOf.{has_part, table_has_all}
use Rattle.htl_saved.proofs.Told.{counts_back, events_back}

-- the rows of a part tell it
part_back : (table : List (List ℕ)) (k : Kept) (f : ℕ) → HasAll table (stacks_of k) → AllByRecursion IsPlain k.folded.latest
    → kept_told table (part_rows table f k) ≡ k
part_back table k f all plain =
    let l = k.folded in
    let told = (kept_told table (part_rows table f k)).folded in
    let made : Tree → List Event → Kept =
    λ tree events. kept k.held (folded tree events l.marks l.exits l.last_sequence l.events) in
    ap (λ (tree : Tree). made tree told.latest) (counts_back table l.tree (all_left (Contains table) _ _ all))
    ∙ ap (λ (events : List Event). made l.tree events)
    (events_back table l.latest (all_right (Contains table) (map (λ (row : Counted). row.0.0) l.tree) _ all) plain)

module _ (a : Analyst) (rows : State) (is : IsPlainState a) (r : AreRowsOf a rows) where
  parts_back : (p : ℕ) → p < a.processors → kept_told rows.stacks (rows_at rows.parts p) ≡ part_at a.parts p
  parts_back p lt =
      ap (kept_told rows.stacks) (r.parts p lt)
      ∙ part_back rows.stacks (part_at a.parts p) (front_at a.taken p)
      (has_part rows.stacks a.parts _ (table_has_all a.parts rows.stacks r.stacks)
      (Contains-get_or a.parts p no_part (omega (arith, is.state.parts, lt)))) (is.plain p lt)

  numbers_back : (p : ℕ) → p < a.processors → numbers_told (rows_at rows.parts p) ≡ numbers_at a.taken p
  numbers_back p lt =
      let q = numbers_at a.taken p in
      let numbers : List ℕ → Numbers = λ loose. record { front = q.front; loose = loose } in
      ap numbers_told (r.parts p lt) ∙ ap numbers (is.state.each p lt).numbers

  same_taken : map numbers_told rows.parts ≡ a.taken
  same_taken =
      let len : length (map numbers_told rows.parts) ≡ length a.taken =
      length-map rows.parts numbers_told ∙ r.processors ∙ sym is.state.places in
      ext_get_or no_numbers (map numbers_told rows.parts) a.taken len (λ p lt.
      let here : p < length rows.parts = omega (arith, length-map rows.parts numbers_told, lt) in
      get_or-map numbers_told rows.parts p no_rows no_numbers here ∙ numbers_back p (omega (arith, r.processors, here)))

  same_parts : map (kept_told rows.stacks) rows.parts ≡ a.parts
  same_parts =
      let len : length (map (kept_told rows.stacks) rows.parts) ≡ length a.parts =
      length-map rows.parts (kept_told rows.stacks) ∙ r.processors ∙ sym is.state.parts in
      ext_get_or no_part (map (kept_told rows.stacks) rows.parts) a.parts len (λ p lt.
      let here : p < length rows.parts = omega (arith, length-map rows.parts (kept_told rows.stacks), lt) in
      get_or-map (kept_told rows.stacks) rows.parts p no_rows no_part here ∙ parts_back p (omega (arith, r.processors, here)))

  state_back : state_told rows ≡ a
  state_back =
      let taken = map numbers_told rows.parts in
      let parts = map (kept_told rows.stacks) rows.parts in
      ap (λ (n : ℕ). analyst n (length rows.parts) taken parts) r.trace_id
      ∙ ap (λ (n : ℕ). analyst a.trace_id n taken parts) r.processors
      ∙ ap (λ (ns : List Numbers). analyst a.trace_id a.processors ns parts) same_taken
      ∙ ap (λ (ks : List Kept). analyst a.trace_id a.processors a.taken ks) same_parts

pub tell_itself : TellItself
tell_itself a rows is r = state_back a rows is r
