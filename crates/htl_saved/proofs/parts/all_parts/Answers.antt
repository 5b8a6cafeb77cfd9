-- The part of each processor is the analyst's, whose stacks the table has, and one processor more has its rows.
use Rattle.std.proofs.Common.{◌≡◌, ◌+◌, ◌<◌, ℕ, List, length, get_or, sym, ap, ◌∙◌, subst, arith, inl, inr}
use Rattle.std.specs.List.{flat_map}
use Rattle.std.proofs.lemmas.Bool.{cases_lt}
use Rattle.std.proofs.lemmas.List.{get_or_read}
use Rattle.std.proofs.lemmas.List.Elements.{Contains-get_or}
use Rattle.htl_taken.specs.Numbers.{front_at}
use Rattle.htl_analyst.specs.States.{Part as Kept, no_part, part_at, folded_at}
use Rattle.htl_state.specs.Rows.{Part}
use Rattle.htl_saved.specs.Tables.{HasAll}
use Rattle.htl_saved.specs.AnalystRows.{part_rows, rows_at, stacks_of, HasTables}
use Rattle.htl_saved.proofs.TablesOf.{has_part, rows_more}
use Rattle.htl_saved.proofs.parts.all_parts.Goals as goal

-- what is read at a place is the part of the processor
part_read : (parts read : List Kept) (p i : ℕ) (k : Kept) → read ≡ parts → i ≡ p → p < length parts → k ≡ get_or read i k → k ≡ part_at parts p
part_read parts read p i k same at lt is =
    get_or_read parts p k lt
    (is ∙ ap (λ (l : List Kept). get_or l i k) same ∙ ap (λ (n : ℕ). get_or parts n k) at) no_part

-- the table has the stacks of the part of each processor
stacks_at : (table : List (List ℕ)) (parts : List Kept) (p : ℕ) (k : Kept) → HasAll table (flat_map stacks_of parts) → p < length parts
    → k ≡ part_at parts p → HasAll table (stacks_of k)
stacks_at table parts p k all lt is =
    subst (λ (l : Kept). HasAll table (stacks_of l)) (sym is)
    (has_part table parts (part_at parts p) all (Contains-get_or parts p no_part lt))

-- one processor more has tables
more_tables : (parts : List Kept) (n : ℕ) → ((p : ℕ) → p < n → HasTables (folded_at parts p)) → HasTables (folded_at parts n)
    → (p : ℕ) → p < n + 1 → HasTables (folded_at parts p)
more_tables parts n before next p lt =
    elim (cases_lt p n) [
      | inl below ↦ before p below
      | inr above ↦
          let at : n ≡ p = omega (arith, lt, above) in
          subst (λ (q : ℕ). HasTables (folded_at parts q)) at next
    ]

pub rows_of_part-requires-clause-kept : goal.rows_of_part-requires-clause-kept
rows_of_part-requires-clause-kept g c =
    let lt : c.loop-processor.processor < length c.args.analyst.now.parts =
    omega (arith, c.loop-processor-test.true, c.processors-processor-end.ensures.value, c.processors-processor-end.ensures.state.parts) in
    part_read c.args.analyst.now.parts c.parts-kept.result.now c.loop-processor.processor c.from.result c.index-kept-from.result
    c.parts-kept.ensures.value c.from.ensures lt c.index-kept-from.is

pub rows_of_part-requires-clause-here : goal.rows_of_part-requires-clause-here
rows_of_part-requires-clause-here g c =
    let lt : c.loop-processor.processor < length c.args.analyst.now.parts =
    omega (arith, c.loop-processor-test.true, c.processors-processor-end.ensures.value, c.processors-processor-end.ensures.state.parts) in
    stacks_at c.args.table.now c.args.analyst.now.parts c.loop-processor.processor c.index-kept-from.result c.requires.here lt
    (part_read c.args.analyst.now.parts c.parts-kept.result.now c.loop-processor.processor c.from.result c.index-kept-from.result
    c.parts-kept.ensures.value c.from.ensures lt c.index-kept-from.is)

pub loop-processor-preserved : goal.loop-processor-preserved
loop-processor-preserved g c =
    let p = c.loop-processor.processor in
    let a = c.args.analyst.now in
    let wanted : ℕ → Part = λ q. part_rows c.args.table.now (front_at a.taken q) (part_at a.parts q) in
    let lt : p < length a.parts =
    omega (arith, c.loop-processor-test.true, c.processors-processor-end.ensures.value, c.processors-processor-end.ensures.state.parts) in
    let kept : c.index-kept-from.result ≡ part_at a.parts p =
    part_read a.parts c.parts-kept.result.now p c.from.result c.index-kept-from.result
    c.parts-kept.ensures.value c.from.ensures lt c.index-kept-from.is in
    let row : c.in_ok-rows_of_part.field-0 ≡ wanted p =
    c.in_ok-rows_of_part.ensures.rows
    ∙ ap (λ (k : Kept). part_rows c.args.table.now (front_at a.taken p) k) kept in
    let more = rows_more wanted c.loop-processor.parts.items p c.in_ok-rows_of_part.field-0
    c.loop-processor.invariant.0 c.loop-processor.invariant.1 row in
    let tables : HasTables (folded_at a.parts p) = subst (λ (k : Kept). HasTables k.folded) kept c.in_ok-rows_of_part.ensures.tables in
    let all = more_tables a.parts p c.loop-processor.invariant.2 tables in
    subst (λ (l : List Part). (length l ≡ p + 1) × ((q : ℕ) → q < p + 1 → rows_at l q ≡ wanted q)
    × ((q : ℕ) → q < p + 1 → HasTables (folded_at a.parts q))) (sym c.in_ok-push.ensures.items) (more.0, more.1, all)
