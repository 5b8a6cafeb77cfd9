-- Rows that fit are those of a tree and of tables: they rise, and what they name is there.
use Rattle.std.proofs.Common.{◌≡◌, ◌≢◌, ℕ, ◌+◌, ◌<◌, ◌^◌, List, [], ◌∷◌, length, map, Bool, true, false, ◌&&◌, ◌||◌, ◌==◌, nat_lt}
use Rattle.std.proofs.Common.{Option, Some, None, T, refl, sym, ◌∙◌, ap, arith, subst, inl, inr}
use Rattle.std.specs.Prelude.{◌⊎◌}
use Rattle.std.specs.List.{AllByRecursion, sum_by}
use Rattle.std.specs.Ordering.{is_lt, nat_cmp, ordering_then}
use Rattle.std.specs.Cmp.{nat_cmp_total, tied_itself}
use Rattle.std.specs.FinMap.Entries.{below_all}
use Rattle.std.specs.declared.cmp.Ordering.{Ordering}
use Rattle.std.specs.declared.cmp.Ordering.TheVariants.{Less, Equal}
use Rattle.std.proofs.lemmas.Bool.{and_parts, cases_lt, eqb-true, ltb-true}
use Rattle.std.proofs.lemmas.Bool.Decides.{nat_tests}
use Rattle.std.proofs.lemmas.List.Sums.{sum_by-cons}
use Rattle.htl_lemmas.proofs.Tests.{both}
use Rattle.htl_event.specs.Events.{Event}
use Rattle.htl_event.specs.Slots.{base_of}
use Rattle.htl_event.specs.declared.slot.Count.{Count}
use Rattle.htl_event.specs.Members.{IsRising}
use Rattle.htl_event.specs.OrderLaws.{stack_total}
use Rattle.htl_event.specs.SlotOrder.{slot_cmp}
use Rattle.htl_event.specs.Stacks.{stack_cmp}
use Rattle.htl_event.specs.Tallies.{total_of, IsPositive}
use Rattle.htl_event.proofs.ComputedCounts.{is_lt-Less}
use Rattle.htl_event.proofs.Members.{at_member}
use Rattle.htl_sorted.specs.Entries.{IsSorted, Each, entries}
use Rattle.htl_tree.specs.Trees.{ByStackAndSlot, total_count}
use Rattle.htl_tree.proofs.TreesAsLists.{key_total as tree_key_total}
use Rattle.htl_tables.specs.Keys.{key_cmp, key_of, ByKey}
use Rattle.htl_tables.specs.Greatest.{sequences}
use Rattle.htl_tables.proofs.KeyOrder.{key_total}
use Rattle.htl_state.specs.declared.rows.CountRow.{CountRow}
use Rattle.htl_state.specs.declared.rows.LatestRow.{LatestRow}
use Rattle.htl_state.specs.declared.rows.Setting.{Setting}
use Rattle.htl_state.specs.Rows.{Part}
use Rattle.htl_state.specs.Reading.{stacks, counts, latest, moments, setting}
use Rattle.htl_state.specs.WellFormed.{RowsFit, ListFits, StackFits, CountFits, LatestFits, MomentFits, PartFits}
use Rattle.htl_analyst.specs.Restored.{IsBounded}
use Rattle.htl_tables.specs.Tables.{IsEventTable, IsSequenceTable}
use Rattle.htl_tree.specs.Trees.{IsTally}
use Rattle.htl_saved.specs.Tables.{InStackOrder}
use Rattle.htl_saved.specs.Restored.{stack_at, counted, listed, event_of, fold_told, IsFoldable}
use Rattle.htl_saved.proofs.Places.{rising_at}

-- ---- tests

cmp_less : (n m : ℕ) → n < m → nat_cmp n m ≡ Less
cmp_less n m lt = grind (arith, nat_tests)

-- the first of two tests, or, where it fails, both others
or_both : (a b c : Bool) → (a || (b && c)) ≡ true → (a ≡ true) ⊎ ((b ≡ true) × (c ≡ true))
or_both true b c e = inl refl
or_both false b c e = inr (and_parts b c e)

-- ---- rows that fit rise

module _ {Row : Type 0} (before : Row → Row → Bool) (Fits : Row → Type 0) (R : Row → Row → Type 0)
    (trans : (x y z : Row) → R x y → R y z → R x z) (step : (x y : Row) → Fits x → Fits y → before x y ≡ true → R x y) where
  -- what comes before a row comes before all behind it
  all_behind : (z x : Row) (rows : List Row) → Fits x → R z x → RowsFit before Fits (Some x) rows → AllByRecursion (R z) rows
  all_behind z x [] fits first fit = tt
  all_behind z x (y ∷ rows) fits first fit =
      let next : R z y = trans z x y first (step x y fits fit.0 fit.1) in
      (next, all_behind z y rows fit.0 next fit.2)

  all_above : (x : Row) (rows : List Row) → Fits x → RowsFit before Fits (Some x) rows → AllByRecursion (R x) rows
  all_above x [] fits fit = tt
  all_above x (y ∷ rows) fits fit =
      let next : R x y = step x y fits fit.0 fit.1 in
      (next, all_behind x y rows fit.0 next fit.2)

  rows_rising : (last : Option Row) (rows : List Row) → RowsFit before Fits last rows → IsRising R rows
  rows_rising last [] fit = tt
  rows_rising last (x ∷ rows) fit = (all_above x rows fit.0 fit.2, rows_rising (Some x) rows fit.2)

-- what holds of each row that fits holds of all
pub rows_each : {Row : Type 0} (before : Row → Row → Bool) (Fits P : Row → Type 0) → ((row : Row) → Fits row → P row)
    → (last : Option Row) (rows : List Row) → RowsFit before Fits last rows → AllByRecursion P rows
rows_each before Fits P each last [] fit = tt
rows_each before Fits P each last (row ∷ rows) fit = (each row fit.0, rows_each before Fits P each (Some row) rows fit.2)

module _ {X Y : Type 0} (f : X → Y) where
  pub all_map : (P : Y → Type 0) (xs : List X) → AllByRecursion (λ x. P (f x)) xs → AllByRecursion P (map f xs)
  all_map P [] h = tt
  all_map P (x ∷ xs) h = (h.0, all_map P xs h.1)

  pub rising_map : (R : Y → Y → Type 0) (xs : List X) → IsRising (λ x y. R (f x) (f y)) xs → IsRising R (map f xs)
  rising_map R [] h = tt
  rising_map R (x ∷ xs) h = (all_map (R (f x)) xs h.0, rising_map R xs h.1)

  sum_map : (g : Y → ℕ) (xs : List X) → sum_by g (map f xs) ≡ sum_by (λ x. g (f x)) xs
  sum_map g [] = refl
  sum_map g (x ∷ xs) =
      sum_by-cons g (f x) (map f xs) ∙ ap (λ n. g (f x) + n) (sum_map g xs) ∙ sym (sum_by-cons (λ x. g (f x)) x xs)

-- ---- rows that rise are in the order of their keys

module _ {Row K X : Type 0} (key : Row → K) (value : Row → X) (R : K → K → Ordering) where
  below_rows : (k : K) (rows : List Row) → AllByRecursion (λ row. R k (key row) ≡ Less) rows → T (below_all R k (entries key value rows))
  below_rows k [] h = tt
  below_rows k (row ∷ rows) h = both _ _ (subst (λ (r : Ordering). T (is_lt r)) (sym h.0) tt) (below_rows k rows h.1)

  sorted_rows : (rows : List Row) → IsRising (λ a b. R (key a) (key b) ≡ Less) rows → IsSorted R (entries key value rows)
  sorted_rows [] h = tt
  sorted_rows (row ∷ rows) h = both _ _ (below_rows (key row) rows h.0) (sorted_rows rows h.1)

-- ---- stacks

pub table_rising : (table : List (List ℕ)) → ListFits stacks StackFits table → IsRising InStackOrder table
table_rising table fit =
    rows_rising stacks.is_before StackFits InStackOrder stack_total.trans (λ x y a b e. is_lt-Less (stack_cmp x y) e) None table fit.each

-- ---- counts

module _ (table : List (List ℕ)) (rising : IsRising InStackOrder table) (st : Setting) (len : st.stacks ≡ length table) where
  abbrev CountsRise : CountRow → CountRow → Type 0
  CountsRise x y = ByStackAndSlot {X = Count} (listed table x) (listed table y)

  count_step : (x y : CountRow) → CountFits st x → CountFits st y → counts.is_before x y ≡ true → CountsRise x y
  count_step x y fits_x fits_y e =
      let s = stack_at table x.stack in
      let t = stack_at table y.stack in
      elim (or_both (nat_lt x.stack y.stack) (x.stack == y.stack) (is_lt (slot_cmp x.slot y.slot)) e) [
        | inl first ↦
            let less : stack_cmp s t ≡ Less =
            rising_at table rising x.stack y.stack [] (ltb-true x.stack y.stack first) (omega (arith, fits_y.known, len)) in
            ap (λ (r : Ordering). ordering_then r (slot_cmp x.slot y.slot)) less
        | inr second ↦
            let place : x.stack ≡ y.stack = eqb-true x.stack y.stack second.0 in
            let same : stack_cmp s t ≡ Equal =
            ap (λ (n : ℕ). stack_cmp (stack_at table n) t) place ∙ tied_itself stack_total t in
            ap (λ (r : Ordering). ordering_then r (slot_cmp x.slot y.slot)) same ∙ is_lt-Less (slot_cmp x.slot y.slot) second.1
      ]

  positive : (c : Count) → ((c.plus ≡ 0) × (c.minus ≡ 0) → ⊥) → IsPositive c
  positive c some =
      elim (cases_lt 0 (c.plus + c.minus)) [
        | inl lt ↦ lt
        | inr le ↦ absurd (some (omega (arith, le), omega (arith, le)))
      ]

  tally_told : (rows : List CountRow) → RowsFit counts.is_before (CountFits st) None rows
      → sum_by (λ row. total_of row.count) rows < 2 ^ 64 → IsTally (map (listed table) rows)
  tally_told rows fit few = record {
    rising = rising_map (listed table) (ByStackAndSlot {X = Count}) rows
        (rows_rising counts.is_before (CountFits st) CountsRise
        (λ x y z. tree_key_total.trans (stack_at table x.stack, x.slot) (stack_at table y.stack, y.slot) (stack_at table z.stack, z.slot))
        count_step None rows fit);
    positive = all_map (listed table) (λ row. IsPositive row.1) rows
        (rows_each counts.is_before (CountFits st) (λ row. IsPositive row.count) (λ row f. positive row.count f.some) None rows fit);
    fits = subst (λ (n : ℕ). n < 2 ^ 64) (sym (sum_map (listed table) (λ row. total_of row.1) rows)) few;
  }

  -- ---- latest events

  abbrev EventsRise : LatestRow → LatestRow → Type 0
  EventsRise x y = ByKey (event_of table x) (event_of table y)

  latest_step : (x y : LatestRow) → latest.is_before x y ≡ true → EventsRise x y
  latest_step x y e =
      let b = base_of x.handle in
      let d = base_of y.handle in
      elim (or_both (nat_lt x.process y.process) (x.process == y.process) (nat_lt b d) e) [
        | inl first ↦
            ap (λ (r : Ordering). ordering_then r (nat_cmp b d)) (cmp_less x.process y.process (ltb-true x.process y.process first))
        | inr second ↦
            let same : nat_cmp x.process y.process ≡ Equal =
            ap (λ (n : ℕ). nat_cmp n y.process) (eqb-true x.process y.process second.0) ∙ tied_itself nat_cmp_total y.process in
            ap (λ (r : Ordering). ordering_then r (nat_cmp b d)) same ∙ cmp_less b d (ltb-true b d second.1)
      ]

  latest_told : (rows : List LatestRow) → RowsFit latest.is_before (LatestFits st) None rows → IsEventTable (map (event_of table) rows)
  latest_told rows fit =
      sorted_rows key_of (λ (e : Event). e) key_cmp (map (event_of table) rows)
      (rising_map (event_of table) ByKey rows
      (rows_rising latest.is_before (LatestFits st) EventsRise
      (λ x y z. key_total.trans (key_of (event_of table x)) (key_of (event_of table y)) (key_of (event_of table z)))
      (λ x y a b. latest_step x y) None rows fit))

-- ---- marks and exits

above_zero : (n : ℕ) → n ≢ 0 → 0 < n
above_zero n some = elim (cases_lt 0 n) [ inl lt ↦ lt | inr le ↦ absurd (some (omega (arith, le))) ]

each_positive : (last : Option (ℕ × ℕ)) (rows : List (ℕ × ℕ)) → RowsFit moments.is_before MomentFits last rows
    → Each (λ n. 0 < n) (sequences rows)
each_positive last [] fit = tt
each_positive last (row ∷ rows) fit = (above_zero row.1 fit.0.some, each_positive (Some row) rows fit.2)

moments_told : (rows : List (ℕ × ℕ)) → RowsFit moments.is_before MomentFits None rows → IsSequenceTable rows
moments_told rows fit = record {
  sorted = sorted_rows (λ (row : ℕ × ℕ). row.0) (λ (row : ℕ × ℕ). row.1) nat_cmp rows
      (rows_rising moments.is_before MomentFits (λ a b. nat_cmp a.0 b.0 ≡ Less)
      (λ x y z. nat_cmp_total.trans x.0 y.0 z.0)
      (λ x y a b e. cmp_less x.0 y.0 (ltb-true x.0 y.0 e)) None rows fit);
  positive = each_positive None rows fit;
}

-- ---- a part

-- the counts of a part add up to those of its fold
pub total_told : (table : List (List ℕ)) (rows : List CountRow)
    → total_count (map (counted table) rows) ≡ sum_by (λ row. total_of row.count) rows
total_told table rows = sum_map (counted table) (λ row. total_of row.1) rows

-- a part that fits is one of which a tree and tables are made
pub foldable : (table : List (List ℕ)) → IsRising InStackOrder table → (id n q : ℕ) (p : Part) → PartFits id n q (length table) p
    → IsBounded (fold_told table p) → IsFoldable table p
foldable table rising id n q p fit bounded =
    let st = setting id n q p.front (length table) in
    let few : sum_by (λ (row : CountRow). total_of row.count) p.counts < 2 ^ 64 =
    omega (arith, sym (total_told table p.counts), bounded.counts, fit.front) in
    record {
      counted = λ row here. at_member (λ (r : CountRow). r.stack < length table) p.counts row
          (rows_each counts.is_before (CountFits st) (λ (r : CountRow). r.stack < length table) (λ r f. f.known) None p.counts fit.counts.each) here;
      tally = tally_told table rising st refl p.counts fit.counts.each few;
      named = λ row here. at_member (λ (r : LatestRow). r.stack < length table) p.latest row
          (rows_each latest.is_before (LatestFits st) (λ (r : LatestRow). r.stack < length table) (λ r f. f.known) None p.latest fit.latest.each) here;
      latest = latest_told table rising st refl p.latest fit.latest.each;
      marks = moments_told p.marks fit.marks.each;
      exits = moments_told p.exits fit.exits.each;
    }
