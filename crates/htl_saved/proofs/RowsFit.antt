-- Rows that rise in the order of their keys fit one after the other, as the format asks.
use Rattle.std.proofs.Common.{◌≡◌, ℕ, ◌+◌, ◌≤◌, List, [], ◌∷◌, map, Bool, true, ◌&&◌, ◌==◌, nat_lt, Some, None}
use Rattle.std.proofs.Common.{refl, ap, arith, inl, inr}
use Rattle.std.specs.Prelude.{Contains, ◌⊎◌}
use Rattle.std.specs.List.{AllByRecursion}
use Rattle.std.specs.Ordering.{is_lt, nat_cmp, ordering_then}
use Rattle.std.specs.declared.cmp.Ordering.{Ordering}
use Rattle.std.specs.declared.cmp.Ordering.TheVariants.{Less, Equal, Greater}
use Rattle.std.proofs.lemmas.Bool.{lt-ltb, eq-eqb, and_from, or_left, or_right}
use Rattle.std.proofs.lemmas.Bool.Decides.{nat_tests}
use Rattle.htl_lemmas.proofs.Tests.{lower}
use Rattle.htl_event.specs.Events.{Event}
use Rattle.htl_event.specs.Slots.{base_of}
use Rattle.htl_event.specs.Members.{IsRising}
use Rattle.htl_event.specs.SlotOrder.{slot_cmp}
use Rattle.htl_event.specs.Stacks.{stack_cmp}
use Rattle.htl_event.proofs.Members.{AllByRecursion-weaker}
use Rattle.htl_segment.specs.Content.{Content}
use Rattle.htl_taken.specs.Rising.{Rises}
use Rattle.htl_tree.specs.Trees.{key_cmp}
use Rattle.htl_tables.specs.Keys.{ByKey}
use Rattle.htl_state.specs.Reading.{counts, latest}
use Rattle.htl_state.specs.WellFormed.{RowsFit}
use Rattle.htl_saved.specs.Tables.{InStackOrder, place_in, count_row, latest_row}
use Rattle.htl_saved.proofs.Places.{place_rises, same_stack}
use Rattle.htl_saved.proofs.Tallies.{Counted}

-- ---- lists

module _ {Row : Type 0} (before : Row → Row → Bool) (Fits : Row → Type 0) where
  abbrev IsBefore : Row → Row → Type 0
  IsBefore x y = before x y ≡ true

  fit_behind : (last : Row) (rows : List Row) → AllByRecursion (IsBefore last) rows → AllByRecursion Fits rows → IsRising IsBefore rows
      → RowsFit before Fits (Some last) rows
  fit_behind last [] first fits rising = tt
  fit_behind last (x ∷ rows) first fits rising = (fits.0, first.0, fit_behind x rows rising.0 fits.1 rising.1)

  -- rows each of which fits, in order
  pub fit_rows : (rows : List Row) → AllByRecursion Fits rows → IsRising IsBefore rows → RowsFit before Fits None rows
  fit_rows [] fits rising = tt
  fit_rows (x ∷ rows) fits rising = (fits.0, refl, fit_behind x rows rising.0 fits.1 rising.1)

-- what rises in one order rises in another that follows from it
module _ {X : Type 0} (P : X → Type 0) (R S : X → X → Type 0) (step : (x y : X) → P x → P y → R x y → S x y) where
  behind_from : (x : X) (xs : List X) → P x → AllByRecursion P xs → AllByRecursion (R x) xs → AllByRecursion (S x) xs
  behind_from x [] here all above = tt
  behind_from x (y ∷ xs) here all above = (step x y here all.0 above.0, behind_from x xs here all.1 above.1)

  pub rising_from : (xs : List X) → AllByRecursion P xs → IsRising R xs → IsRising S xs
  rising_from [] all rising = tt
  rising_from (x ∷ xs) all rising = (behind_from x xs all.0 all.1 rising.0, rising_from xs all.1 rising.1)

-- ---- orders

either_less : (r q : Ordering) → ordering_then r q ≡ Less → (r ≡ Less) ⊎ ((r ≡ Equal) × (q ≡ Less))
either_less Less q e = inl refl
either_less Equal q e = inr (refl, e)
either_less Greater q e = cc

equal_is : (n m : ℕ) → nat_cmp n m ≡ Equal → n ≡ m
equal_is n m e = grind (arith, nat_tests)

-- ---- counts

-- of two counts of a tree, the row of the one that comes first comes first
pub count_before : (table : List (List ℕ)) → IsRising InStackOrder table → (x y : Counted) → Contains table x.0.0 → Contains table y.0.0
    → key_cmp x.0 y.0 ≡ Less → counts.is_before (count_row table x) (count_row table y) ≡ true
count_before table rising x y in_x in_y less =
    let p = place_in table x.0.0 in
    let q = place_in table y.0.0 in
    let later = p == q && is_lt (slot_cmp x.0.1 y.0.1) in
    elim (either_less (stack_cmp x.0.0 y.0.0) (slot_cmp x.0.1 y.0.1) less) [
      | inl first ↦ or_left (nat_lt p q) later (lt-ltb p q (place_rises table rising x.0.0 y.0.0 in_x in_y first))
      | inr second ↦
          let places : p ≡ q = ap (place_in table) (same_stack x.0.0 y.0.0 second.0) in
          or_right (nat_lt p q) later (and_from (p == q) (is_lt (slot_cmp x.0.1 y.0.1)) (eq-eqb p q places) (ap is_lt second.1))
    ]

-- ---- latest events

-- of two events of a table, the row of the one that comes first comes first
pub latest_before : (table : List (List ℕ)) (x y : Event) → ByKey x y → latest.is_before (latest_row table x) (latest_row table y) ≡ true
latest_before table x y less =
    let b = base_of x.handle in
    let d = base_of y.handle in
    let later = x.process == y.process && nat_lt b d in
    elim (either_less (nat_cmp x.process y.process) (nat_cmp b d) less) [
      | inl first ↦ or_left (nat_lt x.process y.process) later (lt-ltb x.process y.process (lower x.process y.process first))
      | inr second ↦ or_right (nat_lt x.process y.process) later (
          and_from (x.process == y.process) (nat_lt b d) (eq-eqb x.process y.process (equal_is x.process y.process second.0))
          (lt-ltb b d (lower b d second.1))
          )
    ]

-- ---- held segments

module _ (high : ℕ) where
  -- none of the held segments is below the least number
  pub held_from : (low : ℕ) (hs : List Content) → Rises low high (map (λ (s : Content). s.number) hs)
      → AllByRecursion (λ (s : Content). low ≤ s.number) hs
  held_from low [] rises = tt
  held_from low (s ∷ hs) rises = (
    rises.0,
    AllByRecursion-weaker (λ (t : Content). s.number + 1 ≤ t.number) (λ (t : Content). low ≤ t.number) hs
        (λ t le. omega (arith, le, rises.0)) (held_from (s.number + 1) hs rises.1),
  )

  -- they are in the order of their numbers
  pub held_rising : (low : ℕ) (hs : List Content) → Rises low high (map (λ (s : Content). s.number) hs)
      → IsRising (λ (s t : Content). nat_lt s.number t.number ≡ true) hs
  held_rising low [] rises = tt
  held_rising low (s ∷ hs) rises = (
    AllByRecursion-weaker (λ (t : Content). s.number + 1 ≤ t.number) (λ (t : Content). nat_lt s.number t.number ≡ true) hs
        (λ t le. lt-ltb s.number t.number (omega (arith, le))) (held_from (s.number + 1) hs rises.1),
    held_rising (s.number + 1) hs rises.1,
  )
