-- Sums over the slots of a list that has each slot once are counts of events.
use Rattle.std.proofs.Common.{◌≡◌, ◌≢◌, ℕ, Bool, true, false, cond, ◌&&◌, List, []}
use Rattle.std.proofs.Common.{◌∷◌, Option, Some, None, refl, sym, ap, subst, ◌∙◌, arith, inl, inr}
use Rattle.std.specs.Prelude.{Contains, count_by}
use Rattle.std.specs.List.{sum_by}
use Rattle.std.proofs.Math.Bool.{and-true}
use Rattle.std.proofs.lemmas.Bool.{cases_Bool}
use Rattle.std.proofs.lemmas.List.Sums.{sum_by-cons}
use Rattle.htl_event.specs.Events.{Event}
use Rattle.htl_event.specs.declared.slot.Slot.{Slot}
use Rattle.htl_event.specs.declared.slot.Sign.{Sign}
use Rattle.htl_event.specs.declared.slot.Sign.TheVariants.{Plus, Minus}
use Rattle.htl_event.specs.declared.slot.Count.{Count}
use Rattle.htl_event.specs.Slots.{slot_of, same_slot, same_sign, is_slot, is_counted}
use Rattle.htl_event.specs.OrderLaws.{slot_total}
use Rattle.htl_event.specs.Members.{IsRising, IsStrictOrder}
use Rattle.htl_event.specs.Tallies.{IsPositive}
use Rattle.htl_event.proofs.Members.{Contains-here, Contains-there, Contains-cases, Contains-nil, at_member}
use Rattle.htl_event.proofs.Orders.{strict_from_total}
use Rattle.htl_tree.specs.Trees.{BySlot}
use Rattle.htl_tree.proofs.Under.{same_slot_Decides}
use Rattle.htl_answers.specs.Sums.{times_of, ListsSlotSums}
use Rattle.htl_answers.proofs.NumberSums.{sum_same, sum_zero, sum_swap, cond_sum, none_or_none}
use Rattle.htl_summary.proofs.Counting.{positive_somewhere}

abbrev Sum : Type 0
Sum = Slot × Count

abbrev AreRising : List Sum → Type 0
AreRising sums = IsRising (λ (a b : Sum). BySlot a.0 b.0) sums

-- ---- a slot stands once

pub BySlot-strict : IsStrictOrder BySlot
BySlot-strict = strict_from_total slot_total

not_same : (s t : Slot) → s ≢ t → same_slot s t ≡ false
not_same s t apart = elim (cases_Bool (same_slot s t)) [
  | inl is ↦ absurd (apart ((same_slot_Decides s t).0 is))
  | inr not ↦ not
]

-- what slots that are this one have
abbrev here : (Slot → ℕ) → Slot → Sum → ℕ
here f t sum = cond (same_slot sum.0 t) (f sum.0) 0

module _ (f : Slot → ℕ) (t : Slot) where
  elsewhere : (sums : List Sum) → ((sum : Sum) → Contains sums sum → sum.0 ≢ t) → sum_by (here f t) sums ≡ 0
  elsewhere [] apart = refl
  elsewhere (s ∷ sums) apart =
      let rest = elsewhere sums (λ x h. apart x (Contains-there s sums x h)) in
      let none : here f t s ≡ 0 = ap (λ b. cond b (f s.0) 0) (not_same s.0 t (apart s (Contains-here s sums))) in
      let both = sum_by-cons (here f t) s sums in
      omega (arith, rest, none, both)

  after_it : (s : Sum) (sums : List Sum) → AreRising (s ∷ sums) → s.0 ≡ t → (sum : Sum) → Contains sums sum → sum.0 ≢ t
  after_it s sums rising is sum h same =
      let before : BySlot s.0 sum.0 = at_member (λ (x : Sum). BySlot s.0 x.0) sums sum rising.0 h in
      BySlot-strict.irreflexive s.0 (subst (BySlot s.0) (same ∙ sym is) before)

  pub once : (sums : List Sum) → AreRising sums → (count : Count) → Contains sums (t, count) → sum_by (here f t) sums ≡ f t
  once [] rising count h = absurd (Contains-nil (t, count) h)
  once (s ∷ sums) rising count h =
      let both = sum_by-cons (here f t) s sums in
      elim (Contains-cases s sums (t, count) h) [
        | inl at ↦
            let same : s.0 ≡ t = ap (λ (x : Sum). x.0) at in
            let rest = elsewhere sums (after_it s sums rising same) in
            let one : here f t s ≡ f t = ap (λ b. cond b (f s.0) 0) ((same_slot_Decides s.0 t).1 same) ∙ ap f same in
            omega (arith, both, rest, one)
        | inr there ↦
            let rest = once sums rising.1 count there in
            let apart : s.0 ≢ t = (λ same. after_it s sums rising same (t, count) there refl) in
            let none : here f t s ≡ 0 = ap (λ b. cond b (f s.0) 0) (not_same s.0 t apart) in
            omega (arith, both, rest, none)
      ]

-- ---- how often events came

-- the number that a count has on one side
abbrev pub side : Sign → Count → ℕ
side Plus count = count.plus
side Minus count = count.minus

-- the event is counted on this side under a slot that passes
abbrev pub hits : (Slot → Bool) → Sign → Option (Slot × Sign) → Bool
hits passes sign None = false
hits passes sign (Some counted) = passes counted.0 && same_sign sign counted.1

abbrev one_if : Bool → ℕ
one_if b = cond b 1 0

-- a slot that an event is counted under came
pub came : (events : List Event) (e : Event) (slot : Slot) (sign : Sign) → Contains events e → slot_of e ≡ Some (slot, sign)
    → IsPositive (times_of events slot)
came events e slot sign h is = go sign is
  where
    counted : (s : Sign) → slot_of e ≡ Some (slot, s) → (is_counted slot s e && true) ≡ true
    counted s at = and-true (is_counted slot s e) ∙ ap (is_slot slot s) at
        ∙ ap (λ b. b && same_sign s s) ((same_slot_Decides slot slot).1 refl) ∙ own s
      where
        own : (s : Sign) → (true && same_sign s s) ≡ true
        own Plus = refl
        own Minus = refl

    go : (s : Sign) → slot_of e ≡ Some (slot, s) → IsPositive (times_of events slot)
    go Plus at =
        let some = positive_somewhere (λ x. is_counted slot Plus x && true) events e h (counted Plus at) in
        omega (arith, some)
    go Minus at =
        let some = positive_somewhere (λ x. is_counted slot Minus x && true) events e h (counted Minus at) in
        omega (arith, some)

side_is : (sign : Sign) (events : List Event) (slot : Slot)
    → side sign (times_of events slot) ≡ sum_by (λ e. one_if (is_counted slot sign e && true)) events
side_is Plus events slot = refl
side_is Minus events slot = refl

module _ (passes : Slot → Bool) (sign : Sign) (events : List Event) (sums : List Sum) (listed : ListsSlotSums events sums) where
  abbrev w : Sum → Event → ℕ
  w sum e = cond (passes sum.0) (one_if (is_counted sum.0 sign e && true)) 0

  -- one event is counted under one slot at most
  one_event : (e : Event) → Contains events e → sum_by (λ sum. w sum e) sums ≡ one_if (hits passes sign (slot_of e))
  one_event e h = go (slot_of e) refl
    where
      go : (o : Option (Slot × Sign)) → slot_of e ≡ o → sum_by (λ sum. w sum e) sums ≡ one_if (hits passes sign o)
      go None at = sum_same (λ (sum : Sum). w sum e) (λ (sum : Sum). 0) sums (λ sum k. nothing sum) ∙ sum_zero sums
        where
          nothing : (sum : Sum) → w sum e ≡ 0
          nothing sum =
              let not : is_counted sum.0 sign e ≡ false = ap (is_slot sum.0 sign) at in
              ap (λ b. cond (passes sum.0) (one_if (b && true)) 0) not ∙ none_or_none (passes sum.0)
      go (Some counted) at =
          sum_same (λ (sum : Sum). w sum e) (here f counted.0) sums (λ sum k. as_here sum)
          ∙ once f counted.0 sums listed.rising (times_of events counted.0)
          ((listed.members (counted.0, times_of events counted.0)).1 (refl, came events e counted.0 counted.1 h at))
        where
          f : Slot → ℕ
          f slot = one_if (passes slot && same_sign sign counted.1)

          table : (a b c : Bool) → cond a (one_if ((b && c) && true)) 0 ≡ cond b (one_if (a && c)) 0
          table true true true = refl
          table true true false = refl
          table true false true = refl
          table true false false = refl
          table false true true = refl
          table false true false = refl
          table false false true = refl
          table false false false = refl

          as_here : (sum : Sum) → w sum e ≡ here f counted.0 sum
          as_here sum =
              ap (λ o. cond (passes sum.0) (one_if (is_slot sum.0 sign o && true)) 0) at
              ∙ table (passes sum.0) (same_slot sum.0 counted.0) (same_sign sign counted.1)

  -- the counts of the slots that pass, on one side, are those of the events that are counted so
  pub sums_are_events : sum_by (λ sum. cond (passes sum.0) (side sign sum.1) 0) sums ≡ count_by (λ e. hits passes sign (slot_of e)) events
  sums_are_events =
      let spread : (sum : Sum) → Contains sums sum → cond (passes sum.0) (side sign sum.1) 0 ≡ sum_by (w sum) events =
      (λ sum h. ap (λ c. cond (passes sum.0) (side sign c) 0) ((listed.members sum).0 h).0
      ∙ ap (λ n. cond (passes sum.0) n 0) (side_is sign events sum.0)
      ∙ cond_sum (passes sum.0) (λ e. one_if (is_counted sum.0 sign e && true)) events) in
      sum_same (λ (sum : Sum). cond (passes sum.0) (side sign sum.1) 0) (λ (sum : Sum). sum_by (w sum) events) sums spread
      ∙ sum_swap w sums events
      ∙ sum_same (λ (e : Event). sum_by (λ sum. w sum e) sums) (λ (e : Event). one_if (hits passes sign (slot_of e))) events one_event
