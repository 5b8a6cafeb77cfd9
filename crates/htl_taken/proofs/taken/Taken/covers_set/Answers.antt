-- A processor covers numbers where it has them all, and one that isn't there covers only an empty set.
use Rattle.std.proofs.Common.{◌≡◌, ℕ, length, ◌∙◌, arith, eqb-true, eq-eqb, sym, inl, inr, List, [], ◌∷◌, refl, Contains}
use Rattle.std.proofs.lemmas.Bool.{cases_eq}
use Rattle.htl_taken.specs.Numbers.{Numbers, size_of}
use Rattle.htl_taken.specs.NumberSets.{Has}
use Rattle.htl_taken.specs.NumberSets.{numbers_of}
use Rattle.htl_event.proofs.Members.{Contains-here}
use Rattle.htl_taken.proofs.NumberSets.{numbers_at-view, numbers_at-past, length-view, Has-no_numbers}
use Rattle.htl_taken.proofs.taken.Taken.covers_set.Goals as goal

pub returns-in-Some : goal.returns-in-Some
returns-in-Some g c =
    let item = rw c.deref.ensures.value at c.in-Some.ensures.lookup in
    let at = numbers_at-view c.self.inside.sets.items c.args.self.now c.self.view_is c.args.processor c.in-Some.own.now item.3.0 item.1 in
    rw at c.covers.ensures

-- a place of size 0 has no number, and the other way round
none_in_empty : (q : Numbers) (n : ℕ) → size_of q ≡ 0 → Has q n → ⊥
none_in_empty q n zero (inl lt) = omega (arith, zero, lt)
none_in_empty q n zero (inr h) = let lt = h.1 in omega (arith, zero, lt)

empty_from_none : (q : Numbers) → ((n : ℕ) → Has q n → ⊥) → size_of q ≡ 0
empty_from_none q none =
    elim (cases_eq q.front 0) [
      | inl e ↦ let l : length q.loose ≡ 0 = no_loose q.loose (λ n h. none n (inr h)) in omega (arith, e, l)
      | inr above ↦ absurd (none 0 (inl (omega (arith, above))))
    ] where
      no_loose : (ns : List ℕ) → ((n : ℕ) → Contains ns n → ⊥) → length ns ≡ 0
      no_loose [] absent = refl
      no_loose (n ∷ ns) absent = absurd (absent n (Contains-here n ns))

pub returns-in-None : goal.returns-in-None
returns-in-None g c =
    let sets = c.self.inside.sets.items in
    let numbers = numbers_of c.args.numbers.now in
    let item = rw c.deref.ensures.value at c.in-None.ensures.lookup in
    let past = numbers_at-past c.args.self.now c.args.processor (omega (arith, item.3, length-view sets c.args.self.now c.self.view_is)) in
    rw past (
      (λ t n h. let zero = eqb-true c.len.result 0 t in absurd (none_in_empty numbers n (sym c.len.ensures.size ∙ zero) h)),
      (λ all. eq-eqb c.len.result 0 (c.len.ensures.size ∙ empty_from_none numbers (λ n h. Has-no_numbers n (all n h)))),
    )
