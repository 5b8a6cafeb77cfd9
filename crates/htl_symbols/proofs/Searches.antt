-- A search through a list finds the only element that passes its test, or none where none passes.
use Rattle.std.proofs.Common.{◌≡◌, Bool, true, false, List, [], ◌∷◌, Some, None, inl, inr, refl, arith, sym}
use Rattle.std.specs.List.{Contains, find, list_any}
use Rattle.std.proofs.lemmas.Bool.{cases_Bool}
use Rattle.std.proofs.lemmas.List.Folds.{list_any_at}
use Rattle.htl_event.proofs.Members.{Contains-here, Contains-there, Contains-cases}

-- the only element that passes is what a search finds
pub find-only : {X : Type 0} (p : X → Bool) (xs : List X) (x : X) → Contains xs x → p x ≡ true
    → ((y : X) → Contains xs y → p y ≡ true → y ≡ x) → find p xs ≡ Some x
find-only p [] x (k, below, at) passes only = absurd (omega arith)
find-only p (y ∷ ys) x listed passes only = elim (cases_Bool (p y)) [
  | inl passed ↦ let same = only y (Contains-here y ys) passed in rw (passed, same) refl
  | inr failed ↦ elim (Contains-cases y ys x listed) [
    | inl same ↦ let fails : p x ≡ false = rw (sym same) failed in absurd (cc)
    | inr later ↦ rw failed (find-only p ys x later passes (λ z there ok. only z (Contains-there y ys z there) ok))
  ]
]

-- where no element passes, none is found
pub find-none : {X : Type 0} (p : X → Bool) (xs : List X) → ((y : X) → Contains xs y → p y ≡ false) → find p xs ≡ None
find-none p [] fails = refl
find-none p (y ∷ ys) fails = rw (fails y (Contains-here y ys)) (find-none p ys (λ z there. fails z (Contains-there y ys z there)))

-- one element that passes is enough
pub list_any-true : {X : Type 0} (p : X → Bool) (xs : List X) (x : X) → Contains xs x → p x ≡ true → list_any p xs ≡ true
list_any-true p xs x (k, below, at) passes = list_any_at p xs k x below (rw at passes)

-- no element passes
pub list_any-false : {X : Type 0} (p : X → Bool) (xs : List X) → ((y : X) → Contains xs y → p y ≡ false) → list_any p xs ≡ false
list_any-false p [] fails = refl
list_any-false p (y ∷ ys) fails =
    rw (fails y (Contains-here y ys)) (list_any-false p ys (λ z there. fails z (Contains-there y ys z there)))
