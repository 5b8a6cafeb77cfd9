-- Of names whose bytes are known, the first that was refused is the first that is absent.
use Rattle.std.proofs.Common.{◌≡◌, ◌⊎◌, ◌∙◌, ◌∷◌, [], ℕ, zero, suc, Bool, false, true, List, All, ap, arith, inl, inr, map, refl, sym, take}
use Rattle.std.specs.Prelude.{None, Option, Some, String, slice_get, Result, Err}
use Rattle.std.proofs.lemmas.Option.{get_or_from_slice_get, none-some, same_Some, slice_get_within}
use mathlib.Core.Bool.{true≢false}
use Rattle.htl_inputs.specs.declared.fault.RunFault.{RunFault}
use Rattle.htl_inputs.specs.declared.fault.RunFault.TheVariants.{Memory, Read}
use Rattle.htl_world.specs.Readings.{IsUnopenedFor}
use Rattle.htl_world.specs.Worlds.{IsFirstAbsent, of_each, of_inputs}

-- known bytes are no unknown ones
known : {X : Type 0} (texts : List X) (place : ℕ) → slice_get (map (λ x. Some x) texts) place ≡ Some None → ⊥
known [] place is = none-some _ is
known (text ∷ texts) zero is = none-some _ (sym (same_Some _ _ is))
known (text ∷ texts) (suc place) is = known texts place is

-- of inputs whose bytes are known none is refused
none_refused : {A : Type 0} (of : List ℕ → Option (List ℕ)) (standard : Option (List ℕ)) (names : List (String A)) (texts : List (List ℕ))
    (place : ℕ) → of_inputs of standard names ≡ map (λ x. Some x) texts → slice_get (of_each of names) place ≡ Some None → ⊥
none_refused of standard [] texts place all is = none-some _ is
none_refused of standard (name ∷ names) texts place all is = known texts place (sym (ap (λ l. slice_get l place) all) ∙ is)

rest : {X : Type 0} → List X → List X
rest [] = []
rest (x ∷ xs) = xs

no_cons : {X : Type 0} (x : X) (xs : List X) → x ∷ xs ≡ [] → ⊥
no_cons x xs e = none-some x (sym (ap (λ l. slice_get l 0) e))

same : (holds : List (Option (List ℕ))) (absences : List Bool) (p q : ℕ) (texts : List (List ℕ)) → slice_get holds p ≡ Some None
    → All (λ absent. absent ≡ false) (take p absences) → slice_get absences q ≡ Some true → take q holds ≡ map (λ x. Some x) texts → p ≡ q
unfolding rest
same holds absences zero zero texts here before there front = refl
same [] absences p q texts here before there front = absurd (none-some _ here)
same (h ∷ hs) absences zero (suc q) texts here before there front =
    absurd (known texts 0 (sym (ap (λ l. slice_get l 0) front) ∙ here))
same (h ∷ hs) [] (suc p) q texts here before there front = absurd (none-some _ there)
same (h ∷ hs) (a ∷ bs) (suc p) zero texts here before there front =
    absurd (true≢false (sym (same_Some _ _ there) ∙ before 0 true (omega arith)))
same (h ∷ hs) (a ∷ bs) (suc p) (suc q) [] here before there front = absurd (no_cons h (take q hs) front)
same (h ∷ hs) (a ∷ bs) (suc p) (suc q) (text ∷ texts) here before there front =
    ap suc (same hs bs p q texts here (λ k d lt. before (suc k) d (omega (arith, lt))) there (ap rest front))

-- where no name is absent, none is the first that is
pub none_absent : (holds : List (Option (List ℕ))) (absences : List Bool) (place : ℕ)
    → All (λ absent. absent ≡ false) absences → IsFirstAbsent holds absences place → ⊥
none_absent holds absences place all a =
    true≢false (sym (get_or_from_slice_get absences place true true a.here)
    ∙ all place true (slice_get_within absences place true a.here))

-- inputs whose bytes are known, and that could not be opened, could not be for want of memory alone
pub only_memory : {A : Type 0} (of : List ℕ → Option (List ℕ)) (standard : Option (List ℕ)) (names : List (String A)) (texts : List (List ℕ))
    (absences : List Bool) (fault : RunFault) → of_inputs of standard names ≡ map (λ x. Some x) texts
    → IsUnopenedFor (of_each of names) absences fault → fault ≡ Memory
only_memory of standard names texts absences fault all (inl memory) = memory
only_memory of standard names texts absences fault all (inr (place, is, first)) =
    absurd (none_refused of standard names texts place all first.here)

-- the same of names whose bytes are all known
pub held_memory : (holds : List (Option (List ℕ))) (absences : List Bool) (texts : List (List ℕ)) (fault : RunFault)
    → holds ≡ map (λ x. Some x) texts → IsUnopenedFor holds absences fault → fault ≡ Memory
held_memory holds absences texts fault all (inl memory) = memory
held_memory holds absences texts fault all (inr (place, is, first)) =
    absurd (known texts place (sym (ap (λ l. slice_get l place) all) ∙ first.here))

-- a run over names of which one is absent ends for the first of these, or for want of memory
pub first_or_memory : {S : Type 0} (ended : Result S RunFault) (holds : List (Option (List ℕ))) (absences : List Bool) (fault : RunFault)
    (place : ℕ) → ended ≡ Err fault → IsUnopenedFor holds absences fault → IsFirstAbsent holds absences place
    → (ended ≡ Err (Read place)) ⊎ (ended ≡ Err Memory)
first_or_memory ended holds absences fault place is (inl memory) absent = inr (is ∙ ap Err memory)
first_or_memory ended holds absences fault place is (inr (at, read, first)) absent =
    inl (is ∙ ap Err (read ∙ ap Read (same holds absences at place absent.texts first.here first.before absent.here absent.before)))
