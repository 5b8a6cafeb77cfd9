-- The reach is the least number that a rising list doesn't have.
use Rattle.std.proofs.Common.{◌≡◌, ℕ, zero, suc, ◌+◌, ◌<◌, ◌≤◌, List, [], ◌∷◌, length, drop, refl, sym, ap, ◌∙◌, subst, arith, inl, inr}
use Rattle.std.specs.Prelude.{Contains}
use Rattle.std.proofs.lemmas.Bool.{cases_eq, eq-eqb, ne_eqb}
use Rattle.htl_taken.specs.Rising.{Rises, reach_from}
use Rattle.htl_event.proofs.Members.{Contains-there, Contains-cases, Contains-nil}
use Rattle.htl_taken.proofs.Members.{Contains-head}
use Rattle.htl_taken.proofs.Rising.{Rises-member}

-- where a list begins with the number itself, the reach is that from the next number on
pub reach-next : (n m : ℕ) (ms : List ℕ) → m ≡ n → reach_from n (m ∷ ms) ≡ reach_from (n + 1) ms
reach-next n m ms e = rw (eq-eqb m n e) refl

-- where a list begins with another number, the reach is the number itself
pub reach-stop : (n m : ℕ) (ms : List ℕ) → (m ≡ n → ⊥) → reach_from n (m ∷ ms) ≡ n
reach-stop n m ms ne = rw (ne_eqb m n ne) refl

-- the reach isn't below the number that it is sought from
pub reach_from-ge : (n : ℕ) (ms : List ℕ) → n ≤ reach_from n ms
reach_from-ge n [] = omega arith
reach_from-ge n (m ∷ ms) =
    elim (cases_eq m n) [
      | inl e ↦ rw (reach-next n m ms e) (let ih = reach_from-ge (n + 1) ms in omega (arith, ih))
      | inr ne ↦ rw (reach-stop n m ms ne) (omega arith)
    ]

-- the reach is no further on than the list is long
pub reach_from-le : (n : ℕ) (ms : List ℕ) → reach_from n ms ≤ n + length ms
reach_from-le n [] = omega arith
reach_from-le n (m ∷ ms) =
    elim (cases_eq m n) [
      | inl e ↦ rw (reach-next n m ms e) (let ih = reach_from-le (n + 1) ms in omega (arith, ih))
      | inr ne ↦ rw (reach-stop n m ms ne) (omega arith)
    ]

-- the reach isn't in the list
pub reach_absent : (low high : ℕ) (xs : List ℕ) → Rises low high xs → Contains xs (reach_from low xs) → ⊥
reach_absent low high [] r h = Contains-nil low h
reach_absent low high (x ∷ xs) r h =
    elim (cases_eq x low) [
      | inl e ↦ elim (Contains-cases x xs (reach_from (low + 1) xs) (rw (reach-next low x xs e) at h)) [
        | inl is ↦ let ge = reach_from-ge (low + 1) xs in omega (arith, ge, is, e)
        | inr there ↦
            let next : low + 1 ≡ x + 1 = omega arith in
            reach_absent (x + 1) high xs r.1 (rw next at there)
      ]
      | inr ne ↦ elim (Contains-cases x xs low (rw (reach-stop low x xs ne) at h)) [
        | inl is ↦ ne is
        | inr there ↦ let up = (Rises-member (x + 1) high xs low r.1 there).0 in let ge = r.0 in omega (arith, up, ge)
      ]
    ]

-- all numbers before the reach are in the list
pub before_reach : (low : ℕ) (xs : List ℕ) (n : ℕ) → low ≤ n → n < reach_from low xs → Contains xs n
before_reach low [] n le lt = absurd (omega (arith, le, lt))
before_reach low (x ∷ xs) n le lt =
    elim (cases_eq x low) [
      | inl e ↦ elim (cases_eq n low) [
        | inl is ↦ Contains-head x xs n (e ∙ sym is)
        | inr above ↦ Contains-there x xs n
            (before_reach (low + 1) xs n (omega (arith, above, le)) (let l = rw (reach-next low x xs e) at lt in l))
      ]
      | inr ne ↦ let l = rw (reach-stop low x xs ne) at lt in absurd (omega (arith, l, le))
    ]

-- what is left from the reach on
pub Rises-from_reach : (low high k : ℕ) (xs : List ℕ) → Rises low high xs → low + k ≡ reach_from low xs → Rises (low + k) high (drop k xs)
Rises-from_reach low high zero [] r e = omega (arith, r)
Rises-from_reach low high (suc k) [] r e = absurd (omega (arith, e))
Rises-from_reach low high zero (x ∷ xs) r e = let up = r.0 in (omega (arith, up), r.1)
Rises-from_reach low high (suc k) (x ∷ xs) r e =
    elim (cases_eq x low) [
      | inl same ↦
          let next : low + 1 ≡ x + 1 = omega arith in
          let at : (x + 1) + k ≡ reach_from (x + 1) xs =
          (let h = e ∙ reach-next low x xs same ∙ ap (λ (n : ℕ). reach_from n xs) next in omega (arith, h, same)) in
          let moved : (x + 1) + k ≡ low + suc k = omega (arith, same) in
          subst (λ (n : ℕ). Rises n high (drop k xs)) moved (Rises-from_reach (x + 1) high k xs r.1 at)
      | inr other ↦ let at = e ∙ reach-stop low x xs other in absurd (omega (arith, at))
    ]
