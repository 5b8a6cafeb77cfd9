-- One walk over a rising list tells whether each number of another one is in it.
use Rattle.std.proofs.Common.{◌≡◌, ℕ, ◌+◌, List, [], ◌∷◌, sym, ◌∙◌, subst, arith, inl, inr}
use Rattle.std.specs.Prelude.{Contains, ◌↔◌}
use Rattle.std.proofs.lemmas.Bool.{cases_eq, eq-eqb, ne_eqb}
use Rattle.htl_taken.specs.Rising.{Rises}
use Rattle.htl_taken.specs.Merging.{without_head}
use Rattle.htl_event.proofs.Members.{Contains-here, Contains-there, Contains-cases, Contains-nil}
use Rattle.htl_taken.proofs.Members.{Contains-head}
use Rattle.htl_taken.proofs.Rising.{Rises-member, Rises-lower}

-- each number of the first list is in the second
abbrev pub IsSubset : List ℕ → List ℕ → Type 0
IsSubset xs ys = (n : ℕ) → Contains xs n → Contains ys n

-- what is left of both lists decides it
pub record Decide (high : ℕ) (xs ys left rest : List ℕ) : Type 0 where
  pub left_rises : Rises 0 high left
  pub rest_rises : Rises 0 high rest
  pub same : IsSubset left rest ↔ IsSubset xs ys

module _ (high : ℕ) (xs ys : List ℕ) where
  -- a number of both is found
  found : (x : ℕ) (left : List ℕ) (y : ℕ) (rest : List ℕ) → x ≡ y → Decide high xs ys (x ∷ left) (y ∷ rest) → Decide high xs ys left rest
  found x left y rest e d = record {
    left_rises = Rises-lower (x + 1) 0 high left (omega arith) d.left_rises.1;
    rest_rises = Rises-lower (y + 1) 0 high rest (omega arith) d.rest_rises.1;
    same = (
      (λ within. d.same.0 (λ n h. elim (Contains-cases x left n h) [
        | inl is ↦ Contains-head y rest n (sym e ∙ is)
        | inr there ↦ Contains-there y rest n (within n there)
      ])),
      (λ all. λ n h. elim (Contains-cases y rest n (d.same.1 all n (Contains-there x left n h))) [
        | inl is ↦ let up = (Rises-member (x + 1) high left n d.left_rises.1 h).0 in absurd (omega (arith, up, is, e))
        | inr there ↦ there
      ]),
    );
  }

  -- a number of the second alone is passed
  passed : (left : List ℕ) (y : ℕ) (rest : List ℕ) → (Contains left y → IsSubset left (y ∷ rest) → ⊥)
      → Decide high xs ys left (y ∷ rest) → Decide high xs ys left rest
  passed left y rest other d = record {
    left_rises = d.left_rises;
    rest_rises = Rises-lower (y + 1) 0 high rest (omega arith) d.rest_rises.1;
    same = (
      (λ within. d.same.0 (λ n h. Contains-there y rest n (within n h))),
      (λ all. let within = d.same.1 all in λ n h. elim (Contains-cases y rest n (within n h)) [
        | inl is ↦ absurd (other (subst (λ (m : ℕ). Contains left m) (sym is) h) within)
        | inr there ↦ there
      ]),
    );
  }

  other_head : (x : ℕ) (left : List ℕ) (y : ℕ) (rest : List ℕ) → (x ≡ y → ⊥) → Decide high xs ys (x ∷ left) (y ∷ rest)
      → Decide high xs ys (x ∷ left) rest
  other_head x left y rest ne d = passed (x ∷ left) y rest (λ here within.
      elim (Contains-cases x left y here) [
        | inl e ↦ ne e
        | inr above ↦
            let lt = (Rises-member (x + 1) high left y d.left_rises.1 above).0 in
            elim (Contains-cases y rest x (within x (Contains-here x left))) [
              | inl e ↦ absurd (omega (arith, lt, e))
              | inr after ↦ let gt = (Rises-member (y + 1) high rest x d.rest_rises.1 after).0 in absurd (omega (arith, lt, gt))
            ]
      ]) d

  -- past a number of the second list, which the first may begin with, what is left still decides it
  pub Decide-step : (left : List ℕ) (y : ℕ) (rest : List ℕ) → Decide high xs ys left (y ∷ rest)
      → Decide high xs ys (without_head y left) rest
  Decide-step [] y rest d = passed [] y rest (λ here within. Contains-nil y here) d
  Decide-step (x ∷ left) y rest d =
      elim (cases_eq x y) [
        | inl e ↦ rw (eq-eqb x y e) (found x left y rest e d)
        | inr ne ↦ rw (ne_eqb x y ne) (other_head x left y rest ne d)
      ]

  -- when the walk is over, all is there where nothing is left
  pub Decide-empty : Decide high xs ys [] [] → IsSubset xs ys
  Decide-empty d = d.same.0 (λ n h. h)

  -- where the second list is used up and a number of the first is left, the first isn't within the second
  pub Decide-left : (x : ℕ) (left : List ℕ) → Decide high xs ys (x ∷ left) [] → IsSubset xs ys → ⊥
  Decide-left x left d all = Contains-nil x (d.same.1 all x (Contains-here x left))
