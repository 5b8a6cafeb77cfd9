-- How many elements of a list pass a test, and what those have, where none does, one does, all do or some do, and where each passes one of several.
use Rattle.std.proofs.Common.{◌≡◌, ℕ, ◌<◌, Bool, true, false, cond, List, [], ◌∷◌, length, refl, ap, ◌∙◌, arith, inl, inr}
use Rattle.std.specs.Prelude.{Contains, count_by}
use Rattle.std.proofs.lemmas.Bool.{cases_Bool}
use Rattle.std.specs.List.{sum_by}
use Rattle.std.proofs.lemmas.List.Sums.{sum_by-cons}
use Rattle.htl_event.proofs.Members.{Contains-here, Contains-there, Contains-cases, Contains-nil, at_member}
use Rattle.htl_event.specs.Members.{IsRising}
use Rattle.htl_answers.proofs.NumberSums.{sum_same, sum_swap}

module _ {X : Type 0} (p : X → Bool) where
  abbrev one_if : X → ℕ
  one_if x = cond (p x) 1 0

  one : (x : X) → p x ≡ true → one_if x ≡ 1
  one x holds = ap (λ b. cond b 1 0) holds

  nothing : (x : X) → p x ≡ false → one_if x ≡ 0
  nothing x fails = ap (λ b. cond b 1 0) fails

  module _ (f : X → ℕ) where
    abbrev where_it_passes : X → ℕ
    where_it_passes x = cond (p x) (f x) 0

    -- what those have that pass, where none does
    pub sum_where_none : (xs : List X) → ((x : X) → Contains xs x → p x ≡ false) → sum_by where_it_passes xs ≡ 0
    sum_where_none [] none = refl
    sum_where_none (x ∷ xs) none =
        let split = sum_by-cons where_it_passes x xs in
        let here : where_it_passes x ≡ 0 = ap (λ (b : Bool). cond b (f x) 0) (none x (Contains-here x xs)) in
        let others = sum_where_none xs (λ y h. none y (Contains-there x xs y h)) in
        omega (arith, split, here, others)

    -- and where one passes and no other does
    pub sum_where_one : (xs : List X) → IsRising (λ a b. p a ≡ true → p b ≡ true → ⊥) xs → (x : X) → Contains xs x → p x ≡ true
        → sum_by where_it_passes xs ≡ f x
    sum_where_one [] apart x h holds = absurd (Contains-nil x h)
    sum_where_one (y ∷ ys) apart x h holds =
        let split = sum_by-cons where_it_passes y ys in
        elim (Contains-cases y ys x h) [
          | inl is ↦
              let passes = ap p is ∙ holds in
              let here : where_it_passes y ≡ f x = ap (λ (b : Bool). cond b (f y) 0) passes ∙ ap f is in
              let others = sum_where_none ys (λ z there. elim (cases_Bool (p z)) [
                | inl also ↦ absurd (at_member (λ b. p y ≡ true → p b ≡ true → ⊥) ys z apart.0 there passes also)
                | inr fails ↦ fails
              ]) in
              omega (arith, split, here, others)
          | inr there ↦
              let others = sum_where_one ys apart.1 x there holds in
              let here : where_it_passes y ≡ 0 = elim (cases_Bool (p y)) [
                | inl passes ↦ absurd (at_member (λ b. p y ≡ true → p b ≡ true → ⊥) ys x apart.0 there passes holds)
                | inr fails ↦ ap (λ (b : Bool). cond b (f y) 0) fails
              ] in
              omega (arith, split, here, others)
        ]

  pub count_none : (xs : List X) → ((x : X) → Contains xs x → p x ≡ false) → count_by p xs ≡ 0
  count_none = sum_where_none (λ x. 1)

  pub count_all : (xs : List X) → ((x : X) → Contains xs x → p x ≡ true) → count_by p xs ≡ length xs
  count_all [] all = refl
  count_all (x ∷ xs) all =
      let split = sum_by-cons one_if x xs in
      let here = one x (all x (Contains-here x xs)) in
      let others = count_all xs (λ y h. all y (Contains-there x xs y h)) in
      omega (arith, split, here, others)

  -- where some are counted, one of them passes
  pub exists_one : (xs : List X) → 0 < count_by p xs → (x : X) × Contains xs x × (p x ≡ true)
  exists_one [] lt = absurd (omega (arith, lt))
  exists_one (x ∷ xs) lt =
      elim (cases_Bool (p x)) [
        | inl holds ↦ (x, Contains-here x xs, holds)
        | inr fails ↦
            let split = sum_by-cons one_if x xs in
            let none = nothing x fails in
            let rest = exists_one xs (omega (arith, lt, split, none)) in
            (rest.0, Contains-there x xs rest.0 rest.1, rest.2)
      ]

  -- where one passes, some are counted
  pub positive_somewhere : (xs : List X) (x : X) → Contains xs x → p x ≡ true → 0 < count_by p xs
  positive_somewhere [] x h holds = absurd (Contains-nil x h)
  positive_somewhere (y ∷ xs) x h holds =
      let split = sum_by-cons one_if y xs in
      elim (Contains-cases y xs x h) [
        | inl is ↦ let here = one y (ap p is ∙ holds) in omega (arith, split, here)
        | inr there ↦ let rest = positive_somewhere xs x there holds in omega (arith, split, rest)
      ]

  -- one is counted where one passes and no other does
  pub count_one : (xs : List X) → IsRising (λ a b. p a ≡ true → p b ≡ true → ⊥) xs → (x : X) → Contains xs x → p x ≡ true
      → count_by p xs ≡ 1
  count_one = sum_where_one (λ x. 1)

-- where each element has one of the keys, the sum of how many have each key is their number
pub sum_of_keys : {K X : Type 0} (has : K → X → Bool) (ks : List K) (xs : List X)
    → ((x : X) → Contains xs x → count_by (λ k. has k x) ks ≡ 1) → sum_by (λ k. count_by (has k) xs) ks ≡ length xs
sum_of_keys has ks xs one =
    sum_swap (λ k x. cond (has k x) 1 0) ks xs ∙ sum_same (λ x. count_by (λ k. has k x) ks) (λ x. cond true 1 0) xs one
    ∙ count_all (λ x. true) xs (λ x h. refl)
