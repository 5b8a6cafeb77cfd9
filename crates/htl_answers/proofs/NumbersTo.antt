-- Of numbers in order, so many come no later than a moment, and the next one is the first after it.
use Rattle.std.proofs.Common.{◌≡◌, ℕ, suc, ◌+◌, ◌<◌, ◌≤◌, Bool, true, false, cond, leb, List, [], ◌∷◌, length, get_or}
use Rattle.std.proofs.Common.{slice_get, Option, Some, None, refl, sym, ap, ◌∙◌, arith, inl, inr}
use Rattle.std.specs.Prelude.{Contains}
use Rattle.std.specs.List.{cons_option}
use Rattle.std.specs.List.Sorted.{IsNonDecreasing, IsPartitionPoint}
use Rattle.std.proofs.lemmas.Bool.{cases_lt, le-leb, lt-leb}
use Rattle.std.proofs.lemmas.List.{length-take-le}
use Rattle.std.proofs.lemmas.List.Sums.{sum_by-cons, length-filter}
use Rattle.std.proofs.lemmas.Option.{same_Some, none-some}
use Rattle.htl_event.proofs.Members.{Contains-here, Contains-there, Contains-cases, Contains-cons, Contains-nil}
use Rattle.htl_event.proofs.Untils.{take-passes}
use Rattle.htl_answers.specs.Lives.{number_to, first_after}

-- ---- numbers in order

tail_rises : (x : ℕ) (xs : List ℕ) → IsNonDecreasing (x ∷ xs) → IsNonDecreasing xs
tail_rises x xs rise = λ i j d le lt. rise (suc i) (suc j) d (omega (arith, le)) (omega (arith, lt))

head_least : (x : ℕ) (xs : List ℕ) → IsNonDecreasing (x ∷ xs) → (y : ℕ) → Contains xs y → x ≤ y
head_least x xs rise y h =
    let lt = h.1 in
    let le : x ≤ get_or xs h.0 y = rise 0 (suc h.0) y (omega arith) (omega (arith, lt)) in
    let is = h.2 in
    omega (arith, le, is)

-- ---- how many come no later than a moment

-- the number comes no later than the moment
abbrev pub is_past : ℕ → Option ℕ → Bool
is_past moment None = false
is_past moment (Some n) = leb n moment

number_to-cons : (x : ℕ) (xs : List ℕ) (m : ℕ) → number_to (x ∷ xs) m ≡ cond (leb x m) 1 0 + number_to xs m
number_to-cons x xs m = sum_by-cons (λ y. cond (leb y m) 1 0) x xs

-- one number more, if there is one
pub number_to-option : (o : Option ℕ) (xs : List ℕ) (m : ℕ) → number_to (cons_option o xs) m ≡ cond (is_past m o) 1 0 + number_to xs m
number_to-option None xs m = omega arith
number_to-option (Some x) xs m = number_to-cons x xs m

number_to-past : (x : ℕ) (xs : List ℕ) (m : ℕ) → x ≤ m → number_to (x ∷ xs) m ≡ suc (number_to xs m)
number_to-past x xs m le =
    let one : ◌≡◌ {A = ℕ} (cond (leb x m) 1 0) 1 = rw (le-leb x m le) refl in
    let both = number_to-cons x xs m in
    omega (arith, one, both)

-- later numbers don't count
number_to-none : (xs : List ℕ) (m : ℕ) → ((y : ℕ) → Contains xs y → m < y) → number_to xs m ≡ 0
number_to-none [] m later = refl
number_to-none (x ∷ xs) m later =
    let rest = number_to-none xs m (λ y h. later y (Contains-there x xs y h)) in
    let none : ◌≡◌ {A = ℕ} (cond (leb x m) 1 0) 0 = rw (lt-leb x m (later x (Contains-here x xs))) refl in
    let both = number_to-cons x xs m in
    omega (arith, rest, none, both)

number_to-after : (x : ℕ) (xs : List ℕ) (m : ℕ) → IsNonDecreasing (x ∷ xs) → m < x → number_to (x ∷ xs) m ≡ 0
number_to-after x xs m rise lt =
    number_to-none (x ∷ xs) m (λ y h. elim (Contains-cases x xs y h) [
      | inl is ↦ omega (arith, lt, is)
      | inr there ↦ let le = head_least x xs rise y there in omega (arith, lt, le)
    ])

-- the place that the search by halves finds is their number
pub point-number_to : (xs : List ℕ) (m len : ℕ) → len ≤ length xs
    → IsPartitionPoint (λ x. leb x m ≡ true) (λ x. leb x m ≡ false) xs len → len ≡ number_to xs m
point-number_to xs m len bound point =
    sym (length-take-le len xs bound) ∙ ap length (take-passes (λ x. leb x m) xs len bound point) ∙ length-filter (λ x. leb x m) xs

-- ---- the first after a moment

-- it is one of them, and comes after the moment
pub first_after-is : (xs : List ℕ) → IsNonDecreasing xs → (m n : ℕ) → first_after xs m ≡ Some n → Contains xs n × (m < n)
first_after-is [] rise m n at = absurd (none-some n at)
first_after-is (x ∷ xs) rise m n at =
    elim (cases_lt m x) [
      | inl lt ↦ (let is : x ≡ n = same_Some x n (sym (ap (slice_get (x ∷ xs)) (number_to-after x xs m rise lt)) ∙ at) in
          (Contains-cons x xs n (inl is), omega (arith, lt, is)))
      | inr le ↦ (let rest = first_after-is xs (tail_rises x xs rise) m n (sym (ap (slice_get (x ∷ xs)) (number_to-past x xs m le)) ∙ at) in
          (Contains-there x xs n rest.0, rest.1))
    ]

abbrev HasFirstUpto : List ℕ → ℕ → ℕ → Type 0
HasFirstUpto xs m y = (n : ℕ) × (first_after xs m ≡ Some n) × (n ≤ y)

-- each that comes after the moment comes no earlier than it
pub first_after-upto : (xs : List ℕ) → IsNonDecreasing xs → (m y : ℕ) → Contains xs y → m < y → HasFirstUpto xs m y
first_after-upto [] rise m y h after = absurd (Contains-nil y h)
first_after-upto (x ∷ xs) rise m y h after =
    elim (cases_lt m x) [
      | inl lt ↦ (
        x,
        ap (slice_get (x ∷ xs)) (number_to-after x xs m rise lt),
        elim (Contains-cases x xs y h) [ inl is ↦ omega (arith, is) | inr there ↦ head_least x xs rise y there ],
      )
      | inr le ↦ elim (Contains-cases x xs y h) [
        | inl is ↦ absurd (omega (arith, le, is, after))
        | inr there ↦ (let rest = first_after-upto xs (tail_rises x xs rise) m y there after in
            (rest.0, ap (slice_get (x ∷ xs)) (number_to-past x xs m le) ∙ rest.1, rest.2))
      ]
    ]
