-- A binary search in a rising list finds the number or its gap, and above the last number the gap is the end.
use Rattle.std.proofs.Common.{◌≡◌, ℕ, ◌-◌, ◌<◌, ◌≤◌, length, get_or, arith, MatchResult, IfErr}
use Rattle.std.proofs.Common.{List, Contains, Ok, Err, Result, ◌∙◌, sym, inl, inr}
use Rattle.std.proofs.lemmas.List.{get_or_default}
use Rattle.std.proofs.lemmas.Bool.{cases_lt}
use Rattle.std.proofs.lemmas.List.Sorted.{searched}
use Rattle.htl_taken.specs.declared.TheConstants.{MAX_FRONT}
use Rattle.htl_taken.specs.Rising.{Rises, gap_of}
use Rattle.htl_taken.proofs.Rising.{Rises-below, Rises-ordered, gap_at}
use Rattle.htl_taken.proofs.sorted_numbers.position_of.Goals as goal

-- where a search answers: at the number, or between the smaller and the greater
abbrev IsAnswer : List ℕ → ℕ → Result ℕ ℕ → Type 0
IsAnswer xs n r =
    MatchResult r (λ i. (i < length xs) × (get_or xs i 0 ≡ n))
    (λ i. (i ≤ length xs) × ((k : ℕ) → k < i → get_or xs k 0 < n) × ((k : ℕ) → i ≤ k → k < length xs → n < get_or xs k 0))

absent : (xs : List ℕ) (n : ℕ) (r : Result ℕ ℕ) → IsAnswer xs n r → IfErr r (λ gap. (gap ≤ length xs) × (Contains xs n → ⊥))
absent xs n (Ok i) h = tt
absent xs n (Err i) h = (
  h.0,
  λ there.
      let at : get_or xs there.0 0 ≡ n = get_or_default xs there.0 0 n there.1 ∙ there.2 in
      elim (cases_lt there.0 i) [
        | inl lt ↦ let below = h.1 there.0 lt in omega (arith, below, at)
        | inr ge ↦ let above = h.2 there.0 ge there.1 in omega (arith, above, at)
      ],
)

position : (high : ℕ) (xs : List ℕ) (n : ℕ) (r : Result ℕ ℕ) → Rises 0 high xs → IsAnswer xs n r
    → MatchResult r (λ i. i ≡ gap_of n xs) (λ i. i ≡ gap_of n xs)
position high xs n (Ok i) rises h =
    gap_at n xs i (omega (arith, h.0))
    (λ k lt. let le = Rises-below 0 high xs rises k i lt h.0 in omega (arith, le, h.1))
    (λ k le lt. let ge = Rises-ordered 0 high xs rises i k le lt in omega (arith, ge, h.1))
position high xs n (Err i) rises h = gap_at n xs i h.0 h.1 (λ k le lt. let above = h.2 k le lt in omega (arith, above))

found : (c : goal.After-binary_search) → IsAnswer c.args.numbers.now c.args.number c.binary_search.result
found c = searched c.args.numbers.now c.args.number c.binary_search.result c.binary_search.ensures.position
    (Rises-ordered 0 MAX_FRONT c.args.numbers.now c.requires)

pub returns-in-Some-clause-absent : goal.returns-in-Some-clause-absent
returns-in-Some-clause-absent c = absent c.args.numbers.now c.args.number c.binary_search.result (found c)

pub returns-in-Some-clause-position : goal.returns-in-Some-clause-position
returns-in-Some-clause-position c = position MAX_FRONT c.args.numbers.now c.args.number c.binary_search.result c.requires (found c)

-- a number above the last is above all
above_last : (high : ℕ) (xs : List ℕ) (n : ℕ) → Rises 0 high xs → 0 < length xs → get_or xs (length xs - 1) 0 < n → (k : ℕ)
    → k < length xs → get_or xs k 0 < n
above_last high xs n rises some last k lt =
    let le = Rises-ordered 0 high xs rises k (length xs - 1) (omega arith) (omega arith) in omega (arith, le, last)

all_below : (c : goal.Else-number-last) → (k : ℕ) → k < length c.args.numbers.now → get_or c.args.numbers.now k 0 < c.args.number
all_below c =
    let xs = c.args.numbers.now in
    let item = c.in-Some.ensures.item in
    let some : 0 < length xs = item.3.0 in
    let last : get_or xs (length xs - 1) 0 < c.args.number = rw (sym (item.3.1 0)) c.if-number-last.false in
    above_last MAX_FRONT xs c.args.number c.requires some last

pub returns-in_default-clause-absent : goal.returns-in_default-clause-absent
returns-in_default-clause-absent c = (
  omega arith,
  λ there.
      let xs = c.args.numbers.now in
      let below : get_or xs there.0 0 < c.args.number = all_below c there.0 there.1 in
      let at : get_or xs there.0 0 ≡ c.args.number = get_or_default xs there.0 0 c.args.number there.1 ∙ there.2 in
      omega (arith, below, at),
)

pub returns-in_default-clause-position : goal.returns-in_default-clause-position
returns-in_default-clause-position c =
    let xs = c.args.numbers.now in
    gap_at c.args.number xs (length xs) (omega arith) (all_below c) (λ k le lt. absurd (omega arith))
