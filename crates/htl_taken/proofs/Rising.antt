-- A list of numbers that strictly rises has each number once, in bounds, and can be searched.
use Rattle.std.proofs.Common.{◌≡◌, ℕ, zero, suc, ◌+◌, ◌<◌, ◌≤◌, List, [], ◌∷◌, length, get_or, drop, insert, refl, ap, arith, inl, inr}
use Rattle.std.specs.Prelude.{Contains}
use Rattle.std.proofs.lemmas.List.{drop_more}
use Rattle.std.proofs.lemmas.List.Elements.{Contains-get_or}
use Rattle.std.proofs.lemmas.Bool.{cases_lt, cases_eq, lt-ltb, le-ltb}
use Rattle.htl_taken.specs.Rising.{Rises, gap_of}
use Rattle.htl_event.specs.Members.{IsRising, IsStrictOrder}
use Rattle.htl_event.proofs.Members.{each_member, same_members, Contains-here, Contains-there, Contains-cases, Contains-nil}
use Rattle.htl_taken.proofs.Members.{Contains-head}

-- a list that rises from low rises from any number below it
pub Rises-lower : (low lower high : ℕ) (xs : List ℕ) → lower ≤ low → Rises low high xs → Rises lower high xs
Rises-lower low lower high [] le r = omega (arith, r)
Rises-lower low lower high (x ∷ xs) le r = let up = r.0 in (omega (arith, up), r.1)

-- there are no more numbers than from low to high
pub length-Rises : (low high : ℕ) (xs : List ℕ) → Rises low high xs → low + length xs ≤ high
length-Rises low high [] r = omega (arith, r)
length-Rises low high (x ∷ xs) r = let up = r.0 in let rest = length-Rises (x + 1) high xs r.1 in omega (arith, rest, up)

-- each number of a rising list is within its bounds
pub Rises-member : (low high : ℕ) (xs : List ℕ) (n : ℕ) → Rises low high xs → Contains xs n → (low ≤ n) × (n < high)
Rises-member low high [] n r h = absurd (Contains-nil n h)
Rises-member low high (x ∷ xs) n r h =
    let up = r.0 in
    elim (Contains-cases x xs n h) [
      | inl is ↦ let rest = length-Rises (x + 1) high xs r.1 in (omega (arith, up, is), omega (arith, rest, is))
      | inr there ↦ let rest = Rises-member (x + 1) high xs n r.1 there in (omega (arith, rest.0, up), rest.1)
    ]

-- the next of what is left is below high
pub next_below : (low high : ℕ) (xs : List ℕ) (i : ℕ) → Rises low high (drop i xs) → i < length xs → get_or xs i 0 < high
next_below low high xs i r lt =
    (Rises-member low high (drop i xs) (get_or xs i 0) r
    (rw (drop_more xs i 0 lt) (Contains-here (get_or xs i 0) (drop (i + 1) xs)))).1

-- of two places in a rising list, the later has the greater number
pub Rises-below : (low high : ℕ) (xs : List ℕ) → Rises low high xs → (i j : ℕ) → i < j → j < length xs → get_or xs i 0 < get_or xs j 0
Rises-below low high [] r i j lt in_range = omega (arith, in_range)
Rises-below low high (x ∷ xs) r zero zero lt in_range = omega (arith, lt)
Rises-below low high (x ∷ xs) r zero (suc j) lt in_range =
    let there : Contains xs (get_or xs j 0) = Contains-get_or xs j 0 (omega arith) in
    let up : x + 1 ≤ get_or xs j 0 = (Rises-member (x + 1) high xs (get_or xs j 0) r.1 there).0 in
    omega (arith, up)
Rises-below low high (x ∷ xs) r (suc i) zero lt in_range = omega (arith, lt)
Rises-below low high (x ∷ xs) r (suc i) (suc j) lt in_range = Rises-below (x + 1) high xs r.1 i j (omega arith) (omega arith)

-- a later place of a rising list has no lesser number
pub Rises-ordered : (low high : ℕ) (xs : List ℕ) → Rises low high xs → (i j : ℕ) → i ≤ j → j < length xs → get_or xs i 0 ≤ get_or xs j 0
Rises-ordered low high xs r i j le in_range =
    elim (cases_eq i j) [
      | inl e ↦ rw e (omega arith)
      | inr ne ↦ let lt = Rises-below low high xs r i j (omega (arith, ne)) in_range in omega (arith, lt)
    ]

-- a place with smaller numbers before it and no smaller one after it
pub gap_at : (n : ℕ) (xs : List ℕ) (i : ℕ) → i ≤ length xs → ((k : ℕ) → k < i → get_or xs k 0 < n)
    → ((k : ℕ) → i ≤ k → k < length xs → n ≤ get_or xs k 0) → i ≡ gap_of n xs
gap_at n [] i le below above = omega (arith, le)
gap_at n (x ∷ xs) zero le below above = let up : n ≤ x = above 0 (omega arith) (omega arith) in rw (le-ltb x n up) refl
gap_at n (x ∷ xs) (suc i) le below above =
    let lt : x < n = below 0 (omega arith) in
    rw (lt-ltb x n lt)
    (ap suc (gap_at n xs i (omega arith) (λ k h. below (suc k) (omega arith)) (λ k h g. above (suc k) (omega arith) (omega arith))))

gap-skip : (n x : ℕ) (xs : List ℕ) → x < n → gap_of n (x ∷ xs) ≡ suc (gap_of n xs)
gap-skip n x xs lt = rw (lt-ltb x n lt) refl

gap-stop : (n x : ℕ) (xs : List ℕ) → n ≤ x → gap_of n (x ∷ xs) ≡ 0
gap-stop n x xs le = rw (le-ltb x n le) refl

-- a number's gap isn't beyond the end of the list
pub gap_within : (n : ℕ) (xs : List ℕ) → gap_of n xs ≤ length xs
gap_within n [] = omega arith
gap_within n (x ∷ xs) =
    elim (cases_lt x n) [
      | inl lt ↦ let e = gap-skip n x xs lt in let ih = gap_within n xs in omega (arith, e, ih)
      | inr le ↦ let e = gap-stop n x xs le in omega (arith, e)
    ]

-- a number that is not there, put into its gap
pub Rises-insert : (low high n : ℕ) (xs : List ℕ) → Rises low high xs → low ≤ n → n < high → (Contains xs n → ⊥)
    → Rises low high (insert xs (gap_of n xs) n)
Rises-insert low high n [] r le lt new = (le, omega arith)
Rises-insert low high n (x ∷ xs) r le lt new =
    let up = r.0 in
    elim (cases_lt x n) [
      | inl below ↦ rw (gap-skip n x xs below)
          (up, Rises-insert (x + 1) high n xs r.1 (omega arith) lt (λ h. new (Contains-there x xs n h)))
      | inr above ↦
          let ne : x ≡ n → ⊥ = λ e. new (Contains-head x xs n e) in
          rw (gap-stop n x xs above) (le, (omega (arith, above, ne), r.1))
    ]

-- what is left from a number's gap on: the numbers at or above it
pub Rises-from_gap : (low high n : ℕ) (xs : List ℕ) → Rises low high xs → n ≤ high → Rises n high (drop (gap_of n xs) xs)
Rises-from_gap low high n [] r le = le
Rises-from_gap low high n (x ∷ xs) r le =
    elim (cases_lt x n) [
      | inl below ↦ rw (gap-skip n x xs below) (Rises-from_gap (x + 1) high n xs r.1 le)
      | inr above ↦ rw (gap-stop n x xs above) (above, r.1)
    ]

-- each number of the list at or above n is in what is left from the gap of n on
pub Contains-from_gap : (low high n : ℕ) (xs : List ℕ) → Rises low high xs → (m : ℕ) → Contains xs m → n ≤ m
    → Contains (drop (gap_of n xs) xs) m
Contains-from_gap low high n [] r m h le = h
Contains-from_gap low high n (x ∷ xs) r m h le =
    elim (cases_lt x n) [
      | inl below ↦ rw (gap-skip n x xs below) (elim (Contains-cases x xs m h) [
        | inl is ↦ absurd (omega (arith, is))
        | inr there ↦ Contains-from_gap (x + 1) high n xs r.1 m there le
      ])
      | inr above ↦ rw (gap-stop n x xs above) h
    ]

-- ---- a rising list is fixed by its members

below_strict : IsStrictOrder ◌<◌
below_strict = record { irreflexive = λ x lt. omega (arith, lt); transitive = λ x y z lt lu. omega (arith, lt, lu) }

in_order : (low high : ℕ) (xs : List ℕ) → Rises low high xs → IsRising ◌<◌ xs
in_order low high [] r = tt
in_order low high (x ∷ xs) r = (
  each_member (λ y. x < y) xs (λ y h. let up = (Rises-member (x + 1) high xs y r.1 h).0 in omega (arith, up)),
  in_order (x + 1) high xs r.1,
)

-- two rising lists with the same members are equal
pub Rises-same : (low lower high : ℕ) (xs ys : List ℕ) → Rises low high xs → Rises lower high ys
    → ((n : ℕ) → Contains xs n → Contains ys n) → ((n : ℕ) → Contains ys n → Contains xs n) → xs ≡ ys
Rises-same low lower high xs ys rx ry f g = same_members ◌<◌ below_strict xs ys (in_order low high xs rx) (in_order lower high ys ry) f g
