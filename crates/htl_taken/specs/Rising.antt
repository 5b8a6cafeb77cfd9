-- Lists of numbers in strictly rising order.
use Rattle.std.specs.Prelude.{ℕ, suc, ◌+◌, ◌≤◌, List, [], ◌∷◌, ◌==◌, nat_lt, if◌then◌else◌}

-- the numbers rise, the first at or above low, the last below high
abbrev pub Rises : ℕ → ℕ → List ℕ → Type 0
Rises low high [] = low ≤ high
Rises low high (x ∷ xs) = (low ≤ x) × Rises (x + 1) high xs

-- the place at which a number stands in a rising list, or would stand
abbrev pub gap_of : ℕ → List ℕ → ℕ
gap_of n [] = 0
gap_of n (m ∷ ms) = if nat_lt m n then suc (gap_of n ms) else 0

-- the least number from n on that is not in the list, which rises from n on
abbrev pub reach_from : ℕ → List ℕ → ℕ
reach_from n [] = n
reach_from n (m ∷ ms) = if m == n then reach_from (n + 1) ms else n
