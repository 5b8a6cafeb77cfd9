-- The keys that an analyst has taken: all numbers below the fronts, and the loose ones.
use Rattle.std.specs.Prelude.{ℕ, Bool, ◌<◌, ◌⊎◌, Contains}
use Rattle.std.specs.List.{sum_by}
use Rattle.htl_taken.specs.Numbers.{front_at, loose_at, has_key, size_of}
use Rattle.htl_analyst.specs.States.{State}

-- the taken keys as a set of keys
abbrev pub keys : State → ℕ → ℕ → Bool
keys a p n = has_key a.taken p n

-- the segment of this key was taken
abbrev pub HasTaken : State → ℕ → ℕ → Type 0
HasTaken a p n = (n < front_at a.taken p) ⊎ Contains (loose_at a.taken p) n

-- how many segments were taken
abbrev pub number_taken : State → ℕ
number_taken a = sum_by size_of a.taken
