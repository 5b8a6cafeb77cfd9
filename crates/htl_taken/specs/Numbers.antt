-- The taken segment numbers of each processor: all below a front, and loose ones at or above it.
use Rattle.std.specs.Prelude.{◌≡◌, ◌↔◌, ◌⊎◌, ◌+◌, ◌==◌, ◌||◌, ℕ, Bool, ◌≤◌, nat_lt, nat_le, max}
use Rattle.std.specs.Prelude.{List, [], length, filter, insert, Contains, slice_index_or}
use Rattle.std.specs.List.{list_any}
use Rattle.htl_taken.specs.declared.TheConstants.{MAX_FRONT}
use Rattle.htl_taken.specs.Rising.{Rises, gap_of, reach_from}

-- the taken numbers of one processor
pub record Numbers : Type 0 where
  pub front : ℕ
  pub loose : List ℕ

abbrev pub no_numbers : Numbers
no_numbers = record { front = 0; loose = [] }

-- all numbers below a front, and no loose one
abbrev pub all_below : ℕ → Numbers
all_below front = record { front = front; loose = [] }

-- the taken numbers of processor p, none where there is no such processor
abbrev pub numbers_at : List Numbers → ℕ → Numbers
numbers_at taken p = slice_index_or taken p no_numbers

abbrev pub front_at : List Numbers → ℕ → ℕ
front_at taken p = (numbers_at taken p).front

abbrev pub loose_at : List Numbers → ℕ → List ℕ
loose_at taken p = (numbers_at taken p).loose

-- the loose numbers rise from the front on, and leave room for a front above them
pub record IsProper (q : Numbers) : Type 0 where
  pub rises : Rises q.front MAX_FRONT q.loose

abbrev pub has_number : Numbers → ℕ → Bool
has_number q n = nat_lt n q.front || list_any (λ m. m == n) q.loose

-- Key set: segment number n of processor p was taken.
abbrev pub has_key : List Numbers → ℕ → ℕ → Bool
has_key taken p n = has_number (numbers_at taken p) n

-- how many numbers are taken
abbrev pub size_of : Numbers → ℕ
size_of q = q.front + length q.loose

-- the least number that is not taken
abbrev pub reach_of : Numbers → ℕ
reach_of q = reach_from q.front q.loose

-- the numbers with one more loose number
abbrev pub with_loose : Numbers → ℕ → Numbers
with_loose q n = record { front = q.front; loose = insert q.loose (gap_of n q.loose) n }

-- the numbers with the front at the least number that is not taken, and the loose ones at or above it
abbrev pub settled : Numbers → Numbers
settled q = record { front = reach_of q; loose = filter (λ n. nat_le (reach_of q) n) q.loose }

-- the union: the greater of both fronts, and the loose numbers of both at or above it
pub record IsUnion (a b c : Numbers) : Type 0 where
  pub front : c.front ≡ max a.front b.front
  pub proper : IsProper c
  pub loose : (n : ℕ) → Contains c.loose n ↔ ((c.front ≤ n) × (Contains a.loose n ⊎ Contains b.loose n))
