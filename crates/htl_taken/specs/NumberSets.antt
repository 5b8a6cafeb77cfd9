-- The numbers of one processor as the code holds them, and which numbers these are.
use Rattle.std.specs.Prelude.{ℕ, ◌<◌, ◌⊎◌, Contains}
use Rattle.htl_taken.specs.declared.number_set.NumberSet.{NumberSet}
use Rattle.htl_taken.specs.Numbers.{Numbers}

abbrev pub numbers_of : {A : Type 0} → NumberSet A → Numbers
numbers_of r = record { front = r.front; loose = r.loose.items }

-- the number is taken
abbrev pub Has : Numbers → ℕ → Type 0
Has q n = (n < q.front) ⊎ Contains q.loose n
