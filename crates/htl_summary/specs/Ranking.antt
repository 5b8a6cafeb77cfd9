-- Rows in the order of a number and a key of theirs.
use Rattle.std.specs.Prelude.{ℕ}
use Rattle.std.specs.Ordering.{nat_cmp, ordering_then}
use Rattle.std.specs.declared.cmp.Ordering.{Ordering}

-- the greatest number first, and then by key
abbrev pub rank_cmp : {X K : Type 0} → (K → K → Ordering) → (X → ℕ) → (X → K) → X → X → Ordering
rank_cmp cmp number_of key_of a b = ordering_then (nat_cmp (number_of b) (number_of a)) (cmp (key_of a) (key_of b))
