-- That a list rises has one proof, as a struct that keeps the fact has to show.
use Rattle.std.specs.Prelude.{ℕ, ◌+◌, List, [], ◌∷◌}
use Rattle.std.specs.Coded.{×_prop, le_prop}
use Rattle.htl_taken.specs.Rising.{Rises}

pub Rises-prop : (low high : ℕ) (xs : List ℕ) → IsProp (Rises low high xs)
Rises-prop low high [] = le_prop
Rises-prop low high (x ∷ xs) = ×_prop le_prop (Rises-prop (x + 1) high xs)
