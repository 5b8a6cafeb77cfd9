-- Lists that are compared element by element (this project's own).
use Rattle.std.specs.Prelude.{◌≡◌, ℕ, ◌<◌, List, length, get_or}

-- The lists are of one length, and R holds of their elements at each place.
pub record AreSame {X : Type 0} (R : X → X → Type 0) (xs ys : List X) : Type 0 where
  pub long : length xs ≡ length ys
  pub each : (place : ℕ) (any : X) → place < length xs → R (get_or xs place any) (get_or ys place any)
