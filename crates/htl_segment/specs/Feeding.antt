-- Parts of splitting bytes, and of a call of `feed`.
use Rattle.std.specs.Prelude.{◌≡◌, ℕ, ◌<◌, ◌≤◌, List, ◌++◌, length}
use Rattle.htl_segment.specs.Content.{Content}
use Rattle.htl_segment.specs.Reading.{length_in}
use Rattle.htl_segment.specs.Bundles.{Splits, IsRest}

-- some more segments than before were split off the bytes
pub record SplitsMore (bytes : List ℕ) (old new : List Content) (rest : List ℕ) : Type 0 where
  pub more : List Content
  pub pushed : new ≡ old ++ more
  pub splits : Splits bytes more rest

-- some bytes were put after the old ones
pub record Extends (old new : List ℕ) : Type 0 where
  pub more : List ℕ
  pub is : new ≡ old ++ more

-- a vector of this capacity that has a rest has room for the header, and for what the header states
pub record HasRoom (rest : List ℕ) (capacity : ℕ) : Type 0 where
  pub header : 0 < length rest → 32 ≤ capacity
  pub records : 32 ≤ length rest → length_in rest ≤ capacity

-- the bytes are split, and the rest of them is kept with room for more
pub record IsTakenIn (bytes : List ℕ) (segments : List Content) (rest : List ℕ) (capacity : ℕ) : Type 0 where
  pub splits : Splits bytes segments rest
  pub is_rest : IsRest rest
  pub room : HasRoom rest capacity
