-- The laws of sets of taken segments.
use Rattle.std.specs.Prelude.{◌≡◌, ◌↔◌, ◌||◌, ℕ, true, List, length, Contains}
use Rattle.htl_taken.specs.Rising.{Rises}
use Rattle.htl_taken.specs.Numbers.{Numbers, numbers_at, has_number, has_key, IsProper, IsUnion, reach_of, settled, size_of}

-- the union of two sets, processor by processor
pub record AreUnion (a b c : List Numbers) : Type 0 where
  pub len : length c ≡ length a
  pub each : (p : ℕ) → IsUnion (numbers_at a p) (numbers_at b p) (numbers_at c p)

-- at every processor loose numbers rise, at or above the front
abbrev pub AreProper : List Numbers → Type 0
AreProper ps = (p : ℕ) → IsProper (numbers_at ps p)

-- every segment of the one is in the other
abbrev pub HasKeysOf : List Numbers → List Numbers → Type 0
HasKeysOf a b = (p n : ℕ) → has_key a p n ≡ true → has_key b p n ≡ true

-- no front can move
abbrev pub AreSettled : List Numbers → Type 0
AreSettled ps = (p : ℕ) → reach_of (numbers_at ps p) ≡ (numbers_at ps p).front

-- the segments of a union are those of both
abbrev pub UnitesKeys : Type 0
UnitesKeys = (a b c : List Numbers) → AreUnion a b c → (p n : ℕ) → has_key c p n ≡ (has_key a p n || has_key b p n)

abbrev pub IsUnionCommutative : Type 0
IsUnionCommutative = (a b ab ba : List Numbers) → length a ≡ length b → AreUnion a b ab → AreUnion b a ba → ab ≡ ba

abbrev pub IsUnionAssociative : Type 0
IsUnionAssociative = (a b c ab bc l r : List Numbers) → AreUnion a b ab → AreUnion b c bc → AreUnion ab c l → AreUnion a bc r → l ≡ r

abbrev pub IsUnionIdempotent : Type 0
IsUnionIdempotent = (a c : List Numbers) → AreProper a → AreUnion a a c → c ≡ a

-- settling leaves a front that can't move
abbrev pub SettlesOnce : Type 0
SettlesOnce = (q : Numbers) → IsProper q → reach_of (settled q) ≡ (settled q).front

-- settled sets with the same segments are equal
abbrev pub IsDetermined : Type 0
IsDetermined = (a b : List Numbers) → length a ≡ length b → AreProper a → AreProper b → AreSettled a → AreSettled b
    → HasKeysOf a b → HasKeysOf b a → a ≡ b

-- a processor's size is the length of a rising list of its taken numbers
abbrev pub CountsNumbers : Type 0
CountsNumbers = (q : Numbers) → IsProper q
    → (ns : List ℕ) × (high : ℕ) × Rises 0 high ns × (length ns ≡ size_of q) × ((n : ℕ) → Contains ns n ↔ (has_number q n ≡ true))
