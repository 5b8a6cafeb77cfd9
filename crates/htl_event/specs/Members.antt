-- Lists that name the members of a set in one order.
use Rattle.std.specs.Prelude.{List, [], ◌∷◌, Contains, ◌↔◌}
use Rattle.std.specs.List.{AllByRecursion}

-- each element comes before all that follow it
abbrev pub IsRising : {X : Type 0} → (X → X → Type 0) → List X → Type 0
IsRising before [] = Unit {0}
IsRising before (x ∷ xs) = AllByRecursion (before x) xs × IsRising before xs

-- the elements with the property, each once, in the order
pub record Lists {X : Type 0} (before : X → X → Type 0) (P : X → Type 0) (xs : List X) : Type 0 where
  pub rising : IsRising before xs
  pub members : (x : X) → Contains xs x ↔ P x

-- nothing comes before itself, and what comes before comes before what follows
pub record IsStrictOrder {X : Type 0} (before : X → X → Type 0) : Type 0 where
  pub irreflexive : (x : X) → before x x → ⊥
  pub transitive : (x y z : X) → before x y → before y z → before x z

-- the element has the property, and nothing that comes before it has the property
pub record IsLeastSuch {X : Type 0} (Before : X → X → Type 0) (P : X → Type 0) (x : X) : Type 0 where
  pub holds : P x
  pub least : (y : X) → Before y x → P y → ⊥
