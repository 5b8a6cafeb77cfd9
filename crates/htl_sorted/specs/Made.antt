-- A list made of another, key by key.
use Rattle.std.specs.Prelude.{◌≡◌, List, [], ◌∷◌}

-- the second list has the keys of the first, each with a value that P allows for the first's
abbrev pub Made : {K J X : Type 0} → (J → X → Type 0) → List (K × J) → List (K × X) → Type 0
Made P [] [] = Unit {0}
Made P [] (o ∷ os) = ⊥
Made P (j ∷ js) [] = ⊥
Made P (j ∷ js) (o ∷ os) = (j.0 ≡ o.0) × P j.1 o.1 × Made P js os
