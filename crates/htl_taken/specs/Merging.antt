-- Two rising lists merged into one, and a list without its first number, as the code makes them.
use Rattle.std.specs.Prelude.{ℕ, List, [], ◌∷◌, ◌==◌, nat_lt, if◌then◌else◌}

-- the list without its first number, where that is n
abbrev pub without_head : ℕ → List ℕ → List ℕ
without_head n [] = []
without_head n (x ∷ xs) = if x == n then xs else (x ∷ xs)

-- x and the rest of its list merged with another list; the function given merges that rest with what is left of the other
abbrev pub merged_with : ℕ → (List ℕ → List ℕ) → List ℕ → List ℕ
merged_with x rest [] = x ∷ rest []
merged_with x rest (y ∷ ys) =
    if nat_lt y x then y ∷ merged_with x rest ys else (if nat_lt x y then x ∷ rest (y ∷ ys) else x ∷ rest ys)

-- the numbers of both lists in one rising list
abbrev pub merged : List ℕ → List ℕ → List ℕ
merged [] ys = ys
merged (x ∷ xs) ys = merged_with x (λ zs. merged xs zs) ys
