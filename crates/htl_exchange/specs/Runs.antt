-- Sets of runs (this project's own word). A run is all segments of one processor, so a set of them is one truth
-- value for each processor.
use Rattle.std.specs.Prelude.{◌≡◌, ℕ, zero, suc, Bool, true, false, not, ◌&&◌, ◌||◌, ◌==◌, nat_lt, ◌↔◌}
use Rattle.std.specs.Prelude.{List, [], ◌∷◌, map, count_by, Contains}
use Rattle.htl_segment.specs.Content.{Content}
use Rattle.htl_segment.specs.Traces.{Trace}
use Rattle.htl_analyst.specs.States.{State}

abbrev pub has : List Bool → ℕ → Bool
has [] p = false
has (b ∷ bs) zero = b
has (b ∷ bs) (suc p) = has bs p

abbrev pub union : List Bool → List Bool → List Bool
union [] ys = ys
union (x ∷ xs) [] = x ∷ xs
union (x ∷ xs) (y ∷ ys) = (x || y) ∷ union xs ys

abbrev pub without : List Bool → List Bool → List Bool
without [] ys = []
without (x ∷ xs) [] = x ∷ xs
without (x ∷ xs) (y ∷ ys) = (x && not y) ∷ without xs ys

-- the run of one processor
abbrev pub one : ℕ → List Bool
one zero = true ∷ []
one (suc p) = false ∷ one p

-- how many runs the set has
abbrev pub size : List Bool → ℕ
size runs = count_by (λ there. there) runs

-- the runs of these segments
abbrev pub runs_of : List Content → List Bool
runs_of [] = []
runs_of (s ∷ ss) = union (one s.processor) (runs_of ss)

abbrev pub some_number : List ℕ → Bool
some_number [] = false
some_number (n ∷ ns) = true

-- the runs of which a state has taken a segment
abbrev pub runs_taken : State → List Bool
runs_taken a = map (λ q. nat_lt 0 q.front || some_number q.loose) a.taken

abbrev pub is_of : ℕ → Content → Bool
is_of p s = s.processor == p

-- these are the segments of one processor of the trace, in any order
abbrev pub IsRunOf : Trace → ℕ → List Content → Type 0
IsRunOf T p run = (s : Content) → Contains run s ↔ (Contains T.segments s × (s.processor ≡ p))
