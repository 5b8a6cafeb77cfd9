-- Lists of entries in the order of their keys, and where a key is or would go. `find` and `put` are std's, of `FinMap.Entries`.
use Rattle.std.specs.Prelude.{◌≡◌, ℕ, ◌<◌, ◌≤◌, List, [], ◌∷◌, length, map, Option, Some, None, T, slice_index_or, slice_set}
use Rattle.std.specs.List.{insert}
use Rattle.std.specs.FinMap.Entries.{find, put, is_sorted}
use Rattle.std.specs.declared.cmp.Ordering.{Ordering}

-- the rows, each as its key and its value
abbrev pub entries : {T K X : Type 0} → (T → K) → (T → X) → List T → List (K × X)
entries key value rows = map (λ row. (key row, value row)) rows

-- the keys strictly rise
abbrev pub IsSorted : {K X : Type 0} → (K → K → Ordering) → List (K × X) → Type 0
IsSorted R es = T (is_sorted R es)

-- the key is at place i
pub record IsPlace {K X : Type 0} (R : K → K → Ordering) (es : List (K × X)) (k : K) (i : ℕ) : Type 0 where
  pub in_range : i < length es
  pub value : (d : K × X) → find R k es ≡ Some (slice_index_or es i d).1
  pub puts : (d : K × X) (v : X) → put R k v es ≡ slice_set es i ((slice_index_or es i d).0, v)

-- the key is not there, and would go at place i
pub record IsGap {K X : Type 0} (R : K → K → Ordering) (es : List (K × X)) (k : K) (i : ℕ) : Type 0 where
  pub in_range : i ≤ length es
  pub value : find R k es ≡ None
  pub puts : (v : X) → put R k v es ≡ insert es i (k, v)

-- P holds of each value
abbrev pub Each : {K X : Type 0} → (X → Type 0) → List (K × X) → Type 0
Each P [] = Unit {0}
Each P (e ∷ es) = P e.1 × Each P es

-- what two lists have at one key, made one
abbrev pub joined_at : {X : Type 0} → (X → X → X) → Option X → Option X → Option X
joined_at f None other = other
joined_at f (Some x) None = Some x
joined_at f (Some x) (Some y) = Some (f x y)
