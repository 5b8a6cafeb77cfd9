-- An address of all rows is one of one of them.
use Rattle.std.proofs.Common.{◌≡◌, ℕ, Bool, true, List, [], ◌∷◌, arith, refl}
use Rattle.std.specs.Prelude.{◌==◌, flat_map, length, not}
use Rattle.std.specs.List.{list_any}
use Rattle.std.proofs.lemmas.Bool.{ne_eqb}
use Rattle.std.proofs.lemmas.List.Folds.{list_any-append}

pub any_of_all : {R : Type 0} (p : ℕ → Bool) (stack_of : R → List ℕ) (rows : List R)
    → list_any (λ row. list_any p (stack_of row)) rows ≡ list_any p (flat_map stack_of rows)
any_of_all p stack_of [] = refl
any_of_all p stack_of (row ∷ rows) =
    rw (list_any-append p (stack_of row) (flat_map stack_of rows), any_of_all p stack_of rows) refl

-- a stack that isn't empty has an address
pub some_by_length : (addresses : List ℕ) → not (length addresses == 0) ≡ list_any (λ address. true) addresses
some_by_length [] = refl
some_by_length (address ∷ more) = rw (ne_eqb (length (address ∷ more)) 0 (λ e. omega (arith, e))) refl
