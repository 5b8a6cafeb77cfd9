-- A test of all sequences tells whether each is above 0.
use Rattle.std.proofs.Common.{◌≡◌, ℕ, ◌<◌, List, [], ◌∷◌, Bool, true, false, ◌&&◌, nat_lt, refl, arith}
use Rattle.std.specs.List.{list_all}
use Rattle.std.proofs.lemmas.Bool.Decides.{nat_tests}
use Rattle.htl_sorted.specs.Entries.{Each}
use Rattle.htl_tables.specs.Greatest.{sequences}

both_true : (a b : Bool) → (a && b) ≡ true → (a ≡ true) × (b ≡ true)
both_true true b e = (refl, e)
both_true false b e = cc

true_both : (a b : Bool) → a ≡ true → b ≡ true → (a && b) ≡ true
true_both true b p q = q
true_both false b p q = cc

above : (n : ℕ) → nat_lt 0 n ≡ true → 0 < n
above n e = grind (arith, nat_tests)

is_above : (n : ℕ) → 0 < n → nat_lt 0 n ≡ true
is_above n lt = grind (arith, nat_tests)

-- where the test holds of all rows, each sequence is above 0
pub all_positive : (rows : List (ℕ × ℕ)) → list_all (λ (row : ℕ × ℕ). nat_lt 0 row.1) rows ≡ true → Each (λ n. 0 < n) (sequences rows)
all_positive [] e = tt
all_positive (row ∷ rows) e =
    let parts = both_true (nat_lt 0 row.1) (list_all (λ (r : ℕ × ℕ). nat_lt 0 r.1) rows) e in
    (above row.1 parts.0, all_positive rows parts.1)

-- where each sequence is above 0, the test holds of all rows
pub positive_all : (rows : List (ℕ × ℕ)) → Each (λ n. 0 < n) (sequences rows) → list_all (λ (row : ℕ × ℕ). nat_lt 0 row.1) rows ≡ true
positive_all [] h = refl
positive_all (row ∷ rows) h =
    true_both (nat_lt 0 row.1) (list_all (λ (r : ℕ × ℕ). nat_lt 0 r.1) rows) (is_above row.1 h.0) (positive_all rows h.1)
