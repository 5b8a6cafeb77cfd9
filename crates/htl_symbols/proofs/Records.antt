-- The records of a text are its next one, and then those of what is left.
use Rattle.std.proofs.Common.{◌≡◌, ◌≤◌, ◌<◌, ◌+◌, ℕ, zero, suc, true, false, cond, List, [], ◌∷◌, Option, Some, None}
use Rattle.std.proofs.Common.{length, refl, add-one, arith, ap}
use Rattle.csv.specs.Machine.{Read, next_record}
use Rattle.csv.specs.Reading.{default_config, is_bom, records_from, records_next, strip_bom}
use Rattle.csv.specs.declared.parser.State.{State}
use Rattle.htl_symbols.specs.Records.{is_start}
use Rattle.htl_symbols.specs.Rows.{Record}
use Rattle.htl_symbols.proofs.RecordEnds.{next-lt, next-starts}

-- the records that so many turns give
abbrev records_by : ℕ → State → List ℕ → List Record
records_by n s xs = records_from default_config n s xs

-- enough turns give all records
records-enough : (n m : ℕ) (s : State) (xs : List ℕ) → is_start s ≡ true → length xs < n → length xs < m
    → records_by n s xs ≡ records_by m s xs
unfolding records_from
records-enough zero m s xs start less more = absurd (omega arith)
records-enough (suc n) zero s xs start less more = absurd (omega arith)
records-enough (suc n) (suc m) s xs start less more = by_next (next_record default_config s [] [] xs) refl (records-enough n m)
  where
    by_next : (o : Option Read) → next_record default_config s [] [] xs ≡ o
        → ((t : State) (ys : List ℕ) → is_start t ≡ true → length ys < n → length ys < m → records_by n t ys ≡ records_by m t ys)
        → records_next (records_from default_config n) o ≡ records_next (records_from default_config m) o
    by_next None e enough = refl
    by_next (Some p) e enough =
        let shorter = next-lt s xs p start e in
        ap (λ (rs : List Record). p.0 ∷ rs) (enough p.1 p.2 (next-starts s [] [] xs p e) (omega arith) (omega arith))

-- the first of the records of a text is the next one
pub records-more : (s : State) (xs : List ℕ) (p : Read) → is_start s ≡ true → next_record default_config s [] [] xs ≡ Some p
    → records_by (length xs + 1) s xs ≡ p.0 ∷ records_by (length p.2 + 1) p.1 p.2
unfolding records_from
records-more s xs p start e =
    let shorter = next-lt s xs p start e in
    rw (add-one (length xs), e) (ap (λ (rs : List Record). p.0 ∷ rs)
    (records-enough (length xs) (length p.2 + 1) p.1 p.2 (next-starts s [] [] xs p e) shorter (omega arith)))

-- a text without a next record has none
pub records-none : (s : State) (xs : List ℕ) → next_record default_config s [] [] xs ≡ None → records_by (length xs + 1) s xs ≡ []
unfolding records_from
records-none s xs e = rw (add-one (length xs), e) refl

-- a text has no more records than bytes
pub records-few : (n : ℕ) (s : State) (xs : List ℕ) → is_start s ≡ true → length (records_by n s xs) ≤ length xs
unfolding records_from
records-few zero s xs start = omega arith
records-few (suc n) s xs start = by_next (next_record default_config s [] [] xs) refl (records-few n)
  where
    by_next : (o : Option Read) → next_record default_config s [] [] xs ≡ o
        → ((t : State) (ys : List ℕ) → is_start t ≡ true → length (records_by n t ys) ≤ length ys)
        → length (records_next (records_from default_config n) o) ≤ length xs
    by_next None e few = omega arith
    by_next (Some p) e few =
        let shorter = next-lt s xs p start e in
        let later = few p.1 p.2 (next-starts s [] [] xs p e) in
        omega arith

-- a text without its mark is no longer
pub length-strip_bom : (xs : List ℕ) → length (strip_bom xs) ≤ length xs
unfolding strip_bom
length-strip_bom [] = omega arith
length-strip_bom (a ∷ []) = omega arith
length-strip_bom (a ∷ b ∷ []) = omega arith
length-strip_bom (a ∷ b ∷ c ∷ rest) =
    elim (is_bom a b c) as (λ t. length (cond t rest (a ∷ b ∷ c ∷ rest)) ≤ length (a ∷ b ∷ c ∷ rest))
    [ true ↦ omega arith | false ↦ omega arith ]
