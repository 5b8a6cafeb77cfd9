-- The last range of a table that begins by an address is the only one that can have it.
use Rattle.std.proofs.Common.{◌≡◌, ◌≤◌, ◌<◌, ◌-◌, ℕ, true, false, List, Some, None, inl, inr, refl, arith}
use Rattle.std.specs.List.{All, Contains}
use Rattle.std.proofs.lemmas.Bool.{le-leb, lt-ltb}
use Rattle.std.proofs.lemmas.Bool.Decides.{nat_tests}
use Rattle.std.proofs.lemmas.List.Elements.{All-contains}
use Rattle.htl_symbols.specs.Ranges.{Range, has, resolved}
use Rattle.htl_symbols.specs.Symbols.{IsLastBegun}
use Rattle.htl_symbols.proofs.Searches.{find-none, find-only}
use Rattle.htl_symbols.proofs.LastBegun.{cases_begun}

-- an address inside a range
has-inside : (address : ℕ) (r : Range) → r.start ≤ address → address < r.end → has address r ≡ true
has-inside address r low high = rw (le-leb r.start address low, lt-ltb address r.end high) refl

-- after its end
has-past : (address : ℕ) (r : Range) → r.end ≤ address → has address r ≡ false
has-past address r past = grind (arith, nat_tests)

-- before its start
has-before : (address : ℕ) (r : Range) → address < r.start → has address r ≡ false
has-before address r before = grind (arith, nat_tests)

-- where the last range that begins by the address has it, it is the only one
pub resolved-inside : (table : List Range) (address : ℕ) (r : Range) → IsLastBegun table address r → address < r.end
    → resolved table address ≡ Some (r.module, r.name, address - r.start)
resolved-inside table address r l inside = rw (find-only (has address) table r l.listed (has-inside address r l.begun inside) only) refl
  where
    only : (q : Range) → Contains table q → has address q ≡ true → q ≡ r
    only q listed passed = elim (cases_begun table address r q l listed) [
      | inl same ↦ same
      | inr (inl before) ↦ let begun = l.begun in let failed = has-past address q (omega arith) in absurd (cc)
      | inr (inr after) ↦ let failed = has-before address q after in absurd (cc)
    ]

-- where it hasn't the address, none has
pub resolved-outside : (table : List Range) (address : ℕ) (r : Range) → IsLastBegun table address r → r.end ≤ address
    → resolved table address ≡ None
resolved-outside table address r l past = rw (find-none (has address) table fails) refl
  where
    fails : (q : Range) → Contains table q → has address q ≡ false
    fails q listed = elim (cases_begun table address r q l listed) [
      | inl same ↦ rw same (has-past address r past)
      | inr (inl before) ↦ let begun = l.begun in has-past address q (omega arith)
      | inr (inr after) ↦ has-before address q after
    ]

-- where every range begins after the address, none has it
pub resolved-before : (table : List Range) (address : ℕ) → All (λ r. address < r.start) table → resolved table address ≡ None
resolved-before table address before =
    rw (find-none (has address) table (λ q listed. has-before address q (All-contains (λ r. address < r.start) table q before listed)))
    refl
