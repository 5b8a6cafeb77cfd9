-- A new range has an address in common with a range of a table exactly where the last one begun before its end does.
use Rattle.std.proofs.Common.{◌≡◌, ◌≤◌, ◌<◌, ◌-◌, ◌⊎◌, ℕ, true, false, List, inl, inr, refl, arith, sym, nat_lt, ◌∙◌}
use Rattle.std.specs.List.{All, Contains, list_any}
use Rattle.std.proofs.lemmas.Bool.{cases_lt, le-ltb, lt-ltb}
use Rattle.std.proofs.lemmas.Bool.Decides.{nat_tests}
use Rattle.std.proofs.lemmas.List.Elements.{All-contains}
use Rattle.htl_symbols.specs.Ranges.{Range, meets}
use Rattle.htl_symbols.specs.Symbols.{IsLastBegun}
use Rattle.htl_symbols.proofs.Searches.{list_any-false, list_any-true}
use Rattle.htl_symbols.proofs.LastBegun.{cases_begun}

-- a range that starts before the end and ends after the start
pub meets-true : (start end : ℕ) (r : Range) → r.start < end → start < r.end → meets start end r ≡ true
meets-true start end r low high = rw (lt-ltb r.start end low, lt-ltb start r.end high) refl

-- one that ends by the start
meets-past : (start end : ℕ) (r : Range) → r.end ≤ start → meets start end r ≡ false
meets-past start end r past = grind (arith, nat_tests)

-- one that starts at the end or after it
meets-before : (start end : ℕ) (r : Range) → end ≤ r.start → meets start end r ≡ false
meets-before start end r before = grind (arith, nat_tests)

-- the last range that begins before `end` is met, or no range is
pub any-met : (table : List Range) (start end : ℕ) (r : Range) → start < end → IsLastBegun table (end - 1) r
    → nat_lt start r.end ≡ list_any (meets start end) table
any-met table start end r some l = elim (cases_lt start r.end) [
  | inl less ↦ let begun = l.begun in lt-ltb start r.end less ∙ sym
      (list_any-true (meets start end) table r l.listed (meets-true start end r (omega arith) less))
  | inr past ↦ le-ltb start r.end past ∙ sym (list_any-false (meets start end) table (fails past))
]
  where
    fails : r.end ≤ start → (q : Range) → Contains table q → meets start end q ≡ false
    fails past q listed = elim (cases_begun table (end - 1) r q l listed) [
      | inl same ↦ rw same (meets-past start end r past)
      | inr (inl before) ↦ let begun = l.begun in let filled = l.filled in meets-past start end q (omega arith)
      | inr (inr after) ↦ meets-before start end q (omega arith)
    ]

-- where every range begins after the last address, none is met
pub none-met : (table : List Range) (start end : ℕ) → start < end → All (λ r. end - 1 < r.start) table
    → false ≡ list_any (meets start end) table
none-met table start end some after =
    sym (list_any-false (meets start end) table
    (λ q listed. let begins = All-contains (λ r. end - 1 < r.start) table q after listed in meets-before start end q (omega arith)))

-- a range that isn't met lies after or before
pub not-met : (table : List Range) (start end : ℕ) (r : Range) → list_any (meets start end) table ≡ false → Contains table r
    → (end ≤ r.start) ⊎ (r.end ≤ start)
not-met table start end r none listed = elim (cases_lt r.start end) [
  | inr behind ↦ inl behind
  | inl low ↦ elim (cases_lt start r.end) [
    | inr before ↦ inr before
    | inl high ↦ let met = list_any-true (meets start end) table r listed (meets-true start end r low high) in absurd (cc)
  ]
]
