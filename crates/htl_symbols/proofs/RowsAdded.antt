-- A row adds its range to a table, or nothing where it has a fault.
use Rattle.std.proofs.Common.{◌≡◌, ◌⊎◌, ℕ, List, [], ◌∷◌, Option, Some, None, refl, sym, ltb, inl, inr}
use Rattle.std.proofs.lemmas.Bool.{cases_cond}
use Rattle.std.specs.Prelude.{Err}
use Rattle.htl_symbols.specs.Ranges.{Range}
use Rattle.htl_symbols.specs.Rows.{Record, address_of, range_between, range_of_row}
use Rattle.htl_symbols.specs.Steps.{RowAdded}
use Rattle.htl_symbols.specs.declared.fault.SymbolFault.{SymbolFault}
use Rattle.htl_symbols.specs.declared.fault.SymbolFault.TheVariants.{Fields, Number, EmptyRange}

-- the faults that a row has by itself, with its number
fault-of-row : (row : ℕ) (fields : Record) (fault : SymbolFault) → range_of_row (row, fields) ≡ Err fault
    → (fault ≡ Fields row) ⊎ ((fault ≡ Number row) ⊎ (fault ≡ EmptyRange row))
unfolding range_of_row
fault-of-row row [] fault e = inl (cc)
fault-of-row row (a ∷ []) fault e = inl (cc)
fault-of-row row (a ∷ b ∷ []) fault e = inl (cc)
fault-of-row row (a ∷ b ∷ c ∷ []) fault e = inl (cc)
fault-of-row row (a ∷ b ∷ c ∷ d ∷ f ∷ fields) fault e = inl (cc)
fault-of-row row (a ∷ b ∷ c ∷ d ∷ []) fault e = inr (between (address_of a) (address_of b) e)
  where
    between : (p q : Option ℕ) → range_between row p q c d ≡ Err fault → (fault ≡ Number row) ⊎ (fault ≡ EmptyRange row)
    between None q e = inl (cc)
    between (Some p) None e = inl (cc)
    between (Some p) (Some q) e = elim (cases_cond (ltb p q) _ _ _ (sym e)) [ inl written ↦ absurd (cc) | inr empty ↦ inr (cc) ]

-- a row that writes no range adds nothing
pub row-refused : (row : ℕ × Record) (old new : List Range) (fault : SymbolFault) → range_of_row row ≡ Err fault
    → RowAdded row old new (Err fault)
row-refused row old new fault e = elim (fault-of-row row.0 row.1 fault e) [
  | inl fields ↦ rw fields (refl, rw fields at e)
  | inr (inl number) ↦ rw number (refl, rw number at e)
  | inr (inr empty) ↦ rw empty (refl, rw empty at e)
]
