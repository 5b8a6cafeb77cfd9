-- What the steps of reading a table report.
use Rattle.std.specs.Prelude.{◌≡◌, ◌&&◌, ℕ, true, false, Bool, List, [], ◌∷◌, Result, Ok, Err, IsPermutation, codes, ⊤}
use Rattle.std.specs.List.{list_any}
use Rattle.std.specs.Str.{bytes_eq}
use Rattle.csv.specs.Records.{AllText}
use Rattle.htl_symbols.specs.Ranges.{IsTable, Range, overlap}
use Rattle.htl_symbols.specs.Reading.{IsFirstFault}
use Rattle.htl_symbols.specs.Records.{IsAtRecord, SliceReader, records_left}
use Rattle.htl_symbols.specs.Rows.{Record, header, range_of_row}
use Rattle.htl_symbols.specs.declared.fault.SymbolFault.{SymbolFault}
use Rattle.htl_symbols.specs.declared.fault.SymbolFault.TheVariants.{Header, Fields, Number, EmptyRange, Overlap, Csv, NoMemory}

-- a read of record number `number`: there is one, there is none, or it is refused
abbrev pub RecordRead : ℕ → SliceReader → SliceReader → Record → Result Bool SymbolFault → Type 0
RecordRead number old new fields (Ok true) = IsAtRecord new × (records_left old ≡ fields ∷ records_left new) × AllText fields
RecordRead number old new fields (Ok false) = records_left old ≡ []
RecordRead number old new fields (Err (Csv n)) =
    (n ≡ number) × (bad : Record) × (later : List Record) × (records_left old ≡ bad ∷ later) × ¬ (AllText bad)
RecordRead number old new fields (Err NoMemory) = ⊤
RecordRead number old new fields (Err _) = ⊥

-- whether four fields are those of the header
abbrev pub columns_eq : List ℕ → List ℕ → List ℕ → List ℕ → Bool
columns_eq start end m n =
    bytes_eq start (codes "start") && (bytes_eq end (codes "end") && (bytes_eq m (codes "module") && bytes_eq n (codes "name")))

-- the reader stands after the header, or the first fault is there
abbrev pub HeaderRead : SliceReader → SliceReader → Result (Unit {0}) SymbolFault → Type 0
HeaderRead old new (Ok u) = IsAtRecord new × (records_left old ≡ header ∷ records_left new)
HeaderRead old new (Err fault) = IsFirstFault (records_left old) fault

-- the row writes a range; whether it overlaps one of the table is given
pub record WritesRange (row : ℕ × Record) (table : List Range) (overlaps : Bool) : Type 0 where
  pub range : Range
  pub written : range_of_row row ≡ Ok range
  pub met : list_any (overlap range) table ≡ overlaps

-- the row writes no range
abbrev pub WritesNothing : ℕ × Record → ℕ → SymbolFault → Type 0
WritesNothing row n fault = (n ≡ row.0) × (range_of_row row ≡ Err fault)

-- the table gained the row's range, or the row is at fault
abbrev pub RowAdded : ℕ × Record → List Range → List Range → Result (Unit {0}) SymbolFault → Type 0
RowAdded row old new (Ok u) = (w : WritesRange row old false) × IsPermutation (w.range ∷ old) new × IsTable new
RowAdded row old new (Err (Fields n)) = WritesNothing row n (Fields n)
RowAdded row old new (Err (Number n)) = WritesNothing row n (Number n)
RowAdded row old new (Err (EmptyRange n)) = WritesNothing row n (EmptyRange n)
RowAdded row old new (Err (Overlap n)) = (n ≡ row.0) × WritesRange row old true
RowAdded row old new (Err NoMemory) = ⊤
RowAdded row old new (Err Header) = ⊥
RowAdded row old new (Err (Csv n)) = ⊥
