-- What reading a symbol table answers, over the records that `csv` reads. This project's own.
use Rattle.std.specs.Prelude.{◌≡◌, ◌≢◌, ◌⊎◌, ◌++◌, ℕ, true, false, List, [], ◌∷◌, Result, Ok, Err, All, AllPairs}
use Rattle.std.specs.Prelude.{IsPermutation, length, map, ⊤}
use Rattle.std.specs.List.{enumerate_from, list_any}
use Rattle.csv.specs.Reading.{default_config, records, strip_bom}
use Rattle.csv.specs.Records.{AllText}
use Rattle.htl_symbols.specs.Ranges.{IsTable, Range, overlap}
use Rattle.htl_symbols.specs.Rows.{Record, header, range_of_row}
use Rattle.htl_symbols.specs.declared.fault.SymbolFault.{SymbolFault}
use Rattle.htl_symbols.specs.declared.fault.SymbolFault.TheVariants.{Header, Fields, Number, EmptyRange, Overlap, Csv, NoMemory}

-- the records of a text, after a byte order mark
unfoldable pub records_of : List ℕ → List Record
records_of bytes = records default_config (strip_bom bytes)

-- these records are a header and rows that write these ranges, of which no two overlap
pub record WriteRanges (table : List Record) (ranges : List Range) : Type 0 where
  pub rows : List Record
  pub headed : table ≡ header ∷ rows
  pub text : All AllText rows
  pub written : map range_of_row (enumerate_from 1 rows) ≡ map Ok ranges
  pub apart : AllPairs (λ a b. overlap a b ≡ false) ranges

-- the first record is faulty
pub record StartsWith (table : List Record) (IsFaulty : Record → Type 0) : Type 0 where
  pub first : Record
  pub later : List Record
  pub cut : table ≡ first ∷ later
  pub fault : IsFaulty first

-- record number n is faulty, given the ranges of those before it, which are right
pub record StopsAtRow (table : List Record) (n : ℕ) (IsFaulty : List Range → Record → Type 0) : Type 0 where
  pub before : List Record
  pub ranges : List Range
  pub right : WriteRanges before ranges
  pub bad : Record
  pub later : List Record
  pub cut : table ≡ before ++ bad ∷ later
  pub place : length before ≡ n
  pub fault : IsFaulty ranges bad

-- record number n is text and writes no range, by this fault
abbrev pub WritesNone : List Record → ℕ → SymbolFault → Type 0
WritesNone table n fault = StopsAtRow table n (λ _ bad. AllText bad × (range_of_row (n, bad) ≡ Err fault))

-- record number n writes a range that overlaps one before it
abbrev pub WritesOverlap : List Record → ℕ → Type 0
WritesOverlap table n =
    StopsAtRow table n (λ ranges bad. AllText bad × (r : Range) × (range_of_row (n, bad) ≡ Ok r) × (list_any (overlap r) ranges ≡ true))

-- the fault is that of the first record that has one; a record that isn't text is one that `csv` refuses
abbrev pub IsFirstFault : List Record → SymbolFault → Type 0
IsFirstFault table Header = (table ≡ []) ⊎ StartsWith table (λ first. AllText first × (first ≢ header))
IsFirstFault table (Fields n) = WritesNone table n (Fields n)
IsFirstFault table (Number n) = WritesNone table n (Number n)
IsFirstFault table (EmptyRange n) = WritesNone table n (EmptyRange n)
IsFirstFault table (Overlap n) = WritesOverlap table n
IsFirstFault table (Csv n) = ((n ≡ 0) × StartsWith table (λ first. ¬ (AllText first))) ⊎ StopsAtRow table n (λ _ bad. ¬ (AllText bad))
IsFirstFault table NoMemory = ⊤

-- the ranges of the rows in rising order, where no record has a fault, and else the first fault
abbrev pub Reads : List Record → Result (List Range) SymbolFault → Type 0
Reads table (Ok symbols) = (ranges : List Range) × WriteRanges table ranges × IsPermutation ranges symbols × IsTable symbols
Reads table (Err fault) = IsFirstFault table fault
