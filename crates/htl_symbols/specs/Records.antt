-- The records that a reader of `csv` has left.
use Rattle.std.specs.Prelude.{◌≡◌, ◌+◌, ℕ, Bool, true, false, List, [], Some, IsSome, length, unwrap_or}
use Rattle.std.specs.Borrow.{Bor}
use Rattle.csv.specs.Reading.{Ready, default_config, is_flexible, reader_config, reader_state, reader_trim, records_from, source_of}
use Rattle.csv.specs.declared.parser.State.{State}
use Rattle.csv.specs.declared.parser.State.TheVariants as st
use Rattle.csv.specs.declared.reader.Reader.{Reader}
use Rattle.csv.specs.declared.reader.Trim.TheVariants as trim
use Rattle.htl_symbols.specs.Rows.{Record}

-- a reader of bytes in memory
abbrev pub SliceReader : Type 0
SliceReader = Reader (Bor (List ℕ))

-- the bytes that a reader has yet to read
abbrev pub bytes_left : SliceReader → List ℕ
bytes_left reader = unwrap_or (source_of (λ s. Some s.now) reader) []

-- the records in these bytes
unfoldable pub records_left : SliceReader → List Record
records_left reader = records_from default_config (length (bytes_left reader) + 1) (reader_state reader) (bytes_left reader)

-- whether a record begins where the reader is in this state
abbrev pub is_start : State → Bool
is_start st.StartRecord = true
is_start st.AfterCr = true
is_start st.StartField = false
is_start st.InField = false
is_start st.InQuoted = false
is_start st.AfterQuote = false
is_start st.InEscape = false
is_start st.InComment = false

-- a reader that takes records as they are, of any length, and stands before one
pub record IsAtRecord (reader : SliceReader) : Type 0 where
  pub trim : reader_trim reader ≡ trim.None
  pub ready : Ready reader
  pub config : reader_config reader ≡ default_config
  pub flexible : is_flexible reader ≡ true
  pub known : IsSome (source_of (λ s. Some s.now) reader)
  pub start : is_start (reader_state reader) ≡ true
