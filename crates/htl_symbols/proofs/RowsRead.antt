-- The rows read so far are right and in the table, and the reader has the others left.
use Rattle.std.proofs.Common.{◌≡◌, ◌<◌, ◌+◌, ℕ, Bool, true, false, List, [], ◌∷◌, ◌++◌, length, map, refl, sym, ap, ◌∙◌}
use Rattle.std.proofs.Common.{arith, IsPermutation, append_assoc, length-append, get_or, ltb, add-zero, add_comm}
use Rattle.std.specs.Prelude.{Ok, Err, Result}
use Rattle.std.specs.List.{enumerate_from, list_any}
use Rattle.std.proofs.Math.Bool.{and_comm}
use Rattle.std.proofs.lemmas.Bool.{false_from_ne_true}
use Rattle.std.proofs.lemmas.List.{map-append}
use Rattle.std.proofs.lemmas.List.Folds.{list_any_at}
use Rattle.std.proofs.lemmas.List.Elements.{All-push}
use Rattle.std.proofs.lemmas.List.Quantifiers.{all_pairs_push}
use Rattle.std.proofs.lemmas.List.Sorted.{IsPermutation-push_more, list_any-IsPermutation}
use Rattle.csv.specs.Records.{AllText}
use Rattle.htl_symbols.specs.Ranges.{IsTable, Range, overlap}
use Rattle.htl_symbols.specs.Reading.{Reads, StopsAtRow, WriteRanges, WritesNone}
use Rattle.htl_symbols.specs.Records.{IsAtRecord, SliceReader, records_left}
use Rattle.htl_symbols.specs.Rows.{Record, header, range_of_row}
use Rattle.htl_symbols.specs.Steps.{RecordRead, RowAdded, WritesNothing}
use Rattle.htl_symbols.specs.declared.fault.SymbolFault.{SymbolFault}
use Rattle.htl_symbols.specs.declared.fault.SymbolFault.TheVariants.{Header, Fields, Number, EmptyRange, Overlap, Csv, NoMemory}

-- of all rows, those before record number `number` are right and in the table, and the reader has the others left
pub record Progress (all : List Record) (number : ℕ) (reader : SliceReader) (table : List Range) : Type 0 where
  pub rows : List Record
  pub ranges : List Range
  pub cut : all ≡ rows ++ records_left reader
  pub count : length rows + 1 ≡ number
  pub right : WriteRanges (header ∷ rows) ranges
  pub moved : IsPermutation ranges table
  pub sorted : IsTable table
  pub at : IsAtRecord reader

-- one more element, with its place
enumerate_from-push : {X : Type 0} (n : ℕ) (xs : List X) (x : X)
    → enumerate_from n (xs ++ x ∷ []) ≡ enumerate_from n xs ++ (n + length xs, x) ∷ []
enumerate_from-push n [] x = rw (add-zero n) refl
enumerate_from-push {X} n (y ∷ ys) x =
    let place : n + 1 + length ys ≡ n + length (y ∷ ys) = omega arith in
    rw (enumerate_from-push (n + 1) ys x, place) refl

-- two ranges overlap either way round
overlap-swap : (a b : Range) → overlap a b ≡ overlap b a
overlap-swap a b = and_comm (ltb b.start a.end) (ltb a.start b.end)

-- one more row that is right
WriteRanges-push : (rows : List Record) (ranges : List Range) (fields : Record) (r : Range) → WriteRanges (header ∷ rows) ranges
    → AllText fields
    → range_of_row (length rows + 1, fields) ≡ Ok r → list_any (overlap r) ranges ≡ false
    → WriteRanges (header ∷ (rows ++ fields ∷ [])) (ranges ++ r ∷ [])
WriteRanges-push rows ranges fields r right text written none =
    let same : right.rows ≡ rows = cc in
    record {
      rows = rows ++ fields ∷ [];
      headed = refl;
      text = All-push AllText rows fields (rw same at right.text) text;
      written = more (rw same at right.written);
      apart = all_pairs_push (λ a b. overlap a b ≡ false) ranges r right.apart apart;
    }
  where
    numbered : range_of_row (1 + length rows, fields) ≡ Ok r
    numbered = rw (add_comm 1 (length rows)) written

    more : map range_of_row (enumerate_from 1 rows) ≡ map Ok ranges
        → map range_of_row (enumerate_from 1 (rows ++ fields ∷ [])) ≡ map Ok (ranges ++ r ∷ [])
    more before = rw (
      enumerate_from-push 1 rows fields,
      map-append range_of_row (enumerate_from 1 rows) ((1 + length rows, fields) ∷ []),
      map-append {B = Result Range SymbolFault} Ok ranges (r ∷ []),
      before,
      numbered,
    ) refl

    apart : (k : ℕ) (d : Range) → k < length ranges → overlap (get_or ranges k d) r ≡ false
    apart k d below = false_from_ne_true (overlap (get_or ranges k d) r) (λ met.
        let any = list_any_at (overlap r) ranges k d below (overlap-swap r (get_or ranges k d) ∙ met) in cc)

-- what the table has is what the rows have written
any-written : (r : Range) (ranges table : List Range) (b : Bool) → IsPermutation ranges table → list_any (overlap r) table ≡ b
    → list_any (overlap r) ranges ≡ b
any-written r ranges table b moved any = list_any-IsPermutation (overlap r) ranges table moved ∙ any

-- a row that is added is one more
pub progress-goes : (all : List Record) (number : ℕ) (a b : SliceReader) (old new : List Range) (fields : Record) (u : Unit {0})
    → Progress all number a old → RecordRead number a b fields (Ok true) → RowAdded (number, fields) old new (Ok u)
    → Progress all (number + 1) b new
progress-goes all number a b old new fields u p read added =
    let w = added.0 in
    record {
      rows = p.rows ++ fields ∷ [];
      ranges = p.ranges ++ w.range ∷ [];
      cut = p.cut ∙ ap (λ rs. p.rows ++ rs) read.1 ∙ sym (append_assoc p.rows (fields ∷ []) (records_left b));
      count = let counted = p.count in simp length-append (omega arith);
      right = WriteRanges-push p.rows p.ranges fields w.range p.right read.2 (rw p.count w.written)
          (any-written w.range p.ranges old false p.moved w.met);
      moved = IsPermutation-push_more p.ranges old new w.range p.moved added.1;
      sorted = added.2;
      at = read.0;
    }

-- the record that comes next is at fault
stops : (all : List Record) (number : ℕ) (a : SliceReader) (table : List Range) (bad : Record) (later : List Record)
    (IsFaulty : List Range → Record → Type 0)
    → (p : Progress all number a table) → records_left a ≡ bad ∷ later → IsFaulty p.ranges bad → StopsAtRow (header ∷ all) number IsFaulty
stops all number a table bad later IsFaulty p left fault = record {
  before = header ∷ p.rows;
  ranges = p.ranges;
  right = p.right;
  bad = bad;
  later = later;
  cut = ap (λ rs. header ∷ rs) (p.cut ∙ ap (λ rs. p.rows ++ rs) left);
  place = let counted = p.count in omega arith;
  fault = fault;
}

-- a row that writes no range ends the reading
writes-none : (all : List Record) (number : ℕ) (a : SliceReader) (old : List Range) (fields : Record) (n : ℕ) (fault : SymbolFault)
    → Progress all number a old → (later : List Record) → records_left a ≡ fields ∷ later → AllText fields
    → WritesNothing (number, fields) n fault → WritesNone (header ∷ all) n fault
writes-none all number a old fields n fault p later left text failed =
    rw failed.0 (stops all number a old fields later (λ _ bad. AllText bad × (range_of_row (number, bad) ≡ Err fault)) p left
    (text, failed.1))

-- and so does any row that isn't added
pub progress-fails : (all : List Record) (number : ℕ) (a b : SliceReader) (old new : List Range) (fields : Record) (fault : SymbolFault)
    → Progress all number a old → RecordRead number a b fields (Ok true) → RowAdded (number, fields) old new (Err fault)
    → Reads (header ∷ all) (Err fault)
progress-fails all number a b old new fields (Overlap n) p read failed =
    let w = failed.1 in
    rw failed.0 (
    stops all number a old fields (records_left b)
    (λ ranges bad. AllText bad × (r : Range) × (range_of_row (number, bad) ≡ Ok r) × (list_any (overlap r) ranges ≡ true)) p read.1
    (read.2, w.range, w.written, any-written w.range p.ranges old true p.moved w.met)
    )
progress-fails all number a b old new fields (Fields n) p read failed =
    writes-none all number a old fields n (Fields n) p (records_left b) read.1 read.2 failed
progress-fails all number a b old new fields (Number n) p read failed =
    writes-none all number a old fields n (Number n) p (records_left b) read.1 read.2 failed
progress-fails all number a b old new fields (EmptyRange n) p read failed =
    writes-none all number a old fields n (EmptyRange n) p (records_left b) read.1 read.2 failed
progress-fails all number a b old new fields NoMemory p read failed = tt
progress-fails all number a b old new fields Header p read failed = absurd failed
progress-fails all number a b old new fields (Csv n) p read failed = absurd failed
