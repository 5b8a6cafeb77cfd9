-- What a turn of a loop does: it reads a row or a part, or stops; it adds a byte to a sum, or reads an address.
use Rattle.std.proofs.Common.{◌≡◌, ℕ, suc, ◌+◌, ◌-◌, ◌*◌, ◌<◌, ◌≤◌, List, [], ◌∷◌, ◌++◌, refl, sym, ◌∙◌, append_assoc, arith, inl, inr}
use Rattle.std.specs.Prelude.{Option, Ok, Err}
use Rattle.std.proofs.lemmas.List.{append-nil}
use Rattle.htl_segment.specs.Numbers.{number, numbers}
use Rattle.htl_state.specs.declared.fault.Refused.{Refused}
use Rattle.htl_state.specs.declared.rows.Setting.{Setting}
use Rattle.htl_state.specs.Checksum.{with_byte, with_bytes}
use Rattle.htl_state.specs.Rows.{Part}
use Rattle.htl_state.specs.Reading.{Reading, IsRefusal, RowFormat, next_in, last_of, rows_in, of_processor, part_in, parts_in}

-- ---- rows

pub row_read : {Row : Type 0} (f : RowFormat Row) (s : Setting) (n i : ℕ) (before : List Row) (b rest : List ℕ) (row : Row)
    (all : Reading (List Row)) → i < n → next_in f s (last_of before) b ≡ Ok (row, rest) → rows_in f s (n - i) before b ≡ all
    → rows_in f s (n - (i + 1)) (before ++ row ∷ []) rest ≡ all
unfolding rows_in
row_read f s n i before b rest row all lt read so_far =
    let left : n - i ≡ suc (n - (i + 1)) = omega arith in
    let here : rows_in f s (n - i) before b ≡ rows_in f s (n - (i + 1)) (before ++ row ∷ []) rest = rw (left, read) refl in
    sym here ∙ so_far

pub row_refused : {Row : Type 0} (f : RowFormat Row) (s : Setting) (n i : ℕ) (before : List Row) (b : List ℕ) (refused : Refused)
    (all : Reading (List Row)) → i < n → next_in f s (last_of before) b ≡ Err refused → rows_in f s (n - i) before b ≡ all
    → all ≡ Err refused
unfolding rows_in
row_refused f s n i before b refused all lt read so_far =
    let left : n - i ≡ suc (n - (i + 1)) = omega arith in
    let here : rows_in f s (n - i) before b ≡ Err refused = rw (left, read) refl in
    sym so_far ∙ here

-- the same, where the last row came by another way
pub row_read_after : {Row : Type 0} (f : RowFormat Row) (s : Setting) (n i : ℕ) (before : List Row) (b rest : List ℕ) (row : Row)
    (last : Option Row) (all : Reading (List Row)) → last ≡ last_of before → i < n → next_in f s last b ≡ Ok (row, rest)
    → rows_in f s (n - i) before b ≡ all → rows_in f s (n - (i + 1)) (before ++ row ∷ []) rest ≡ all
row_read_after f s n i before b rest row last all is lt read so_far = row_read f s n i before b rest row all lt (rw is at read) so_far

pub row_refusal : {Row : Type 0} (f : RowFormat Row) (s : Setting) (n i : ℕ) (before : List Row) (b : List ℕ) (refused : Refused)
    (last : Option Row) (all : Reading (List Row)) → last ≡ last_of before → i < n → IsRefusal refused (next_in f s last b)
    → rows_in f s (n - i) before b ≡ all → IsRefusal refused all
row_refusal f s n i before b refused last all is lt refusal so_far =
    elim refusal [ inl none ↦ inl none | inr first ↦ inr (row_refused f s n i before b refused all lt (rw is at first) so_far) ]

pub rows_done : {Row : Type 0} (f : RowFormat Row) (s : Setting) (n i : ℕ) (before : List Row) (b : List ℕ)
    (all : Reading (List Row)) → n ≤ i → rows_in f s (n - i) before b ≡ all → all ≡ Ok (before, b)
unfolding rows_in
rows_done f s n i before b all le so_far =
    let left : n - i ≡ 0 = omega arith in
    let here : rows_in f s (n - i) before b ≡ Ok (before, b) = rw left refl in
    sym so_far ∙ here

-- ---- parts

pub part_read : (s : Setting) (n i : ℕ) (before : List Part) (b rest : List ℕ) (next : Part) (all : Reading (List Part)) → i < n
    → part_in (of_processor s i) b ≡ Ok (next, rest) → parts_in s (n - i) i before b ≡ all
    → parts_in s (n - (i + 1)) (i + 1) (before ++ next ∷ []) rest ≡ all
unfolding parts_in
part_read s n i before b rest next all lt read so_far =
    let left : n - i ≡ suc (n - (i + 1)) = omega arith in
    let here : parts_in s (n - i) i before b ≡ parts_in s (n - (i + 1)) (i + 1) (before ++ next ∷ []) rest = rw (left, read) refl in
    sym here ∙ so_far

pub part_refused : (s : Setting) (n i : ℕ) (before : List Part) (b : List ℕ) (refused : Refused) (all : Reading (List Part)) → i < n
    → part_in (of_processor s i) b ≡ Err refused → parts_in s (n - i) i before b ≡ all → all ≡ Err refused
unfolding parts_in
part_refused s n i before b refused all lt read so_far =
    let left : n - i ≡ suc (n - (i + 1)) = omega arith in
    let here : parts_in s (n - i) i before b ≡ Err refused = rw (left, read) refl in
    sym so_far ∙ here

pub parts_done : (s : Setting) (n i : ℕ) (before : List Part) (b : List ℕ) (all : Reading (List Part)) → n ≤ i
    → parts_in s (n - i) i before b ≡ all → all ≡ Ok (before, b)
unfolding parts_in
parts_done s n i before b all le so_far =
    let left : n - i ≡ 0 = omega arith in
    let here : parts_in s (n - i) i before b ≡ Ok (before, b) = rw left refl in
    sym so_far ∙ here

-- ---- sums

-- a sum of bytes and of one more behind them
pub with_bytes-more : (sum : ℕ) (bytes : List ℕ) (byte : ℕ) → with_bytes sum (bytes ++ byte ∷ []) ≡ with_byte (with_bytes sum bytes) byte
unfolding with_bytes
with_bytes-more sum [] byte = refl
with_bytes-more sum (b ∷ bytes) byte = with_bytes-more (with_byte sum b) bytes byte

-- ---- addresses

pub address_read : (front : List ℕ) (i n : ℕ) (bytes all : List ℕ) → i < n → front ++ numbers (1 + 8 * i) (n - i) bytes ≡ all
    → (front ++ number (1 + 8 * i) 8 bytes ∷ []) ++ numbers (1 + 8 * (i + 1)) (n - (i + 1)) bytes ≡ all
unfolding numbers
address_read front i n bytes all lt so_far =
    let left : n - i ≡ suc (n - (i + 1)) = omega arith in
    let next : 1 + 8 * (i + 1) ≡ 8 + (1 + 8 * i) = omega arith in
    let one : front ++ numbers (1 + 8 * i) (n - i) bytes
    ≡ front ++ (number (1 + 8 * i) 8 bytes ∷ numbers (8 + (1 + 8 * i)) (n - (i + 1)) bytes) = rw left refl in
    rw (append_assoc, next) (sym one ∙ so_far)

pub addresses_done : (front : List ℕ) (i n : ℕ) (bytes all : List ℕ) → n ≤ i → front ++ numbers (1 + 8 * i) (n - i) bytes ≡ all
    → front ≡ all
unfolding numbers
addresses_done front i n bytes all le so_far =
    let left : n - i ≡ 0 = omega arith in
    let one : front ++ numbers (1 + 8 * i) (n - i) bytes ≡ front = rw left (append-nil front) in
    sym one ∙ so_far
