-- A list is read exactly where the bytes begin with one that fits: shown once for all formats of rows.
use Rattle.std.proofs.Common.{◌≡◌, ℕ, zero, suc, ◌+◌, ◌-◌, ◌*◌, ◌/◌, ◌^◌, ◌<◌, ◌≤◌, true, false, nat_lt, List, [], ◌∷◌, ◌++◌, length}
use Rattle.std.proofs.Common.{drop, Option, Some, None, refl, sym, ap, ◌∙◌, append_assoc, arith}
use Rattle.std.specs.Prelude.{Ok}
use Rattle.std.specs.List.{flat_map}
use Rattle.std.proofs.lemmas.List.{append-nil, length-append}
use Rattle.std.proofs.lemmas.Option.{slice_get-get_or}
use Rattle.std.proofs.lemmas.Bool.{ltb-false, le-ltb}
use Rattle.std.proofs.Math.Seq.{drop-append_seam, get_or-append_seam}
use Rattle.std.proofs.Math.Nat.{le-div_iff_mul-le, suc-mul}
use Rattle.htl_segment.specs.Numbers.{IsBytes, number, bytes_of}
use Rattle.htl_segment.proofs.Bytes.{IsBytes-drop, field, number-lt, number_here, after_number, length-bytes_of}
use Rattle.htl_state.specs.declared.fault.Fault.TheVariants as faults
use Rattle.htl_state.specs.declared.rows.Setting.{Setting}
use Rattle.htl_state.specs.Format.{list_bytes}
use Rattle.htl_state.specs.Reading.{RowFormat, refused, follows, in_order, next_in, last_of, rows_in, list_in}
use Rattle.htl_state.specs.WellFormed.{RowsFit, ListFits}
use Rattle.htl_state.proofs.Readings.{two_steps, went_on, let_pass, ok_is}

-- a row is read exactly where the bytes begin with one that fits
pub record IsExact {Row : Type 0} (f : RowFormat Row) (s : Setting) (RowFits : Row → Type 0) : Type 0 where
  pub some : 0 < f.least
  pub long : (row : Row) → RowFits row → f.least ≤ length (f.bytes row)
  pub sound : (b : List ℕ) (row : Row) (rest : List ℕ) → IsBytes b → f.read s b ≡ Some (row, rest)
      → RowFits row × (b ≡ f.bytes row ++ rest)
  pub complete : (row : Row) (rest : List ℕ) → RowFits row → f.read s (f.bytes row ++ rest) ≡ Some (row, rest)

-- the last bytes of bytes are bytes
pub IsBytes-tail : (a b : List ℕ) → IsBytes (a ++ b) → IsBytes b
IsBytes-tail a b small = let e = drop-append_seam a b in rw e at (IsBytes-drop (length a) (a ++ b) small)

pub last_of-more : {Row : Type 0} (rows : List Row) (row : Row) → last_of (rows ++ row ∷ []) ≡ Some row
last_of-more {Row} rows row =
    let len : length (rows ++ row ∷ []) ≡ suc (length rows) = omega (arith, length-append rows (row ∷ [])) in
    let place : length (rows ++ row ∷ []) - 1 ≡ length rows = omega arith in
    rw place (slice_get-get_or (rows ++ row ∷ []) (length rows) row (omega arith)
    ∙ ap (λ (x : Row). Some x) (get_or-append_seam rows row [] row))

-- ---- one row

in_order_some : {Row : Type 0} (f : RowFormat Row) (last : Option Row) (b : List ℕ) (found : Option (Row × List ℕ)) (row : Row) (rest : List ℕ)
    → in_order f last b found ≡ Ok (row, rest) → (found ≡ Some (row, rest)) × (follows f.is_before last row ≡ true)
in_order_some {Row} f last b None row rest e = absurd cc
in_order_some {Row} f last b (Some read) row rest e =
    let p = let_pass (follows f.is_before last read.0) (refused f.fault b) read (row, rest) e in
    let first : read.0 ≡ row = ap (λ (x : Row × List ℕ). x.0) p.1 in
    (ap (λ (x : Row × List ℕ). Some x) p.1, rw first at p.0)

record NextRead {Row : Type 0} (f : RowFormat Row) (RowFits : Row → Type 0) (last : Option Row) (b : List ℕ) (row : Row) (rest : List ℕ) : Type 0 where
  fits : RowFits row
  after : follows f.is_before last row ≡ true
  bytes_are : b ≡ f.bytes row ++ rest

next_sound : {Row : Type 0} (f : RowFormat Row) (s : Setting) (RowFits : Row → Type 0) → IsExact f s RowFits → (last : Option Row) (b : List ℕ)
    (row : Row) (rest : List ℕ) → IsBytes b → next_in f s last b ≡ Ok (row, rest) → NextRead f RowFits last b row rest
next_sound f s RowFits exact last b row rest small e =
    let p = in_order_some f last b (f.read s b) row rest e in
    let q = exact.sound b row rest small p.0 in
    record { fits = q.0; after = p.1; bytes_are = q.1 }

next_complete : {Row : Type 0} (f : RowFormat Row) (s : Setting) (RowFits : Row → Type 0) → IsExact f s RowFits → (last : Option Row)
    (row : Row) (rest : List ℕ) → RowFits row → follows f.is_before last row ≡ true → next_in f s last (f.bytes row ++ rest) ≡ Ok (row, rest)
next_complete f s RowFits exact last row rest fits after = rw (exact.complete row rest fits, after) refl

-- ---- rows

record RowsRead {Row : Type 0} (f : RowFormat Row) (RowFits : Row → Type 0) (n : ℕ) (before : List Row) (b : List ℕ) (rows : List Row)
    (rest : List ℕ) : Type 0 where
  more : List Row
  all : rows ≡ before ++ more
  count : length more ≡ n
  fit : RowsFit f.is_before RowFits (last_of before) more
  bytes_are : b ≡ flat_map f.bytes more ++ rest

rows_sound : {Row : Type 0} (f : RowFormat Row) (s : Setting) (RowFits : Row → Type 0) → IsExact f s RowFits → (n : ℕ) (before : List Row)
    (b : List ℕ) (rows : List Row) (rest : List ℕ) → IsBytes b → rows_in f s n before b ≡ Ok (rows, rest)
    → RowsRead f RowFits n before b rows rest
unfolding rows_in
rows_sound {Row} f s RowFits exact zero before b rows rest small e =
    let p = ok_is (before, b) (rows, rest) e in
    let same : before ≡ rows = ap (λ (x : List Row × List ℕ). x.0) p in
    let left : b ≡ rest = ap (λ (x : List Row × List ℕ). x.1) p in
    record { more = []; all = sym same ∙ sym (append-nil before); count = refl; fit = tt; bytes_are = left }
rows_sound {Row} f s RowFits exact (suc n) before b rows rest small e =
    let t = two_steps (next_in f s (last_of before) b) (λ (row : Row) (after : List ℕ). rows_in f s n (before ++ row ∷ []) after) (rows, rest) e in
    let one = next_sound f s RowFits exact (last_of before) b t.read t.rest small t.first_is in
    let tail : IsBytes t.rest = IsBytes-tail (f.bytes t.read) t.rest (rw one.bytes_are at small) in
    let others = rows_sound f s RowFits exact n (before ++ t.read ∷ []) t.rest rows rest tail t.next_is in
    record {
      more = t.read ∷ others.more;
      all = others.all ∙ append_assoc before (t.read ∷ []) others.more;
      count = ap suc others.count;
      fit = (one.fits, one.after, rw (last_of-more before t.read) at others.fit);
      bytes_are = one.bytes_are ∙ ap (λ (x : List ℕ). f.bytes t.read ++ x) others.bytes_are
          ∙ sym (append_assoc (f.bytes t.read) (flat_map f.bytes others.more) rest);
    }

rows_complete : {Row : Type 0} (f : RowFormat Row) (s : Setting) (RowFits : Row → Type 0) → IsExact f s RowFits → (more before : List Row)
    (rest : List ℕ) → RowsFit f.is_before RowFits (last_of before) more
    → rows_in f s (length more) before (flat_map f.bytes more ++ rest) ≡ Ok (before ++ more, rest)
unfolding rows_in
rows_complete {Row} f s RowFits exact [] before rest fit = rw (append-nil before) refl
rows_complete {Row} f s RowFits exact (row ∷ more) before rest fit =
    let here : next_in f s (last_of before) ((f.bytes row ++ flat_map f.bytes more) ++ rest) ≡ Ok (row, flat_map f.bytes more ++ rest) =
    rw (append_assoc (f.bytes row) (flat_map f.bytes more) rest)
    (next_complete f s RowFits exact (last_of before) row (flat_map f.bytes more ++ rest) fit.0 fit.1) in
    let last : RowsFit f.is_before RowFits (last_of (before ++ row ∷ [])) more = rw (last_of-more before row) fit.2 in
    let others = rows_complete f s RowFits exact more (before ++ row ∷ []) rest last in
    let joined : (before ++ row ∷ []) ++ more ≡ before ++ row ∷ more = append_assoc before (row ∷ []) more in
    rw here (rw joined at others)

-- rows have as many bytes as they have at least
long_rows : {Row : Type 0} (f : RowFormat Row) (s : Setting) (RowFits : Row → Type 0) → IsExact f s RowFits → (last : Option Row)
    (rows : List Row) → RowsFit f.is_before RowFits last rows → length rows * f.least ≤ length (flat_map f.bytes rows)
long_rows f s RowFits exact last [] fit = omega arith
long_rows f s RowFits exact last (row ∷ rows) fit =
    omega (
      arith,
      length-append (f.bytes row) (flat_map f.bytes rows),
      exact.long row fit.0,
      long_rows f s RowFits exact (Some row) rows fit.2,
      suc-mul (length rows) f.least,
    )

-- ---- a list

pub list_sound : {Row : Type 0} (f : RowFormat Row) (s : Setting) (RowFits : Row → Type 0) → IsExact f s RowFits → (b : List ℕ)
    (rows : List Row) (rest : List ℕ) → IsBytes b → list_in f s b ≡ Ok (rows, rest)
    → ListFits f RowFits rows × (b ≡ list_bytes f.bytes rows ++ rest)
unfolding list_in list_bytes
list_sound {Row} f s RowFits exact b rows rest small e =
    let t1 = went_on (nat_lt (length b) 8) (refused faults.List b) _ (rows, rest) e in
    let t2 = went_on (nat_lt (length (drop 8 b) / f.least) (number 0 8 b)) (refused faults.List b) _ (rows, rest) t1.1 in
    let long : 8 ≤ length b = ltb-false _ _ t1.0 in
    let read = rows_sound f s RowFits exact (number 0 8 b) [] (drop 8 b) rows rest (IsBytes-drop 8 b small) t2.1 in
    let same : read.more ≡ rows = sym read.all in
    let count : number 0 8 b ≡ length rows = sym read.count ∙ ap length same in
    let below : number 0 8 b < 2 ^ 64 = number-lt 0 8 b small in
    let front : b ≡ bytes_of 8 (number 0 8 b) ++ drop 8 b = field 0 8 8 b small long refl in
    let body : drop 8 b ≡ flat_map f.bytes rows ++ rest = read.bytes_are ∙ ap (λ (x : List Row). flat_map f.bytes x ++ rest) same in (
      record { few = rw count at below; each = rw same at read.fit },
      front ∙ ap (λ (n : ℕ). bytes_of 8 n ++ drop 8 b) count ∙ ap (λ (x : List ℕ). bytes_of 8 (length rows) ++ x) body
          ∙ sym (append_assoc (bytes_of 8 (length rows)) (flat_map f.bytes rows) rest),
    )

pub list_complete : {Row : Type 0} (f : RowFormat Row) (s : Setting) (RowFits : Row → Type 0) → IsExact f s RowFits → (rows : List Row)
    (rest : List ℕ) → ListFits f RowFits rows → list_in f s (list_bytes f.bytes rows ++ rest) ≡ Ok (rows, rest)
unfolding list_in list_bytes
list_complete f s RowFits exact rows rest fits =
    let n = length rows in
    let body = flat_map f.bytes rows ++ rest in
    let b = (bytes_of 8 n ++ flat_map f.bytes rows) ++ rest in
    let at : drop 0 b ≡ bytes_of 8 n ++ body = append_assoc (bytes_of 8 n) (flat_map f.bytes rows) rest in
    let number_is : number 0 8 b ≡ n = number_here 0 8 n b body at fits.few in
    let rest_is : drop 8 b ≡ body = after_number 0 8 8 n b body at refl in
    let size : length b ≡ 8 + length body = omega (arith, ap length at, length-append (bytes_of 8 n) body, length-bytes_of 8 n) in
    let long : nat_lt (length b) 8 ≡ false = le-ltb (length b) 8 (omega arith) in
    let rows_len = long_rows f s RowFits exact None rows fits.each in
    let bytes_len : n * f.least ≤ length body = omega (arith, length-append (flat_map f.bytes rows) rest) in
    let room : nat_lt (length body / f.least) n ≡ false = le-ltb (length body / f.least) n ((le-div_iff_mul-le exact.some).1 bytes_len) in
    rw (long, rest_is, number_is, room) (rows_complete f s RowFits exact rows [] rest fits.each)
