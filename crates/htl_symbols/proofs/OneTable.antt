-- The records of a symbol table write one table of ranges, or have one first fault, and never both.
use Rattle.std.proofs.Common.{◌≡◌, ◌≢◌, ◌⊎◌, ◌<◌, ◌≤◌, ◌+◌, ℕ, suc, true, false, List, [], ◌∷◌, ◌++◌, length, map, All}
use Rattle.std.proofs.Common.{refl, sym, ap, ◌∙◌, subst, inl, inr, arith, add-zero, get_or, ltb}
use Rattle.std.specs.Prelude.{Result, Ok, Err, Contains, AllPairs, IsPermutation, codes}
use Rattle.std.specs.List.{enumerate_from, list_any}
use Rattle.std.proofs.Math.Bool.{and_comm}
use Rattle.std.proofs.Math.Seq.{get_or-append_seam}
use Rattle.std.proofs.lemmas.Bool.{cases_order}
use Rattle.std.proofs.lemmas.List.{get_or_append_left, length-append}
use Rattle.std.proofs.lemmas.List.Elements.{All-contains, All-head, All-tail, Contains-append_right}
use Rattle.std.proofs.lemmas.List.Sorted.{Contains-permutation, IsPermutation-sym}
use Rattle.csv.specs.Records.{AllText}
use Rattle.htl_event.specs.Members.{IsRising, IsStrictOrder}
use Rattle.htl_event.proofs.Members.{Contains-here, each_member, same_members}
use Rattle.htl_symbols.specs.Ranges.{IsTable, Range, overlap}
use Rattle.htl_symbols.specs.Reading.{WriteRanges, StartsWith, StopsAtRow, IsFirstFault, Reads}
use Rattle.htl_symbols.specs.Rows.{Record, header, range_of_row}
use Rattle.htl_symbols.specs.declared.fault.SymbolFault.{SymbolFault}
use Rattle.htl_symbols.specs.declared.fault.SymbolFault.TheVariants.{Header, Fields, Number, EmptyRange, Overlap, Csv, NoMemory}
use Rattle.htl_symbols.proofs.Searches.{list_any-false}

-- ---- lists that are cut

pub cons_is : {X : Type 0} (x y : X) (xs ys : List X) → x ∷ xs ≡ y ∷ ys → (x ≡ y) × (xs ≡ ys)
cons_is x y xs ys e = (cc, cc)

same_cut : {X : Type 0} (xs ys : List X) (a b : X) (us vs : List X) → xs ++ a ∷ us ≡ ys ++ b ∷ vs → length xs ≡ length ys
    → (xs ≡ ys) × (a ≡ b)
same_cut [] [] a b us vs e len = (refl, (cons_is a b us vs e).0)
same_cut [] (y ∷ ys) a b us vs e len = absurd (omega (arith, len))
same_cut (x ∷ xs) [] a b us vs e len = absurd (omega (arith, len))
same_cut {X} (x ∷ xs) (y ∷ ys) a b us vs e len =
    let front = cons_is x y (xs ++ a ∷ us) (ys ++ b ∷ vs) e in
    let there = same_cut xs ys a b us vs front.1 (omega (arith, len)) in
    (ap (λ (z : X). z ∷ xs) front.0 ∙ ap (λ (zs : List X). y ∷ zs) there.0, there.1)

-- what is cut earlier is a part of what is cut later
earlier_cut : {X : Type 0} (xs ys : List X) (a b : X) (us vs : List X) → xs ++ a ∷ us ≡ ys ++ b ∷ vs → length xs < length ys
    → (more : List X) × (ys ≡ xs ++ a ∷ more)
earlier_cut xs [] a b us vs e lt = absurd (omega (arith, lt))
earlier_cut {X} [] (y ∷ ys) a b us vs e lt =
    let front = cons_is a y us (ys ++ b ∷ vs) e in (ys, ap (λ (z : X). z ∷ ys) (sym front.0))
earlier_cut {X} (x ∷ xs) (y ∷ ys) a b us vs e lt =
    let front = cons_is x y (xs ++ a ∷ us) (ys ++ b ∷ vs) e in
    let there = earlier_cut xs ys a b us vs front.1 (omega (arith, lt)) in
    (there.0, ap (λ (z : X). z ∷ ys) (sym front.0) ∙ ap (λ (zs : List X). x ∷ zs) there.1)

-- ---- rows that are right

abbrev written : Range → Result Range SymbolFault
written r = Ok r

written_is : (a b : Range) → written a ≡ written b → a ≡ b
written_is a b e = cc

one_map : (us vs : List Range) → map written us ≡ map written vs → us ≡ vs
one_map [] [] e = refl
one_map [] (b ∷ vs) e = absurd cc
one_map (a ∷ us) [] e = absurd cc
one_map (a ∷ us) (b ∷ vs) e =
    let front = cons_is (written a) (written b) (map written us) (map written vs) e in
    ap (λ (z : Range). z ∷ us) (written_is a b front.0) ∙ ap (λ (zs : List Range). b ∷ zs) (one_map us vs front.1)

one_ranges : (table : List Record) (a b : List Range) → WriteRanges table a → WriteRanges table b → a ≡ b
one_ranges table a b p q =
    let rows : p.rows ≡ q.rows = (cons_is header header p.rows q.rows (sym p.headed ∙ q.headed)).1 in
    one_map a b (sym p.written ∙ ap (λ (rs : List Record). map range_of_row (enumerate_from 1 rs)) rows ∙ q.written)

-- the range that a row in the midst of right rows writes
at_row : (rows more : List Record) (row : Record) (start : ℕ) (before ranges : List Range)
    → map range_of_row (enumerate_from start rows) ≡ map written before
    → map range_of_row (enumerate_from start (rows ++ row ∷ more)) ≡ map written ranges
    → (r : Range) × (later : List Range) × (range_of_row (start + length rows, row) ≡ written r) × (ranges ≡ before ++ r ∷ later)
at_row [] more row start [] [] is whole = absurd cc
at_row [] more row start [] (r ∷ ranges) is whole =
    let front = cons_is (range_of_row (start, row)) (written r) _ _ whole in
    (r, ranges, rw (add-zero start) (front.0), refl)
at_row [] more row start (b ∷ before) ranges is whole = absurd cc
at_row (x ∷ rows) more row start [] ranges is whole = absurd cc
at_row (x ∷ rows) more row start (b ∷ before) [] is whole = absurd cc
at_row (x ∷ rows) more row start (b ∷ before) (r ∷ ranges) is whole =
    let front = cons_is (range_of_row (start, x)) (written b) _ _ is in
    let among = cons_is (range_of_row (start, x)) (written r) _ _ whole in
    let same : b ≡ r = written_is b r (sym front.0 ∙ among.0) in
    let there = at_row rows more row (start + 1) before ranges front.1 among.1 in
    let place : start + 1 + length rows ≡ start + length (x ∷ rows) = omega arith in (
      there.0,
      there.1,
      subst (λ (n : ℕ). range_of_row (n, row) ≡ written there.0) place there.2,
      ap (λ (z : Range). z ∷ ranges) (sym same) ∙ ap (λ (zs : List Range). b ∷ zs) there.3,
    )

-- record number n is text that writes a range, which overlaps none before it
pub record IsRight (n : ℕ) (ranges : List Range) (row : Record) : Type 0 where
  pub text : AllText row
  pub range : Range
  pub is : range_of_row (n, row) ≡ written range
  pub apart : list_any (overlap range) ranges ≡ false

-- ranges that are apart
apart_before : (before later ranges : List Range) (r : Range) → AllPairs (λ a b. overlap a b ≡ false) ranges → ranges ≡ before ++ r ∷ later
    → list_any (overlap r) before ≡ false
apart_before before later ranges r apart cut =
    list_any-false (overlap r) before (λ q listed.
    let all = subst (λ (l : List Range). AllPairs (λ a b. overlap a b ≡ false) l) cut apart in
    let within : length before < length (before ++ r ∷ later) = omega (arith, length-append before (r ∷ later)) in
    let two = all listed.0 (length before) q listed.1 within in
    let here : get_or (before ++ r ∷ later) listed.0 q ≡ q = get_or_append_left before (r ∷ later) q listed.0 listed.1 ∙ listed.2 in
    let there : get_or (before ++ r ∷ later) (length before) q ≡ r = get_or-append_seam before r later q in
    and_comm (ltb q.start r.end) (ltb r.start q.end) ∙ (rw (here, there) at two))

right_at : (before whole more : List Record) (row : Record) (ranges all : List Range) → WriteRanges before ranges → WriteRanges whole all
    → whole ≡ before ++ row ∷ more → IsRight (length before) ranges row
right_at before whole more row ranges all p q cut =
    let rows : q.rows ≡ p.rows ++ row ∷ more = (cons_is header header q.rows (p.rows ++ row ∷ more)
    (sym q.headed ∙ cut ∙ ap (λ (l : List Record). l ++ row ∷ more) p.headed)).1 in
    let found = at_row p.rows more row 1 ranges all p.written
    (subst (λ (l : List Record). map range_of_row (enumerate_from 1 l) ≡ map written all) rows q.written) in
    let place : 1 + length p.rows ≡ length before = omega (arith, ap length p.headed) in
    record {
      text = All-contains AllText (p.rows ++ row ∷ more) row (subst (λ (l : List Record). All AllText l) rows q.text)
          (Contains-append_right p.rows (row ∷ more) row (Contains-here row more));
      range = found.0;
      is = subst (λ (n : ℕ). range_of_row (n, row) ≡ written found.0) place found.2;
      apart = apart_before ranges found.1 all found.0 q.apart found.3;
    }

-- ---- rows that are at fault

abbrev RowFault : ℕ → List Range → Record → SymbolFault → Type 0
RowFault n ranges row fault =
    (AllText row × (range_of_row (n, row) ≡ Err fault))
    ⊎ ((AllText row × (r : Range) × (range_of_row (n, row) ≡ written r) × (list_any (overlap r) ranges ≡ true) × (fault ≡ Overlap n))
    ⊎ ((AllText row → ⊥) × (fault ≡ Csv n)))

one_row_fault : (n : ℕ) (before after : List Range) (row : Record) (f g : SymbolFault) → RowFault n before row f → RowFault n after row g
    → f ≡ g
one_row_fault n before after row f g (inl p) (inl q) =
    let same : ◌≡◌ {A = Result Range SymbolFault} (Err f) (Err g) = sym p.1 ∙ q.1 in cc
one_row_fault n before after row f g (inl p) (inr (inl q)) =
    let same : ◌≡◌ {A = Result Range SymbolFault} (Err f) (Ok q.1) = sym p.1 ∙ q.2 in absurd cc
one_row_fault n before after row f g (inl p) (inr (inr q)) = absurd (q.0 p.0)
one_row_fault n before after row f g (inr (inl p)) (inl q) =
    let same : ◌≡◌ {A = Result Range SymbolFault} (Err g) (Ok p.1) = sym q.1 ∙ p.2 in absurd cc
one_row_fault n before after row f g (inr (inl p)) (inr (inl q)) = p.4 ∙ sym q.4
one_row_fault n before after row f g (inr (inl p)) (inr (inr q)) = absurd (q.0 p.0)
one_row_fault n before after row f g (inr (inr p)) (inl q) = absurd (p.0 q.0)
one_row_fault n before after row f g (inr (inr p)) (inr (inl q)) = absurd (p.0 q.0)
one_row_fault n before after row f g (inr (inr p)) (inr (inr q)) = p.1 ∙ sym q.1

right_has_none : (n : ℕ) (ranges : List Range) (row : Record) (fault : SymbolFault) → IsRight n ranges row → RowFault n ranges row fault → ⊥
right_has_none n ranges row fault right (inl p) =
    let same : ◌≡◌ {A = Result Range SymbolFault} (Err fault) (Ok right.range) = sym p.1 ∙ right.is in absurd cc
right_has_none n ranges row fault right (inr (inl p)) =
    let same : p.1 ≡ right.range = written_is p.1 right.range (sym p.2 ∙ right.is) in
    let met : list_any (overlap right.range) ranges ≡ true = subst (λ (r : Range). list_any (overlap r) ranges ≡ true) same p.3 in
    let apart = right.apart in
    absurd cc
right_has_none n ranges row fault right (inr (inr p)) = p.0 right.text

-- ---- where a fault stands

-- in the first record, or because there is none
abbrev HeadFault : List Record → SymbolFault → Type 0
HeadFault table fault =
    ((table ≡ []) × (fault ≡ Header))
    ⊎ ((StartsWith table (λ first. AllText first × (first ≢ header)) × (fault ≡ Header))
    ⊎ (StartsWith table (λ first. AllText first → ⊥) × (fault ≡ Csv 0)))

-- or in a row
pub record FaultAt (table : List Record) (fault : SymbolFault) : Type 0 where
  pub number : ℕ
  pub stops : StopsAtRow table number (λ ranges row. RowFault number ranges row fault)

at_fault : (table : List Record) (n : ℕ) (fault : SymbolFault) (IsFaulty : List Range → Record → Type 0) → StopsAtRow table n IsFaulty
    → ((ranges : List Range) (row : Record) → IsFaulty ranges row → RowFault n ranges row fault) → FaultAt table fault
at_fault table n fault IsFaulty stops is = record {
  number = n;
  stops = record {
    before = stops.before;
    ranges = stops.ranges;
    right = stops.right;
    bad = stops.bad;
    later = stops.later;
    cut = stops.cut;
    place = stops.place;
    fault = is stops.ranges stops.bad stops.fault;
  };
}

cases_fault : (table : List Record) (fault : SymbolFault) → fault ≢ NoMemory → IsFirstFault table fault
    → HeadFault table fault ⊎ FaultAt table fault
cases_fault table Header reported (inl none) = inl (inl (none, refl))
cases_fault table Header reported (inr first) = inl (inr (inl (first, refl)))
cases_fault table (Fields n) reported stops = inr (at_fault table n (Fields n) _ stops (λ ranges row is. inl is))
cases_fault table (Number n) reported stops = inr (at_fault table n (Number n) _ stops (λ ranges row is. inl is))
cases_fault table (EmptyRange n) reported stops = inr (at_fault table n (EmptyRange n) _ stops (λ ranges row is. inl is))
cases_fault table (Overlap n) reported stops =
    inr (at_fault table n (Overlap n) _ stops (λ ranges row is. inr (inl (is.0, is.1, is.2, is.3, refl))))
cases_fault table (Csv n) reported (inl first) = inl (inr (inr (first.1, ap Csv first.0)))
cases_fault table (Csv n) reported (inr stops) = inr (at_fault table n (Csv n) _ stops (λ ranges row is. inr (inr (is, refl))))
cases_fault table NoMemory reported any = absurd (reported refl)

header_is_text : AllText header
unfolding AllText header lib.Utf8.encode
header_is_text = (
  (codes "start", (refl, refl)),
  ((codes "end", (refl, refl)), ((codes "module", (refl, refl)), ((codes "name", (refl, refl)), tt))),
)

-- where the first record is the header, it has no fault
no_head_fault : (table rows : List Record) (fault : SymbolFault) → table ≡ header ∷ rows → HeadFault table fault → ⊥
no_head_fault table rows fault headed (inl none) = let empty = none.0 in absurd cc
no_head_fault table rows fault headed (inr (inl other)) =
    other.0.fault.1 (cons_is other.0.first header other.0.later rows (sym other.0.cut ∙ headed)).0
no_head_fault table rows fault headed (inr (inr other)) =
    other.0.fault (subst AllText (sym (cons_is other.0.first header other.0.later rows (sym other.0.cut ∙ headed)).0) header_is_text)

one_head_fault : (table : List Record) (f g : SymbolFault) → HeadFault table f → HeadFault table g → f ≡ g
one_head_fault table f g (inl p) (inl q) = p.1 ∙ sym q.1
one_head_fault table f g (inl p) (inr (inl q)) = p.1 ∙ sym q.1
one_head_fault table f g (inl p) (inr (inr q)) = let empty = p.0 in let some = q.0.cut in absurd cc
one_head_fault table f g (inr (inl p)) (inl q) = p.1 ∙ sym q.1
one_head_fault table f g (inr (inl p)) (inr (inl q)) = p.1 ∙ sym q.1
one_head_fault table f g (inr (inl p)) (inr (inr q)) =
    absurd (q.0.fault (subst AllText (cons_is p.0.first q.0.first p.0.later q.0.later (sym p.0.cut ∙ q.0.cut)).0 p.0.fault.0))
one_head_fault table f g (inr (inr p)) (inl q) = let empty = q.0 in let some = p.0.cut in absurd cc
one_head_fault table f g (inr (inr p)) (inr (inl q)) =
    absurd (p.0.fault (subst AllText (cons_is q.0.first p.0.first q.0.later p.0.later (sym q.0.cut ∙ p.0.cut)).0 q.0.fault.0))
one_head_fault table f g (inr (inr p)) (inr (inr q)) = p.1 ∙ sym q.1

headed_at : (table : List Record) (fault : SymbolFault) → FaultAt table fault → (rows : List Record) × (table ≡ header ∷ rows)
headed_at table fault at =
    let s = at.stops in
    (s.right.rows ++ s.bad ∷ s.later, s.cut ∙ ap (λ (l : List Record). l ++ s.bad ∷ s.later) s.right.headed)

-- of two rows at fault the first one would be right
no_later_fault : (table : List Record) (f g : SymbolFault) (p : FaultAt table f) (q : FaultAt table g) → p.number < q.number → ⊥
no_later_fault table f g p q lt =
    let a = p.stops in
    let b = q.stops in
    let found = earlier_cut a.before b.before a.bad b.bad a.later b.later (sym a.cut ∙ b.cut) (omega (arith, a.place, b.place, lt)) in
    let right = right_at a.before b.before found.0 a.bad a.ranges b.ranges a.right b.right found.1 in
    right_has_none p.number a.ranges a.bad f (subst (λ (n : ℕ). IsRight n a.ranges a.bad) a.place right) a.fault

same_place : (table : List Record) (f g : SymbolFault) (p : FaultAt table f) (q : FaultAt table g) → p.number ≡ q.number → f ≡ g
same_place table f g p q same =
    let a = p.stops in
    let b = q.stops in
    let cut = same_cut a.before b.before a.bad b.bad a.later b.later (sym a.cut ∙ b.cut) (a.place ∙ same ∙ sym b.place) in
    one_row_fault p.number a.ranges b.ranges a.bad f g a.fault
    (subst (λ (n : ℕ). RowFault n b.ranges a.bad g) (sym same)
    (subst (λ (row : Record). RowFault q.number b.ranges row g) (sym cut.1) b.fault))

-- two first faults of a table, neither of them out of memory, are one
pub one_symbol_fault : (table : List Record) (f g : SymbolFault) → f ≢ NoMemory → g ≢ NoMemory → IsFirstFault table f
    → IsFirstFault table g → f ≡ g
one_symbol_fault table f g reported reported_too p q =
    elim (cases_fault table f reported p) [
      | inl a ↦ elim (cases_fault table g reported_too q) [
        | inl b ↦ one_head_fault table f g a b
        | inr b ↦ let rows = headed_at table g b in absurd (no_head_fault table rows.0 f rows.1 a)
      ]
      | inr a ↦ elim (cases_fault table g reported_too q) [
        | inl b ↦ let rows = headed_at table f a in absurd (no_head_fault table rows.0 g rows.1 b)
        | inr b ↦ elim (cases_order a.number b.number) [
          | inl same ↦ same_place table f g a b same
          | inr (inl lt) ↦ absurd (no_later_fault table f g a b lt)
          | inr (inr gt) ↦ absurd (no_later_fault table g f b a gt)
        ]
      ]
    ]

-- records that write ranges have no first fault but out of memory
pub table_has_no_fault : (table : List Record) (ranges : List Range) (fault : SymbolFault) → WriteRanges table ranges → fault ≢ NoMemory
    → IsFirstFault table fault → ⊥
table_has_no_fault table ranges fault right reported is =
    elim (cases_fault table fault reported is) [
      | inl head ↦ no_head_fault table right.rows fault right.headed head
      | inr at ↦
          let s = at.stops in
          right_has_none at.number s.ranges s.bad fault
          (subst (λ (n : ℕ). IsRight n s.ranges s.bad) s.place (right_at s.before table s.later s.bad s.ranges ranges s.right right s.cut))
          s.fault
    ]

-- ---- one table

abbrev StartsBelow : Range → Range → Type 0
StartsBelow a b = a.start < b.start

starts_strict : IsStrictOrder StartsBelow
starts_strict = record {
  irreflexive = λ a lt. omega (arith, lt);
  transitive = λ a b c lt less. omega (arith, lt, less);
}

table_rises : (table : List Range) → IsTable table → IsRising StartsBelow table
table_rises [] is = tt
table_rises (r ∷ rs) is = (
  each_member (StartsBelow r) rs (λ x listed.
      let first : r.start < r.end = All-head (λ z. z.start < z.end) r rs is.filled in
      let next : r.end ≤ (get_or rs listed.0 x).start = is.rising 0 (suc listed.0) x (omega arith) (omega (arith, listed.1)) in
      let at : get_or rs listed.0 x ≡ x = listed.2 in
      let same = ap (λ (z : Range). z.start) at in
      omega (arith, first, next, same)),
  table_rises rs record {
    filled = All-tail (λ z. z.start < z.end) r rs is.filled;
    rising = λ i j d lt within. is.rising (suc i) (suc j) d (omega (arith, lt)) (omega (arith, within));
  },
)

-- two tables that are read of the same records are one
pub one_table : (records : List Record) (a b : List Range) → Reads records (Ok a) → Reads records (Ok b) → a ≡ b
one_table records a b p q =
    let same : p.0 ≡ q.0 = one_ranges records p.0 q.0 p.1 q.1 in
    let moved : IsPermutation p.0 b = subst (λ (rs : List Range). IsPermutation rs b) (sym same) q.2 in
    same_members StartsBelow starts_strict a b (table_rises a p.3) (table_rises b q.3)
    (λ x h. Contains-permutation p.0 b x moved (back p.0 a x p.2 h)) (λ x h. Contains-permutation p.0 a x p.2 (back p.0 b x moved h))
  where
    back : (xs ys : List Range) (x : Range) → IsPermutation xs ys → Contains ys x → Contains xs x
    back xs ys x moved h = Contains-permutation ys xs x (IsPermutation-sym xs ys moved) h

-- ---- one reading

-- two readings of the same records, neither of them out of memory, come to one
pub one_reading : (records : List Record) (a b : Result (List Range) SymbolFault) → a ≢ Err NoMemory → b ≢ Err NoMemory → Reads records a
    → Reads records b → a ≡ b
one_reading records (Ok a) (Ok b) reported reported_too p q = ap Ok (one_table records a b p q)
one_reading records (Ok a) (Err g) reported reported_too p q =
    absurd (table_has_no_fault records p.0 g p.1 (λ e. reported_too (ap Err e)) q)
one_reading records (Err f) (Ok b) reported reported_too p q =
    absurd (table_has_no_fault records q.0 f q.1 (λ e. reported (ap Err e)) p)
one_reading records (Err f) (Err g) reported reported_too p q =
    ap Err (one_symbol_fault records f g (λ e. reported (ap Err e)) (λ e. reported_too (ap Err e)) p q)
