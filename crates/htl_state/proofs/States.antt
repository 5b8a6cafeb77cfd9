-- A state is read exactly from its spelling.
use Rattle.std.proofs.Common.{◌≡◌, ℕ, ◌+◌, ◌-◌, ◌^◌, ◌<◌, ◌≤◌, Bool, true, false, not, ◌||◌, eqb, nat_eq, nat_lt, List, [], ◌++◌, length}
use Rattle.std.proofs.Common.{take, drop, Option, Some, None, cond, refl, sym, ap, ◌∙◌, append_assoc, arith, inl, inr}
use Rattle.std.specs.Prelude.{codes, Result, Ok, Err, MatchResult, IfOk, ◌⊎◌}
use Rattle.std.specs.List.{starts_with, flat_map}
use Rattle.std.proofs.lemmas.Slice.Eq.{bytes_eq-Decides}
use Rattle.std.proofs.lemmas.List.{append-nil, length-append, length-take, length-drop, take-append-drop, take-take, take_at, nil_from_length}
use Rattle.std.proofs.lemmas.Bool.{ltb-false, le-ltb, eqb-true, eqb-false, eq-eqb, ne_eqb, or_parts, or_from, not-false, not_from_true}
use Rattle.htl_segment.specs.Numbers.{IsBytes, number, bytes_of}
use Rattle.htl_segment.proofs.Bytes.{IsBytes-drop, IsBytes-take, field, number-lt, after, number_here, after_number, length-bytes_of}
use Rattle.htl_state.specs.declared.fault.Fault.{Fault}
use Rattle.htl_state.specs.declared.fault.Fault.TheVariants as faults
use Rattle.htl_state.specs.declared.fault.StateError.{StateError}
use Rattle.htl_state.specs.Checksum.{checksum}
use Rattle.htl_state.specs.Rows.{Part, State, state}
use Rattle.htl_state.specs.Format.{stack_bytes, list_bytes, part_bytes, header_bytes, body_bytes, sealed}
use Rattle.htl_state.specs.Reading.{Reading, refused, and_then, list_in, stacks, setting, parts_in, ended, body_in, frame_fault, placed, framed, state_in}
use Rattle.htl_state.specs.WellFormed.{StackFits, ListFits, PartsFit, WellFormed, Spells}
use Rattle.htl_state.proofs.Readings.{two_steps, let_pass, ok_is, the_ok}
use Rattle.htl_state.proofs.Lists.{IsBytes-tail, list_sound, list_complete}
use Rattle.htl_state.proofs.Stacks.{stacks_exact}
use Rattle.htl_state.proofs.Parts.{parts_sound, parts_complete}
use Rattle.htl_state.proofs.Sums.{with_bytes-lt}

-- ---- the table and the parts

record BodyRead (id processors : ℕ) (b : List ℕ) (s : State) : Type 0 where
  trace_id : s.trace_id ≡ id
  count : length s.parts ≡ processors
  stacks : ListFits stacks StackFits s.stacks
  parts : PartsFit id processors 0 (length s.stacks) s.parts
  bytes_are : b ≡ list_bytes stack_bytes s.stacks ++ flat_map part_bytes s.parts

-- what is read up to the end
record Whole (s : State) (t : State) (b : List ℕ) : Type 0 where
  same : s ≡ t
  none : b ≡ []

whole_from : (s t : State) (b rest : List ℕ) → ended s b ≡ Ok (t, rest) → Whole s t b
whole_from s t b rest e =
    let p = let_pass (eqb (length b) 0) (refused faults.Excess b) (s, b) (t, rest) e in
    record { same = ap (λ (x : State × List ℕ). x.0) p.1; none = nil_from_length b (eqb-true _ _ p.0) }

abbrev from_parts : ℕ → List (List ℕ) → List Part → List ℕ → Reading State
from_parts id table parts b2 = ended (state id table parts) b2

abbrev from_table : ℕ → ℕ → List (List ℕ) → List ℕ → Reading State
from_table id processors table b1 =
    and_then (parts_in (setting id processors 0 0 (length table)) processors 0 [] b1) (from_parts id table)

body_sound : (id processors : ℕ) (b : List ℕ) (s : State) (rest : List ℕ) → IsBytes b → body_in id processors b ≡ Ok (s, rest)
    → BodyRead id processors b s
unfolding body_in
body_sound id processors b s rest small e =
    let t1 = two_steps (list_in stacks (setting id processors 0 0 0) b) (from_table id processors) (s, rest) e in
    let t2 = two_steps (parts_in (setting id processors 0 0 (length t1.read)) processors 0 [] t1.rest) (from_parts id t1.read) (s, rest) t1.next_is in
    let done = whole_from (state id t1.read t2.read) s t2.rest rest t2.next_is in
    let l1 = list_sound stacks (setting id processors 0 0 0) StackFits (stacks_exact (setting id processors 0 0 0)) b t1.read t1.rest small t1.first_is in
    let tail : IsBytes t1.rest = IsBytes-tail (list_bytes stack_bytes t1.read) t1.rest (rw l1.1 at small) in
    let l2 = parts_sound id processors (length t1.read) processors 0 [] t1.rest t2.read t2.rest tail t2.first_is in
    let parts_are : l2.more ≡ t2.read = sym l2.all in
    let last : t1.rest ≡ flat_map part_bytes t2.read = l2.bytes_are
    ∙ ap (λ (x : List Part). flat_map part_bytes x ++ t2.rest) parts_are
    ∙ ap (λ (x : List ℕ). flat_map part_bytes t2.read ++ x) done.none ∙ append-nil (flat_map part_bytes t2.read) in
    let read : BodyRead id processors b (state id t1.read t2.read) = record {
      trace_id = refl;
      count = sym (ap length parts_are) ∙ l2.count;
      stacks = l1.0;
      parts = rw parts_are at l2.fit;
      bytes_are = l1.1 ∙ ap (λ (x : List ℕ). list_bytes stack_bytes t1.read ++ x) last;
    } in
    rw done.same at read

body_complete : (s : State) → WellFormed s
    → body_in s.trace_id (length s.parts) (list_bytes stack_bytes s.stacks ++ flat_map part_bytes s.parts) ≡ Ok (s, [])
unfolding body_in
body_complete s fits =
    let n = length s.parts in
    let first = list_complete stacks (setting s.trace_id n 0 0 0) StackFits (stacks_exact (setting s.trace_id n 0 0 0)) s.stacks
    (flat_map part_bytes s.parts) fits.stacks in
    let others : parts_in (setting s.trace_id n 0 0 (length s.stacks)) n 0 [] (flat_map part_bytes s.parts) ≡ Ok (s.parts, []) =
    rw (append-nil (flat_map part_bytes s.parts)) at (parts_complete s.trace_id n (length s.stacks) s.parts 0 [] [] fits.parts) in
    rw (first, others) refl

-- ---- the header and the end

abbrev error : Fault → ℕ → StateError
error fault offset = record { fault = fault; offset = offset }

-- a test of the header that found no fault
passed : (t : Bool) (e : StateError) (next : Option StateError) → cond t (Some e) next ≡ None → (t ≡ false) × (next ≡ None)
passed true e next is = absurd cc
passed false e next is = (refl, is)

pub record Framed (b : List ℕ) : Type 0 where
  pub long : 40 ≤ length b
  pub magic : codes "HLA1" ≡ take 4 b
  pub version : number 4 2 b ≡ 1
  pub reserved : number 6 2 b ≡ 0
  pub processors : (1 ≤ number 16 8 b) × (number 16 8 b ≤ 256)
  pub len : number (length b - 16) 8 b ≡ length b
  pub sum : number (length b - 8) 8 b ≡ checksum (take (length b - 8) b)

pub framed_from_none : (b : List ℕ) → frame_fault b ≡ None → Framed b
unfolding frame_fault
framed_from_none b none =
    let t1 = passed (nat_lt (length b) 40) (error faults.Short 0) _ none in
    let t2 = passed (not (starts_with nat_eq b (codes "HLA1"))) (error faults.Magic 0) _ t1.1 in
    let t3 = passed (not (eqb (number 4 2 b) 1)) (error faults.Version 4) _ t2.1 in
    let t4 = passed (not (eqb (number 6 2 b) 0)) (error faults.Reserved 6) _ t3.1 in
    let t5 = passed (eqb (number 16 8 b) 0 || nat_lt 256 (number 16 8 b)) (error faults.Processors 16) _ t4.1 in
    let t6 = passed (not (eqb (number (length b - 16) 8 b) (length b))) (error faults.Length (length b - 16)) _ t5.1 in
    let t7 = passed (not (eqb (number (length b - 8) 8 b) (checksum (take (length b - 8) b)))) (error faults.Checksum (length b - 8)) None t6.1 in
    let tests = or_parts (eqb (number 16 8 b) 0) (nat_lt 256 (number 16 8 b)) t5.0 in
    let some : number 16 8 b ≡ 0 → ⊥ = eqb-false _ _ tests.0 in
    record {
      long = ltb-false _ _ t1.0;
      magic = (bytes_eq-Decides (codes "HLA1") (take 4 b)).0 (not-false _ t2.0);
      version = eqb-true _ _ (not-false _ t3.0);
      reserved = eqb-true _ _ (not-false _ t4.0);
      processors = (omega arith, ltb-false _ _ tests.1);
      len = eqb-true _ _ (not-false _ t6.0);
      sum = eqb-true _ _ (not-false _ t7.0);
    }

none_from_framed : (b : List ℕ) → Framed b → frame_fault b ≡ None
unfolding frame_fault
none_from_framed b k =
    let t1 : nat_lt (length b) 40 ≡ false = le-ltb _ _ k.long in
    let t2 : not (starts_with nat_eq b (codes "HLA1")) ≡ false = rw (← k.magic) refl in
    let t3 : not (eqb (number 4 2 b) 1) ≡ false = not_from_true _ (eq-eqb _ _ k.version) in
    let t4 : not (eqb (number 6 2 b) 0) ≡ false = not_from_true _ (eq-eqb _ _ k.reserved) in
    let some : number 16 8 b ≡ 0 → ⊥ = λ z. omega (arith, k.processors.0) in
    let t5 : (eqb (number 16 8 b) 0 || nat_lt 256 (number 16 8 b)) ≡ false =
    or_from _ _ (ne_eqb _ _ some) (le-ltb _ _ k.processors.1) in
    let t6 : not (eqb (number (length b - 16) 8 b) (length b)) ≡ false = not_from_true _ (eq-eqb _ _ k.len) in
    let t7 : not (eqb (number (length b - 8) 8 b) (checksum (take (length b - 8) b))) ≡ false = not_from_true _ (eq-eqb _ _ k.sum) in
    rw (t1, t2, t3, t4, t5, t6, t7) refl

five : (a b c d e rest : List ℕ) → (a ++ b ++ c ++ d ++ e) ++ rest ≡ a ++ (b ++ (c ++ (d ++ (e ++ rest))))
five a b c d e rest = simp append_assoc

-- the header of bytes whose frame has no fault
header_parts : (b : List ℕ) (s : State) → IsBytes b → Framed b → s.trace_id ≡ number 8 8 b → length s.parts ≡ number 16 8 b
    → b ≡ header_bytes s ++ drop 24 b
unfolding header_bytes
header_parts b s small k id count =
    let long = k.long in
    let f4 = field 4 2 6 b small (omega arith) refl in
    let f6 = field 6 2 8 b small (omega arith) refl in
    let f8 = field 8 8 16 b small (omega arith) refl in
    let f16 = field 16 8 24 b small (omega arith) refl in
    let magic : b ≡ codes "HLA1" ++ drop 4 b = sym (take-append-drop 4 b) ∙ ap (λ (x : List ℕ). x ++ drop 4 b) (sym k.magic) in
    let all : b ≡ codes "HLA1" ++ (bytes_of 2 (number 4 2 b) ++ (bytes_of 2 (number 6 2 b) ++ (bytes_of 8 (number 8 8 b)
    ++ (bytes_of 8 (number 16 8 b) ++ drop 24 b)))) = magic
    ∙ ap (λ (x : List ℕ). codes "HLA1" ++ x) (f4
    ∙ ap (λ (x : List ℕ). bytes_of 2 (number 4 2 b) ++ x) (f6
    ∙ ap (λ (x : List ℕ). bytes_of 2 (number 6 2 b) ++ x) (f8
    ∙ ap (λ (x : List ℕ). bytes_of 8 (number 8 8 b) ++ x) f16))) in
    let put : codes "HLA1" ++ (bytes_of 2 (number 4 2 b) ++ (bytes_of 2 (number 6 2 b) ++ (bytes_of 8 (number 8 8 b)
    ++ (bytes_of 8 (number 16 8 b) ++ drop 24 b))))
    ≡ codes "HLA1" ++ (bytes_of 2 1 ++ (bytes_of 2 0 ++ (bytes_of 8 s.trace_id ++ (bytes_of 8 (length s.parts) ++ drop 24 b)))) =
    rw (k.version, k.reserved, id, count) refl in
    all ∙ put ∙ sym (five (codes "HLA1") (bytes_of 2 1) (bytes_of 2 0) (bytes_of 8 s.trace_id) (bytes_of 8 (length s.parts)) (drop 24 b))

length-header : (s : State) → length (header_bytes s) ≡ 24
unfolding header_bytes
length-header s =
    omega (
      arith,
      length-append (codes "HLA1" ++ bytes_of 2 1 ++ bytes_of 2 0 ++ bytes_of 8 s.trace_id) (bytes_of 8 (length s.parts)),
      length-append (codes "HLA1" ++ bytes_of 2 1 ++ bytes_of 2 0) (bytes_of 8 s.trace_id),
      length-append (codes "HLA1" ++ bytes_of 2 1) (bytes_of 2 0),
      length-append (codes "HLA1") (bytes_of 2 1),
      length-bytes_of 2 1,
      length-bytes_of 2 0,
      length-bytes_of 8 s.trace_id,
      length-bytes_of 8 (length s.parts),
    )

-- the front of bytes that begin with a header is that header, and what follows it there
front_of : (b head : List ℕ) (n m : ℕ) → length head ≡ m → m ≤ n → b ≡ head ++ drop m b → take n b ≡ head ++ drop m (take n b)
front_of b head n m len le parts =
    let split : take n b ≡ take m (take n b) ++ drop m (take n b) = sym (take-append-drop m (take n b)) in
    let k : n ≡ m + (n - m) = omega arith in
    let first : take m (take n b) ≡ take m b = take-take m n b le in
    let head_is : take m b ≡ head = ap (take m) parts ∙ take_at head (drop m b) m len in
    split ∙ ap (λ (x : List ℕ). x ++ drop m (take n b)) (first ∙ head_is)

-- what a header is read as
record HeaderAgain (b : List ℕ) (s : State) : Type 0 where
  magic : codes "HLA1" ≡ take 4 b
  version : number 4 2 b ≡ 1
  reserved : number 6 2 b ≡ 0
  trace_id : number 8 8 b ≡ s.trace_id
  count : number 16 8 b ≡ length s.parts

header_again : (b : List ℕ) (s : State) (rest : List ℕ) → s.trace_id < 2 ^ 64 → length s.parts ≤ 256 → drop 0 b ≡ header_bytes s ++ rest
    → HeaderAgain b s
unfolding header_bytes
header_again b s rest id few here =
    let r16 = bytes_of 8 (length s.parts) ++ rest in
    let r8 = bytes_of 8 s.trace_id ++ r16 in
    let r6 = bytes_of 2 0 ++ r8 in
    let r4 = bytes_of 2 1 ++ r6 in
    let d0 : drop 0 b ≡ codes "HLA1" ++ r4 =
    here ∙ five (codes "HLA1") (bytes_of 2 1) (bytes_of 2 0) (bytes_of 8 s.trace_id) (bytes_of 8 (length s.parts)) rest in
    let d4 : drop 4 b ≡ r4 = after 0 4 4 b (codes "HLA1") r4 d0 refl refl in
    let d6 : drop 6 b ≡ r6 = after_number 4 2 6 1 b r6 d4 refl in
    let d8 : drop 8 b ≡ r8 = after_number 6 2 8 0 b r8 d6 refl in
    let d16 : drop 16 b ≡ r16 = after_number 8 8 16 s.trace_id b r16 d8 refl in
    record {
      magic = sym (ap (take 4) d0 ∙ take_at (codes "HLA1") r4 4 refl);
      version = number_here 4 2 1 b r6 d4 (omega arith);
      reserved = number_here 6 2 0 b r8 d6 (omega arith);
      trace_id = number_here 8 8 s.trace_id b r16 d8 id;
      count = number_here 16 8 (length s.parts) b rest d16 (omega arith);
    }

-- ---- the end

-- bytes whose last 16 are their length and the checksum are sealed
sealed_parts : (b : List ℕ) → IsBytes b → Framed b → b ≡ sealed (take (length b - 16) b)
unfolding sealed
sealed_parts b small k =
    let n = length b in
    let long = k.long in
    let body = take (n - 16) b in
    let body_len : length body + 16 ≡ n = omega (arith, length-take (n - 16) b) in
    let f1 : drop (n - 16) b ≡ bytes_of 8 (number (n - 16) 8 b) ++ drop (n - 8) b = field (n - 16) 8 (n - 8) b small (omega arith) (omega arith) in
    let f2 : drop (n - 8) b ≡ bytes_of 8 (number (n - 8) 8 b) ++ drop n b = field (n - 8) 8 n b small (omega arith) (omega arith) in
    let none : drop n b ≡ [] = nil_from_length (drop n b) (omega (arith, length-drop n b)) in
    let all : b ≡ body ++ (bytes_of 8 n ++ drop (n - 8) b) =
    sym (take-append-drop (n - 16) b) ∙ ap (λ (x : List ℕ). body ++ x) (f1 ∙ ap (λ (x : ℕ). bytes_of 8 x ++ drop (n - 8) b) k.len) in
    let grouped : b ≡ (body ++ bytes_of 8 n) ++ drop (n - 8) b = all ∙ sym (append_assoc body (bytes_of 8 n) (drop (n - 8) b)) in
    let front_len : length (body ++ bytes_of 8 n) ≡ n - 8 = omega (arith, length-append body (bytes_of 8 n), length-bytes_of 8 n) in
    let front : take (n - 8) b ≡ body ++ bytes_of 8 n =
    ap (take (n - 8)) grouped ∙ take_at (body ++ bytes_of 8 n) (drop (n - 8) b) (n - 8) front_len in
    let last : drop (n - 8) b ≡ bytes_of 8 (checksum (body ++ bytes_of 8 n)) =
    f2 ∙ ap (λ (x : List ℕ). bytes_of 8 (number (n - 8) 8 b) ++ x) none ∙ append-nil (bytes_of 8 (number (n - 8) 8 b))
    ∙ ap (bytes_of 8) (k.sum ∙ ap checksum front) in
    rw body_len (grouped ∙ ap (λ (x : List ℕ). (body ++ bytes_of 8 n) ++ x) last)

-- a sealed body is 16 bytes longer
sealed_small : (body : List ℕ) → length (sealed body) < 2 ^ 64 → length body + 16 < 2 ^ 64
unfolding sealed
sealed_small body lt =
    let front = body ++ bytes_of 8 (length body + 16) in
    omega (
      arith,
      length-append front (bytes_of 8 (checksum front)),
      length-append body (bytes_of 8 (length body + 16)),
      length-bytes_of 8 (length body + 16),
      length-bytes_of 8 (checksum front),
    )

record SealedAgain (body b : List ℕ) : Type 0 where
  len : number (length b - 16) 8 b ≡ length b
  sum : number (length b - 8) 8 b ≡ checksum (take (length b - 8) b)
  size : length b ≡ length body + 16
  front : take (length b - 16) b ≡ body

sealed_again : (body : List ℕ) → length body + 16 < 2 ^ 64 → SealedAgain body (sealed body)
unfolding sealed
sealed_again body few =
    let m = length body in
    let n = m + 16 in
    let front = body ++ bytes_of 8 n in
    let last = bytes_of 8 (checksum front) in
    let b = front ++ last in
    let front_len : length front ≡ m + 8 = omega (arith, length-append body (bytes_of 8 n), length-bytes_of 8 n) in
    let size : length b ≡ n = omega (arith, length-append front last, length-bytes_of 8 (checksum front)) in
    let a1 : length b - 16 ≡ m = omega arith in
    let a2 : length b - 8 ≡ m + 8 = omega arith in
    let d0 : drop 0 b ≡ body ++ (bytes_of 8 n ++ last) = append_assoc body (bytes_of 8 n) last in
    let dm : drop m b ≡ bytes_of 8 n ++ last = after 0 m m b body (bytes_of 8 n ++ last) d0 refl (omega arith) in
    let dl : drop (m + 8) b ≡ last = after_number m 8 (m + 8) n b last dm refl in
    let dl' : drop (m + 8) b ≡ last ++ [] = dl ∙ sym (append-nil last) in
    let cut : take (m + 8) b ≡ front = take_at front last (m + 8) front_len in
    record {
      len = rw (a1, size) (number_here m 8 n b last dm few);
      sum = rw (a2, cut) (number_here (m + 8) 8 (checksum front) b [] dl' (with_bytes-lt 0 front (omega arith)));
      size = size;
      front = rw a1 (ap (take m) d0 ∙ take_at body (bytes_of 8 n ++ last) m refl);
    }

-- ---- a whole state

-- a reading of the whole that succeeded
record Placed (b : List ℕ) (s : State) : Type 0 where
  no_fault : frame_fault b ≡ None
  rest : List ℕ
  read : body_in (number 8 8 b) (number 16 8 b) (drop 24 (take (length b - 16) b)) ≡ Ok (s, rest)

placed_ok : (end : ℕ) (r : Reading State) (s : State) → placed end r ≡ Ok s → (rest : List ℕ) × (r ≡ Ok (s, rest))
placed_ok end (Ok x) s e = let is = ok_is x.0 s e in (x.1, ap (λ (y : State). Ok (y, x.1)) is)
placed_ok end (Err refused) s e = absurd cc

framed_ok : (b : List ℕ) (fault : Option StateError) (s : State) → frame_fault b ≡ fault → framed b fault ≡ Ok s → Placed b s
framed_ok b None s is e =
    let p = placed_ok (length b - 16) (body_in (number 8 8 b) (number 16 8 b) (drop 24 (take (length b - 16) b))) s e in
    record { no_fault = is; rest = p.0; read = p.1 }
framed_ok b (Some error) s is e = absurd cc

pub state_sound : (b : List ℕ) (s : State) → IsBytes b → state_in b ≡ Ok s → Spells b s
unfolding state_in body_bytes
state_sound b s small e =
    let p = framed_ok b (frame_fault b) s refl e in
    let k = framed_from_none b p.no_fault in
    let long = k.long in
    let n = length b in
    let inner = drop 24 (take (n - 16) b) in
    let small_inner : IsBytes inner = IsBytes-drop 24 (take (n - 16) b) (IsBytes-take (n - 16) b small) in
    let read = body_sound (number 8 8 b) (number 16 8 b) inner s p.rest small_inner p.read in
    let head = header_parts b s small k read.trace_id read.count in
    let head_take : take (n - 16) b ≡ header_bytes s ++ inner = front_of b (header_bytes s) (n - 16) 24 (length-header s) (omega arith) head in
    let body : take (n - 16) b ≡ header_bytes s ++ list_bytes stack_bytes s.stacks ++ flat_map part_bytes s.parts =
    head_take ∙ ap (λ (x : List ℕ). header_bytes s ++ x) read.bytes_are
    ∙ sym (append_assoc (header_bytes s) (list_bytes stack_bytes s.stacks) (flat_map part_bytes s.parts)) in
    let bytes_are : b ≡ sealed (header_bytes s ++ list_bytes stack_bytes s.stacks ++ flat_map part_bytes s.parts) =
    sealed_parts b small k ∙ ap sealed body in
    let below : number (n - 16) 8 b < 2 ^ 64 = number-lt (n - 16) 8 b small in
    record {
      bytes_are = bytes_are;
      fits = record {
        trace_id = rw (← read.trace_id) at (number-lt 8 8 b small);
        processors = (omega (arith, k.processors.0, read.count), omega (arith, k.processors.1, read.count));
        stacks = read.stacks;
        parts = rw (← read.trace_id, ← read.count) at read.parts;
        small = omega (arith, below, k.len, ap length bytes_are);
      };
    }

pub state_complete : (b : List ℕ) (s : State) → Spells b s → state_in b ≡ Ok s
unfolding state_in body_bytes
state_complete b s spells =
    let fits = spells.fits in
    let inner = list_bytes stack_bytes s.stacks ++ flat_map part_bytes s.parts in
    let body = header_bytes s ++ inner in
    let b' = sealed body in
    let same : body ≡ header_bytes s ++ list_bytes stack_bytes s.stacks ++ flat_map part_bytes s.parts =
    sym (append_assoc (header_bytes s) (list_bytes stack_bytes s.stacks) (flat_map part_bytes s.parts)) in
    let small : length b' < 2 ^ 64 = omega (arith, fits.small, ap (λ (x : List ℕ). length (sealed x)) same) in
    let again = sealed_again body (sealed_small body small) in
    let n = length b' in
    let body_len : length body ≡ 24 + length inner = omega (arith, length-append (header_bytes s) inner, length-header s) in
    let size : n ≡ length body + 16 = again.size in
    let long : 40 ≤ n = omega arith in
    let whole : drop 0 b' ≡ header_bytes s ++ (inner ++ drop (n - 16) b') =
    sym (take-append-drop (n - 16) b') ∙ ap (λ (x : List ℕ). x ++ drop (n - 16) b') again.front
    ∙ append_assoc (header_bytes s) inner (drop (n - 16) b') in
    let head = header_again b' s (inner ++ drop (n - 16) b') fits.trace_id fits.processors.1 whole in
    let count = head.count in
    let none : frame_fault b' ≡ None = none_from_framed b' (record {
      long = long;
      magic = head.magic;
      version = head.version;
      reserved = head.reserved;
      processors = (omega (arith, count, fits.processors.0), omega (arith, count, fits.processors.1));
      len = again.len;
      sum = again.sum;
    }) in
    let left : drop 24 (take (n - 16) b') ≡ inner =
    ap (drop 24) again.front ∙ after 0 24 24 body (header_bytes s) inner refl (length-header s) refl in
    let read : body_in (number 8 8 b') (number 16 8 b') (drop 24 (take (n - 16) b')) ≡ Ok (s, []) =
    rw (head.trace_id, head.count, left) (body_complete s fits) in
    let done : framed b' (frame_fault b') ≡ Ok s = rw (none, read) refl in
    rw (spells.bytes_are ∙ ap sealed (sym same)) done

-- bytes of a state have a frame without a fault
pub framed_state : (b : List ℕ) (s : State) → Spells b s → Framed b
unfolding state_in
framed_state b s spells = framed_from_none b (framed_ok b (frame_fault b) s refl (state_complete b s spells)).no_fault

-- ---- what decoding answers

-- what is read is spelled by the bytes
pub read_is_spelled : (b : List ℕ) (result : Result State StateError) (Q : StateError → Type 0) → IsBytes b
    → MatchResult result (λ s. state_in b ≡ Ok s) Q → IfOk result (λ s. Spells b s)
read_is_spelled b (Ok s) Q small read = state_sound b s small read
read_is_spelled b (Err error) Q small refused = tt

never : (s : State) (error : StateError) → the_ok {X = State} {E = StateError} s ≡ Err error → ⊥
never s error e = cc

-- what the bytes spell is read, unless memory runs out
pub spelled_is_read : (b : List ℕ) (result : Result State StateError)
    → MatchResult result (λ s. state_in b ≡ Ok s) (λ error. (error.fault ≡ faults.NoMemory) ⊎ (state_in b ≡ Err error)) → (s : State)
    → Spells b s → MatchResult result (λ t. t ≡ s) (λ error. error.fault ≡ faults.NoMemory)
spelled_is_read b (Ok t) read s spells = ok_is t s (sym read ∙ state_complete b s spells)
spelled_is_read b (Err error) refused s spells =
    elim refused [ inl none ↦ none | inr first ↦ absurd (never s error (sym (state_complete b s spells) ∙ first)) ]
