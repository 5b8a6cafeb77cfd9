-- A latest event is read exactly where the bytes begin with one that fits.
use Rattle.std.proofs.Common.{◌≡◌, ℕ, zero, suc, ◌^◌, ◌<◌, ◌≤◌, true, false, ◌||◌, eqb, nat_lt, nat_le, List, ◌++◌, length, drop}
use Rattle.std.proofs.Common.{Option, Some, None, refl, sym, ap, ◌∙◌, append_assoc, arith}
use Rattle.std.proofs.lemmas.List.{length-append}
use Rattle.std.proofs.lemmas.Bool.{ltb-false, leb-false, le-ltb, lt-leb, eqb-false, ne_eqb, or_parts, or_from}
use Rattle.htl_event.specs.declared.kind.Kind.{Kind}
use Rattle.htl_event.specs.declared.kind.Kind.TheVariants as kinds
use Rattle.htl_event.specs.Handles.{opens_or_closes}
use Rattle.htl_event.specs.Slots.{base_of}
use Rattle.htl_segment.specs.Numbers.{IsBytes, number, bytes_of}
use Rattle.htl_segment.specs.Content.{kind_code}
use Rattle.htl_segment.proofs.Bytes.{field, number-lt, number_here, after_number, length-bytes_of}
use Rattle.htl_segment.proofs.PassedTests.{some_is}
use Rattle.htl_state.specs.declared.rows.LatestRow.{LatestRow}
use Rattle.htl_state.specs.declared.rows.Setting.{Setting}
use Rattle.htl_state.specs.Format.{latest_bytes}
use Rattle.htl_state.specs.Reading.{kind_of, latest_of, latest_in, latest}
use Rattle.htl_state.specs.WellFormed.{LatestFits}
use Rattle.htl_state.proofs.Readings.{found}
use Rattle.htl_state.proofs.Lists.{IsExact}

-- ---- kinds

kind_sound : (code : ℕ) (kind : Kind) → kind_of code ≡ Some kind → (kind_code kind ≡ code) × (opens_or_closes kind ≡ true)
kind_sound zero kind e = absurd cc
kind_sound (suc zero) kind e = rw (← some_is kinds.Opened kind e) (refl, refl)
kind_sound (suc (suc zero)) kind e = rw (← some_is kinds.Closed kind e) (refl, refl)
kind_sound (suc (suc (suc n))) kind e = absurd cc

kind_complete : (kind : Kind) → opens_or_closes kind ≡ true → kind_of (kind_code kind) ≡ Some kind
kind_complete kinds.Opened e = refl
kind_complete kinds.Closed e = refl
kind_complete kinds.BadRef e = absurd cc
kind_complete kinds.Snapshot e = absurd cc
kind_complete kinds.Ref e = absurd cc
kind_complete kinds.Deref e = absurd cc
kind_complete kinds.Exited e = absurd cc

code_lt : (kind : Kind) → kind_code kind < 256 ^ 4
code_lt kinds.Opened = omega arith
code_lt kinds.Closed = omega arith
code_lt kinds.BadRef = omega arith
code_lt kinds.Snapshot = omega arith
code_lt kinds.Ref = omega arith
code_lt kinds.Deref = omega arith
code_lt kinds.Exited = omega arith

-- six pieces and what follows them, grouped in two ways
regrouped : (a b c d e f rest : List ℕ) → a ++ (b ++ (c ++ (d ++ (e ++ (f ++ rest))))) ≡ (a ++ b ++ c ++ d ++ e ++ f) ++ rest
regrouped a b c d e f rest = simp append_assoc

-- ---- from bytes to the row

abbrev row_at : List ℕ → Kind → LatestRow
row_at b kind = record {
  sequence = number 0 8 b;
  kind = kind;
  process = number 12 4 b;
  thread = number 16 4 b;
  handle = number 20 4 b;
  stack = number 24 4 b;
}

record Found (b : List ℕ) (row : LatestRow) (rest : List ℕ) : Type 0 where
  kind : Kind
  code : kind_of (number 8 4 b) ≡ Some kind
  row_is : row_at b kind ≡ row
  rest_is : drop 28 b ≡ rest

found_row : (b : List ℕ) (kind : Option Kind) (row : LatestRow) (rest : List ℕ) → kind_of (number 8 4 b) ≡ kind
    → latest_of b kind ≡ Some (row, rest) → Found b row rest
found_row b None row rest code e = absurd cc
found_row b (Some kind) row rest code e =
    let pair = some_is (row_at b kind, drop 28 b) (row, rest) e in
    record {
      kind = kind;
      code = code;
      row_is = ap (λ (x : LatestRow × List ℕ). x.0) pair;
      rest_is = ap (λ (x : LatestRow × List ℕ). x.1) pair;
    }

parts : (b : List ℕ) (kind : Kind) → IsBytes b → 28 ≤ length b → kind_code kind ≡ number 8 4 b → b ≡ latest_bytes (row_at b kind) ++ drop 28 b
unfolding latest_bytes
parts b kind small long code =
    let f0 = field 0 8 8 b small (omega arith) refl in
    let f8 = field 8 4 12 b small (omega arith) refl in
    let f12 = field 12 4 16 b small (omega arith) refl in
    let f16 = field 16 4 20 b small (omega arith) refl in
    let f20 = field 20 4 24 b small (omega arith) refl in
    let f24 = field 24 4 28 b small (omega arith) refl in
    let all : b ≡ bytes_of 8 (number 0 8 b) ++ (bytes_of 4 (number 8 4 b) ++ (bytes_of 4 (number 12 4 b) ++ (bytes_of 4 (number 16 4 b)
    ++ (bytes_of 4 (number 20 4 b) ++ (bytes_of 4 (number 24 4 b) ++ drop 28 b))))) = f0
    ∙ ap (λ (x : List ℕ). bytes_of 8 (number 0 8 b) ++ x) (f8
    ∙ ap (λ (x : List ℕ). bytes_of 4 (number 8 4 b) ++ x) (f12
    ∙ ap (λ (x : List ℕ). bytes_of 4 (number 12 4 b) ++ x) (f16
    ∙ ap (λ (x : List ℕ). bytes_of 4 (number 16 4 b) ++ x) (f20
    ∙ ap (λ (x : List ℕ). bytes_of 4 (number 20 4 b) ++ x) f24)))) in
    all ∙ ap (λ (n : ℕ). bytes_of 8 (number 0 8 b) ++ (bytes_of 4 n ++ (bytes_of 4 (number 12 4 b) ++ (bytes_of 4 (number 16 4 b)
    ++ (bytes_of 4 (number 20 4 b) ++ (bytes_of 4 (number 24 4 b) ++ drop 28 b)))))) (sym code)
    ∙ regrouped (bytes_of 8 (number 0 8 b)) (bytes_of 4 (kind_code kind)) (bytes_of 4 (number 12 4 b)) (bytes_of 4 (number 16 4 b))
    (bytes_of 4 (number 20 4 b)) (bytes_of 4 (number 24 4 b)) (drop 28 b)

sound : (s : Setting) (b : List ℕ) (row : LatestRow) (rest : List ℕ) → IsBytes b → latest_in s b ≡ Some (row, rest)
    → LatestFits s row × (b ≡ latest_bytes row ++ rest)
unfolding latest_in
sound s b row rest small e =
    let t1 = found (nat_lt (length b) 28) _ (row, rest) e in
    let t2 = found ((eqb (number 0 8 b) 0 || eqb (base_of (number 20 4 b)) 0) || nat_le s.stacks (number 24 4 b))
    (latest_of b (kind_of (number 8 4 b))) (row, rest) t1.1 in
    let tests = or_parts (eqb (number 0 8 b) 0 || eqb (base_of (number 20 4 b)) 0) (nat_le s.stacks (number 24 4 b)) t2.0 in
    let more = or_parts (eqb (number 0 8 b) 0) (eqb (base_of (number 20 4 b)) 0) tests.0 in
    let long : 28 ≤ length b = ltb-false _ _ t1.0 in
    let f = found_row b (kind_of (number 8 4 b)) row rest refl t2.1 in
    let kind = kind_sound (number 8 4 b) f.kind f.code in
    let fits : LatestFits s (row_at b f.kind) = record {
      sequence = number-lt 0 8 b small;
      some = eqb-false _ _ more.0;
      kind = kind.1;
      process = number-lt 12 4 b small;
      thread = number-lt 16 4 b small;
      handle = number-lt 20 4 b small;
      base = eqb-false _ _ more.1;
      stack = number-lt 24 4 b small;
      known = leb-false _ _ tests.1;
    } in (
      rw f.row_is at fits,
      parts b f.kind small long kind.0 ∙ ap (λ (x : LatestRow). latest_bytes x ++ drop 28 b) f.row_is
          ∙ ap (λ (x : List ℕ). latest_bytes row ++ x) f.rest_is,
    )

-- ---- from the row to its bytes

abbrev pair : {X Y : Type 0} → X → Y → X × Y
pair x y = (x, y)

pair_is : {X Y : Type 0} {x x' : X} {y y' : Y} → x ≡ x' → y ≡ y' → pair x y ≡ pair x' y'
pair_is p q = cc

read_back : (s : Setting) (b : List ℕ) (row : LatestRow) (rest : List ℕ) → LatestFits s row → 28 ≤ length b → row_at b row.kind ≡ row
    → number 8 4 b ≡ kind_code row.kind → drop 28 b ≡ rest → latest_in s b ≡ Some (row, rest)
unfolding latest_in
read_back s b row rest fits size is code left =
    let sequence : number 0 8 b ≡ row.sequence = ap (λ (x : LatestRow). x.sequence) is in
    let value : number 20 4 b ≡ row.handle = ap (λ (x : LatestRow). x.handle) is in
    let stack : number 24 4 b ≡ row.stack = ap (λ (x : LatestRow). x.stack) is in
    let long : nat_lt (length b) 28 ≡ false = le-ltb (length b) 28 size in
    let named : (eqb (number 0 8 b) 0 || eqb (base_of (number 20 4 b)) 0) ≡ false =
    or_from (eqb (number 0 8 b) 0) (eqb (base_of (number 20 4 b)) 0) (ne_eqb (number 0 8 b) 0 (λ z. fits.some (sym sequence ∙ z)))
    (ne_eqb (base_of (number 20 4 b)) 0 (λ z. fits.base (sym (ap base_of value) ∙ z))) in
    let tests : ((eqb (number 0 8 b) 0 || eqb (base_of (number 20 4 b)) 0) || nat_le s.stacks (number 24 4 b)) ≡ false =
    or_from (eqb (number 0 8 b) 0 || eqb (base_of (number 20 4 b)) 0) (nat_le s.stacks (number 24 4 b)) named
    (lt-leb s.stacks (number 24 4 b) (omega (arith, stack, fits.known))) in
    let kind : kind_of (number 8 4 b) ≡ Some row.kind = ap kind_of code ∙ kind_complete row.kind fits.kind in
    rw (long, tests, kind) (ap (λ (x : LatestRow × List ℕ). Some x) (pair_is is left))

complete : (s : Setting) (row : LatestRow) (rest : List ℕ) → LatestFits s row → latest_in s (latest_bytes row ++ rest) ≡ Some (row, rest)
unfolding latest_bytes
complete s row rest fits =
    let b = (bytes_of 8 row.sequence ++ bytes_of 4 (kind_code row.kind) ++ bytes_of 4 row.process ++ bytes_of 4 row.thread
    ++ bytes_of 4 row.handle ++ bytes_of 4 row.stack) ++ rest in
    let r24 = bytes_of 4 row.stack ++ rest in
    let r20 = bytes_of 4 row.handle ++ r24 in
    let r16 = bytes_of 4 row.thread ++ r20 in
    let r12 = bytes_of 4 row.process ++ r16 in
    let r8 = bytes_of 4 (kind_code row.kind) ++ r12 in
    let d0 : drop 0 b ≡ bytes_of 8 row.sequence ++ r8 =
    sym (regrouped (bytes_of 8 row.sequence) (bytes_of 4 (kind_code row.kind)) (bytes_of 4 row.process) (bytes_of 4 row.thread)
    (bytes_of 4 row.handle) (bytes_of 4 row.stack) rest) in
    let d8 : drop 8 b ≡ r8 = after_number 0 8 8 row.sequence b r8 d0 refl in
    let d12 : drop 12 b ≡ r12 = after_number 8 4 12 (kind_code row.kind) b r12 d8 refl in
    let d16 : drop 16 b ≡ r16 = after_number 12 4 16 row.process b r16 d12 refl in
    let d20 : drop 20 b ≡ r20 = after_number 16 4 20 row.thread b r20 d16 refl in
    let d24 : drop 24 b ≡ r24 = after_number 20 4 24 row.handle b r24 d20 refl in
    let d28 : drop 28 b ≡ rest = after_number 24 4 28 row.stack b rest d24 refl in
    let sequence : number 0 8 b ≡ row.sequence = number_here 0 8 row.sequence b r8 d0 fits.sequence in
    let code : number 8 4 b ≡ kind_code row.kind = number_here 8 4 (kind_code row.kind) b r12 d8 (code_lt row.kind) in
    let process : number 12 4 b ≡ row.process = number_here 12 4 row.process b r16 d12 fits.process in
    let thread : number 16 4 b ≡ row.thread = number_here 16 4 row.thread b r20 d16 fits.thread in
    let handle : number 20 4 b ≡ row.handle = number_here 20 4 row.handle b r24 d20 fits.handle in
    let stack : number 24 4 b ≡ row.stack = number_here 24 4 row.stack b rest d24 fits.stack in
    let size : 28 ≤ length b =
    omega (
      arith,
      ap length d0,
      length-append (bytes_of 8 row.sequence) r8,
      length-bytes_of 8 row.sequence,
      length-append (bytes_of 4 (kind_code row.kind)) r12,
      length-bytes_of 4 (kind_code row.kind),
      length-append (bytes_of 4 row.process) r16,
      length-bytes_of 4 row.process,
      length-append (bytes_of 4 row.thread) r20,
      length-bytes_of 4 row.thread,
      length-append (bytes_of 4 row.handle) r24,
      length-bytes_of 4 row.handle,
      length-append (bytes_of 4 row.stack) rest,
      length-bytes_of 4 row.stack,
    ) in
    let is : row_at b row.kind ≡ row = rw (sequence, process, thread, handle, stack) refl in
    read_back s b row rest fits size is code d28

length-latest : (row : LatestRow) → length (latest_bytes row) ≡ 28
unfolding latest_bytes
length-latest row =
    omega (
      arith,
      length-append (bytes_of 8 row.sequence ++ bytes_of 4 (kind_code row.kind) ++ bytes_of 4 row.process ++ bytes_of 4 row.thread
          ++ bytes_of 4 row.handle) (bytes_of 4 row.stack),
      length-append (bytes_of 8 row.sequence ++ bytes_of 4 (kind_code row.kind) ++ bytes_of 4 row.process ++ bytes_of 4 row.thread) (bytes_of 4 row.handle),
      length-append (bytes_of 8 row.sequence ++ bytes_of 4 (kind_code row.kind) ++ bytes_of 4 row.process) (bytes_of 4 row.thread),
      length-append (bytes_of 8 row.sequence ++ bytes_of 4 (kind_code row.kind)) (bytes_of 4 row.process),
      length-append (bytes_of 8 row.sequence) (bytes_of 4 (kind_code row.kind)),
      length-bytes_of 8 row.sequence,
      length-bytes_of 4 (kind_code row.kind),
      length-bytes_of 4 row.process,
      length-bytes_of 4 row.thread,
      length-bytes_of 4 row.handle,
      length-bytes_of 4 row.stack,
    )

pub latest_exact : (s : Setting) → IsExact latest s (LatestFits s)
latest_exact s = record {
  some = omega arith;
  long = λ row fits. omega (arith, length-latest row);
  sound = sound s;
  complete = complete s;
}
