-- A count is read exactly where the bytes begin with one that fits.
use Rattle.std.proofs.Common.{◌≡◌, ℕ, zero, suc, ◌^◌, ◌<◌, ◌≤◌, false, ◌&&◌, ◌||◌, eqb, nat_lt, nat_le, List, ◌++◌, length}
use Rattle.std.proofs.Common.{take, drop, Option, Some, None, refl, sym, ap, ◌∙◌, append_assoc, arith}
use Rattle.std.proofs.lemmas.List.{length-append, length-take, length-drop, take_at}
use Rattle.std.proofs.lemmas.Bool.{ltb-true, ltb-false, leb-false, lt-ltb, le-ltb, lt-leb, eqb-true, eq-eqb, or_parts, or_from}
use Rattle.std.proofs.lemmas.Bool.{and_parts, and_from, and_left, and_right, ne_eqb, true≢false}
use Rattle.htl_event.specs.declared.slot.Slot.{Slot}
use Rattle.htl_event.specs.declared.slot.Slot.TheVariants.{Tagged, Handles, Bad}
use Rattle.htl_segment.specs.Numbers.{IsBytes, number, bytes_of}
use Rattle.htl_segment.proofs.Bytes.{IsBytes-take, IsBytes-drop, bytes_of-number, field, part, number-lt, after, number_here, after_number, length-bytes_of}
use Rattle.htl_segment.proofs.PassedTests.{some_is}
use Rattle.htl_state.specs.declared.rows.CountRow.{CountRow}
use Rattle.htl_state.specs.declared.rows.Setting.{Setting}
use Rattle.htl_state.specs.Format.{slot_bytes, count_bytes}
use Rattle.htl_state.specs.Reading.{slot_of, count_of, count_in, counts}
use Rattle.htl_state.specs.WellFormed.{SlotFits, CountFits}
use Rattle.htl_state.proofs.Readings.{found, kept}
use Rattle.htl_state.proofs.Lists.{IsExact}

-- ---- slots

record SlotRead (kind name : ℕ) (tail : List ℕ) (slot : Slot) : Type 0 where
  fits : SlotFits slot
  bytes_are : slot_bytes slot ≡ bytes_of 4 kind ++ bytes_of 8 name ++ take 4 tail

slot_sound : (kind name : ℕ) (tail : List ℕ) (slot : Slot) → IsBytes tail → 4 ≤ length tail → name < 2 ^ 64 → slot_of kind name tail ≡ Some slot
    → SlotRead kind name tail slot
slot_sound zero name tail slot small long lt e = absurd cc
slot_sound (suc zero) name tail slot small long lt e =
    let is = some_is (Tagged name (take 4 tail)) slot e in
    let read : SlotRead 1 name tail (Tagged name (take 4 tail)) = record {
      fits = (lt, omega (arith, length-take 4 tail), IsBytes-take 4 tail small);
      bytes_are = refl;
    } in
    rw is at read
slot_sound (suc (suc zero)) name tail slot small long lt e =
    let t = kept (nat_lt name (2 ^ 32) && eqb (number 0 4 tail) 0) (Handles name) slot e in
    let tests = and_parts (nat_lt name (2 ^ 32)) (eqb (number 0 4 tail) 0) t.0 in
    let four : bytes_of 4 (number 0 4 tail) ≡ take 4 tail = bytes_of-number 0 4 tail small long in
    let none : number 0 4 tail ≡ 0 = eqb-true _ _ tests.1 in
    let read : SlotRead 2 name tail (Handles name) = record {
      fits = ltb-true _ _ tests.0;
      bytes_are = ap (λ (x : List ℕ). bytes_of 4 2 ++ bytes_of 8 name ++ x) (ap (bytes_of 4) (sym none) ∙ four);
    } in
    rw t.1 at read
slot_sound (suc (suc (suc zero))) name tail slot small long lt e =
    let t = kept (nat_lt name (2 ^ 32)) (Bad name (number 0 4 tail)) slot e in
    let four : bytes_of 4 (number 0 4 tail) ≡ take 4 tail = bytes_of-number 0 4 tail small long in
    let read : SlotRead 3 name tail (Bad name (number 0 4 tail)) = record {
      fits = (ltb-true _ _ t.0, number-lt 0 4 tail small);
      bytes_are = ap (λ (x : List ℕ). bytes_of 4 3 ++ bytes_of 8 name ++ x) four;
    } in
    rw t.1 at read
slot_sound (suc (suc (suc (suc n)))) name tail slot small long lt e = absurd cc

record SlotAgain (b : List ℕ) (slot : Slot) (rest : List ℕ) : Type 0 where
  slot_is : slot_of (number 4 4 b) (number 8 8 b) (drop 16 b) ≡ Some slot
  rest_is : drop 20 b ≡ rest

pub three : (a b c rest : List ℕ) → (a ++ b ++ c) ++ rest ≡ a ++ (b ++ (c ++ rest))
three a b c rest = simp append_assoc

length-three : (kind name : ℕ) (last : List ℕ) → length last ≡ 4 → length (bytes_of 4 kind ++ bytes_of 8 name ++ last) ≡ 16
length-three kind name last four =
    omega (
      arith,
      length-append (bytes_of 4 kind ++ bytes_of 8 name) last,
      length-append (bytes_of 4 kind) (bytes_of 8 name),
      length-bytes_of 4 kind,
      length-bytes_of 8 name,
    )

slot_complete : (b : List ℕ) (slot : Slot) (rest : List ℕ) → SlotFits slot → drop 4 b ≡ slot_bytes slot ++ rest → SlotAgain b slot rest
slot_complete b (Tagged object tag) rest fits here =
    let d4 : drop 4 b ≡ bytes_of 4 1 ++ (bytes_of 8 object ++ (tag ++ rest)) = here ∙ three (bytes_of 4 1) (bytes_of 8 object) tag rest in
    let d8 : drop 8 b ≡ bytes_of 8 object ++ (tag ++ rest) = after_number 4 4 8 1 b (bytes_of 8 object ++ (tag ++ rest)) d4 refl in
    let d16 : drop 16 b ≡ tag ++ rest = after_number 8 8 16 object b (tag ++ rest) d8 refl in
    let kind : number 4 4 b ≡ 1 = number_here 4 4 1 b (bytes_of 8 object ++ (tag ++ rest)) d4 (omega arith) in
    let name : number 8 8 b ≡ object = number_here 8 8 object b (tag ++ rest) d8 fits.0 in
    let last : take 4 (drop 16 b) ≡ tag = ap (take 4) d16 ∙ take_at tag rest 4 fits.1 in
    record {
      slot_is = rw (kind, name, last) refl;
      rest_is = after 16 4 20 b tag rest d16 fits.1 refl;
    }
slot_complete b (Handles process) rest fits here =
    let d4 : drop 4 b ≡ bytes_of 4 2 ++ (bytes_of 8 process ++ (bytes_of 4 0 ++ rest)) =
    here ∙ three (bytes_of 4 2) (bytes_of 8 process) (bytes_of 4 0) rest in
    let d8 : drop 8 b ≡ bytes_of 8 process ++ (bytes_of 4 0 ++ rest) = after_number 4 4 8 2 b (bytes_of 8 process ++ (bytes_of 4 0 ++ rest)) d4 refl in
    let d16 : drop 16 b ≡ bytes_of 4 0 ++ rest = after_number 8 8 16 process b (bytes_of 4 0 ++ rest) d8 refl in
    let kind : number 4 4 b ≡ 2 = number_here 4 4 2 b (bytes_of 8 process ++ (bytes_of 4 0 ++ rest)) d4 (omega arith) in
    let name : number 8 8 b ≡ process = number_here 8 8 process b (bytes_of 4 0 ++ rest) d8 (omega (arith, fits)) in
    let last : number 0 4 (drop 16 b) ≡ 0 = number_here 0 4 0 (drop 16 b) rest d16 (omega arith) in
    record {
      slot_is = rw (kind, name, last, lt-ltb process (2 ^ 32) fits) refl;
      rest_is = after_number 16 4 20 0 b rest d16 refl;
    }
slot_complete b (Bad process value) rest fits here =
    let d4 : drop 4 b ≡ bytes_of 4 3 ++ (bytes_of 8 process ++ (bytes_of 4 value ++ rest)) =
    here ∙ three (bytes_of 4 3) (bytes_of 8 process) (bytes_of 4 value) rest in
    let d8 : drop 8 b ≡ bytes_of 8 process ++ (bytes_of 4 value ++ rest) = after_number 4 4 8 3 b (bytes_of 8 process ++ (bytes_of 4 value ++ rest)) d4 refl in
    let d16 : drop 16 b ≡ bytes_of 4 value ++ rest = after_number 8 8 16 process b (bytes_of 4 value ++ rest) d8 refl in
    let kind : number 4 4 b ≡ 3 = number_here 4 4 3 b (bytes_of 8 process ++ (bytes_of 4 value ++ rest)) d4 (omega arith) in
    let name : number 8 8 b ≡ process = number_here 8 8 process b (bytes_of 4 value ++ rest) d8 (omega (arith, fits.0)) in
    let last : number 0 4 (drop 16 b) ≡ value = number_here 0 4 value (drop 16 b) rest d16 fits.1 in
    record {
      slot_is = rw (kind, name, last, lt-ltb process (2 ^ 32) fits.0) refl;
      rest_is = after_number 16 4 20 value b rest d16 refl;
    }

length-slot : (slot : Slot) → SlotFits slot → length (slot_bytes slot) ≡ 16
length-slot (Tagged object tag) fits = length-three 1 object tag fits.1
length-slot (Handles process) fits = length-three 2 process (bytes_of 4 0) (length-bytes_of 4 0)
length-slot (Bad process value) fits = length-three 3 process (bytes_of 4 value) (length-bytes_of 4 value)

-- ---- from bytes to the row

abbrev row_at : List ℕ → Slot → CountRow
row_at b slot = record { stack = number 0 4 b; slot = slot; count = record { plus = number 20 8 b; minus = number 28 8 b } }

record Found (b : List ℕ) (row : CountRow) (rest : List ℕ) : Type 0 where
  slot : Slot
  slot_is : slot_of (number 4 4 b) (number 8 8 b) (drop 16 b) ≡ Some slot
  row_is : row_at b slot ≡ row
  rest_is : drop 36 b ≡ rest

found_row : (b : List ℕ) (slot : Option Slot) (row : CountRow) (rest : List ℕ) → slot_of (number 4 4 b) (number 8 8 b) (drop 16 b) ≡ slot
    → count_of b slot ≡ Some (row, rest) → Found b row rest
found_row b None row rest is e = absurd cc
found_row b (Some slot) row rest is e =
    let pair = some_is (row_at b slot, drop 36 b) (row, rest) e in
    record {
      slot = slot;
      slot_is = is;
      row_is = ap (λ (x : CountRow × List ℕ). x.0) pair;
      rest_is = ap (λ (x : CountRow × List ℕ). x.1) pair;
    }

-- four pieces, of which the second is three, and what follows them
six : (a k n t p m rest : List ℕ) → a ++ (k ++ (n ++ (t ++ (p ++ (m ++ rest))))) ≡ (a ++ (k ++ n ++ t) ++ p ++ m) ++ rest
six a k n t p m rest = simp append_assoc

parts : (b : List ℕ) (slot : Slot) → IsBytes b → 36 ≤ length b
    → slot_bytes slot ≡ bytes_of 4 (number 4 4 b) ++ bytes_of 8 (number 8 8 b) ++ take 4 (drop 16 b) → b ≡ count_bytes (row_at b slot) ++ drop 36 b
unfolding count_bytes
parts b slot small long slot_is =
    let f0 = field 0 4 4 b small (omega arith) refl in
    let f4 = field 4 4 8 b small (omega arith) refl in
    let f8 = field 8 8 16 b small (omega arith) refl in
    let f16 = part 16 4 20 b refl in
    let f20 = field 20 8 28 b small (omega arith) refl in
    let f28 = field 28 8 36 b small (omega arith) refl in
    f0 ∙ ap (λ (x : List ℕ). bytes_of 4 (number 0 4 b) ++ x) (f4
    ∙ ap (λ (x : List ℕ). bytes_of 4 (number 4 4 b) ++ x) (f8
    ∙ ap (λ (x : List ℕ). bytes_of 8 (number 8 8 b) ++ x) (f16
    ∙ ap (λ (x : List ℕ). take 4 (drop 16 b) ++ x) (f20
    ∙ ap (λ (x : List ℕ). bytes_of 8 (number 20 8 b) ++ x) f28))))
    ∙ six (bytes_of 4 (number 0 4 b)) (bytes_of 4 (number 4 4 b)) (bytes_of 8 (number 8 8 b)) (take 4 (drop 16 b)) (bytes_of 8 (number 20 8 b))
    (bytes_of 8 (number 28 8 b)) (drop 36 b)
    ∙ ap (λ (x : List ℕ). (bytes_of 4 (number 0 4 b) ++ x ++ bytes_of 8 (number 20 8 b) ++ bytes_of 8 (number 28 8 b)) ++ drop 36 b) (sym slot_is)

not_both : (x y : ℕ) → (eqb x 0 && eqb y 0) ≡ false → (x ≡ 0) × (y ≡ 0) → ⊥
not_both x y e both = true≢false (sym (and_from (eqb x 0) (eqb y 0) (eq-eqb x 0 both.0) (eq-eqb y 0 both.1)) ∙ e)

sound : (s : Setting) (b : List ℕ) (row : CountRow) (rest : List ℕ) → IsBytes b → count_in s b ≡ Some (row, rest)
    → CountFits s row × (b ≡ count_bytes row ++ rest)
unfolding count_in
sound s b row rest small e =
    let t1 = found (nat_lt (length b) 36) _ (row, rest) e in
    let t2 = found (nat_le s.stacks (number 0 4 b) || (eqb (number 20 8 b) 0 && eqb (number 28 8 b) 0))
    (count_of b (slot_of (number 4 4 b) (number 8 8 b) (drop 16 b))) (row, rest) t1.1 in
    let tests = or_parts (nat_le s.stacks (number 0 4 b)) (eqb (number 20 8 b) 0 && eqb (number 28 8 b) 0) t2.0 in
    let long : 36 ≤ length b = ltb-false _ _ t1.0 in
    let f = found_row b (slot_of (number 4 4 b) (number 8 8 b) (drop 16 b)) row rest refl t2.1 in
    let slot = slot_sound (number 4 4 b) (number 8 8 b) (drop 16 b) f.slot (IsBytes-drop 16 b small) (omega (arith, length-drop 16 b))
    (number-lt 8 8 b small) f.slot_is in
    let fits : CountFits s (row_at b f.slot) = record {
      stack = number-lt 0 4 b small;
      known = leb-false _ _ tests.0;
      slot = slot.fits;
      plus = number-lt 20 8 b small;
      minus = number-lt 28 8 b small;
      some = not_both (number 20 8 b) (number 28 8 b) tests.1;
    } in (
      rw f.row_is at fits,
      parts b f.slot small long slot.bytes_are ∙ ap (λ (x : CountRow). count_bytes x ++ drop 36 b) f.row_is
          ∙ ap (λ (x : List ℕ). count_bytes row ++ x) f.rest_is,
    )

-- ---- from the row to its bytes

one_is_some : (x y : ℕ) → ((x ≡ 0) × (y ≡ 0) → ⊥) → (eqb x 0 && eqb y 0) ≡ false
one_is_some zero zero some = absurd (some (refl, refl))
one_is_some zero (suc y) some = and_right (eqb 0 0) (eqb (suc y) 0) (ne_eqb (suc y) 0 (λ z. omega (arith, z)))
one_is_some (suc x) y some = and_left (eqb (suc x) 0) (eqb y 0) (ne_eqb (suc x) 0 (λ z. omega (arith, z)))

four : (a k p m rest : List ℕ) → (a ++ k ++ p ++ m) ++ rest ≡ a ++ (k ++ (p ++ (m ++ rest)))
four a k p m rest = simp append_assoc

complete : (s : Setting) (row : CountRow) (rest : List ℕ) → CountFits s row → count_in s (count_bytes row ++ rest) ≡ Some (row, rest)
unfolding count_in count_bytes
complete s row rest fits =
    let b = (bytes_of 4 row.stack ++ slot_bytes row.slot ++ bytes_of 8 row.count.plus ++ bytes_of 8 row.count.minus) ++ rest in
    let r28 = bytes_of 8 row.count.minus ++ rest in
    let r20 = bytes_of 8 row.count.plus ++ r28 in
    let r4 = slot_bytes row.slot ++ r20 in
    let d0 : drop 0 b ≡ bytes_of 4 row.stack ++ r4 =
    four (bytes_of 4 row.stack) (slot_bytes row.slot) (bytes_of 8 row.count.plus) (bytes_of 8 row.count.minus) rest in
    let d4 : drop 4 b ≡ r4 = after_number 0 4 4 row.stack b r4 d0 refl in
    let slot = slot_complete b row.slot r20 fits.slot d4 in
    let d28 : drop 28 b ≡ r28 = after_number 20 8 28 row.count.plus b r28 slot.rest_is refl in
    let d36 : drop 36 b ≡ rest = after_number 28 8 36 row.count.minus b rest d28 refl in
    let stack : number 0 4 b ≡ row.stack = number_here 0 4 row.stack b r4 d0 fits.stack in
    let plus : number 20 8 b ≡ row.count.plus = number_here 20 8 row.count.plus b r28 slot.rest_is fits.plus in
    let minus : number 28 8 b ≡ row.count.minus = number_here 28 8 row.count.minus b rest d28 fits.minus in
    let size : 36 ≤ length b =
    omega (
      arith,
      ap length d0,
      length-append (bytes_of 4 row.stack) r4,
      length-bytes_of 4 row.stack,
      length-append (slot_bytes row.slot) r20,
      length-slot row.slot fits.slot,
      length-append (bytes_of 8 row.count.plus) r28,
      length-bytes_of 8 row.count.plus,
      length-append (bytes_of 8 row.count.minus) rest,
      length-bytes_of 8 row.count.minus,
    ) in
    let long : nat_lt (length b) 36 ≡ false = le-ltb (length b) 36 size in
    let tests : (nat_le s.stacks row.stack || (eqb row.count.plus 0 && eqb row.count.minus 0)) ≡ false =
    or_from (nat_le s.stacks row.stack) (eqb row.count.plus 0 && eqb row.count.minus 0) (lt-leb s.stacks row.stack fits.known)
    (one_is_some row.count.plus row.count.minus fits.some) in
    rw (long, stack, plus, minus, tests, slot.slot_is, stack, plus, minus, d36) refl

long_count : (s : Setting) (row : CountRow) → CountFits s row → 36 ≤ length (count_bytes row)
unfolding count_bytes
long_count s row fits =
    omega (
      arith,
      length-append (bytes_of 4 row.stack ++ slot_bytes row.slot ++ bytes_of 8 row.count.plus) (bytes_of 8 row.count.minus),
      length-append (bytes_of 4 row.stack ++ slot_bytes row.slot) (bytes_of 8 row.count.plus),
      length-append (bytes_of 4 row.stack) (slot_bytes row.slot),
      length-bytes_of 4 row.stack,
      length-slot row.slot fits.slot,
      length-bytes_of 8 row.count.plus,
      length-bytes_of 8 row.count.minus,
    )

pub counts_exact : (s : Setting) → IsExact counts s (CountFits s)
counts_exact s = record {
  some = omega arith;
  long = long_count s;
  sound = sound s;
  complete = complete s;
}
