-- A mark or an exit is read exactly where the bytes begin with one that fits.
use Rattle.std.proofs.Common.{◌≡◌, ℕ, ◌+◌, ◌^◌, ◌<◌, ◌≤◌, false, eqb, nat_lt, List, ◌++◌, length, drop, Some, refl, sym, ap, ◌∙◌, append_assoc, arith}
use Rattle.std.proofs.lemmas.List.{length-append}
use Rattle.std.proofs.lemmas.Bool.{ltb-false, le-ltb, eqb-false, ne_eqb}
use Rattle.htl_segment.specs.Numbers.{IsBytes, number, bytes_of}
use Rattle.htl_segment.proofs.Bytes.{field, number-lt, number_here, after_number, length-bytes_of}
use Rattle.htl_segment.proofs.PassedTests.{some_is}
use Rattle.htl_state.specs.declared.rows.Setting.{Setting}
use Rattle.htl_state.specs.Format.{moment_bytes}
use Rattle.htl_state.specs.Reading.{moment_in, moments}
use Rattle.htl_state.specs.WellFormed.{MomentFits}
use Rattle.htl_state.proofs.Readings.{found}
use Rattle.htl_state.proofs.Lists.{IsExact}

length-moment : (row : ℕ × ℕ) → length (moment_bytes row) ≡ 12
unfolding moment_bytes
length-moment row =
    omega (arith, length-append (bytes_of 4 row.0) (bytes_of 8 row.1), length-bytes_of 4 row.0, length-bytes_of 8 row.1)

parts : (b : List ℕ) → IsBytes b → 12 ≤ length b → b ≡ moment_bytes (number 0 4 b, number 4 8 b) ++ drop 12 b
unfolding moment_bytes
parts b small long =
    field 0 4 4 b small (omega arith) refl ∙ ap (λ (x : List ℕ). bytes_of 4 (number 0 4 b) ++ x) (field 4 8 12 b small (omega arith) refl)
    ∙ sym (append_assoc (bytes_of 4 (number 0 4 b)) (bytes_of 8 (number 4 8 b)) (drop 12 b))

sound : (s : Setting) (b : List ℕ) (row : ℕ × ℕ) (rest : List ℕ) → IsBytes b → moment_in s b ≡ Some (row, rest)
    → MomentFits row × (b ≡ moment_bytes row ++ rest)
unfolding moment_in
sound s b row rest small e =
    let t1 = found (nat_lt (length b) 12) _ (row, rest) e in
    let t2 = found (eqb (number 4 8 b) 0) _ (row, rest) t1.1 in
    let long : 12 ≤ length b = ltb-false _ _ t1.0 in
    let pair = some_is ((number 0 4 b, number 4 8 b), drop 12 b) (row, rest) t2.1 in
    let row_is : (number 0 4 b, number 4 8 b) ≡ row = ap (λ (x : (ℕ × ℕ) × List ℕ). x.0) pair in
    let rest_is : drop 12 b ≡ rest = ap (λ (x : (ℕ × ℕ) × List ℕ). x.1) pair in
    let process : number 0 4 b ≡ row.0 = ap (λ (x : ℕ × ℕ). x.0) row_is in
    let sequence : number 4 8 b ≡ row.1 = ap (λ (x : ℕ × ℕ). x.1) row_is in
    let process_lt : number 0 4 b < 2 ^ 32 = number-lt 0 4 b small in
    let sequence_lt : number 4 8 b < 2 ^ 64 = number-lt 4 8 b small in (
      record {
        process = rw process at process_lt;
        sequence = rw sequence at sequence_lt;
        some = λ z. eqb-false _ _ t2.0 (sequence ∙ z);
      },
      parts b small long ∙ ap (λ (x : ℕ × ℕ). moment_bytes x ++ drop 12 b) row_is ∙ ap (λ (x : List ℕ). moment_bytes row ++ x) rest_is,
    )

complete : (s : Setting) (row : ℕ × ℕ) (rest : List ℕ) → MomentFits row → moment_in s (moment_bytes row ++ rest) ≡ Some (row, rest)
unfolding moment_in moment_bytes
complete s row rest fits =
    let r4 = bytes_of 8 row.1 ++ rest in
    let b = (bytes_of 4 row.0 ++ bytes_of 8 row.1) ++ rest in
    let d0 : drop 0 b ≡ bytes_of 4 row.0 ++ r4 = append_assoc (bytes_of 4 row.0) (bytes_of 8 row.1) rest in
    let d4 : drop 4 b ≡ r4 = after_number 0 4 4 row.0 b r4 d0 refl in
    let d12 : drop 12 b ≡ rest = after_number 4 8 12 row.1 b rest d4 refl in
    let process : number 0 4 b ≡ row.0 = number_here 0 4 row.0 b r4 d0 fits.process in
    let sequence : number 4 8 b ≡ row.1 = number_here 4 8 row.1 b rest d4 fits.sequence in
    let size : length b ≡ 12 + length rest =
    omega (
      arith,
      ap length d0,
      length-append (bytes_of 4 row.0) r4,
      length-bytes_of 4 row.0,
      length-append (bytes_of 8 row.1) rest,
      length-bytes_of 8 row.1,
    ) in
    let long : nat_lt (length b) 12 ≡ false = le-ltb (length b) 12 (omega arith) in
    let some : eqb row.1 0 ≡ false = ne_eqb row.1 0 fits.some in
    rw (long, sequence, some, process, d12) refl

pub moments_exact : (s : Setting) → IsExact moments s MomentFits
moments_exact s = record {
  some = omega arith;
  long = λ row fits. omega (arith, length-moment row);
  sound = sound s;
  complete = complete s;
}
