-- A stack is read exactly where the bytes begin with one that fits.
use Rattle.std.proofs.Common.{◌≡◌, ℕ, ◌+◌, ◌*◌, ◌≤◌, false, ◌||◌, nat_lt, List, ◌∷◌, ◌++◌, length, drop, slice_index, Some}
use Rattle.std.proofs.Common.{refl, sym, ap, ◌∙◌, arith, drop-cons}
use Rattle.std.specs.List.{flat_map}
use Rattle.std.proofs.lemmas.List.{length-append}
use Rattle.std.proofs.lemmas.Bool.{ltb-false, le-ltb, or_parts}
use Rattle.htl_segment.specs.Numbers.{IsBytes, numbers, bytes_of}
use Rattle.htl_segment.proofs.Bytes.{numbers_take, numbers-fit, length-numbers, after, numbers_here, length-frames}
use Rattle.htl_segment.proofs.PassedTests.{some_is}
use Rattle.htl_state.specs.declared.rows.Setting.{Setting}
use Rattle.htl_state.specs.Format.{stack_bytes}
use Rattle.htl_state.specs.Reading.{stack_in, stacks}
use Rattle.htl_state.specs.WellFormed.{StackFits}
use Rattle.htl_state.proofs.Readings.{found}
use Rattle.htl_state.proofs.Lists.{IsExact}

long_stack : (stack : List ℕ) → 1 ≤ length (stack_bytes stack)
unfolding stack_bytes
long_stack stack = omega arith

parts : (b : List ℕ) (d : ℕ) → IsBytes b → d ≡ slice_index b 0 → 1 ≤ length b → 1 + 8 * d ≤ length b
    → b ≡ stack_bytes (numbers 1 d b) ++ drop (1 + 8 * d) b
unfolding stack_bytes
parts b d small is some long =
    let first : b ≡ slice_index b 0 ∷ drop 1 b = drop-cons b 0 0 some in
    let count : slice_index b 0 ≡ length (numbers 1 d b) = sym is ∙ sym (length-numbers 1 d b) in
    let others : drop 1 b ≡ flat_map (bytes_of 8) (numbers 1 d b) ++ drop (1 + 8 * d) b = numbers_take 1 d (1 + 8 * d) b small long refl in
    first ∙ ap (λ (n : ℕ). n ∷ drop 1 b) count ∙ ap (λ (x : List ℕ). length (numbers 1 d b) ∷ x) others

sound : (s : Setting) (b stack rest : List ℕ) → IsBytes b → stack_in s b ≡ Some (stack, rest)
    → StackFits stack × (b ≡ stack_bytes stack ++ rest)
unfolding stack_in
sound s b stack rest small e =
    let d = slice_index b 0 in
    let t1 = found (nat_lt (length b) 1) _ (stack, rest) e in
    let t2 = found (nat_lt 64 d || nat_lt (length b) (1 + 8 * d)) _ (stack, rest) t1.1 in
    let tests = or_parts (nat_lt 64 d) (nat_lt (length b) (1 + 8 * d)) t2.0 in
    let some : 1 ≤ length b = ltb-false _ _ t1.0 in
    let few : d ≤ 64 = ltb-false _ _ tests.0 in
    let long : 1 + 8 * d ≤ length b = ltb-false _ _ tests.1 in
    let pair = some_is (numbers 1 d b, drop (1 + 8 * d) b) (stack, rest) t2.1 in
    let stack_is : numbers 1 d b ≡ stack = ap (λ (x : List ℕ × List ℕ). x.0) pair in
    let rest_is : drop (1 + 8 * d) b ≡ rest = ap (λ (x : List ℕ × List ℕ). x.1) pair in
    let addresses = numbers-fit 1 d b small in (
      record { depth = omega (arith, length-numbers 1 d b, ap length stack_is); addresses = rw stack_is at addresses },
      parts b d small refl some long ∙ ap (λ (x : List ℕ). stack_bytes x ++ drop (1 + 8 * d) b) stack_is
          ∙ ap (λ (x : List ℕ). stack_bytes stack ++ x) rest_is,
    )

read_back : (s : Setting) (b stack rest : List ℕ) → StackFits stack → slice_index b 0 ≡ length stack → 1 + 8 * length stack ≤ length b
    → numbers 1 (length stack) b ≡ stack → drop (1 + 8 * length stack) b ≡ rest → stack_in s b ≡ Some (stack, rest)
unfolding stack_in
read_back s b stack rest fits depth size stack_is rest_is =
    let some : nat_lt (length b) 1 ≡ false = le-ltb (length b) 1 (omega arith) in
    let few : nat_lt 64 (length stack) ≡ false = le-ltb 64 (length stack) fits.depth in
    let long : nat_lt (length b) (1 + 8 * length stack) ≡ false = le-ltb (length b) (1 + 8 * length stack) size in
    rw (some, depth, few, long, stack_is, rest_is) refl

complete : (s : Setting) (stack rest : List ℕ) → StackFits stack → stack_in s (stack_bytes stack ++ rest) ≡ Some (stack, rest)
unfolding stack_bytes
complete s stack rest fits =
    let d = length stack in
    let body = flat_map (bytes_of 8) stack in
    let b = d ∷ (body ++ rest) in
    let frames = length-frames stack in
    let size : 1 + 8 * d ≤ length b = omega (arith, length-append body rest) in
    let stack_is : numbers 1 d b ≡ stack = numbers_here stack rest 1 b refl fits.addresses in
    let rest_is : drop (1 + 8 * d) b ≡ rest = after 1 (8 * d) (1 + 8 * d) b body rest refl frames refl in
    read_back s b stack rest fits refl size stack_is rest_is

pub stacks_exact : (s : Setting) → IsExact stacks s StackFits
stacks_exact s = record {
  some = omega arith;
  long = λ stack fits. long_stack stack;
  sound = sound s;
  complete = complete s;
}
