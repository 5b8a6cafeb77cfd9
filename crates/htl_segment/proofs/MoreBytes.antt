-- More bytes behind a number, a header or a whole segment don't change what is read there.
use Rattle.std.proofs.Common.{◌≡◌, ℕ, ◌+◌, ◌-◌, ◌≤◌, false, nat_lt, List, ◌++◌, length, take, drop, refl, sym, ap, ◌∙◌, arith}
use Rattle.std.proofs.lemmas.Bool.{le-ltb}
use Rattle.std.proofs.lemmas.List.{length-append, length-drop, take_at, take-append-le, drop-append-le}
use Rattle.htl_segment.specs.Numbers.{number}
use Rattle.htl_segment.specs.Reading.{length_in, body_in}
use Rattle.htl_segment.specs.Faults.{header_fault, first_fault}
use Rattle.htl_segment.proofs.Frames.{number-part}

-- a number is the same where more bytes follow
pub number-append : (place n : ℕ) (b more : List ℕ) → place + n ≤ length b → number place n (b ++ more) ≡ number place n b
number-append place n b more inside =
    let here : 0 + place ≡ place = omega arith in
    let part = number-part place n (length b) 0 (b ++ more) inside in
    sym (ap (λ (b : List ℕ). number place n b) (sym (take_at b more (length b) refl)) ∙ part ∙ ap (λ (k : ℕ). number k n (b ++ more)) here)

-- a header has the same fault where more bytes follow
pub header_fault-append : (b more : List ℕ) → 32 ≤ length b → header_fault (b ++ more) ≡ header_fault b
unfolding header_fault
header_fault-append b more long =
    let short : nat_lt (length b) 32 ≡ false = le-ltb _ _ long in
    let longer : nat_lt (length (b ++ more)) 32 ≡ false = le-ltb _ _ (omega (arith, length-append b more)) in
    let magic : take 4 (b ++ more) ≡ take 4 b = take-append-le 4 b more (omega arith) in
    rw (
      short,
      longer,
      magic,
      number-append 4 2 b more (omega arith),
      number-append 6 2 b more (omega arith),
      number-append 8 2 b more (omega arith),
      number-append 10 2 b more (omega arith),
      number-append 12 4 b more (omega arith),
      number-append 24 4 b more (omega arith),
      number-append 28 4 b more (omega arith),
    ) refl

-- a whole segment has the same first fault where more bytes follow
pub first_fault-append : (b more : List ℕ) → 32 ≤ length b → length_in b ≤ length b → first_fault (b ++ more) ≡ first_fault b
unfolding first_fault
first_fault-append b more long whole =
    let t : nat_lt (length b) (length_in b) ≡ false = le-ltb _ _ whole in
    let u : nat_lt (length (b ++ more)) (length_in b) ≡ false = le-ltb _ _ (omega (arith, length-append b more)) in
    let body : take (length_in b - 32) (drop 32 (b ++ more)) ≡ body_in b =
    rw (drop-append-le 32 b more long) (take-append-le (length_in b - 32) (drop 32 b) more (omega (arith, length-drop 32 b))) in
    rw (
      header_fault-append b more long,
      number-append 28 4 b more (omega arith),
      t,
      u,
      number-append 4 2 b more (omega arith),
      number-append 24 4 b more (omega arith),
      body,
    ) refl
