-- The addresses of a stack stand in bytes, eight each, and are read from there one by one.
use Rattle.std.proofs.Common.{◌≡◌, ℕ, zero, suc, ◌+◌, ◌-◌, ◌*◌, ◌<◌, ◌≤◌, List, [], ◌∷◌, ◌++◌, take, drop, refl, sym, ap, ◌∙◌}
use Rattle.std.proofs.Common.{append_assoc, arith}
use Rattle.std.proofs.lemmas.List.{append-nil, drop-drop, drop-take}
use Rattle.byteorder.specs.Endian.{little_from}
use Rattle.byteorder.specs.Numbers.{little_from-take}
use Rattle.htl_segment.specs.Numbers.{number, numbers}

-- a number inside a part of the bytes
pub number-part : (at n size place : ℕ) (bytes : List ℕ) → at + n ≤ size
    → number at n (take size (drop place bytes)) ≡ number (place + at) n bytes
unfolding number
number-part at n size place bytes inside =
    let room : size ≡ at + (size - at) = omega arith in
    let cut : drop at (take size (drop place bytes)) ≡ take (size - at) (drop (place + at) bytes) =
    ap (λ (k : ℕ). drop at (take k (drop place bytes))) room ∙ drop-take at (size - at) (drop place bytes)
    ∙ ap (take (size - at)) (drop-drop at place bytes) in
    ap (little_from 0 n) cut ∙ little_from-take 0 n (size - at) (drop (place + at) bytes) (omega arith)

numbers-within : (at n size place : ℕ) (bytes : List ℕ) → at + 8 * n ≤ size
    → numbers at n (take size (drop place bytes)) ≡ numbers (place + at) n bytes
unfolding numbers
numbers-within at zero size place bytes inside = refl
numbers-within at (suc n) size place bytes inside =
    let next : place + (8 + at) ≡ 8 + (place + at) = omega arith in
    rw (number-part at 8 size place bytes (omega arith), numbers-within (8 + at) n size place bytes (omega arith), next) refl

-- the numbers of a part of the bytes
pub numbers-part : (n size place : ℕ) (bytes : List ℕ) → size ≡ 8 * n → numbers 0 n (take size (drop place bytes)) ≡ numbers place n bytes
numbers-part n size place bytes whole =
    let here : place + 0 ≡ place = omega arith in
    numbers-within 0 n size place bytes (omega arith) ∙ ap (λ (k : ℕ). numbers k n bytes) here

-- ---- a loop that appends the numbers one after the other

-- the numbers read so far with the next one, and the numbers behind it, are still all
pub numbers-more : (front : List ℕ) (i n : ℕ) (bytes total : List ℕ) → i < n → front ++ numbers (8 * i) (n - i) bytes ≡ total
    → (front ++ number (8 * i) 8 bytes ∷ []) ++ numbers (8 * (i + 1)) (n - (i + 1)) bytes ≡ total
unfolding numbers
numbers-more front i n bytes total lt so_far =
    let left : n - i ≡ suc (n - (i + 1)) = omega arith in
    let next : 8 * (i + 1) ≡ 8 + 8 * i = omega arith in
    let one : front ++ numbers (8 * i) (n - i) bytes ≡ front ++ (number (8 * i) 8 bytes ∷ numbers (8 + 8 * i) (n - (i + 1)) bytes) =
    rw left refl in
    rw (append_assoc, next) (sym one ∙ so_far)

-- after the last number, the numbers read are all
pub numbers-all : (front : List ℕ) (i n : ℕ) (bytes total : List ℕ) → n ≤ i → front ++ numbers (8 * i) (n - i) bytes ≡ total
    → front ≡ total
unfolding numbers
numbers-all front i n bytes total le so_far =
    let left : n - i ≡ 0 = omega arith in
    let one : front ++ numbers (8 * i) (n - i) bytes ≡ front = rw left (append-nil front) in
    sym one ∙ so_far
