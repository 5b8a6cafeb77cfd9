-- Numbers and their bytes, the lowest first, give each other back.
use Rattle.std.proofs.Common.{◌≡◌, ℕ, zero, suc, ◌+◌, ◌-◌, ◌*◌, ◌/◌, ◌%◌, ◌^◌, ◌<◌, ◌≤◌, List, [], ◌∷◌, ◌++◌, length, get_or, slice_index}
use Rattle.std.proofs.Common.{take, drop, refl, sym, ap, ◌∙◌, append_assoc, arith, inl, inr}
use Rattle.std.specs.Int.{byte_at, bytes_low_first}
use Rattle.std.proofs.Math.Nat.{div-div-eq-div-mul, pow-succ'}
use Rattle.std.proofs.Math.Seq.{drop-append_seam}
use Rattle.std.proofs.lemmas.Bool.{cases_lt}
use Rattle.std.proofs.lemmas.List.{take-append-drop, length-append, length-take, length-drop, drop-drop, take_all, get_or-drop}
use Rattle.std.proofs.lemmas.List.{get_or-take, get_or_past, get_or_append_left, get_or-append_right}
use Rattle.std.specs.List.{flat_map, AllByRecursion}
use Rattle.byteorder.specs.Endian.{little_from}
use Rattle.byteorder.specs.Numbers.{little_from-cons, little_from-lt, little_number-reads_back, length-bytes_low_first}
use Rattle.htl_segment.specs.Numbers.{IsBytes, number, numbers, bytes_of}

-- bytes without their first n are bytes
pub IsBytes-drop : (n : ℕ) (bytes : List ℕ) → IsBytes bytes → IsBytes (drop n bytes)
IsBytes-drop n bytes h i = rw get_or-drop (h (n + i))

-- the first n of some bytes are bytes
pub IsBytes-take : (n : ℕ) (bytes : List ℕ) → IsBytes bytes → IsBytes (take n bytes)
IsBytes-take n bytes h i =
    elim (cases_lt i n) [
      | inl lt ↦ rw (get_or-take n bytes i 0 lt) (h i)
      | inr le ↦ rw (get_or_past (take n bytes) i 0 (omega (arith, length-take n bytes))) (omega arith)
    ]

-- bytes put behind bytes are bytes
pub IsBytes-append : (a b : List ℕ) → IsBytes a → IsBytes b → IsBytes (a ++ b)
IsBytes-append a b first second i =
    elim (cases_lt i (length a)) [
      | inl lt ↦ rw (get_or_append_left a b 0 i lt) (first i)
      | inr le ↦ rw (get_or-append_right a b (length a) i 0 refl le) (second (i - length a))
    ]

byte_at-suc : (j x : ℕ) → byte_at (suc j) x ≡ byte_at j (x / 256)
byte_at-suc zero x = refl
byte_at-suc (suc j) x =
    let e : x / 256 ^ suc (suc j) ≡ x / 256 / 256 ^ suc j = ap (λ (p : ℕ). x / p) (pow-succ' 256 (suc j))
    ∙ sym (div-div-eq-div-mul x 256 (256 ^ suc j)) in
    ap (λ (y : ℕ). y % 256) e

low_first-suc : (j k x : ℕ) → bytes_low_first (suc j) k x ≡ bytes_low_first j k (x / 256)
low_first-suc j zero x = refl
low_first-suc j (suc k) x = rw (byte_at-suc j x, low_first-suc (suc j) k x) refl

-- the bytes of the number in n bytes are these bytes
low_first-number : (n : ℕ) (bytes : List ℕ) → IsBytes bytes → n ≤ length bytes → bytes_low_first 0 n (little_from 0 n bytes) ≡ take n bytes
low_first-number zero bytes small long = refl
low_first-number (suc n) [] small long = absurd (omega arith)
low_first-number (suc n) (b ∷ bytes) small long =
    let y = little_from 0 n bytes in
    let byte : b < 256 = small 0 in
    let low : (b + 256 * y) % 256 ≡ b = omega arith in
    let high : (b + 256 * y) / 256 ≡ y = omega arith in
    let rest = low_first-number n bytes (λ i. small (suc i)) (omega arith) in
    rw (little_from-cons 0 n b bytes, low_first-suc 0 n (b + 256 * y), low, high, rest) refl

pub bytes_of-number : (place n : ℕ) (bytes : List ℕ) → IsBytes bytes → place + n ≤ length bytes
    → bytes_of n (number place n bytes) ≡ take n (drop place bytes)
unfolding number bytes_of
bytes_of-number place n bytes small long =
    low_first-number n (drop place bytes) (IsBytes-drop place bytes small) (omega (arith, length-drop place bytes))

-- the bytes of the number at a place, and what follows
pub field : (place n next : ℕ) (bytes : List ℕ) → IsBytes bytes → place + n ≤ length bytes → next ≡ place + n
    → drop place bytes ≡ bytes_of n (number place n bytes) ++ drop next bytes
field place n next bytes small long at =
    rw (bytes_of-number place n bytes small long, at, ← drop-drop n place bytes) (sym (take-append-drop n (drop place bytes)))

-- what follows a place are n bytes there, and then what follows the next place
pub part : (place n next : ℕ) (bytes : List ℕ) → next ≡ place + n → drop place bytes ≡ take n (drop place bytes) ++ drop next bytes
part place n next bytes at = rw (at, ← drop-drop n place bytes) (sym (take-append-drop n (drop place bytes)))

-- the number in n bytes is below 256 ^ n
pub number-lt : (place n : ℕ) (bytes : List ℕ) → IsBytes bytes → number place n bytes < 256 ^ n
unfolding number
number-lt place n bytes small = little_from-lt 0 n (drop place bytes) (IsBytes-drop place bytes small)

-- the lowest n bytes of a number are n
pub length-bytes_of : (n x : ℕ) → length (bytes_of n x) ≡ n
unfolding bytes_of
length-bytes_of n x = length-bytes_low_first 0 n x

-- two lists of bytes of one length and one number are equal
pub bytes_from_number : (a b : List ℕ) → IsBytes a → IsBytes b → length a ≡ length b
    → number 0 (length a) a ≡ number 0 (length a) b → a ≡ b
bytes_from_number a b sa sb len same =
    let x : bytes_of (length a) (number 0 (length a) a) ≡ a = bytes_of-number 0 (length a) a sa (omega arith)
    ∙ take_all (length a) a (omega arith) in
    let y : bytes_of (length a) (number 0 (length a) b) ≡ b = bytes_of-number 0 (length a) b sb (omega arith)
    ∙ take_all (length a) b (omega arith) in
    sym x ∙ ap (bytes_of (length a)) same ∙ y

-- ---- lists of numbers

-- n numbers are read from a place on
pub length-numbers : (place n : ℕ) (bytes : List ℕ) → length (numbers place n bytes) ≡ n
unfolding numbers
length-numbers place zero bytes = refl
length-numbers place (suc n) bytes = let e = length-numbers (8 + place) n bytes in omega (arith, e)

-- each number of eight bytes is below 2 ^ 64
pub numbers-fit : (place n : ℕ) (bytes : List ℕ) → IsBytes bytes → AllByRecursion (λ a. a < 2 ^ 64) (numbers place n bytes)
unfolding numbers
numbers-fit place zero bytes small = tt
numbers-fit place (suc n) bytes small = (number-lt place 8 bytes small, numbers-fit (8 + place) n bytes small)

-- what follows a place are the bytes of the n numbers read there, and then what follows them
pub numbers_take : (place n next : ℕ) (bytes : List ℕ) → IsBytes bytes → place + 8 * n ≤ length bytes → next ≡ place + 8 * n
    → drop place bytes ≡ flat_map (bytes_of 8) (numbers place n bytes) ++ drop next bytes
unfolding numbers
numbers_take place zero next bytes small long at = let e : place ≡ next = omega arith in ap (λ (k : ℕ). drop k bytes) e
numbers_take place (suc n) next bytes small long at =
    let first = field place 8 (8 + place) bytes small (omega arith) (omega arith) in
    let others = numbers_take (8 + place) n next bytes small (omega arith) (omega arith) in
    first ∙ ap (λ (r : List ℕ). bytes_of 8 (number place 8 bytes) ++ r) others
    ∙ sym (append_assoc (bytes_of 8 (number place 8 bytes)) (flat_map (bytes_of 8) (numbers (8 + place) n bytes)) (drop next bytes))

-- ---- reading what is written, from one place to the next

-- where a piece of n bytes stands at a place, what follows it stands n bytes further on
pub after : (place n next : ℕ) (all piece rest : List ℕ) → drop place all ≡ piece ++ rest → length piece ≡ n → next ≡ place + n
    → drop next all ≡ rest
after place n next all piece rest here len at =
    rw (at, ← drop-drop n place all, here, ← len) (drop-append_seam piece rest)

-- where the n bytes of a number below 256 ^ n stand at a place, this number is read there
pub number_here : (place n x : ℕ) (bytes rest : List ℕ) → drop place bytes ≡ bytes_of n x ++ rest → x < 256 ^ n → number place n bytes ≡ x
unfolding number bytes_of
number_here place n x bytes rest here lt = ap (little_from 0 n) here ∙ little_number-reads_back n x rest lt

-- where the n bytes of a number stand at a place, what follows them stands n bytes further on
pub after_number : (place n next x : ℕ) (bytes rest : List ℕ) → drop place bytes ≡ bytes_of n x ++ rest → next ≡ place + n
    → drop next bytes ≡ rest
after_number place n next x bytes rest here at = after place n next bytes (bytes_of n x) rest here (length-bytes_of n x) at

-- where a byte stands at a place, it is found there
pub byte_here : (place x : ℕ) (bytes rest : List ℕ) → drop place bytes ≡ x ∷ rest → slice_index bytes place ≡ x
byte_here place x bytes rest here =
    let e : get_or (drop place bytes) 0 0 ≡ get_or bytes (place + 0) 0 = get_or-drop place bytes 0 0 in
    let z : place + 0 ≡ place = omega arith in
    ap (λ (k : ℕ). get_or bytes k 0) (sym z) ∙ sym e ∙ ap (λ (xs : List ℕ). get_or xs 0 0) here

-- where the bytes of numbers of 64 bits stand at a place, these numbers are read there
pub numbers_here : (xs rest : List ℕ) (place : ℕ) (bytes : List ℕ) → drop place bytes ≡ flat_map (bytes_of 8) xs ++ rest
    → AllByRecursion (λ a. a < 2 ^ 64) xs → numbers place (length xs) bytes ≡ xs
unfolding numbers
numbers_here [] rest place bytes here fits = refl
numbers_here (x ∷ xs) rest place bytes here fits =
    let more = flat_map (bytes_of 8) xs ++ rest in
    let first : drop place bytes ≡ bytes_of 8 x ++ more = here ∙ append_assoc (bytes_of 8 x) (flat_map (bytes_of 8) xs) rest in
    let others = numbers_here xs rest (8 + place) bytes (after_number place 8 (8 + place) x bytes more first (omega arith)) fits.1 in
    ap (λ (y : ℕ). y ∷ numbers (8 + place) (length xs) bytes) (number_here place 8 x bytes more first fits.0)
    ∙ ap (λ (ys : List ℕ). x ∷ ys) others

-- the bytes of addresses are eight for each address
pub length-frames : (xs : List ℕ) → length (flat_map (bytes_of 8) xs) ≡ 8 * length xs
length-frames [] = refl
length-frames (x ∷ xs) = omega (arith, length-append (bytes_of 8 x) (flat_map (bytes_of 8) xs), length-bytes_of 8 x, length-frames xs)
