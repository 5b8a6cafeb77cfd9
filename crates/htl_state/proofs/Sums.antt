-- Bytes of one length that differ in one byte have different sums, since the base is odd: it has an inverse modulo 2^64.
use Rattle.std.proofs.Common.{◌≡◌, ℕ, suc, ◌+◌, ◌-◌, ◌*◌, ◌%◌, ◌^◌, ◌<◌, ◌≤◌, List, [], ◌∷◌, ◌++◌, refl, sym, ap, ◌∙◌, arith, inl, inr, ◌⊎◌}
use Rattle.std.proofs.Math.Nat.{mod-lt, mod-eq_of_lt, add-mod_left, add-mul-mod_self_left, mul_assoc, mul-add, mul_left_comm}
use Rattle.std.proofs.lemmas.Nat.{mul-mod_first}
use Rattle.std.proofs.lemmas.Bool.{cases_lt}
use Rattle.htl_segment.specs.Numbers.{IsBytes}
use Rattle.htl_state.specs.Checksum.{base, with_byte, with_bytes, checksum}

-- ---- any modulus and base

record Wraps (m x : ℕ) : Type 0 where
  is : ((x % m ≡ x) × (x < m)) ⊎ ((x % m + m ≡ x) × (m ≤ x))

-- a number below twice the modulus
wraps : (m x : ℕ) → x < m + m → Wraps m x
wraps m x lt =
    elim (cases_lt x m) [
      | inl below ↦ record { is = inl (mod-eq_of_lt below, below) }
      | inr above ↦
          (let parts : x ≡ m + (x - m) = omega arith in
          let less : x - m < m = omega arith in
          let rest : x % m ≡ x - m = ap (λ (y : ℕ). y % m) parts ∙ add-mod_left m (x - m) ∙ mod-eq_of_lt less in
          record { is = inr (omega (arith, rest), above) })
    ]

-- what is added to one number modulo m can be told from the outcome
same_added : (m p q b : ℕ) → p < m → q < m → b < m → (p + b) % m ≡ (q + b) % m → p ≡ q
same_added m p q b pm qm bm e =
    elim ((wraps m (p + b) (omega arith)).is) [
      | inl u ↦ elim ((wraps m (q + b) (omega arith)).is) [ inl v ↦ omega (arith, e, u.0, v.0) | inr v ↦ omega (arith, e, u.0, u.1, v.0, v.1) ]
      | inr u ↦ elim ((wraps m (q + b) (omega arith)).is) [ inl v ↦ omega (arith, e, u.0, u.1, v.0, v.1) | inr v ↦ omega (arith, e, u.0, v.0) ]
    ]

same_last : (m p x y : ℕ) → p < m → x < m → y < m → (p + x) % m ≡ (p + y) % m → x ≡ y
same_last m p x y pm xm ym e =
    let left : p + x ≡ x + p = omega arith in
    let right : p + y ≡ y + p = omega arith in
    same_added m x y p xm ym pm (ap (λ (n : ℕ). n % m) (sym left) ∙ e ∙ ap (λ (n : ℕ). n % m) right)

-- a factor with an inverse is taken back by it
taken_back : (m k j c h : ℕ) → k * j ≡ 1 + m * c → h < m → (h * k % m * j) % m ≡ h
taken_back m k j c h inverse lt =
    let grouped : h * k * j ≡ h + m * (h * c) =
    mul_assoc h k j ∙ ap (λ (x : ℕ). h * x) inverse ∙ mul-add h 1 (m * c)
    ∙ (let one : h * 1 ≡ h = omega arith in ap (λ (x : ℕ). x + h * (m * c)) one)
    ∙ ap (λ (x : ℕ). h + x) (mul_left_comm h m c) in
    mul-mod_first (h * k) j m ∙ ap (λ (x : ℕ). x % m) grouped ∙ add-mul-mod_self_left h m (h * c) ∙ mod-eq_of_lt lt

same_product : (m k j c h g : ℕ) → k * j ≡ 1 + m * c → h < m → g < m → h * k % m ≡ g * k % m → h ≡ g
same_product m k j c h g inverse hm gm e =
    sym (taken_back m k j c h inverse hm) ∙ ap (λ (x : ℕ). (x * j) % m) e ∙ taken_back m k j c g inverse gm

-- ---- the sums of the format

inverse_of_base : base * 0xF1DE83E19937733D ≡ 1 + 2 ^ 64 * 10771413168148108919
inverse_of_base = refl

pub with_byte-lt : (sum byte : ℕ) → with_byte sum byte < 2 ^ 64
unfolding with_byte
with_byte-lt sum byte = mod-lt (sum * base % 2 ^ 64 + byte) (omega arith)

pub with_bytes-lt : (sum : ℕ) (bytes : List ℕ) → sum < 2 ^ 64 → with_bytes sum bytes < 2 ^ 64
unfolding with_bytes
with_bytes-lt sum [] lt = lt
with_bytes-lt sum (b ∷ bytes) lt = with_bytes-lt (with_byte sum b) bytes (with_byte-lt sum b)

below : (sum : ℕ) → sum * base % 2 ^ 64 < 2 ^ 64
below sum = mod-lt (sum * base) (omega arith)

same_before : (h g byte : ℕ) → h < 2 ^ 64 → g < 2 ^ 64 → byte < 256 → with_byte h byte ≡ with_byte g byte → h ≡ g
unfolding with_byte
same_before h g byte hm gm small e =
    same_product (2 ^ 64) base 0xF1DE83E19937733D 10771413168148108919 h g inverse_of_base hm gm
    (same_added (2 ^ 64) (h * base % 2 ^ 64) (g * base % 2 ^ 64) byte (below h) (below g) (omega arith) e)

same_byte : (sum x y : ℕ) → x < 256 → y < 256 → with_byte sum x ≡ with_byte sum y → x ≡ y
unfolding with_byte
same_byte sum x y xs ys e = same_last (2 ^ 64) (sum * base % 2 ^ 64) x y (below sum) (omega arith) (omega arith) e

same_start : (bytes : List ℕ) (h g : ℕ) → IsBytes bytes → h < 2 ^ 64 → g < 2 ^ 64 → with_bytes h bytes ≡ with_bytes g bytes → h ≡ g
unfolding with_bytes
same_start [] h g small hm gm e = e
same_start (b ∷ bytes) h g small hm gm e =
    let first : b < 256 = small 0 in
    same_before h g b hm gm first
    (same_start bytes (with_byte h b) (with_byte g b) (λ i. small (suc i)) (with_byte-lt h b) (with_byte-lt g b) e)

with_bytes-append : (sum : ℕ) (a b : List ℕ) → with_bytes sum (a ++ b) ≡ with_bytes (with_bytes sum a) b
unfolding with_bytes
with_bytes-append sum [] b = refl
with_bytes-append sum (x ∷ a) b = with_bytes-append (with_byte sum x) a b

-- where one byte differs, so do the sums
pub same_sum : (a rest : List ℕ) (x y : ℕ) → IsBytes rest → x < 256 → y < 256 → checksum (a ++ x ∷ rest) ≡ checksum (a ++ y ∷ rest) → x ≡ y
unfolding with_bytes
same_sum a rest x y small xs ys e =
    let start = with_bytes 0 a in
    let both : with_bytes (with_byte start x) rest ≡ with_bytes (with_byte start y) rest =
    sym (with_bytes-append 0 a (x ∷ rest)) ∙ e ∙ with_bytes-append 0 a (y ∷ rest) in
    same_byte start x y xs ys
    (same_start rest (with_byte start x) (with_byte start y) small (with_byte-lt start x) (with_byte-lt start y) both)
