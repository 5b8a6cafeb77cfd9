-- No two states have bytes of one length that differ in one byte.
use Rattle.std.proofs.Common.{◌≡◌, ℕ, suc, ◌+◌, ◌-◌, ◌<◌, ◌≤◌, List, [], ◌∷◌, ◌++◌, length, get_or, take, drop, refl, sym, ap, ◌∙◌, arith, inl, inr}
use Rattle.std.proofs.lemmas.List.{length-append, take-append-le, get_or-take, get_or-drop}
use Rattle.std.proofs.lemmas.Bool.{cases_lt}
use Rattle.std.proofs.Math.Seq.{get_or-append_seam}
use Rattle.byteorder.specs.Endian.{little_number}
use Rattle.htl_segment.specs.Numbers.{IsBytes, number, bytes_of}
use Rattle.htl_segment.proofs.Bytes.{IsBytes-drop, IsBytes-take, bytes_of-number}
use Rattle.htl_state.specs.Checksum.{checksum}
use Rattle.htl_state.specs.Rows.{State}
use Rattle.htl_state.specs.WellFormed.{Spells}
use Rattle.htl_state.proofs.Sums.{same_sum}
use Rattle.htl_state.proofs.States.{framed_state}

take-past : (a rest : List ℕ) (x n : ℕ) → take (length a + suc n) (a ++ x ∷ rest) ≡ a ++ x ∷ take n rest
take-past [] rest x n = let e : 0 + suc n ≡ suc n = omega arith in rw e refl
take-past (c ∷ a) rest x n =
    let e : suc (length a) + suc n ≡ suc (length a + suc n) = omega arith in
    rw e (ap (λ (l : List ℕ). c ∷ l) (take-past a rest x n))

drop-past : (a rest : List ℕ) (x n : ℕ) → drop (length a + suc n) (a ++ x ∷ rest) ≡ drop n rest
drop-past [] rest x n = let e : 0 + suc n ≡ suc n = omega arith in rw e refl
drop-past (c ∷ a) rest x n = let e : suc (length a) + suc n ≡ suc (length a + suc n) = omega arith in rw e (drop-past a rest x n)

same_number : (p n : ℕ) (a b : List ℕ) → drop p a ≡ drop p b → number p n a ≡ number p n b
unfolding number
same_number p n a b e = ap (little_number n) e

-- the byte at a place before the end of the sum
at_place : (a rest : List ℕ) (x p i : ℕ) → p + i ≡ length a → i < 8 → get_or (take 8 (drop p (a ++ x ∷ rest))) i 0 ≡ x
at_place a rest x p i place lt =
    get_or-take 8 (drop p (a ++ x ∷ rest)) i 0 lt ∙ get_or-drop p (a ++ x ∷ rest) i 0
    ∙ ap (λ (k : ℕ). get_or (a ++ x ∷ rest) k 0) place ∙ get_or-append_seam a x rest 0

-- the byte is one that the checksum is over
before_sum : (a rest : List ℕ) (x y end : ℕ) → IsBytes rest → x < 256 → y < 256 → length a < end
    → number end 8 (a ++ x ∷ rest) ≡ checksum (take end (a ++ x ∷ rest)) → number end 8 (a ++ y ∷ rest) ≡ checksum (take end (a ++ y ∷ rest))
    → x ≡ y
before_sum a rest x y end small xs ys inside p q =
    let n = end - (length a + 1) in
    let place : end ≡ length a + suc n = omega arith in
    let tail : drop end (a ++ x ∷ rest) ≡ drop end (a ++ y ∷ rest) =
    ap (λ (k : ℕ). drop k (a ++ x ∷ rest)) place ∙ drop-past a rest x n ∙ sym (drop-past a rest y n)
    ∙ ap (λ (k : ℕ). drop k (a ++ y ∷ rest)) (sym place) in
    let sums : checksum (take end (a ++ x ∷ rest)) ≡ checksum (take end (a ++ y ∷ rest)) =
    sym p ∙ same_number end 8 (a ++ x ∷ rest) (a ++ y ∷ rest) tail ∙ q in
    let first : take end (a ++ x ∷ rest) ≡ a ++ x ∷ take n rest = ap (λ (k : ℕ). take k (a ++ x ∷ rest)) place ∙ take-past a rest x n in
    let second : take end (a ++ y ∷ rest) ≡ a ++ y ∷ take n rest = ap (λ (k : ℕ). take k (a ++ y ∷ rest)) place ∙ take-past a rest y n in
    same_sum a (take n rest) x y (IsBytes-take n rest small) xs ys (sym (ap checksum first) ∙ sums ∙ ap checksum second)

-- the byte is one of the checksum
inside_sum : (a rest : List ℕ) (x y end : ℕ) → IsBytes (a ++ x ∷ rest) → IsBytes (a ++ y ∷ rest) → end ≤ length a → length a < end + 8
    → end + 8 ≤ length (a ++ x ∷ rest) → end + 8 ≤ length (a ++ y ∷ rest) → number end 8 (a ++ x ∷ rest) ≡ checksum (take end (a ++ x ∷ rest))
    → number end 8 (a ++ y ∷ rest) ≡ checksum (take end (a ++ y ∷ rest)) → x ≡ y
inside_sum a rest x y end small small' low high long long' p q =
    let i = length a - end in
    let place : end + i ≡ length a = omega arith in
    let front : take end (a ++ x ∷ rest) ≡ take end (a ++ y ∷ rest) =
    take-append-le end a (x ∷ rest) low ∙ sym (take-append-le end a (y ∷ rest) low) in
    let numbers : number end 8 (a ++ x ∷ rest) ≡ number end 8 (a ++ y ∷ rest) = p ∙ ap checksum front ∙ sym q in
    let eight : take 8 (drop end (a ++ x ∷ rest)) ≡ take 8 (drop end (a ++ y ∷ rest)) =
    sym (bytes_of-number end 8 (a ++ x ∷ rest) small long) ∙ ap (bytes_of 8) numbers ∙ bytes_of-number end 8 (a ++ y ∷ rest) small' long' in
    sym (at_place a rest x end i place (omega arith)) ∙ ap (λ (l : List ℕ). get_or l i 0) eight ∙ at_place a rest y end i place (omega arith)

pub one_byte : (a rest : List ℕ) (x y : ℕ) (s t : State) → IsBytes (a ++ x ∷ rest) → IsBytes (a ++ y ∷ rest) → Spells (a ++ x ∷ rest) s
    → Spells (a ++ y ∷ rest) t → x ≡ y
one_byte a rest x y s t small small' p q =
    let b = a ++ x ∷ rest in
    let b' = a ++ y ∷ rest in
    let f = framed_state b s p in
    let g = framed_state b' t q in
    let size : length b ≡ length a + suc (length rest) = length-append a (x ∷ rest) in
    let same : length b' ≡ length b = length-append a (y ∷ rest) ∙ sym size in
    let end = length b - 8 in
    let sum : number end 8 b ≡ checksum (take end b) = f.sum in
    let sum' : number end 8 b' ≡ checksum (take end b') = rw same at g.sum in
    let long : 40 ≤ length b = f.long in
    let here : x < 256 = rw (get_or-append_seam a x rest 0) at (small (length a)) in
    let here' : y < 256 = rw (get_or-append_seam a y rest 0) at (small' (length a)) in
    let others : IsBytes rest = rw (drop-past a rest x 0) at (IsBytes-drop (length a + suc 0) b small) in
    elim (cases_lt (length a) end) [
      | inl inside ↦ before_sum a rest x y end others here here' inside sum sum'
      | inr low ↦ inside_sum a rest x y end small small' low (omega arith) (omega arith) (omega arith) sum sum'
    ]
