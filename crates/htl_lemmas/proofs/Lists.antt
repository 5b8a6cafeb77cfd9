-- What stands in front of a list are its first elements, what is left behind a place ends with it, and each of the first n numbers is below n.
use Rattle.std.proofs.Common.{◌≡◌, ◌<◌, ◌-◌, ◌++◌, ℕ, List, length, length-drop, take, take_all, drop, arith, subst}
use Rattle.std.specs.Prelude.{Contains}
use Rattle.std.specs.List.{range_with_len}
use Rattle.std.proofs.Math.Seq.{take-append_seam}
use Rattle.std.proofs.lemmas.List.FromFn.{length-range_with_len, get_or-range_with_len}

-- a list that is lent whole comes back whole
pub take_front : {X : Type 0} (xs zs : List X) (n : ℕ) → length xs ≡ n → take n (xs ++ zs) ≡ xs
take_front xs zs n e = subst (λ k. take k (xs ++ zs) ≡ xs) e (take-append_seam xs zs)

-- what is left of a list, as a slice to its end gives it
pub rest_is : {X : Type 0} (xs : List X) (i : ℕ) → take (length xs - i) (drop i xs) ≡ drop i xs
rest_is xs i = take_all (length xs - i) (drop i xs) (omega (arith, length-drop i xs))

-- each of the first n numbers is below n
pub range_below : (n i : ℕ) → Contains (range_with_len 0 n) i → i < n
range_below n i h =
    let len = length-range_with_len 0 n in
    let lt = h.1 in
    let at = get_or-range_with_len 0 n h.0 i (omega (arith, len, lt)) in
    let is = h.2 in
    omega (arith, len, lt, at, is)
