-- The outermost addresses of a stack are the first ones of its path.
use Rattle.std.proofs.Common.{◌≡◌, ℕ, ◌+◌, List, ◌++◌, length, take, drop, reverse, sym}
use Rattle.std.proofs.Common.{ap, ◌∙◌, arith, length-drop}
use Rattle.std.proofs.Math.Seq.{take-append_seam}
use Rattle.std.proofs.lemmas.List.{take-append-drop, reverse-append, length-reverse}

-- the first elements of a reversed list are the last ones, reversed
pub take-reverse : (xs : List ℕ) (k n : ℕ) → k + n ≡ length xs → take n (reverse xs) ≡ reverse (drop k xs)
take-reverse xs k n e =
    let tail = reverse (drop k xs) in
    let parts : reverse xs ≡ tail ++ reverse (take k xs) = ap reverse (sym (take-append-drop k xs))
    ∙ reverse-append (take k xs) (drop k xs) in
    let len : length tail ≡ n = length-reverse (drop k xs) ∙ omega (arith, length-drop k xs, e) in
    ap (take n) parts ∙ ap (λ m. take m (tail ++ reverse (take k xs))) (sym len) ∙ take-append_seam tail (reverse (take k xs))
