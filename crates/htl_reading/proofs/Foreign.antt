-- Where the first foreign byte stands of a text that comes in pieces.
use Rattle.std.proofs.Common.{◌≡◌, ◌<◌, ◌+◌, ◌++◌, ◌∷◌, [], ℕ, suc, Bool, true, false, not, List, Option, Some, None}
use Rattle.std.proofs.Common.{length, arith, refl, cond, length-append}
use Rattle.std.proofs.lemmas.List.Sums.{prefix_len-le-length}
use Rattle.std.specs.Prelude.{position, IfSome}
use Rattle.std.specs.List.{prefix_len}
use Rattle.std.specs.Io.KnownBytes.{Consumes}

whole_step : (b : Bool) (m k t j : ℕ) → cond b (1 + m) 0 ≡ suc k → (m ≡ k → t ≡ k + j) → cond b (1 + t) 0 ≡ suc k + j
whole_step true m k t j is rest = let same : m ≡ k = omega (arith, is) in omega (arith, rest same)
whole_step false m k t j is rest = absurd (cc is)

stops_step : (b : Bool) (m k t : ℕ) → cond b (1 + m) 0 < suc k → (m < k → t ≡ m) → cond b (1 + t) 0 ≡ cond b (1 + m) 0
stops_step true m k t less rest = let fewer : m < k = omega (arith, less) in omega (arith, rest fewer)
stops_step false m k t less rest = refl

-- a front that passes whole, and more
whole_front : (p : ℕ → Bool) (xs ys : List ℕ) → prefix_len p xs ≡ length xs → prefix_len p (xs ++ ys) ≡ length xs + prefix_len p ys
whole_front p [] ys is = omega arith
whole_front p (x ∷ xs) ys is =
    whole_step (p x) (prefix_len p xs) (length xs) (prefix_len p (xs ++ ys)) (prefix_len p ys) is (whole_front p xs ys)

-- a front that doesn't, and more
stopped_front : (p : ℕ → Bool) (xs ys : List ℕ) → prefix_len p xs < length xs → prefix_len p (xs ++ ys) ≡ prefix_len p xs
stopped_front p [] ys less = absurd (omega (arith, less))
stopped_front p (x ∷ xs) ys less =
    stops_step (p x) (prefix_len p xs) (length xs) (prefix_len p (xs ++ ys)) less (stopped_front p xs ys)

abbrev at_or_none : ℕ → Bool → Option ℕ
at_or_none n b = cond b (Some n) None

none_is : (n : ℕ) (b : Bool) → at_or_none n b ≡ None → b ≡ false
none_is n true is = let never : Some n ≡ None = is in absurd (cc never)
none_is n false is = refl

some_is : (n i : ℕ) (b : Bool) → at_or_none n b ≡ Some i → (b ≡ true) × (n ≡ i)
some_is n i true is = let same : Some n ≡ Some i = is in (refl, cc same)
some_is n i false is = let never : None ≡ Some i = is in absurd (cc never)

-- pieces without a foreign byte
pub clean_more : (f : ℕ → Bool) (xs ys : List ℕ) → position f xs ≡ None → position f ys ≡ None → position f (xs ++ ys) ≡ None
clean_more f xs ys first more =
    let p : ℕ → Bool = λ x. not (f x) in
    let e1 = none_is _ _ first in
    let e2 = none_is _ _ more in
    let all : prefix_len p xs ≡ length xs = grind (arith, prefix_len-le-length p xs, e1) in
    let rest : prefix_len p ys ≡ length ys = grind (arith, prefix_len-le-length p ys, e2) in
    let both = whole_front p xs ys all in
    grind (arith, both, rest, length-append xs ys)

-- the first one after such pieces
pub found_after : (f : ℕ → Bool) (xs ys : List ℕ) (i : ℕ) → position f xs ≡ None → position f ys ≡ Some i
    → position f (xs ++ ys) ≡ Some (length xs + i)
found_after f xs ys i first more =
    let p : ℕ → Bool = λ x. not (f x) in
    let e1 = none_is _ _ first in
    let e2 = some_is _ _ _ more in
    let all : prefix_len p xs ≡ length xs = grind (arith, prefix_len-le-length p xs, e1) in
    let both = whole_front p xs ys all in
    grind (arith, both, e2.0, e2.1, length-append xs ys)

-- and whatever comes later
pub found_more : (f : ℕ → Bool) (xs ys : List ℕ) (i : ℕ) → position f xs ≡ Some i → position f (xs ++ ys) ≡ Some i
found_more f xs ys i first =
    let p : ℕ → Bool = λ x. not (f x) in
    let e = some_is _ _ _ first in
    let less : prefix_len p xs < length xs = grind (arith, e.0) in
    let same = stopped_front p xs ys less in
    grind (arith, same, e.0, e.1, length-append xs ys)

-- the same of the bytes of a source, of which these pieces were read
pub found_known : (f : ℕ → Bool) (given left : Option (List ℕ)) (text piece : List ℕ) (i : ℕ) → Consumes given left (text ++ piece)
    → position f text ≡ None → position f piece ≡ Some i → IfSome given (λ known. position f known ≡ Some (length text + i))
found_known f None left text piece i read first more = tt
found_known f (Some known) None text piece i read first more = absurd read
found_known f (Some known) (Some rest) text piece i read first more =
    rw read (found_more f (text ++ piece) rest (length text + i) (found_after f text piece i first more))
