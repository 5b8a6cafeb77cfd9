-- What two writes add to known bytes, one after the other, is the texts of both.
use Rattle.std.proofs.Common.{◌+◌, ℕ, List, ◌++◌, length, take, drop, take-add, append_assoc, Option, Some, None}
use Rattle.std.specs.Io.KnownBytes.{Appends}
use Rattle.std.proofs.KnownBytes.{Appends-trans}
use Rattle.std.proofs.Math.Seq.{take-append-add}
use Rattle.htl_device.specs.Devices.{AppendsPrefix}

-- two parts of a text, one after the other
pub appends-more : (old mid new : Option (List ℕ)) (text : List ℕ) (i n : ℕ) → Appends old mid (take i text)
    → Appends mid new (take n (drop i text)) → Appends old new (take (i + n) text)
appends-more None mid new text i n a b = tt
appends-more (Some xs) None new text i n a b = absurd a
appends-more (Some xs) (Some ys) None text i n a b = absurd b
appends-more (Some xs) (Some ys) (Some zs) text i n a b =
    rw (b, a, take-add i n text) (append_assoc xs (take i text) (take n (drop i text)))

-- one text, and then some first bytes of another
pub prefix_after : (old mid new : Option (List ℕ)) (first more : List ℕ) → Appends old mid first → AppendsPrefix mid new more
    → AppendsPrefix old new (first ++ more)
prefix_after old mid new first more went part =
    let all = Appends-trans old mid new first (take part.0 more) went part.1 in
    (length first + part.0, rw (take-append-add first more part.0) all)
