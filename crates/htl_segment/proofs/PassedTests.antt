-- A test that passed tells that no fault was found, and one that failed which fault was.
use Rattle.std.proofs.Common.{◌≡◌, Bool, true, false, cond, Option, Some, None, refl}
use Rattle.htl_segment.specs.declared.fault.Fault.{Fault}
use Rattle.htl_segment.specs.Faults.{or_else}

-- a test that found no fault, before others that found none
pub passed : (b : Bool) (fault : Fault) (next : Option Fault) → cond b (Some fault) next ≡ None → (b ≡ false) × (next ≡ None)
passed true fault next e = absurd cc
passed false fault next e = (refl, e)

-- a last test that found no fault
pub ended : (b : Bool) (fault : Fault) → cond b None (Some fault) ≡ None → b ≡ true
ended true fault e = refl
ended false fault e = absurd cc

-- two parts of a test, of which neither found a fault
pub both_passed : (first next : Option Fault) → or_else first next ≡ None → (first ≡ None) × (next ≡ None)
both_passed None next e = (refl, e)
both_passed (Some fault) next e = absurd cc

-- `Some` as a function, so that what it was given can be told from what it gives
abbrev some : {A : Type 0} → A → Option A
some x = Some x

-- two values that are equal once wrapped in `Some` are equal
pub some_is : {A : Type 0} (x y : A) → some x ≡ some y → x ≡ y
some_is x y e = cc
