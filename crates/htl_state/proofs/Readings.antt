-- What a reading that succeeded tells of its steps.
use Rattle.std.proofs.Common.{◌≡◌, ℕ, Bool, true, false, cond, List, refl}
use Rattle.std.specs.Prelude.{Option, Some, None, Result, Ok, Err}
use Rattle.htl_segment.proofs.PassedTests.{some_is}
use Rattle.htl_state.specs.Reading.{Reading, and_then}

-- the first step of two, and the second
pub record TwoSteps {X Y : Type 0} (first : Reading X) (next : X → List ℕ → Reading Y) (y : Y × List ℕ) : Type 0 where
  pub read : X
  pub rest : List ℕ
  pub first_is : first ≡ Ok (read, rest)
  pub next_is : next read rest ≡ Ok y

pub two_steps : {X Y : Type 0} (first : Reading X) (next : X → List ℕ → Reading Y) (y : Y × List ℕ) → and_then first next ≡ Ok y
    → TwoSteps first next y
two_steps (Ok x) next y e = record { read = x.0; rest = x.1; first_is = refl; next_is = e }
two_steps (Err refused) next y e = absurd cc

-- a test that refused nothing
pub went_on : {X E : Type 0} (t : Bool) (bad : E) (next : Result X E) (x : X) → cond t (Err bad) next ≡ Ok x → (t ≡ false) × (next ≡ Ok x)
went_on true bad next x e = absurd cc
went_on false bad next x e = (refl, e)

-- `Ok` as a function
abbrev pub the_ok : {X E : Type 0} → X → Result X E
the_ok x = Ok x

-- two values that are equal once wrapped in `Ok` are equal
pub ok_is : {X E : Type 0} (x y : X) → the_ok {X = X} {E = E} x ≡ the_ok y → x ≡ y
ok_is x y e = cc

-- a test that let pass what was read
pub let_pass : {X E : Type 0} (t : Bool) (bad : E) (x y : X) → cond t (Ok x) (Err bad) ≡ Ok y → (t ≡ true) × (x ≡ y)
let_pass true bad x y e = (refl, ok_is x y e)
let_pass false bad x y e = absurd cc

-- a test that found a row
pub found : {X : Type 0} (t : Bool) (next : Option X) (x : X) → cond t None next ≡ Some x → (t ≡ false) × (next ≡ Some x)
found true next x e = absurd cc
found false next x e = (refl, e)

-- a test that has to pass for a row
pub kept : {X : Type 0} (t : Bool) (x y : X) → cond t (Some x) None ≡ Some y → (t ≡ true) × (x ≡ y)
kept true x y e = (refl, some_is x y e)
kept false x y e = absurd cc
