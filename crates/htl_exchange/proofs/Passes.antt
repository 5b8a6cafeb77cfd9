-- One pass, and one parcel, add their runs, parts and pushes to what all have.
use Rattle.std.proofs.Common.{◌≡◌, ◌≢◌, ℕ, zero, suc, ◌+◌, ◌≤◌, Bool, false, ◌||◌, List, [], ◌∷◌, ◌++◌, set, sym, refl, ap, ◌∙◌, arith}
use mathlib.Core.Bool.{or-false, or_assoc}
use Rattle.htl_lemmas.proofs.Tests.{or_swap}
use mathlib.Core.Option.{some, some-injective, some-ne-none}
use lib.ListN.{get_elem?}
use Rattle.htl_exchange.specs.declared.pass.Known.{Known}
use Rattle.htl_exchange.specs.declared.parcel.Parcel.{Parcel}
use Rattle.htl_exchange.specs.Runs.{has}
use Rattle.htl_exchange.specs.Parcels.{runs_in}
use Rattle.htl_exchange.specs.Rule.{total, parts_of, any_got, any_in}

-- what the passes but one have got
abbrev pub others : ℕ → List Known → ℕ → Bool
others p [] i = false
others p (v ∷ vs) zero = any_got p vs
others p (v ∷ vs) (suc i) = has v.got p || others p vs i

-- where one pass is exchanged, a run is got by the new one or by the others
pub any_got-set : (p : ℕ) (vs : List Known) (i : ℕ) (v w : Known) → get_elem? vs i ≡ some v → any_got p (set vs i w) ≡ (has w.got p || others p vs i)
any_got-set p [] i v w e = absurd (some-ne-none v (sym e))
any_got-set p (u ∷ vs) zero v w e = refl
any_got-set p (u ∷ vs) (suc i) v w e = ap (λ b. has u.got p || b) (any_got-set p vs i v w e) ∙ or_swap (has u.got p) (has w.got p) (others p vs i)

-- a run is got by the pass at a place or by the others
pub any_got-at : (p : ℕ) (vs : List Known) (i : ℕ) (v : Known) → get_elem? vs i ≡ some v → any_got p vs ≡ (has v.got p || others p vs i)
any_got-at p [] i v e = absurd (some-ne-none v (sym e))
any_got-at p (u ∷ vs) zero v e = ap (λ (x : Known). has x.got p || any_got p vs) (some-injective u v e)
any_got-at p (u ∷ vs) (suc i) v e = ap (λ b. has u.got p || b) (any_got-at p vs i v e) ∙ or_swap (has u.got p) (has v.got p) (others p vs i)

-- with a pass put last, a run is got by those before or by this one
pub any_got-last : (p : ℕ) (vs : List Known) (u : Known) → any_got p (vs ++ u ∷ []) ≡ (any_got p vs || has u.got p)
any_got-last p [] u = or-false (has u.got p)
any_got-last p (v ∷ vs) u = ap (λ b. has v.got p || b) (any_got-last p vs u) ∙ sym (or_assoc (has v.got p) (any_got p vs) (has u.got p))

-- with a parcel put last, a run is in those before or in this one
pub any_in-last : (p : ℕ) (xs : List Parcel) (x : Parcel) → any_in p (xs ++ x ∷ []) ≡ (any_in p xs || has (runs_in x) p)
any_in-last p [] x = or-false (has (runs_in x) p)
any_in-last p (y ∷ xs) x = ap (λ b. has (runs_in y) p || b) (any_in-last p xs x) ∙ sym (or_assoc (has (runs_in y) p) (any_in p xs) (has (runs_in x) p))

-- where one pass is exchanged, the total loses the old one's number and gains the new one's
pub total-set : (f : Known → ℕ) (vs : List Known) (i : ℕ) (v w : Known) → get_elem? vs i ≡ some v
    → total f (set vs i w) + f v ≡ total f vs + f w
total-set f [] i v w e = absurd (some-ne-none v (sym e))
total-set f (u ∷ vs) zero v w e = let h : f u ≡ f v = ap f (some-injective u v e) in omega (arith, h)
total-set f (u ∷ vs) (suc i) v w e = omega (arith, total-set f vs i v w e)

pub parts-at : (vs : List Known) (i : ℕ) (v : Known) → get_elem? vs i ≡ some v → v.parts ≤ parts_of vs
parts-at [] i v e = absurd (some-ne-none v (sym e))
parts-at (u ∷ vs) zero v e = let h : u.parts ≡ v.parts = ap (λ (x : Known). x.parts) (some-injective u v e) in omega arith
parts-at (u ∷ vs) (suc i) v e = omega (arith, parts-at vs i v e)

-- with a pass put last, the total gains its number
pub total-last : (f : Known → ℕ) (vs : List Known) (u : Known) → total f (vs ++ u ∷ []) ≡ total f vs + f u
total-last f [] u = omega arith
total-last f (v ∷ vs) u = omega (arith, total-last f vs u)

-- two of the passes have no more parts together than all
pub parts-two : (vs : List Known) (i j : ℕ) (v u : Known) → j ≢ i → get_elem? vs i ≡ some v → get_elem? vs j ≡ some u → v.parts + u.parts ≤ parts_of vs
parts-two [] i j v u n e f = absurd (some-ne-none v (sym e))
parts-two (x ∷ vs) zero zero v u n e f = absurd (n refl)
parts-two (x ∷ vs) zero (suc j) v u n e f =
    let h : x.parts ≡ v.parts = ap (λ (y : Known). y.parts) (some-injective x v e) in
    let k : u.parts ≤ parts_of vs = parts-at vs j u f in
    omega arith
parts-two (x ∷ vs) (suc i) zero v u n e f =
    let h : x.parts ≡ u.parts = ap (λ (y : Known). y.parts) (some-injective x u f) in
    let k : v.parts ≤ parts_of vs = parts-at vs i v e in
    omega arith
parts-two (x ∷ vs) (suc i) (suc j) v u n e f =
    let k : v.parts + u.parts ≤ parts_of vs = parts-two vs i j v u (λ q. n (ap suc q)) e f in
    omega arith

-- where the others have no part, and who has no part adds nothing, they add nothing
total-none : (f : Known → ℕ) (vs : List Known) → parts_of vs ≡ 0
    → ((k : ℕ) (u : Known) → get_elem? vs k ≡ some u → u.parts ≡ 0 → f u ≡ 0) → total f vs ≡ 0
total-none f [] z idle = refl
total-none f (v ∷ vs) z idle =
    let here : f v ≡ 0 = idle 0 v refl (omega (arith, z)) in
    let rest : total f vs ≡ 0 = total-none f vs (omega (arith, z)) (λ k u e. idle (suc k) u e) in
    omega (arith, here, rest)

-- where one pass has every part, the total is its number, if passes without a part have none
pub total-alone : (f : Known → ℕ) (vs : List Known) (i : ℕ) (v : Known) → get_elem? vs i ≡ some v → parts_of vs ≤ v.parts
    → ((k : ℕ) (u : Known) → get_elem? vs k ≡ some u → u.parts ≡ 0 → f u ≡ 0) → total f vs ≡ f v
total-alone f [] i v e all idle = absurd (some-ne-none v (sym e))
total-alone f (u ∷ vs) zero v e all idle =
    let same : u.parts ≡ v.parts = ap (λ (x : Known). x.parts) (some-injective u v e) in
    let here : f u ≡ f v = ap f (some-injective u v e) in
    let rest : total f vs ≡ 0 = total-none f vs (omega (arith, same, all)) (λ k w t. idle (suc k) w t) in
    omega (arith, here, rest)
total-alone f (u ∷ vs) (suc i) v e all idle =
    let some_part : v.parts ≤ parts_of vs = parts-at vs i v e in
    let here : f u ≡ 0 = idle 0 u refl (omega (arith, some_part, all)) in
    let rest : total f vs ≡ f v = total-alone f vs i v e (omega (arith, all)) (λ k w t. idle (suc k) w t) in
    omega (arith, here, rest)

-- where the others have no part they have got nothing
none_got : (p : ℕ) (vs : List Known) → parts_of vs ≡ 0
    → ((k : ℕ) (u : Known) → get_elem? vs k ≡ some u → u.parts ≡ 0 → has u.got p ≡ false) → any_got p vs ≡ false
none_got p [] z idle = refl
none_got p (v ∷ vs) z idle = rw (idle 0 v refl (omega arith)) (none_got p vs (omega arith) (λ k u e. idle (suc k) u e))

-- where one pass has every part, the others have got no run, if passes without a part have none
pub others-none : (p : ℕ) (vs : List Known) (i : ℕ) (v : Known) → get_elem? vs i ≡ some v → parts_of vs ≤ v.parts
    → ((k : ℕ) (u : Known) → get_elem? vs k ≡ some u → u.parts ≡ 0 → has u.got p ≡ false) → others p vs i ≡ false
others-none p [] i v e all idle = absurd (some-ne-none v (sym e))
others-none p (u ∷ vs) zero v e all idle =
    let h : u.parts ≡ v.parts = ap (λ (x : Known). x.parts) (some-injective u v e) in
    none_got p vs (omega arith) (λ k w t. idle (suc k) w t)
others-none p (u ∷ vs) (suc i) v e all idle =
    let h : v.parts ≤ parts_of vs = parts-at vs i v e in
    rw (idle 0 u refl (omega arith)) (others-none p vs i v e (omega arith) (λ k w t. idle (suc k) w t))

-- one pass takes in what another has got, and the other is spent
pub any_got-join : (p : ℕ) (vs : List Known) (i j : ℕ) (v u w z : Known) → j ≢ i → get_elem? vs i ≡ some v → get_elem? vs j ≡ some u
    → has w.got p ≡ (has v.got p || has u.got p) → has z.got p ≡ false → any_got p (set (set vs i w) j z) ≡ any_got p vs
any_got-join p [] i j v u w z n e f b s = absurd (some-ne-none v (sym e))
any_got-join p (x ∷ vs) zero zero v u w z n e f b s = absurd (n refl)
any_got-join p (x ∷ vs) zero (suc j) v u w z n e f b s =
    let r : Bool = others p vs j in
    ap (λ c. has w.got p || c) (any_got-set p vs j u z f ∙ ap (λ c. c || r) s) ∙ ap (λ c. c || r) b ∙ or_assoc (has v.got p) (has u.got p) r
    ∙ (λ k. has ((sym (some-injective x v e)) k).got p || sym (any_got-at p vs j u f) k)
any_got-join p (x ∷ vs) (suc i) zero v u w z n e f b s =
    let r : Bool = others p vs i in
    (λ k. s k || any_got-set p vs i v w e k) ∙ ap (λ c. c || r) b ∙ or_assoc (has v.got p) (has u.got p) r
    ∙ or_swap (has v.got p) (has u.got p) r ∙ (λ k. has ((sym (some-injective x u f)) k).got p || sym (any_got-at p vs i v e) k)
any_got-join p (x ∷ vs) (suc i) (suc j) v u w z n e f b s =
    ap (λ c. has x.got p || c) (any_got-join p vs i j v u w z (λ q. n (ap suc q)) e f b s)
