-- A number of the longer list more decides no more than that number; none is left over where each number was met.
use Rattle.std.proofs.Common.{◌≡◌, ℕ, ◌+◌, ◌<◌, ◌≤◌, ◌==◌, ◌↔◌, length, drop, get_or, arith, List, [], ◌∷◌, Bool, IsTrue, ◌∙◌}
use Rattle.std.proofs.lemmas.Bool.{both_ways, ne_eqb}
use Rattle.std.proofs.lemmas.List.{drop_more, drop_all}
use Rattle.htl_taken.specs.declared.TheConstants.{MAX_FRONT}
use Rattle.htl_taken.proofs.Within.{Decide, IsSubset, Decide-step, Decide-empty, Decide-left}
use Rattle.htl_taken.proofs.sorted_numbers.is_within.Goals as goal

pub loop-number-preserved : goal.loop-number-preserved
loop-number-preserved c =
    let xs = c.args.numbers.now in
    let ys = c.args.all.now in
    let i = c.loop-number.number-index in
    let lt : i < length ys = omega arith in
    let d = rw (drop_more ys i 0 lt) at c.loop-number.invariant in
    rw c.after_head-left.ensures (Decide-step MAX_FRONT xs ys c.loop-number.left.now (get_or ys i 0) (drop (i + 1) ys) d)

answered : (high : ℕ) (xs ys left : List ℕ) (r : Bool) → r ≡ (length left == 0) → Decide high xs ys left [] → IsTrue r ↔ IsSubset xs ys
answered high xs ys [] r e d = (λ t. Decide-empty high xs ys d, λ all. e)
answered high xs ys (x ∷ left) r e d = (
  λ t. absurd (both_ways r (e ∙ ne_eqb (length (x ∷ left)) 0 (λ z. omega (arith, z))) t),
  λ all.
      absurd (Decide-left high xs ys x left d all),
)

pub returns : goal.returns
returns c =
    let xs = c.args.numbers.now in
    let ys = c.args.all.now in
    let i = c.loop-number.number-index in
    let past : length ys ≤ i = omega arith in
    let d = rw (drop_all i ys past) at c.loop-number.invariant in
    answered MAX_FRONT xs ys c.loop-number.left.now c.is_empty.result c.is_empty.ensures d
