-- A first digit waits, and a second one makes a byte with it.
use Rattle.std.proofs.Common.{ℕ, Option, refl, subst, sym}
use Rattle.htl_reading.specs.Pairs.{ArePairs, PairsState}
use Rattle.htl_reading.proofs.PairsLaws.{with_first, with_second}
use Rattle.htl_reading.proofs.pairs.Pairs.add_value.Goals as goal

pub returns-in_default : goal.returns-in_default
returns-in_default c = λ text digit is are.
    let bytes = c.self.inside.bytes.items in
    let before : ArePairs text bytes c.self.inside.high =
    subst (λ (pairs : PairsState). ArePairs text pairs.bytes pairs.high) (sym c.self.view_is) are in
    with_first text bytes digit c.args.value (subst (λ (high : Option ℕ). ArePairs text bytes high) c.in_default.is before) is

pub returns : goal.returns
returns c = λ text digit is are.
    let bytes = c.self.inside.bytes.items in
    let before : ArePairs text bytes c.self.inside.high =
    subst (λ (pairs : PairsState). ArePairs text pairs.bytes pairs.high) (sym c.self.view_is) are in
    rw (c.in_ok-push.ensures.items) (with_second text bytes c.in-Some.high digit c.args.value _
    (subst (λ (high : Option ℕ). ArePairs text bytes high) c.in-Some.is before) is refl)
