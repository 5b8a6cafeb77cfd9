-- What is left of the loose numbers are those at or above the reach, which still rise from it on.
use Rattle.std.proofs.Common.{◌≡◌, ◌-◌, drop, ◌∙◌}
use Rattle.htl_taken.specs.Numbers.{settled}
use Rattle.htl_taken.specs.NumberSets.{numbers_of}
use Rattle.htl_taken.proofs.Numbers.{IsProper-settled, same_numbers, settled-drop}
use Rattle.htl_taken.proofs.number_set.NumberSet.settle.Given.{Over}
use Rattle.htl_taken.proofs.number_set.NumberSet.settle.Goals as goal

left : (g : Over) (c : goal.After-drop-drain g) → c.drop-drain.new.self.0.items ≡ (settled (numbers_of c.args.self.now)).loose
left g c =
    let own = c.args.self.now in
    let drained : c.drop-drain.new.self.0.items ≡ drop (c.reach-reach.result - own.front) own.loose.items = c.drop-drain.ensures.items
    ∙ c.drain.ensures.kept in
    rw c.reach-reach.ensures.value at drained ∙ settled-drop (numbers_of own) (record { rises = own.proper })

pub invariant_of-self : goal.invariant_of-self
invariant_of-self g c =
    let own = c.args.self.now in
    let kept = (IsProper-settled (numbers_of own) (record { rises = own.proper })).rises in
    record { proper = rw (left g c, c.reach-reach.ensures.value) kept }

pub returns : goal.returns
returns g c = same_numbers _ _ c.reach-reach.ensures.value (left g c.before)
