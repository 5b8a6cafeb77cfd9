-- A processor's reach is the least number that isn't taken.
use Rattle.std.proofs.Common.{◌≡◌, ◌<◌}
use Rattle.htl_taken.specs.Numbers.{numbers_at, reach_of}
use Rattle.htl_taken.specs.NumberSets.{numbers_of}
use Rattle.htl_taken.proofs.Numbers.{reach_least, Has-before_reach}
use Rattle.htl_taken.proofs.Keys.{absent_key, has_key-decides}
use Rattle.htl_taken.proofs.NumberSets.{numbers_at-view}
use Rattle.htl_taken.proofs.taken.Taken.reach.Given.{Over}
use Rattle.htl_taken.proofs.taken.Taken.reach.Goals as goal

at : (g : Over) (c : goal.After-reach g) → numbers_at c.args.self.now c.args.processor ≡ numbers_of c.in-Some.numbers.now
at g c =
    let item = rw (c.from.ensures, c.deref.ensures.value) at c.in-Some.ensures.lookup in
    numbers_at-view c.self.inside.sets.items c.args.self.now c.self.view_is c.args.processor c.in-Some.numbers.now item.3.0 item.1

pub returns-in-Some-clause-absent : goal.returns-in-Some-clause-absent
returns-in-Some-clause-absent g c =
    absent_key c.args.self.now c.args.processor c.reach.result
    (rw (at g c, c.reach.ensures.value)
    (reach_least (numbers_of c.in-Some.numbers.now) (record { rises = c.in-Some.numbers.now.proper })))

pub returns-in-Some-clause-least : goal.returns-in-Some-clause-least
returns-in-Some-clause-least g c = λ n lt.
    let before : n < reach_of (numbers_at c.args.self.now c.args.processor) = rw (at g c, ← c.reach.ensures.value) lt in
    (has_key-decides c.args.self.now c.args.processor n).1 (Has-before_reach (numbers_at c.args.self.now c.args.processor) n before)
