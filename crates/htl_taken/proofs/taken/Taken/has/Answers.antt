-- A processor's numbers have what the set has, and a processor that isn't there has none.
use Rattle.std.proofs.Common.{sym, arith}
use Rattle.std.specs.Bool.{Decides}
use Rattle.std.proofs.lemmas.Bool.Decides.{same_from_decides}
use Rattle.htl_taken.specs.Numbers.{numbers_at, has_key}
use Rattle.htl_taken.specs.NumberSets.{Has}
use Rattle.htl_taken.proofs.Keys.{absent_key, has_key-decides}
use Rattle.htl_taken.proofs.NumberSets.{numbers_at-view, numbers_at-past, length-view, Has-no_numbers}
use Rattle.htl_taken.proofs.taken.Taken.has.Goals as goal

pub returns-in-Some : goal.returns-in-Some
returns-in-Some g c =
    let item = rw (c.from.ensures, c.deref.ensures.value) at c.in-Some.ensures.lookup in
    let at = numbers_at-view c.self.inside.sets.items c.args.self.now c.self.view_is c.args.processor c.in-Some.numbers.now
    item.3.0 item.1 in
    let has : Decides c.has.result (Has (numbers_at c.args.self.now c.args.processor) c.args.number) = rw at c.has.ensures in
    same_from_decides c.has.result (has_key c.args.self.now c.args.processor c.args.number) has
    (has_key-decides c.args.self.now c.args.processor c.args.number)

pub returns-in-None : goal.returns-in-None
returns-in-None g c =
    let item = rw (c.from.ensures, c.deref.ensures.value) at c.in-None.ensures.lookup in
    let past = numbers_at-past c.args.self.now c.args.processor
    (omega (arith, item.3, length-view c.self.inside.sets.items c.args.self.now c.self.view_is)) in
    sym (absent_key c.args.self.now c.args.processor c.args.number (rw past (Has-no_numbers c.args.number)))
