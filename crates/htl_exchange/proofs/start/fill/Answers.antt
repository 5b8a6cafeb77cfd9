-- All runs are in the queue once every processor was asked.
use Rattle.std.proofs.Common.{◌≤◌, refl, arith}
use Rattle.htl_exchange.specs.Moves.{known_of}
use Rattle.htl_exchange.specs.Filling.{FillsTo}
use Rattle.htl_exchange.proofs.Fillings.{nothing_put, all_put, all_pushed}
use Rattle.htl_exchange.proofs.start.fill.Goals as goal

pub loop-processor-init : goal.loop-processor-init
loop-processor-init g c =
    let begun : FillsTo c.args.case.now 0 (known_of c.args.pass.now) = nothing_put c.args.case.now (known_of c.args.pass.now) c.requires.pass.1 in
    ((refl, refl, refl), begun)

pub returns-clause-ok : goal.returns-clause-ok
returns-clause-ok g c =
    let over : c.args.case.now.processors ≤ c.loop-processor.processor = omega (arith, c.loop-processor-test.false, c.processors-processor-end.ensures) in
    all_put c.args.case.now c.loop-processor.processor (known_of c.loop-processor.pass) c.segments-is_case.ensures.is_case over c.loop-processor.invariant.1

pub returns-clause-pushes : goal.returns-clause-pushes
returns-clause-pushes g c =
    let over : c.args.case.now.processors ≤ c.loop-processor.processor = omega (arith, c.loop-processor-test.false, c.processors-processor-end.ensures) in
    all_pushed c.args.case.now c.loop-processor.processor (known_of c.loop-processor.pass) c.segments-is_case.ensures.is_case over
    c.loop-processor.invariant.1
