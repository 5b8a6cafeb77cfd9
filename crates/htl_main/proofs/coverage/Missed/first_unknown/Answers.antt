-- One cut end more is known, or it is the first that isn't.
use Rattle.std.proofs.Common.{None, All, arith, get_or, subst, take_all}
use Rattle.std.proofs.lemmas.Option.{slice_get-get_or}
use Rattle.htl_inputs.specs.declared.cuts.CutEnd.{CutEnd}
use Rattle.htl_main.specs.Completeness.{IsKnown}
use Rattle.htl_main.proofs.Missing.{first_unknown, known_next, known_of, unknown_of}
use Rattle.htl_main.proofs.coverage.Missed.first_unknown.Goals as goal

pub loop-cut-preserved : goal.loop-cut-preserved
loop-cut-preserved c = λ T is.
    let cuts = c.args.cuts.now in
    let i = c.loop-cut.cut-index in
    let none : CutEnd = record { input = 0; name = None } in
    known_next T cuts i (get_or cuts i none) (slice_get-get_or cuts i none c.loop-cut-test.true) (c.loop-cut.invariant T is)
    (known_of T c.args.self.now (get_or cuts i none) c.known.result is c.known.ensures.some c.if-is_none.ensures)

pub returns-then-is_none-clause-some : goal.returns-then-is_none-clause-some
returns-then-is_none-clause-some c = λ T is.
    let cuts = c.args.cuts.now in
    let i = c.loop-cut.cut-index in
    let none : CutEnd = record { input = 0; name = None } in
    first_unknown T cuts i (get_or cuts i none) (slice_get-get_or cuts i none c.loop-cut-test.true) (c.loop-cut.invariant T is)
    (unknown_of T c.args.self.now (get_or cuts i none) c.known.result is c.known.ensures.none c.if-is_none.ensures)

pub returns-clause-none : goal.returns-clause-none
returns-clause-none c = λ T is.
    subst (All (IsKnown T)) (take_all c.loop-cut.cut-index c.args.cuts.now (omega arith)) (c.loop-cut.invariant T is)
