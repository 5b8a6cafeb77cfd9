-- It is the processor of the first gap, or of one cut end more that misses a segment.
use Rattle.std.proofs.Common.{List, None, arith, get_or, subst, take, take_all}
use Rattle.std.proofs.lemmas.List.{take_more}
use Rattle.htl_inputs.specs.declared.cuts.CutEnd.{CutEnd}
use Rattle.htl_main.specs.CaseOutlines.{IsFirstShort}
use Rattle.htl_main.proofs.Missing.{short_next}
use Rattle.htl_main.proofs.coverage.Missed.first_short.Goals as goal

pub loop-cut-preserved : goal.loop-cut-preserved
loop-cut-preserved c = λ T is.
    let cuts = c.args.cuts.now in
    let i = c.loop-cut.cut-index in
    let none : CutEnd = record { input = 0; name = None } in
    rw (take_more cuts i none c.loop-cut-test.true, c.lesser-first.ensures)
    (short_next T (take i cuts) (get_or cuts i none) c.loop-cut.first c.short_up_to.result (c.loop-cut.invariant T is) (c.short_up_to.ensures T is))

pub returns : goal.returns
returns c = λ T is.
    subst (λ (l : List CutEnd). IsFirstShort T l c.loop-cut.first) (take_all c.loop-cut.cut-index c.args.cuts.now (omega arith))
    (c.loop-cut.invariant T is)
