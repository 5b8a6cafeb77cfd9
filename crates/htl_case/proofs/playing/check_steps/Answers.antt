-- Where the next step isn't faulty, none of one step more is, and else it is the first faulty one.
use Rattle.std.proofs.lemmas.Bool.{false≢true}
use Rattle.htl_case.specs.declared.step.Step.TheVariants.{Take}
use Rattle.htl_case.proofs.FirstFaults.{none_more, none_all}
use Rattle.htl_case.proofs.playing.check_steps.Goals as goal

pub loop-place-preserved : goal.loop-place-preserved
loop-place-preserved c =
    none_more c.args.analysts c.args.segments c.args.steps.now c.loop-place.place (Take 0 0) c.loop-place.invariant
    (λ h. false≢true (c.if-names_no_analyst.ensures.1 h)) (λ h. false≢true (c.if-names_no_segment.ensures.1 h))

pub returns-clause-ok : goal.returns-clause-ok
returns-clause-ok c =
    none_all c.args.analysts c.args.segments c.args.steps.now c.loop-place.place c.loop-place-test.false c.loop-place.invariant
