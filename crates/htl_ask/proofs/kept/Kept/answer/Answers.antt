-- What was folded answers the job, or isn't asked for a gap.
use Rattle.htl_ask.proofs.StateOutcomes.{state_outcome}
use Rattle.htl_ask.proofs.kept.Kept.answer.Goals as goal

pub returns-in-State : goal.returns-in-State
returns-in-State g c =
    let told = c.folded_text.ensures in
    rw (c.in-State.is) (state_outcome c.args.setting.complete c.in-State.folded c.args.job.now c.folded_text.result told.text told.remarks
    told.whole told.err)
