-- The difference since the start has all outstanding handles.
use Rattle.std.proofs.lemmas.Result.{IfOk-weaker}
use Rattle.htl_answers.proofs.OpenLemmas.{diff_from_start}
use Rattle.htl_answers.proofs.open.outstanding.Goals as goal

pub returns : goal.returns
returns g c = IfOk-weaker c.diff.result _ _
    (λ rows is events are own. diff_from_start events c.args.process rows.items (is events are own)) c.diff.ensures
