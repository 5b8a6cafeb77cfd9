-- The opens after the moment, of the latest of the process's handles, are the difference.
use Rattle.std.proofs.Common.{sym, subst}
use Rattle.std.specs.Prelude.{Contains}
use Rattle.std.proofs.lemmas.Result.{IfOk-weaker}
use Rattle.htl_event.specs.Handles.{IsDiff}
use Rattle.htl_answers.proofs.OpenLemmas.{opened_after_is_diff}
use Rattle.htl_answers.proofs.open.diff.Goals as goal

pub returns : goal.returns
returns g c =
    let process = c.args.process in
    let since = c.args.since in
    let exit = c.last_exit-exit.result in
    IfOk-weaker c.opened_after.result _ _ (λ rows is events are own.
    subst (λ l. IsDiff (Contains events) process since l) (sym is)
    (opened_after_is_diff events process since exit _ c.in_ok-latest.latest _
    (c.in_ok-latest.ensures events are) c.rows_of.ensures.listed (c.last_exit-exit.ensures events are) c.max.ensures own))
    c.opened_after.ensures
