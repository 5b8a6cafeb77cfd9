-- The process's latest events over a part are the later of what it folded and what it holds.
use Rattle.std.proofs.Common.{sym, subst}
use Rattle.std.specs.Prelude.{List}
use Rattle.std.proofs.lemmas.Result.{IfOk-weaker}
use Rattle.htl_event.specs.Events.{Event}
use Rattle.htl_answers.specs.Open.{AreLatestOf}
use Rattle.htl_answers.proofs.OpenLemmas.{latest_turned}
use Rattle.htl_answers.proofs.open.latest_of_part.Goals as goal

pub returns : goal.returns
returns g c =
    let part = g.P.Part.contents c.args.part.now in
    let process = c.args.process in
    let held = c.in_ok-held.held in
    IfOk-weaker c.join_process.result _ _ (λ latest is folded of_folded.
    latest_turned part.held folded process latest held c.latest.result.now is
    (subst (λ (es : List Event). AreLatestOf es process held) c.held.ensures c.in_ok-held.ensures.latest)
    (subst (λ (l : List Event). AreLatestOf folded process l) (sym c.latest.ensures) of_folded)) c.join_process.ensures.joined
