-- The points of the moments are the growth.
use Rattle.std.proofs.Common.{map, sym, ap, subst, ◌∙◌}
use Rattle.std.specs.Prelude.{flat_map, Some}
use Rattle.std.proofs.lemmas.Result.{IfOk-weaker}
use Rattle.htl_event.specs.Growth.{IsGrowth}
use Rattle.htl_answers.specs.Points.{point_at}
use Rattle.htl_answers.proofs.PointLemmas.{points_are_growth}
use Rattle.htl_answers.proofs.growing.growth_over.Goals as goal

pub returns : goal.returns
returns g c =
    let events = flat_map g.E.EventList.events_of c.args.lists.now in
    let process = c.args.process in
    let span = c.args.span in
    let points = c.args.points in
    let starts = c.in_ok-lives.lives.starts.items in
    let ends = c.in_ok-lives.lives.ends.items in
    IfOk-weaker c.points_of.result _ _ (λ rows is own.
    subst (IsGrowth (Some span) points events process) (sym (is ∙ ap (map (point_at starts ends)) c.deref.ensures.value))
    (points_are_growth span points events process c.in_ok-moments.moments.items c.in_ok-moments.ensures.rising
    c.in_ok-moments.ensures.members starts ends (c.in_ok-lives.ensures.number own))) c.points_of.ensures
