-- What was noted last is the latest.
use Rattle.std.specs.Prelude.{Contains, flat_map}
use Rattle.std.proofs.Common.{sym, subst}
use Rattle.std.proofs.lemmas.Result.{IfOk-weaker}
use Rattle.htl_event.specs.Handles.{LatestIs}
use Rattle.htl_tables.proofs.FirstNoted.{LatestIs-noted}
use Rattle.htl_tables.proofs.latest.Latest.of.Goals as goal

pub returns-clause-latest : goal.returns-clause-latest
returns-clause-latest g c =
    let events = flat_map g.R.EventList.events_of c.args.lists.now in
    IfOk-weaker c.of_chosen.result _ _ (λ t is process base.
    subst (LatestIs (Contains events) process base) (sym (is process base)) (LatestIs-noted process base events)) c.of_chosen.ensures
