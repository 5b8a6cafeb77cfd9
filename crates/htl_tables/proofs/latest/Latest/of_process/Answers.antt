-- The process is chosen for, and no other is.
use Rattle.std.proofs.Common.{◌≡◌, ℕ, List, None, refl, sym, subst, ◌∙◌}
use Rattle.std.specs.Prelude.{Contains, flat_map, Some, ◌≢◌}
use Rattle.std.proofs.lemmas.Bool.{eq-eqb, ne_eqb}
use Rattle.std.proofs.lemmas.Result.{IfOk-weaker}
use Rattle.htl_event.specs.Events.{Event}
use Rattle.htl_event.specs.Handles.{LatestIs}
use Rattle.htl_tables.specs.Latest.{noted}
use Rattle.htl_tables.specs.OfProcess.{noted_of}
use Rattle.htl_tables.proofs.FirstNoted.{LatestIs-noted}
use Rattle.htl_tables.proofs.latest.Latest.of_process.Goals as goal

of_itself : (events : List Event) (process base : ℕ) → noted_of (Some process) events process base ≡ noted events process base
of_itself events process base = rw (eq-eqb process process refl) refl

of_others : (events : List Event) (process other base : ℕ) → other ≢ process → noted_of (Some process) events other base ≡ None
of_others events process other base differs = rw (ne_eqb other process differs) refl

pub returns-clause-noted : goal.returns-clause-noted
returns-clause-noted g c =
    let events = flat_map g.R.EventList.events_of c.args.lists.now in
    let process = c.args.process in
    IfOk-weaker c.of_chosen.result _ _ (λ t is base. is process base ∙ of_itself events process base) c.of_chosen.ensures

pub returns-clause-latest : goal.returns-clause-latest
returns-clause-latest g c =
    let events = flat_map g.R.EventList.events_of c.args.lists.now in
    let process = c.args.process in
    IfOk-weaker c.of_chosen.result _ _ (λ t is base.
    subst (LatestIs (Contains events) process base) (sym (is process base ∙ of_itself events process base))
    (LatestIs-noted process base events)) c.of_chosen.ensures

pub returns-clause-others : goal.returns-clause-others
returns-clause-others g c =
    let events = flat_map g.R.EventList.events_of c.args.lists.now in
    IfOk-weaker c.of_chosen.result _ _ (λ t is other base differs.
    is other base ∙ of_others events c.args.process other base differs) c.of_chosen.ensures
