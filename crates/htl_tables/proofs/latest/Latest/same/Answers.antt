-- Tables with the same event of each handle have the same rows.
use Rattle.std.proofs.Common.{◌≡◌, sym, ap, ◌∙◌, Decides, List}
use Rattle.std.proofs.lemmas.Slice.Eq.{slice_eq-Decides}
use Rattle.htl_event.specs.Events.{Event}
use Rattle.htl_event.specs.Slots.{base_of}
use Rattle.htl_event.proofs.EventsEqual.{events_decide}
use Rattle.htl_event.proofs.Members.{Lists-same}
use Rattle.htl_tables.specs.Keys.{ByKey}
use Rattle.htl_tables.specs.Latest.{event_at, HasEvent}
use Rattle.htl_tables.proofs.KeyOrder.{ByKey-strict}
use Rattle.htl_tables.proofs.latest.Latest.same.Goals as goal

pub returns-clause-events : goal.returns-clause-events
returns-clause-events g c =
    let rows : Decides c.eq.result (c.rows.result.now ≡ c.rows-2.result.now) =
    slice_eq-Decides events_decide _ _ c.eq.result c.eq.ensures in
    let left = c.rows.ensures.value in
    let right = c.rows-2.ensures.value in (
      (λ t process base. ap (λ (l : List Event). event_at l process base) (sym left ∙ rows.0 t ∙ right)),
      (λ same. rows.1 (Lists-same ByKey ByKey-strict (HasEvent c.args.self.now)
          (HasEvent c.args.other.now) c.rows.result.now c.rows-2.result.now
          (λ e. (λ kept. sym (same e.process (base_of e.handle)) ∙ kept, λ kept. same e.process (base_of e.handle) ∙ kept))
          c.rows.ensures.listed c.rows-2.ensures.listed)),
    )

pub returns-clause-equal : goal.returns-clause-equal
returns-clause-equal g c =
    let rows : Decides c.eq.result (c.rows.result.now ≡ c.rows-2.result.now) =
    slice_eq-Decides events_decide _ _ c.eq.result c.eq.ensures in
    let left = c.rows.ensures.value in
    let right = c.rows-2.ensures.value in
    (λ t. sym left ∙ rows.0 t ∙ right, λ e. rows.1 (left ∙ e ∙ sym right))
