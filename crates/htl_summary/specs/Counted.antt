-- What is counted for a summary: how often each slot came, and what each process did with handles.
use Rattle.std.specs.Prelude.{◌<◌, ◌^◌, List, Contains}
use Rattle.std.specs.List.{filter_map, sum_by}
use Rattle.htl_event.specs.Events.{Event}
use Rattle.htl_event.specs.Tallies.{total_of, IsPositive}
use Rattle.htl_event.specs.declared.slot.Slot.{Slot}
use Rattle.htl_event.specs.declared.slot.Count.{Count}
use Rattle.htl_answers.specs.Parts.{Contents, AreEventsOf}
use Rattle.htl_answers.specs.Sums.{ListsSlotSums}
use Rattle.htl_summary.specs.declared.usage.Usage.{Usage}
use Rattle.htl_summary.specs.Totals.{AreAddedUp}
use Rattle.htl_summary.specs.Usages.{both_usages, usage_of}

-- one usage for each process, in order: what the sums of slots say of it, added up
abbrev pub AreUsages : List (Slot × Count) → List Usage → Type 0
AreUsages sums used =
    AreAddedUp (λ (usage : Usage). usage.process) both_usages (filter_map (λ (sum : Slot × Count). usage_of sum.0 sum.1) sums) used

-- how often each slot of the parts' events came, and the usages of these sums
pub record AreCounted (parts : List Contents) (sums : List (Slot × Count)) (used : List Usage) : Type 0 where
  pub listed : (events : List Event) → AreEventsOf parts events → ListsSlotSums events sums
  pub positive : (sum : Slot × Count) → Contains sums sum → IsPositive sum.1
  pub fits : sum_by (λ (sum : Slot × Count). total_of sum.1) sums < 2 ^ 64
  pub usages : AreUsages sums used
