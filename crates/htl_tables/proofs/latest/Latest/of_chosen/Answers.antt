-- Once all keys are done, each handle has its latest event.
use Rattle.htl_tables.specs.Latest.{event_at}
use Rattle.htl_tables.proofs.ChosenKeys.{chosen_noted}
use Rattle.htl_tables.proofs.latest.Latest.of_chosen.Goals as goal

pub returns : goal.returns
returns g c = λ process base.
    chosen_noted g.R.EventList.events_of c.args.lists.now c.args.chosen c.in_ok-keys.keys.items process base c.in_ok-keys.ensures.all
    c.in_ok-keys.ensures.sorted (event_at c.note_all.new.self process base) (c.in_ok-note_all.ensures process base)
