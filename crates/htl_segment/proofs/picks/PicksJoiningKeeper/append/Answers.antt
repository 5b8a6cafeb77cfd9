-- The picks have the outlines, the events and the sequences of both, and the other is left with none.
use Rattle.std.proofs.Common.{ap}
use Rattle.htl_segment.specs.Repeated.{sequences_of}
use Rattle.htl_segment.specs.Traces.{all_events}
use Rattle.htl_segment.specs.Picks.{events_in}
use Rattle.htl_segment.proofs.PicksLaws.{both_events, both_outlines, both_sequences, lists_after}
use Rattle.htl_segment.proofs.picks.PicksJoiningKeeper.append.Goals as goal

pub returns-clause-taken : goal.returns-clause-taken
returns-clause-taken c = λ kind segments more so_far also.
    let old = c.args.self.now in
    let other = c.args.other.now in
    record {
      about = so_far.about;
      outlines = both_outlines old.outlines.items other.outlines.items c.append.new.self.items segments more so_far.outlines also.outlines
          c.in_ok-append.ensures.items;
      events = both_events kind.interest (events_in old.lists.items) (events_in other.lists.items) (events_in c.append-2.new.self.items) segments more
          so_far.events also.events (lists_after old.lists.items other.lists.items c.append-2.new.self.items c.in_ok-append-2.ensures.items);
      saw = rw (both_sequences segments more)
          (c.in_ok-append-3.ensures.seen (sequences_of (all_events segments)) (sequences_of (all_events more)) so_far.saw also.saw);
    }

pub returns-clause-emptied : goal.returns-clause-emptied
returns-clause-emptied c = λ kind more also. record {
  about = also.about;
  outlines = c.in_ok-append.ensures.other_items;
  events = ap events_in c.in_ok-append-2.ensures.other_items;
  saw = c.in_ok-append-3.ensures.emptied;
}
