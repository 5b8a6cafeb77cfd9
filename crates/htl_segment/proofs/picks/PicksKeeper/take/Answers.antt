-- The picks gain the outline, the wanted events and the sequences of the segment.
use Rattle.htl_segment.specs.Repeated.{sequences_of}
use Rattle.htl_segment.specs.Traces.{all_events}
use Rattle.htl_event.specs.Interests.{wanted}
use Rattle.htl_segment.specs.Picks.{events_in}
use Rattle.htl_segment.proofs.PicksLaws.{events_more, last_more, outlines_more, sequences_more}
use Rattle.htl_segment.proofs.picks.PicksKeeper.take.Goals as goal

pub returns : goal.returns
returns c = λ start segments so_far.
    let s = c.args.found.now in
    let old = c.args.self.now in
    record {
      about = so_far.about;
      outlines = outlines_more old.outlines.items c.push-2.new.self.items c.outline.result segments s so_far.outlines
          c.outline.ensures c.in_ok-push-2.ensures.items;
      events = events_more start.interest old.interest (events_in old.lists.items) (events_in c.push.new.self.items) segments s
          so_far.about so_far.events
          (last_more old.lists.items c.take_last.new.lists.items c.push.new.self.items c.in_ok-list.list c.pick_with.new.events
          (wanted old.interest s.events) c.in_ok-list.ensures c.in_ok-last.ensures.events c.in_ok-push.ensures.items);
      saw = rw (sequences_more segments s) (c.in_ok-last.ensures.seen (sequences_of (all_events segments)) so_far.saw);
    }
