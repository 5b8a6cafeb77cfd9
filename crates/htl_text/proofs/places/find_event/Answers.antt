-- Each line but an event's and a header's leaves the same events, and an event's leaves those behind it.
use Rattle.std.proofs.Common.{rules, arith, ◌≡◌, ◌-◌, sym, ◌∙◌, length}
use Rattle.std.proofs.Common.{Ok, Err}
use Rattle.htl_text.specs.Lines.{item_in, words_of}
use Rattle.htl_text.specs.declared.item.Item.TheVariants as item
use Rattle.htl_text.proofs.EventLines.{at_event, at_frame, at_header, at_none, before_segment, ended, next_line, past_event}
use Rattle.htl_text.proofs.places.find_event.Goals as goal

pub returns-in-Ok-Event : goal.returns-in-Ok-Event
returns-in-Ok-Event c =
    let so_far = next_line c.args.segment 0 c.loop-rest.number c.args.place c.loop-rest.left _ _ c.split_line.result.0.now _ c.loop-rest.invariant.same
    (c.split_line.ensures.events c.args.segment c.loop-rest.number) in
    let is : item_in (words_of c.split_line.result.0.now) ≡ Ok (item.Event c.in-Ok-Event.field-0-0) = cc in
    sym (so_far ∙ at_event c.args.segment c.loop-rest.number c.loop-rest.left c.split_line.result.0.now _ _ (omega arith) is (omega arith))

pub returns-in-Ok-Segment : goal.returns-in-Ok-Segment
returns-in-Ok-Segment c =
    let so_far = next_line c.args.segment 0 c.loop-rest.number c.args.place c.loop-rest.left _ _ c.split_line.result.0.now _ c.loop-rest.invariant.same
    (c.split_line.ensures.events c.args.segment c.loop-rest.number) in
    let is : item_in (words_of c.split_line.result.0.now) ≡ Ok (item.Segment c.in-Ok-Segment.field-0-0) = cc in
    sym (so_far ∙ at_header c.args.segment c.loop-rest.number c.loop-rest.left c.split_line.result.0.now _ _ (omega arith) is)

pub loop-rest-preserved-in-Ok-Event-2 : goal.loop-rest-preserved-in-Ok-Event-2
loop-rest-preserved-in-Ok-Event-2 c =
    let so_far = next_line c.args.segment 0 c.loop-rest.number c.args.place c.loop-rest.left _ _ c.split_line.result.0.now _ c.loop-rest.invariant.same
    (c.split_line.ensures.events c.args.segment c.loop-rest.number) in
    let is : item_in (words_of c.split_line.result.0.now) ≡ Ok (item.Event c.in-Ok-Event-2.field-0-0) = cc in
    record {
      same = so_far ∙ past_event c.args.segment c.loop-rest.number c.loop-rest.left (c.loop-rest.left - 1) c.split_line.result.0.now _ _
          (omega arith) is (omega arith);
      few = search (rules, arith);
    }

pub loop-rest-preserved-in-Ok-Frame : goal.loop-rest-preserved-in-Ok-Frame
loop-rest-preserved-in-Ok-Frame c =
    let so_far = next_line c.args.segment 0 c.loop-rest.number c.args.place c.loop-rest.left _ _ c.split_line.result.0.now _ c.loop-rest.invariant.same
    (c.split_line.ensures.events c.args.segment c.loop-rest.number) in
    let is : item_in (words_of c.split_line.result.0.now) ≡ Ok (item.Frame c.in-Ok-Frame.field-0-0) = cc in
    record {
      same = so_far ∙ at_frame c.args.segment c.loop-rest.number c.loop-rest.left c.split_line.result.0.now _ _ (omega arith) is;
      few = search (rules, arith);
    }

pub loop-rest-preserved-in-Err : goal.loop-rest-preserved-in-Err
loop-rest-preserved-in-Err c =
    let so_far = next_line c.args.segment 0 c.loop-rest.number c.args.place c.loop-rest.left _ _ c.split_line.result.0.now _ c.loop-rest.invariant.same
    (c.split_line.ensures.events c.args.segment c.loop-rest.number) in
    let is : item_in (words_of c.split_line.result.0.now) ≡ Err c.in-Err.field-0 = cc in
    record {
      same = so_far ∙ at_none c.args.segment c.loop-rest.number c.loop-rest.left c.split_line.result.0.now _ _ (omega arith) is;
      few = search (rules, arith);
    }

pub loop-rest-preserved : goal.loop-rest-preserved
loop-rest-preserved c =
    let so_far = next_line c.args.segment 0 c.loop-rest.number c.args.place c.loop-rest.left _ _ c.split_line.result.0.now _ c.loop-rest.invariant.same
    (c.split_line.ensures.events c.args.segment c.loop-rest.number) in
    record {
      same = so_far ∙ before_segment c.args.segment c.loop-rest.number c.loop-rest.left c.split_line.result.0.now _ (omega arith);
      few = search (rules, arith);
    }

pub returns : goal.returns
returns c =
    let none : length c.loop-rest.rest.now ≡ 0 = search rules in
    sym (c.loop-rest.invariant.same ∙ ended c.args.segment c.loop-rest.number c.loop-rest.left c.loop-rest.rest.now none)
