-- Where no byte is left, what was read is all that the text comes to.
use Rattle.std.proofs.Common.{rules, arith, ◌≡◌, ◌∙◌, length}
use Rattle.htl_text.specs.Lines.{lines_of_text}
use Rattle.htl_text.specs.Steps.{closed, nothing_read, read}
use Rattle.htl_text.proofs.Beginnings.{frame_on, needs_segment, starts_on}
use Rattle.htl_text.proofs.FirstLine.{read_ended}
use Rattle.htl_text.proofs.encoding.read_text.Goals as goal

pub returns-clause-outcome : goal.returns-clause-outcome
returns-clause-outcome c =
    let none : length c.loop-rest.rest.now ≡ 0 = search rules in
    let all : read 0 (lines_of_text c.args.text.now) nothing_read ≡ closed c.loop-rest.reader =
    c.loop-rest.invariant.left ∙ read_ended c.loop-rest.number c.loop-rest.rest.now c.loop-rest.reader none in
    rw all c.finish.ensures.outcome

pub returns-clause-memory : goal.returns-clause-memory
returns-clause-memory c =
    needs_segment c.args.text.now c.loop-rest.reader (lines_of_text c.loop-rest.rest.now) c.finish.result c.loop-rest.invariant.start
    c.finish.ensures.memory

pub loop-rest-preserved : goal.loop-rest-preserved
loop-rest-preserved c = record {
  left = search rules;
  start = starts_on (lines_of_text c.args.text.now) (lines_of_text c.loop-rest.rest.now) (lines_of_text c.split_line.result.1.now)
      c.split_line.result.0.now _ c.loop-rest.reader c.read_line.new.self c.loop-rest.invariant.start c.split_line.ensures.kept
      c.in_ok-read_line.ensures.outcome;
  few = search (rules, arith);
}

pub loop-rest-preserved-in-Some : goal.loop-rest-preserved-in-Some
loop-rest-preserved-in-Some c = record {
  left = search rules;
  start = frame_on (lines_of_text c.args.text.now) (lines_of_text c.loop-rest.rest.now) (lines_of_text c.in-Some.others.now)
      _ c.in-Some.address c.loop-rest.reader c.add_frame.new.self c.loop-rest.invariant.start c.in_ok-add_frame.ensures.outcome;
  few = search (rules, arith);
}
