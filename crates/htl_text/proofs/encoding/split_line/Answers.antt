-- The text is its first line and the rest.
use Rattle.htl_text.proofs.FirstLine.{events_last_line, events_line_then_rest, kept_last_line, kept_line_then_rest, last_line, line_then_rest}
use Rattle.htl_text.proofs.encoding.split_line.Goals as goal

pub returns-in-Some-clause-line : goal.returns-in-Some-clause-line
returns-in-Some-clause-line c =
    line_then_rest c.args.text.now c.split_at.result.0.now c.split_at.result.1.now c.line_end.result _ c.in-Some.rest.now
    c.without_return.result.now c.line_end.ensures.value c.split_at.ensures.front c.split_at.ensures.back c.in-Some.ensures.cases.0
    c.without_return.ensures

pub returns-in-None-clause-line : goal.returns-in-None-clause-line
returns-in-None-clause-line c =
    last_line c.args.text.now c.split_at.result.0.now c.split_at.result.1.now c.line_end.result c.without_return-in-None.result.now
    c.line_end.ensures.value c.split_at.ensures.front c.split_at.ensures.back c.in-None.ensures.cases
    c.without_return-in-None.ensures

pub returns-in-Some-clause-kept : goal.returns-in-Some-clause-kept
returns-in-Some-clause-kept c =
    kept_line_then_rest c.args.text.now c.split_at.result.0.now c.split_at.result.1.now c.line_end.result _ c.in-Some.rest.now
    c.without_return.result.now c.line_end.ensures.value c.split_at.ensures.front c.split_at.ensures.back c.in-Some.ensures.cases.0
    c.without_return.ensures

pub returns-in-None-clause-kept : goal.returns-in-None-clause-kept
returns-in-None-clause-kept c =
    kept_last_line c.args.text.now c.split_at.result.0.now c.split_at.result.1.now c.line_end.result c.without_return-in-None.result.now
    c.line_end.ensures.value c.split_at.ensures.front c.split_at.ensures.back c.in-None.ensures.cases
    c.without_return-in-None.ensures

pub returns-in-Some-clause-events : goal.returns-in-Some-clause-events
returns-in-Some-clause-events c =
    events_line_then_rest c.args.text.now c.split_at.result.0.now c.split_at.result.1.now c.line_end.result _ c.in-Some.rest.now
    c.without_return.result.now c.line_end.ensures.value c.split_at.ensures.front c.split_at.ensures.back c.in-Some.ensures.cases.0
    c.without_return.ensures

pub returns-in-None-clause-events : goal.returns-in-None-clause-events
returns-in-None-clause-events c =
    events_last_line c.args.text.now c.split_at.result.0.now c.split_at.result.1.now c.line_end.result c.without_return-in-None.result.now
    c.line_end.ensures.value c.split_at.ensures.front c.split_at.ensures.back c.in-None.ensures.cases
    c.without_return-in-None.ensures
