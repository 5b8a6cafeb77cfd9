-- A repeat changes nothing, and a new segment is held.
use Rattle.std.proofs.Common.{rules, arith}
use Rattle.htl_analyst.specs.Steps.{with_segment}
use Rattle.htl_analyst.proofs.Falling.{never_falls-same, never_falls}
use Rattle.htl_analyst.proofs.Counted.{number-with_segment}
use Rattle.htl_analyst.proofs.Takes.{here, IsState-with_segment, HasTaken-with_segment, fronts-with_segment, IsRight-with_segment, take_lawful, repeat_keys}
use Rattle.htl_analyst.proofs.analyst.Analyst.take.Goals as goal

pub returns-in-Err-clause-takes : goal.returns-in-Err-clause-takes
returns-in-Err-clause-takes g c = record {
  cause = c.in-Err.ensures.refused;
  same = search rules;
  lawful = λ T right in_trace. take_lawful c.args.self.now T right c.args.segment in_trace c.in-Err.fault c.in-Err.ensures.refused;
}

pub returns-in-Ok-Repeat-clause-takes : goal.returns-in-Ok-Repeat-clause-takes
returns-in-Ok-Repeat-clause-takes g c = record {
  keys = repeat_keys c.args.self.now c.args.segment (c.in-Ok-Repeat.ensures.repeat.0 c.in-Ok-Repeat.field-0-is);
  new = search rules;
  state = search rules;
  one_more = λ is. absurd (cc is);
  accepted = search rules;
  right = λ T right in_trace. right;
  never_falls = λ T right in_trace. never_falls-same T c.args.self.now right;
}

pub returns-in-Ok-clause-takes : goal.returns-in-Ok-clause-takes
returns-in-Ok-clause-takes g c =
    let e = c.check_take.ensures in
    let a = c.args.self.now in
    let s = c.args.segment in
    let of_state = c.in-Ok-New.ensures.accepted.of_state in
    let new = c.in-Ok-New.ensures.new.0 c.in-Ok-New.field-0-is in
    let right = IsRight-with_segment a s e.state e.fits of_state new in
    rw c.in-Ok.ensures.ok (record {
      keys = HasTaken-with_segment a s e.state e.fits of_state new;
      new = search rules;
      state = search rules;
      one_more = λ is. number-with_segment a s e.state (here a s e.state e.fits of_state new);
      accepted = search rules;
      right = right;
      never_falls = λ T was in_trace. never_falls T a (with_segment a s) was (right T was in_trace)
          (λ p. (let f = fronts-with_segment a s e.state e.fits of_state new p in omega (arith, f)));
    })

pub returns-in-Ok-clause-is_state : goal.returns-in-Ok-clause-is_state
returns-in-Ok-clause-is_state g c =
    let e = c.check_take.ensures in
    rw c.in-Ok.ensures.ok (IsState-with_segment c.args.self.now c.args.segment e.state e.fits c.in-Ok-New.ensures.accepted.of_state
    (c.in-Ok-New.ensures.new.0 c.in-Ok-New.field-0-is))
