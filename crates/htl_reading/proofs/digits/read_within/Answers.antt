-- A read gives more digits and blanks or finds the end, or a foreign byte ends the reading.
use Rattle.std.proofs.Common.{rules, ◌≡◌, ◌≤◌, ◌+◌, ◌∙◌, [], ℕ, false, None, Some, arith, length, position, subst, sym, take}
use Rattle.std.specs.Io.KnownBytes.{Consumes, IsAtEnd}
use Rattle.std.proofs.lemmas.Grind.{common_steps}
use Rattle.htl_device.specs.declared.source.TheConstants.{MAX_READ_LEN, MIN_READ_LEN}
use Rattle.htl_segment.specs.Hexadecimal.{is_foreign}
use Rattle.htl_reading.specs.Digits.{StopsAtForeign}
use Rattle.htl_reading.proofs.DigitsLaws.{IsKept, all_are, digit_read, ended_read, kept_more, kept_none, stops_there}
use Rattle.htl_reading.proofs.digits.read_within.Goals as goal

pub loop-read-init : goal.loop-read-init
loop-read-init g c = record {
  kept = kept_none (g.R.Source.state c.args.source.now).remaining c.new-pairs.result.bytes c.new-pairs.result.high c.new-pairs.ensures;
  fine = c.requires.ready.fine;
  inside = c.requires.ready.inside;
  each = omega arith;
  few = omega arith;
  counted = omega arith;
  bounded = omega arith;
  tails = search rules;
  whole = c.requires.whole;
}

pub returns-then-count-eq0 : goal.returns-then-count-eq0
returns-then-count-eq0 g c =
    let zero : c.in-Ok.count ≡ 0 = grind (arith, common_steps) in
    let given = (g.R.Source.state c.args.source.now).remaining in
    let new = g.R.Source.state c.read.new.self in
    let none : Consumes (g.R.Source.state c.loop-read.source).remaining new.remaining [] =
    subst (λ (n : ℕ). Consumes (g.R.Source.state c.loop-read.source).remaining new.remaining (take n c.read.new.buffer)) zero
    c.in-Ok.ensures.bytes.0 in
    let end : IsAtEnd new.remaining = c.in-Ok.ensures.bytes.1 zero (omega arith) in
    let pairs = c.loop-read.pairs in
    rw (c.ok_or.ensures.value) (ended_read c.args.most given (g.R.Source.state c.args.source.now) new pairs.bytes pairs.high c.finish.result
    (all_are given _ new.remaining c.loop-read.start pairs.bytes pairs.high c.loop-read.invariant.kept none end) c.finish.ensures
    (grind (arith, common_steps)) (grind (arith, common_steps)) (grind (arith, common_steps)) (grind (arith, common_steps)))

pub returns-in-Some : goal.returns-in-Some
returns-in-Some g c =
    let given = (g.R.Source.state c.args.source.now).remaining in
    let left = (g.R.Source.state c.read.new.self).remaining in
    let piece = take c.in-Ok.count c.read.new.buffer in
    let pairs = c.loop-read.pairs in
    let here : position is_foreign piece ≡ Some c.in-Some.place = sym c.first_foreign.ensures ∙ c.in-Some.is in
    let few : length piece ≤ MAX_READ_LEN = grind (arith, common_steps) in
    let stop = stops_there given _ left c.loop-read.start pairs.bytes pairs.high piece c.loop-read.invariant.kept c.in-Ok.ensures.bytes.0
    c.in-Some.place here few in
    record {
      ok = search rules;
      ended = search rules;
      foreign = λ place is. subst (StopsAtForeign given left) (cc is) stop;
      odd = λ is. absurd (cc is);
      reported = grind (arith, common_steps);
      memory = λ is. absurd (cc is);
      failed = λ is. absurd (cc is);
      bounded = grind (arith, common_steps);
      tails = grind (arith, common_steps);
    }

pub returns-in_err-add : goal.returns-in_err-add
returns-in_err-add g c =
    let piece = take c.in-Ok.count c.read.new.buffer in
    let pairs = c.loop-read.pairs in
    let inside : (g.R.Source.state c.read.new.self).ended ≡ false = grind (arith, common_steps) in
    let asked = digit_read (g.R.Source.state c.args.source.now).remaining (g.R.Source.state c.loop-read.source).remaining
    (g.R.Source.state c.read.new.self).remaining c.loop-read.start pairs.bytes pairs.high piece c.loop-read.invariant.kept
    c.in-Ok.ensures.bytes.0 c.in_err-add.ensures.full in
    record {
      ok = search rules;
      ended = search rules;
      foreign = search rules;
      odd = search rules;
      reported = grind (arith, common_steps);
      memory = λ is. (inside, asked.0, asked.1, asked.2);
      failed = search rules;
      bounded = grind (arith, common_steps);
      tails = grind (arith, common_steps);
    }

pub loop-read-preserved : goal.loop-read-preserved
loop-read-preserved g c =
    let inv = c.loop-read.invariant in
    let given = (g.R.Source.state c.args.source.now).remaining in
    let mid = (g.R.Source.state c.loop-read.source).remaining in
    let left = (g.R.Source.state c.read.new.self).remaining in
    let start = c.loop-read.start in
    let pairs = c.loop-read.pairs in
    let piece = take c.in-Ok.count c.read.new.buffer in
    let clean : position is_foreign piece ≡ None = sym c.first_foreign.ensures ∙ c.in-None.is in
    let size : length piece ≡ c.in-Ok.count = grind (arith, common_steps) in
    let bound : c.in-Ok.count ≤ length c.read.new.buffer = c.in-Ok.ensures.bound in
    let whole : length c.read.new.buffer ≡ MIN_READ_LEN = grind (arith, common_steps) in
    let now = c.add.new.self in
    record {
      kept = subst (λ (n : ℕ). IsKept given left (start + n) now.bytes now.high) size
          (kept_more given mid left start pairs.bytes pairs.high piece inv.kept c.in-Ok.ensures.bytes.0 now.bytes now.high clean
          c.in_ok-add.ensures.added);
      fine = grind (arith, common_steps);
      inside = grind (arith, common_steps);
      each = grind (arith, common_steps);
      few = omega (arith, inv.few, bound, whole);
      counted = grind (arith, common_steps);
      bounded = grind (arith, common_steps);
      tails = grind (arith, common_steps);
      whole = whole;
    }
