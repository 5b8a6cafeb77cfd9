-- One read after the other, a line takes what comes before its line feed.
use Rattle.std.proofs.Common.{◌<◌, arith, rules}
use Rattle.std.proofs.lemmas.Grind.{common_steps}
use Rattle.std.proofs.lemmas.Result.{err_from_is_err_and}
use Rattle.std.specs.Io.KnownBytes.{prepend_known}
use Rattle.htl_dialogue.proofs.Takings.{all_moved, begun, begun_still, feed_found, goes_on, last_found, nothing_taken}
use Rattle.htl_dialogue.proofs.reading.next_line.Goals as goal

pub loop-read-init : goal.loop-read-init
loop-read-init g c = record {
  fine = c.requires.ready.fine;
  inside = c.requires.ready.inside;
  counted = omega arith;
  so_far = nothing_taken (prepend_known c.args.held.now (g.R.Source.state c.args.source.now).remaining) _ (c.new.ensures.items, omega arith);
}

pub returns-then-branch-clause-ok : goal.returns-then-branch-clause-ok
returns-then-branch-clause-ok g c =
    feed_found (prepend_known c.args.held.now (g.R.Source.state c.args.source.now).remaining) (g.R.Source.state c.loop-read.source).remaining
    c.loop-read.held c.move_to.new.self c.loop-read.line c.move_to.new.line c.in_ok-move_to.field-0
    c.loop-read.invariant.so_far c.in_ok-move_to.ensures.ok c.if-branch.true

pub returns-in_default-clause-begun : goal.returns-in_default-clause-begun
returns-in_default-clause-begun g c =
    let first = prepend_known c.args.held.now (g.R.Source.state c.args.source.now).remaining in
    let rest = (g.R.Source.state c.loop-read.source).remaining in
    let moved = all_moved first rest c.loop-read.held c.move_to.new.self c.loop-read.line c.move_to.new.line
    c.in_ok-move_to.field-0 c.loop-read.invariant.so_far c.in_ok-move_to.ensures.ok c.if-branch.false in
    begun_still first rest (g.R.Source.state c.refill.new.source).remaining c.refill.new.self c.move_to.new.line moved
    c.in_default.ensures.err.0 c.in_default.ensures.err.1

pub returns-then-count-eq0-clause-ok : goal.returns-then-count-eq0-clause-ok
returns-then-count-eq0-clause-ok g c =
    let first = prepend_known c.args.held.now (g.R.Source.state c.args.source.now).remaining in
    let rest = (g.R.Source.state c.loop-read.source).remaining in
    let moved = all_moved first rest c.loop-read.held c.move_to.new.self c.loop-read.line c.move_to.new.line
    c.in_ok-move_to.field-0 c.loop-read.invariant.so_far c.in_ok-move_to.ensures.ok c.if-branch.false in
    let read = c.in-Ok.ensures.ok in
    last_found first rest (g.R.Source.state c.refill.new.source).remaining c.refill.new.self c.move_to.new.line c.in-Ok.count
    moved read.0 read.1 read.2 c.if-count-eq0.true

pub loop-read-preserved : goal.loop-read-preserved
loop-read-preserved g c =
    let first = prepend_known c.args.held.now (g.R.Source.state c.args.source.now).remaining in
    let rest = (g.R.Source.state c.loop-read.source).remaining in
    let moved = all_moved first rest c.loop-read.held c.move_to.new.self c.loop-read.line c.move_to.new.line
    c.in_ok-move_to.field-0 c.loop-read.invariant.so_far c.in_ok-move_to.ensures.ok c.if-branch.false in
    let read = c.in-Ok.ensures.ok in
    let some : 0 < c.in-Ok.count = omega (arith, c.if-count-eq0.false) in
    record {
      fine = search rules;
      inside = c.in-Ok.ensures.inside some;
      counted = grind (arith, common_steps);
      so_far = goes_on first rest (g.R.Source.state c.refill.new.source).remaining c.refill.new.self c.move_to.new.line moved read.1;
    }

pub returns-in_err-move_to-clause-begun : goal.returns-in_err-move_to-clause-begun
returns-in_err-move_to-clause-begun g c =
    let p = err_from_is_err_and c.from_residual.result c.from_residual.ensures.1 in
    rw (p.1, c.in_err-move_to.ensures.err) (begun _ _ c.loop-read.line c.loop-read.invariant.so_far)
