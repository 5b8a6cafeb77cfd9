-- A read gives more bytes, whose segments are dumped, or finds the end of the source, and a fault ends the reading.
use Rattle.std.proofs.Common.{◌≡◌, ◌+◌, ◌<◌, ◌≤◌, ◌++◌, ℕ, true, false, [], length, take, arith, subst, ◌∙◌}
use Rattle.std.specs.Prelude.{is_err}
use Rattle.std.specs.Io.KnownBytes.{Consumes, IsAtEnd}
use Rattle.std.proofs.lemmas.Grind.{common_steps}
use Rattle.std.proofs.lemmas.List.{length-append}
use Rattle.std.proofs.lemmas.Result.{MatchResult-from_both, err_from_is_err_and}
use Rattle.htl_device.specs.declared.source.TheConstants.{MAX_READ_LEN, MIN_READ_LEN}
use Rattle.htl_segment.specs.Bundles.{IsRest}
use Rattle.htl_convert.specs.Dumping.{FrontDumped}
use Rattle.htl_convert.proofs.DumpLaws.{finished, finished_cut, front_named, front_no_read, kept_last, rest_inside, so_far_failed, so_far_memory, so_far_next}
use Rattle.htl_convert.proofs.DumpLaws.{so_far_once_more, so_far_read, so_far_stops, so_far_unread}
use Rattle.htl_convert.proofs.dumping.dump_within.Goals as goal

pub returns-in_default-clause-dumped : goal.returns-in_default-clause-dumped
returns-in_default-clause-dumped g c =
    let failed : is_err c.read.result ≡ true = grind (arith, common_steps) in
    so_far_unread c.args.form _ _ _ _ _ _ _ _ c.requires.bytes (so_far_failed (g.R.Source.state c.args.source.now).remaining
    (g.R.Source.state c.loop-read.source).remaining (g.R.Source.state c.read.new.self).remaining c.loop-read.start c.loop-read.held.items
    c.read.new.buffer _ _ c.read.result failed c.read.ensures.bytes c.loop-read.invariant.so_far)

pub returns-in_default-clause-to_fault : goal.returns-in_default-clause-to_fault
returns-in_default-clause-to_fault g c =
    let failed : is_err c.read.result ≡ true = grind (arith, common_steps) in
    so_far_read _ _ _ _ _ _ _ (so_far_failed (g.R.Source.state c.args.source.now).remaining (g.R.Source.state c.loop-read.source).remaining
    (g.R.Source.state c.read.new.self).remaining c.loop-read.start c.loop-read.held.items c.read.new.buffer _ _ c.read.result failed
    c.read.ensures.bytes c.loop-read.invariant.so_far)

pub returns-in_default-clause-no_fault : goal.returns-in_default-clause-no_fault
returns-in_default-clause-no_fault g c = λ at is.
    let failed : is_err c.read.result ≡ true = grind (arith, common_steps) in
    so_far_read _ _ _ _ _ _ _ (so_far_failed (g.R.Source.state c.args.source.now).remaining (g.R.Source.state c.loop-read.source).remaining
    (g.R.Source.state c.read.new.self).remaining c.loop-read.start c.loop-read.held.items c.read.new.buffer _ _ c.read.result failed
    c.read.ensures.bytes c.loop-read.invariant.so_far)

pub returns-then-count-eq0-clause-dumped : goal.returns-then-count-eq0-clause-dumped
returns-then-count-eq0-clause-dumped g c =
    let zero : c.in-Ok.count ≡ 0 = grind (arith, common_steps) in
    let last = (g.R.Source.state c.read.new.self).remaining in
    let none : Consumes (g.R.Source.state c.loop-read.source).remaining last [] =
    subst (λ (n : ℕ). Consumes (g.R.Source.state c.loop-read.source).remaining last (take n c.read.new.buffer)) zero c.in-Ok.ensures.bytes.0 in
    let end : IsAtEnd last = c.in-Ok.ensures.bytes.1 zero (omega arith) in
    MatchResult-from_both c.finish.result _ _ (finished c.args.form _ _ _ _ _ _ _ c.finish.result c.requires.bytes
    c.loop-read.invariant.so_far none end (rw (← c.deref.ensures.value) (c.finish.ensures.ok)))
    (finished_cut c.args.form _ _ _ _ _ _ _ _ _ c.finish.result c.requires.bytes c.loop-read.invariant.so_far none end
    (rw (← c.deref.ensures.value) (c.finish.ensures.stops)))

pub returns-then-count-eq0-clause-to_fault : goal.returns-then-count-eq0-clause-to_fault
returns-then-count-eq0-clause-to_fault g c =
    let few : length (take c.in-Ok.count c.read.new.buffer) ≤ MAX_READ_LEN = grind (arith, common_steps) in
    so_far_once_more _ _ _ _ _ _ _ _ c.loop-read.invariant.so_far c.in-Ok.ensures.bytes.0 few

pub returns-in_err-extend_from_slice-clause-dumped : goal.returns-in_err-extend_from_slice-clause-dumped
returns-in_err-extend_from_slice-clause-dumped g c =
    let p = err_from_is_err_and c.from_residual.result c.from_residual.ensures.1 in
    let some : 0 < length (take c.in-Ok.count c.read.new.buffer) = grind (arith, common_steps) in
    let inside : (g.R.Source.state c.read.new.self).ended ≡ false = grind (arith, common_steps) in
    rw (p.1, p.2) (so_far_memory c.args.form _ _ _ _ _ _ _ _ _ _ c.requires.bytes c.loop-read.invariant.so_far c.in-Ok.ensures.bytes.0 inside some)

pub returns-in_err-extend_from_slice-clause-to_fault : goal.returns-in_err-extend_from_slice-clause-to_fault
returns-in_err-extend_from_slice-clause-to_fault g c =
    let few : length (take c.in-Ok.count c.read.new.buffer) ≤ MAX_READ_LEN = grind (arith, common_steps) in
    so_far_once_more _ _ _ _ _ _ _ _ c.loop-read.invariant.so_far c.in-Ok.ensures.bytes.0 few

pub returns-in_err-left-clause-dumped : goal.returns-in_err-left-clause-dumped
returns-in_err-left-clause-dumped g c =
    let p = err_from_is_err_and c.from_residual-in_err-left.result c.from_residual-in_err-left.ensures.1 in
    let all : c.extend_from_slice.new.self.items ≡ c.loop-read.held.items ++ take c.in-Ok.count c.read.new.buffer =
    grind (arith, common_steps) in
    let some : 0 < length (take c.in-Ok.count c.read.new.buffer) = grind (arith, common_steps) in
    let inside : (g.R.Source.state c.read.new.self).ended ≡ false = grind (arith, common_steps) in
    rw (p.1, p.2) (so_far_stops c.args.form _ _ _ _ _ _ c.loop-read.held.items (take c.in-Ok.count c.read.new.buffer) _ _ _ _
    c.requires.bytes c.loop-read.invariant.so_far c.in-Ok.ensures.bytes.0 inside some
    (rw (← all, ← c.deref-in-loop-read.ensures.value) (c.in_err-left.ensures.dumped)))

pub returns-in_err-left-clause-read : goal.returns-in_err-left-clause-read
returns-in_err-left-clause-read g c =
    let p = err_from_is_err_and c.from_residual-in_err-left.result c.from_residual-in_err-left.ensures.1 in
    λ at is. absurd (front_no_read _ _ _ _ _ _ c.in_err-left.ensures.dumped at (cc (p.1, p.2, is)))

pub returns-in_err-left-clause-no_fault : goal.returns-in_err-left-clause-no_fault
returns-in_err-left-clause-no_fault g c =
    let p = err_from_is_err_and c.from_residual-in_err-left.result c.from_residual-in_err-left.ensures.1 in
    λ at is. absurd (front_no_read _ _ _ _ _ _ c.in_err-left.ensures.dumped at (cc (p.1, p.2, is)))

pub returns-in_err-left-clause-bounded : goal.returns-in_err-left-clause-bounded
returns-in_err-left-clause-bounded g c =
    let inv = c.loop-read.invariant in
    let one : (g.R.Source.state c.read.new.self).good_reads ≤ (g.R.Source.state c.loop-read.source).good_reads + 1 = grind (arith, common_steps) in
    omega (arith, one, inv.reads)

pub returns-in_err-left-clause-named : goal.returns-in_err-left-clause-named
returns-in_err-left-clause-named g c =
    let p = err_from_is_err_and c.from_residual-in_err-left.result c.from_residual-in_err-left.ensures.1 in
    rw (p.1, p.2) (front_named _ _ _ _ _ _ c.in_err-left.ensures.dumped)

pub returns-in_err-left-clause-to_fault : goal.returns-in_err-left-clause-to_fault
returns-in_err-left-clause-to_fault g c =
    let few : length (take c.in-Ok.count c.read.new.buffer) ≤ MAX_READ_LEN = grind (arith, common_steps) in
    so_far_once_more _ _ _ _ _ _ _ _ c.loop-read.invariant.so_far c.in-Ok.ensures.bytes.0 few

pub returns-clause-dumped : goal.returns-clause-dumped
returns-clause-dumped g c = so_far_unread c.args.form _ _ _ _ _ _ _ _ c.requires.bytes c.loop-read.invariant.so_far

pub returns-clause-to_fault : goal.returns-clause-to_fault
returns-clause-to_fault g c = so_far_read _ _ _ _ _ _ _ c.loop-read.invariant.so_far

pub returns-clause-no_fault : goal.returns-clause-no_fault
returns-clause-no_fault g c = λ at is. so_far_read _ _ _ _ _ _ _ c.loop-read.invariant.so_far

pub loop-read-preserved : goal.loop-read-preserved
loop-read-preserved g c =
    let inv = c.loop-read.invariant in
    let piece = take c.in-Ok.count c.read.new.buffer in
    let rest = c.in_ok-left.field-0.now in
    let some : 0 < c.in-Ok.count = grind (arith, common_steps) in
    let few : c.in-Ok.count ≤ length c.read.new.buffer = c.in-Ok.ensures.bound in
    let size : length piece ≡ c.in-Ok.count = grind (arith, common_steps) in
    let whole : length c.read.new.buffer ≡ MIN_READ_LEN = grind (arith, common_steps) in
    let all : c.extend_from_slice.new.self.items ≡ c.loop-read.held.items ++ piece = grind (arith, common_steps) in
    let held = c.loop-read.held.items in
    let dumped : FrontDumped (held ++ piece) rest (g.W.Sink.state c.loop-read.out).contents (g.W.Sink.state c.dump_front.new.out).contents × IsRest rest =
    rw (← all, ← c.deref-in-loop-read.ensures.value) (c.in_ok-left.ensures.dumped) in
    let next = so_far_next (g.R.Source.state c.args.source.now).remaining (g.R.Source.state c.loop-read.source).remaining
    (g.R.Source.state c.read.new.self).remaining c.loop-read.start held piece rest (g.W.Sink.state c.args.out.now).contents
    (g.W.Sink.state c.loop-read.out).contents (g.W.Sink.state c.dump_front.new.out).contents inv.so_far c.in-Ok.ensures.bytes.0 dumped.0 dumped.1 in
    let len : c.len.result ≡ length (held ++ piece) = grind (arith, common_steps, all) in
    let joined : length (held ++ piece) ≡ length held + length piece = length-append held piece in
    let inside : length rest ≤ length (held ++ piece) = rest_inside (held ++ piece) rest _ _ dumped.0 in
    let kept : c.keep_last.new.bytes.items ≡ rest =
    c.keep_last.ensures ∙ rw (all) (kept_last (held ++ piece) rest _ _ dumped.0) in
    record {
      so_far = rw (kept, len) next;
      fine = grind (arith, common_steps);
      sound = c.in_ok-left.ensures.failed;
      each = rw (kept, len) (omega (arith, inv.each, joined, inside, size, some));
      counted = grind (arith, common_steps);
      reads = grind (arith, common_steps);
      tails = grind (arith, common_steps);
      bounded = rw (kept, len) (omega (arith, inv.bounded, few, whole, joined, inside, size));
      inside = grind (arith, common_steps);
      whole = whole;
    }
