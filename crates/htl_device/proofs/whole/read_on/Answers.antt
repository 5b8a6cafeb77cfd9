-- Where memory is refused for the bytes of a read the end was not found.
use Rattle.std.proofs.Common.{rules, ◌≡◌, ◌<◌, ◌++◌, false, length, take, arith}
use Rattle.std.proofs.KnownBytes.{Consumes-trans}
use Rattle.std.proofs.lemmas.Grind.{common_steps}
use Rattle.std.proofs.lemmas.List.{length-append}
use Rattle.htl_device.proofs.whole.read_on.Goals as goal

pub returns-in_err-extend_from_slice-clause-read : goal.returns-in_err-extend_from_slice-clause-read
returns-in_err-extend_from_slice-clause-read g c = λ given start.
    let inv = c.loop-read.invariant in
    let piece = take c.in-Ok.count c.read.new.buffer in
    let inside : (g.R.Source.state c.read.new.self).ended ≡ false = grind (arith, common_steps) in
    let some : 0 < length piece = grind (arith, common_steps) in
    record {
      ok = search rules;
      fine = search rules;
      ended = search rules;
      reported = grind (arith, common_steps);
      memory = λ is. (
        inside,
        c.loop-read.bytes.items ++ piece,
        omega (arith, some, length-append c.loop-read.bytes.items piece),
        Consumes-trans given (g.R.Source.state c.loop-read.source).remaining (g.R.Source.state c.read.new.self).remaining c.loop-read.bytes.items piece
            (inv.given given start) c.in-Ok.ensures.bytes.0,
      );
      failed = search rules;
      bounded = grind (arith, common_steps);
      tails = grind (arith, common_steps);
    }
