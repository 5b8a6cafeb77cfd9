-- One write more takes the next part of the text.
use Rattle.std.proofs.Common.{arith, ◌≡◌, ◌-◌, drop, length, take}
use Rattle.std.proofs.lemmas.Grind.{common_steps}
use Rattle.htl_device.proofs.KnownBytes.{appends-more}
use Rattle.htl_device.proofs.whole.write_whole.Goals as goal

pub loop-sent-preserved : goal.loop-sent-preserved
loop-sent-preserved g c =
    let text = c.args.text.now in
    let sent = c.loop-sent.sent in
    let whole : take (length text - sent) (drop sent text) ≡ drop sent text = grind (arith, common_steps) in
    record {
      within = grind (arith, common_steps);
      went = appends-more (g.W.Sink.state c.args.out.now).contents (g.W.Sink.state c.loop-sent.out).contents (g.W.Sink.state c.write.new.self).contents
          c.args.text.now c.loop-sent.sent c.in_ok-taken.taken
          c.loop-sent.invariant.went (rw whole at c.in_ok-taken.ensures.bytes);
      fine = grind (arith, common_steps);
    }
