-- An interrupted write appends nothing.
use Rattle.std.specs.Io.KnownBytes.{Keeps}
use Rattle.htl_device.proofs.sink.write_uninterrupted.Given as goal

abbrev pub invariant-loop-try : goal.invariant-loop-try
invariant-loop-try g l = Keeps (g.W.Write.contents l.initial.writer) (g.W.Write.contents l.writer)
