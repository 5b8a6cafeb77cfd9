-- Less of the bundle is left in each turn.
use Rattle.std.proofs.Common.{length}
use Rattle.test_formats.proofs.texts.dumped.Given as goal

abbrev pub decreases-loop-rest : goal.decreases-loop-rest
decreases-loop-rest g l = length l.rest
