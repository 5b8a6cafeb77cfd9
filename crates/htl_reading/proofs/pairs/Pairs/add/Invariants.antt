-- The digits of the piece so far were added.
use Rattle.std.proofs.Common.{◌++◌, ℕ, List, take}
use Rattle.htl_reading.specs.Pairs.{ArePairs}
use Rattle.htl_reading.proofs.pairs.Pairs.add.Given as goal

abbrev pub invariant-loop-byte : goal.invariant-loop-byte
invariant-loop-byte l =
    (text : List ℕ) → ArePairs text l.fn.self.bytes l.fn.self.high → ArePairs (text ++ take l.byte-index l.piece) l.self.bytes l.self.high
