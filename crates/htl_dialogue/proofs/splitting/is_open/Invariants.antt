-- The line ends in quotes where what is left does.
use Rattle.std.proofs.Common.{◌≡◌, false, drop}
use Rattle.htl_dialogue.specs.Lines.{ends_quoted}
use Rattle.htl_dialogue.proofs.splitting.is_open.Given as goal

abbrev pub invariant-loop-byte : goal.invariant-loop-byte
invariant-loop-byte l = ends_quoted false l.line ≡ ends_quoted l.quoted (drop l.byte-index l.line)
