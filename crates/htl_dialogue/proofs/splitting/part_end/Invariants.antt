-- The part ends where that of what is left does.
use Rattle.std.proofs.Common.{◌≡◌, ◌+◌, false, drop}
use Rattle.htl_dialogue.specs.Parts.{part_end}
use Rattle.htl_dialogue.proofs.splitting.part_end.Given as goal

abbrev pub invariant-loop-place : goal.invariant-loop-place
invariant-loop-place l = part_end false l.line ≡ l.place + part_end l.quoted (drop l.place l.line)
