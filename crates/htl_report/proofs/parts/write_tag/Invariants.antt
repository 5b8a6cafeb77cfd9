-- The bytes of the tag so far were written.
use Rattle.std.proofs.Common.{◌≡◌, ◌++◌, take, string_bytes}
use Rattle.htl_report.specs.Parts.{shown_tag}
use Rattle.htl_report.proofs.parts.write_tag.Given as goal

abbrev pub invariant-loop-byte : goal.invariant-loop-byte
invariant-loop-byte l = string_bytes l.out ≡ string_bytes l.initial.out ++ shown_tag (take l.byte-index l.tag)
