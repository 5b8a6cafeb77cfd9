-- The characters so far were written as they are shown.
use Rattle.std.proofs.Common.{flat_map}
use Rattle.std.specs.Fmt.{HasWritten, IsPlainFormatter}
use Rattle.hleak.specs.Shown.{is_kept, shown_char}
use Rattle.hleak.proofs.shown.write_shown.Given as goal

abbrev pub invariant-loop-character : goal.invariant-loop-character
invariant-loop-character g l =
    IsPlainFormatter l.initial.f
    → HasWritten g.W.Write.write_str_gives l.initial.f (flat_map (λ c. shown_char (is_kept l.fn.has_lines c) c) l.yielded) l.f
