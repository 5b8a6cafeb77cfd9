-- A text that has no blank at its start is left.
use Rattle.std.proofs.Common.{◌≡◌, arith}
use Rattle.std.specs.Prelude.{None}
use Rattle.std.proofs.lemmas.Str.Pattern.{strip_prefix_char}
use Rattle.htl_command.proofs.FaultTexts.{blank_kept}
use Rattle.htl_command.proofs.printed.after_blank.Goals as goal

pub returns-in-None : goal.returns-in-None
returns-in-None c =
    let none : c.strip_prefix.result ≡ None = c.in-None.is in
    blank_kept c.args.text.now (rw none at (strip_prefix_char 32 c.args.text.now c.strip_prefix.result c.strip_prefix.ensures.cases (omega arith)))
