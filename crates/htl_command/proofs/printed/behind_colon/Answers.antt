-- What `rsplit_once` gives stands behind the last colon, and where it gives nothing there is none.
use Rattle.std.proofs.Common.{arith}
use Rattle.std.proofs.lemmas.Str.Pattern.{NoCharPasses-char}
use Rattle.htl_command.proofs.FaultTexts.{behind_found, behind_none}
use Rattle.htl_command.proofs.printed.behind_colon.Goals as goal

pub returns-in-Some : goal.returns-in-Some
returns-in-Some c =
    let e = c.in-Some.ensures.cases in behind_found c.args.text.now c.in-Some.behind.now e.0 e.1 e.2 e.4

pub returns-in-None : goal.returns-in-None
returns-in-None c = behind_none c.args.text.now (λ k below. NoCharPasses-char 58 c.args.text.now k c.in-None.ensures.cases (omega arith) below)
