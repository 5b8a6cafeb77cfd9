-- The name that is found is one of those that are looked at.
use Rattle.htl_command.proofs.FaultTexts.{finds_name}
use Rattle.htl_command.proofs.printed.known.Goals as goal

pub returns : goal.returns
returns c = finds_name c.args.names.now c.args.inner.now c.name_among.result c.name_among.ensures
