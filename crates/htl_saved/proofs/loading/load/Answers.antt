-- What is read of a spelling is what it spells, and the rows of a state tell it.
use Rattle.std.proofs.Common.{◌∙◌, ap}
use Rattle.htl_saved.specs.Restored.{state_told}
use Rattle.htl_saved.proofs.ToldBack.{tell_itself}
use Rattle.htl_saved.proofs.loading.load.Goals as goal

pub returns-clause-saved : goal.returns-clause-saved
returns-clause-saved c = λ before rows plain are spells.
    c.in_ok-analyst.ensures.state.0 ∙ ap state_told (c.in_ok-rows.ensures.only rows spells) ∙ tell_itself before rows plain are
