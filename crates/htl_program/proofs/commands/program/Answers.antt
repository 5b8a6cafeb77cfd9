-- Where segments are to be folded, what their folding does is what the arguments ask for.
use Rattle.std.proofs.Common.{refl, rules}
use Rattle.std.specs.Prelude.{Ok}
use Rattle.htl_program.proofs.commands.program.Goals as goal

pub returns-in-Fold : goal.returns-in-Fold
returns-in-Fold g c =
    let line = c.in-Ok.line in
    record {
      parsed = Ok line;
      is = search rules;
      does = rw c.in-Fold.is (rw (c.in-Fold.is, c.deref-in-Fold.ensures.value) at c.do_fold.ensures, refl);
    }
