-- What is wrong, and the tip after it, stand between `error: ` and the line feed.
use Rattle.std.proofs.Common.{◌++◌, [], ◌∷◌, append_assoc, refl}
use Rattle.htl_command.proofs.fault.usage.Goals as goal

pub returns-in-Ok : goal.returns-in-Ok
returns-in-Ok c =
    (tt, (c.args.why.now ++ c.args.tip.now, rw (c.in-Ok.ensures.ok, append_assoc c.args.why.now c.args.tip.now (10 ∷ [])) refl))
