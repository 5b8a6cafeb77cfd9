-- A new desk follows the rule.
use Rattle.std.proofs.Common.{◌<◌, arith}
use Rattle.htl_exchange.specs.Moves.{known_of}
use Rattle.htl_exchange.proofs.Following.{starts}
use Rattle.htl_exchange.proofs.desk.Desk.new.Goals as goal

pub invariant_of-result : goal.invariant_of-result
invariant_of-result c =
    let some_part : 0 < (known_of c.args.pass).parts = omega (arith, c.requires.parts.0, c.requires.parts.1) in (
      c.requires.pass,
      c.requires.parts.1,
      starts (known_of c.args.pass) c.args.analyst c.requires.some some_part c.requires.right c.requires.idle.0.got c.requires.idle.1,
    )
