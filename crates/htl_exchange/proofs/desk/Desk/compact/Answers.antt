-- Folding changes no key of the desk.
use Rattle.std.proofs.Common.{sym, subst}
use Rattle.std.proofs.lemmas.Result.{on_ok_weaker}
use Rattle.htl_exchange.specs.Moves.{known_of}
use Rattle.htl_exchange.proofs.Following.{compacts}
use Rattle.htl_analyst.specs.Keys.{HasTaken}
use Rattle.htl_exchange.specs.Desks.{DeskValue}
use Rattle.htl_exchange.proofs.desk.Desk.compact.Goals as goal

pub invariant_of-self : goal.invariant_of-self
invariant_of-self c =
    let d = c.self.inside in
    let folded = c.compact in (
      c.self.invariant.0,
      c.self.invariant.1,
      compacts (known_of d.pass) d.analyst folded.new.self d.hand c.self.invariant.2 folded.ensures.right folded.ensures.keys,
    )

pub returns-clause-follows : goal.returns-clause-follows
returns-clause-follows c =
    let d = c.self.inside in
    let folded = c.compact in
    compacts (known_of d.pass) d.analyst folded.new.self d.hand c.self.invariant.2 folded.ensures.right folded.ensures.keys

pub returns-clause-standing : goal.returns-clause-standing
returns-clause-standing c =
    on_ok_weaker c.compact.result (λ standing. standing (known_of c.self.inside.pass).trace c.self.invariant.2.right)
    c.compact.ensures.standing

pub returns-clause-grows : goal.returns-clause-grows
returns-clause-grows c = λ p n h.
    (c.compact.ensures.keys p n).1 (subst (λ (d : DeskValue). HasTaken d.analyst p n) (sym c.self.view_is) h)
