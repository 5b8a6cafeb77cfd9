-- Joining keeps the rule, and the desk follows it with what both had.
use Rattle.std.proofs.Common.{◌≡◌, ◌+◌, None, ap, sym, ◌∙◌, subst, rules}
use Rattle.htl_analyst.specs.Right.{IsRight}
use Rattle.htl_exchange.specs.declared.pass.Known.{Known}
use Rattle.htl_exchange.specs.Moves.{known_of, joined}
use Rattle.htl_exchange.specs.Desks.{Follows}
use Rattle.htl_exchange.proofs.Keeping.{joins}
use Rattle.htl_exchange.proofs.Following.{adopts}
use Rattle.htl_exchange.proofs.desk.Desk.adopt.Goals as goal

pub absorb-requires-in-Ok-clause-rule : goal.absorb-requires-in-Ok-clause-rule
absorb-requires-in-Ok-clause-rule c = joins _ _ _ _ c.self.invariant.2.part

pub invariant_of-self-in-Ok-3 : goal.invariant_of-self-in-Ok-3
invariant_of-self-in-Ok-3 c =
    let v = known_of c.self.inside.pass in
    let u = known_of c.other.inside.pass in
    let none : c.self.inside.hand ≡ None = search rules in
    let none' : c.other.inside.hand ≡ None = search rules in
    let same : u.trace ≡ v.trace = search rules in
    let is : known_of c.absorb-in-Ok.new.pass ≡ joined v u = c.absorb-in-Ok.ensures.rule in
    let mine : Follows v c.self.inside.analyst None = subst (λ h. Follows v c.self.inside.analyst h) none c.self.invariant.2 in
    let its : Follows u c.other.inside.analyst None = subst (λ h. Follows u c.other.inside.analyst h) none' c.other.invariant.2 in
    let now : Follows (joined v u) c.absorb.new.self None =
    adopts v u c.self.inside.analyst c.other.inside.analyst c.absorb.new.self mine its same c.in-Ok.ensures.merges.right c.in-Ok.ensures.merges.keys in
    let parts : c.self.inside.parts + c.other.inside.parts ≡ (known_of c.absorb-in-Ok.new.pass).parts =
    (λ i. c.self.invariant.1 i + c.other.invariant.1 i) ∙ sym (ap (λ (w : Known). w.parts) is) in (
      c.absorb-in-Ok.ensures.queue.2 ∙ c.self.invariant.0,
      parts,
      subst (λ h. Follows (known_of c.absorb-in-Ok.new.pass) c.absorb.new.self h) (sym none) (subst (λ w. Follows w c.absorb.new.self None) (sym is) now),
    )

pub unreachable-requires : goal.unreachable-requires
unreachable-requires c =
    let u = known_of c.other.inside.pass in
    let v = known_of c.self.inside.pass in
    let same : u.trace ≡ v.trace = search rules in
    let theirs : IsRight c.other.inside.analyst v.trace =
    subst (λ t. IsRight c.other.inside.analyst t) same c.other.invariant.2.right in
    let told = c.in-Err.ensures.merges.lawful v.trace c.self.invariant.2.right theirs in
    search (rules, told)
