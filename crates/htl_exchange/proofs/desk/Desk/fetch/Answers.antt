-- A pop keeps the rule, and the desk follows it with the parcel in hand.
use Rattle.std.proofs.Common.{◌≡◌, Some, None, ap, sym, ◌∙◌, subst, rules}
use Rattle.htl_exchange.specs.declared.pass.Known.{Known}
use Rattle.htl_exchange.specs.Moves.{known_of}
use Rattle.htl_exchange.specs.Desks.{Follows}
use Rattle.htl_exchange.proofs.Keeping.{pops, learns_rest}
use Rattle.htl_exchange.proofs.Following.{gets}
use Rattle.htl_exchange.proofs.desk.Desk.fetch.Goals as goal

pub pop_as-requires-clause-rule : goal.pop_as-requires-clause-rule
pop_as-requires-clause-rule g c = (pops _ _ c.self.invariant.2.part, learns_rest _ _)

pub invariant_of-self-in-Some-pop_as : goal.invariant_of-self-in-Some-pop_as
invariant_of-self-in-Some-pop_as g c =
    let v = known_of c.self.inside.pass in
    let a = c.self.inside.analyst in
    let free : c.self.inside.hand ≡ None = search rules in
    let says = c.in-Some-pop_as.ensures.rule in
    let x = c.in-Some-pop_as.parcel in (
      c.in-Some-pop_as.ensures.queue.2 ∙ c.self.invariant.0,
      c.self.invariant.1 ∙ sym (ap (λ (u : Known). u.parts) says.1),
      subst (λ u. Follows u a (Some x)) (sym says.1) (gets v a x (subst (λ h. Follows v a h) free c.self.invariant.2) says.0),
    )

pub returns-in-Some-pop_as-clause-follows : goal.returns-in-Some-pop_as-clause-follows
returns-in-Some-pop_as-clause-follows g c =
    let v = known_of c.self.inside.pass in
    let a = c.self.inside.analyst in
    let free : c.self.inside.hand ≡ None = search rules in
    let says = c.in-Some-pop_as.ensures.rule in
    let x = c.in-Some-pop_as.parcel in
    subst (λ u. Follows u a (Some x)) (sym says.1) (gets v a x (subst (λ h. Follows v a h) free c.self.invariant.2) says.0)
