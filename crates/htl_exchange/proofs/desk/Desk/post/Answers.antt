-- A push of the desk's own state keeps the rule.
use Rattle.std.proofs.Common.{◌≡◌, ◌⊎◌, None, ap, sym, ◌∙◌, subst, inl, inr}
use Rattle.htl_exchange.specs.declared.pass.Known.{Known}
use Rattle.htl_analyst.specs.Keys.{HasTaken}
use Rattle.htl_exchange.specs.Moves.{known_of, pushed}
use Rattle.htl_exchange.specs.Desks.{Follows, DeskValue}
use Rattle.htl_exchange.proofs.Keeping.{learns_nothing}
use Rattle.htl_exchange.proofs.Following.{may_post, posts_still}
use Rattle.htl_exchange.proofs.desk.Desk.post.Goals as goal
use Rattle.htl_exchange.proofs.desk.Desk.post.Goals.{in-Ok, in-Err}

pub push_as-requires-clause-rule : goal.push_as-requires-clause-rule
push_as-requires-clause-rule g c =
    let v = known_of c.self.inside.pass in
    let a = c.self.inside.analyst in
    let none : c.self.inside.hand ≡ None = ap (λ d. d.hand) c.self.view_is ∙ c.in_ok-take_in.ensures.hand in
    (may_post _ _ _ a _ (subst (λ h. Follows v a h) none c.self.invariant.2) c.in_ok-copy.ensures, learns_nothing _ _)

pub invariant_of-self : goal.invariant_of-self
invariant_of-self g c =
    let v = known_of c.self.inside.pass in
    let w = known_of c.push_as.new.pass in
    let says : (w ≡ pushed v) ⊎ (w ≡ v) = elim c.match-push_as.branch [
      | in-Ok b ↦ inl b.in-Ok.ensures.rule.0
      | in-Err b ↦ inr b.in-Err.ensures.rule.1
    ] in
    let parts : w.parts ≡ v.parts = elim says [ inl is ↦ ap (λ (u : Known). u.parts) is | inr is ↦ ap (λ (u : Known). u.parts) is ] in (
      c.push_as.ensures.queue.2 ∙ c.self.invariant.0,
      c.self.invariant.1 ∙ sym parts,
      posts_still v w c.self.inside.analyst c.self.inside.hand c.self.invariant.2 says,
    )

pub returns-clause-follows : goal.returns-clause-follows
returns-clause-follows g c =
    let v = known_of c.self.inside.pass in
    let w = known_of c.push_as.new.pass in
    let says : (w ≡ pushed v) ⊎ (w ≡ v) = elim c.match-push_as.branch [
      | in-Ok b ↦ inl b.in-Ok.ensures.rule.0
      | in-Err b ↦ inr b.in-Err.ensures.rule.1
    ] in
    posts_still v w c.self.inside.analyst c.self.inside.hand c.self.invariant.2 says

pub returns-clause-grows : goal.returns-clause-grows
returns-clause-grows g c = λ p n h.
    subst (λ (d : DeskValue). HasTaken d.analyst p n) (sym c.self.view_is) (c.take_in.ensures.grows p n h)
