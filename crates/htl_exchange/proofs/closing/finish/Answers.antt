-- Who has got every run and has folded all has the standing state of the whole.
use Rattle.std.proofs.Common.{◌≡◌, None, ap, sym, ◌∙◌, subst}
use Rattle.htl_exchange.specs.declared.pass.Known.{Known}
use Rattle.htl_exchange.specs.Desks.{Follows}
use Rattle.htl_exchange.specs.Collects.{HasRest}
use Rattle.htl_exchange.proofs.Following.{has_whole}
use Rattle.htl_exchange.proofs.closing.finish.Goals as goal

pub returns-clause-ok : goal.returns-clause-ok
returns-clause-ok g c =
    let v : Known = c.compact.new.self.known in
    let a = c.compact.new.self.analyst in
    let same : v ≡ c.drain.new.first.known = c.compact.ensures.same.1 in
    let done = c.in_ok-drain.ensures.ok in
    let trace : v.trace ≡ c.args.exchange.now.trace = ap (λ (u : Known). u.trace) same ∙ c.drain.ensures.of.1 in
    let parts : v.parts ≡ 8 = ap (λ (u : Known). u.parts) same ∙ c.drain.ensures.parts in
    let follows : Follows v a None = subst (λ h. Follows v a h) (c.compact.ensures.same.2 ∙ done.0) c.compact.ensures.follows in
    has_whole v a c.args.exchange.now.trace trace parts follows (subst HasRest (sym same) done.1) c.in_ok-compact.ensures.standing
