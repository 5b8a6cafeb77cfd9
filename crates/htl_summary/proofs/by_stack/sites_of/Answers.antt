-- A run more gives the site of its stack, which no run before it had, or is left out.
use Rattle.std.proofs.Common.{◌≡◌, [], sym, subst, rules}
use Rattle.std.specs.Slice.Iter.{chunk_by_rest}
use Rattle.std.proofs.lemmas.Fn.{always_returns_same}
use denote.Param.Always.{mut_total}
use Rattle.htl_summary.specs.Openers.{HavePassed}
use Rattle.htl_summary.proofs.SiteRows.{none_passed, same_stack, run_added, run_left_out, all_passed}
use Rattle.htl_summary.proofs.by_stack.sites_of.Goals as goal

pub loop-run-init : goal.loop-run-init
loop-run-init c =
    let openers = c.args.openers.now in
    let whole : chunk_by_rest c.into_iter-run-iterator.result ≡ openers = search rules in
    let none = none_passed openers c.args.at_least c.requires in (
      mut_total _ _ (λ s a. tt),
      tt,
      rw c.new-sites.ensures.items (subst (λ rest. HavePassed openers rest c.args.at_least []) (sym whole) none),
    )

pub loop-run-preserved-in_ok-push : goal.loop-run-preserved-in_ok-push
loop-run-preserved-in_ok-push c =
    let steps = c.in-Some.ensures.steps in
    let prefix = (steps.2 same_stack (always_returns_same _ (λ a r. r ≡ same_stack a.0.now a.1.0.now) _ (λ a r q k. search rules))).1 in
    let more = run_added c.args.openers.now (chunk_by_rest c.loop-run.run-iterator) c.in-Some.run'.now (chunk_by_rest c.next.new.self)
    c.args.at_least c.loop-run.sites.items c.loop-run.invariant.2 steps.0 steps.1 prefix c.in_ok-site_of.field-0 c.in_ok-site_of.ensures
    c.if-run-at_least.true in
    (mut_total _ _ (λ s a. tt), tt, rw c.in_ok-push.ensures.items more)

pub loop-run-preserved : goal.loop-run-preserved
loop-run-preserved c =
    let steps = c.in-Some.ensures.steps in
    let prefix = (steps.2 same_stack (always_returns_same _ (λ a r. r ≡ same_stack a.0.now a.1.0.now) _ (λ a r q k. search rules))).1 in
    let same = run_left_out c.args.openers.now (chunk_by_rest c.loop-run.run-iterator) c.in-Some.run'.now (chunk_by_rest c.next.new.self)
    c.args.at_least c.loop-run.sites.items c.loop-run.invariant.2 steps.0 steps.1 prefix c.if-run-at_least.false in
    (mut_total _ _ (λ s a. tt), tt, same)

pub returns : goal.returns
returns c =
    all_passed c.args.openers.now (chunk_by_rest c.loop-run.run-iterator) c.args.at_least c.loop-run.sites.items c.loop-run.invariant.2
    c.in-None.ensures.steps.0
