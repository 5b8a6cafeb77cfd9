-- A segment that is taken moves from the rest to the analyst; one that is refused goes back.
use Rattle.std.proofs.Common.{rules, ◌≡◌, ◌⊎◌, List, [], ◌∷◌, ◌++◌, length, sym, ap, ◌∙◌, subst, inl, inr, arith}
use Rattle.std.specs.Prelude.{◌↔◌}
use Rattle.htl_lemmas.proofs.Members.{last_member, front_member}
use Rattle.htl_lemmas.proofs.Tests.{through}
use Rattle.htl_segment.specs.Content.{Content}
use Rattle.htl_analyst.specs.States.{State}
use Rattle.htl_analyst.specs.Keys.{HasTaken}
use Rattle.htl_analyst.specs.Right.{IsRight}
use Rattle.htl_exchange.specs.Parcels.{HasSegment}
use Rattle.htl_exchange.proofs.Takings.{one_taken}
use Rattle.htl_exchange.proofs.taking.take_run.Goals as goal

pub returns-in-Err-NoMemory-default-clause-left : goal.returns-in-Err-NoMemory-default-clause-left
returns-in-Err-NoMemory-default-clause-left c =
    let same : c.take.new.self ≡ c.loop-segment.analyst = c.in-Err-NoMemory-default.ensures.takes.same in
    let left = c.pop.new.self.items in
    let back : c.push_reserved.new.self.items ≡ c.loop-segment.rest.items =
    c.push_reserved.ensures.items ∙ ap (λ (s : Content). left ++ s ∷ []) c.in-Err-NoMemory-default.ensures.back ∙ sym c.in-Some.ensures.items in
    λ p n.
    subst
    (λ (z : State × List Content). (HasTaken z.0 p n ⊎ HasSegment z.1 p n) ↔ (HasTaken c.args.analyst.now p n ⊎ HasSegment c.args.segments.items p n))
    (λ i. (sym same i, sym back i)) (c.loop-segment.invariant.1 p n)

pub loop-segment-preserved : goal.loop-segment-preserved
loop-segment-preserved c =
    let inv = c.loop-segment.invariant in
    let was = c.loop-segment.rest.items in
    let left = c.pop.new.self.items in
    let is : was ≡ left ++ c.in-Some.segment ∷ [] = c.in-Some.ensures.items in
    let from = inv.0 c.in-Some.segment (last_member was left c.in-Some.segment is) in (
      (λ s h. inv.0 s (front_member was left c.in-Some.segment s is h)),
      (λ p n. through (one_taken c.loop-segment.analyst c.take.new.self was left c.in-Some.segment is c.in-Ok.ensures.takes.keys p n) (inv.1 p n)),
      (λ T right within. c.in-Ok.ensures.takes.right T (inv.2 T right within) (within c.in-Some.segment from)),
      (λ p n had. (c.in-Ok.ensures.takes.keys p n).1 (inl (inv.3 p n had))),
    )

pub returns-clause-taken : goal.returns-clause-taken
returns-clause-taken c =
    let inv = c.loop-segment.invariant in
    let none : length c.loop-segment.rest.items ≡ 0 = search rules in
    λ p n. (
      (λ t. (inv.1 p n).0 (inl t)),
      (λ k. elim ((inv.1 p n).1 k) [
        | inl t ↦ t
        | inr h ↦ let lt = h.1.1 in absurd (omega (arith, none, lt))
      ]),
    )

pub unreachable-requires : goal.unreachable-requires
unreachable-requires c =
    let inv = c.loop-segment.invariant in
    let was = c.loop-segment.rest.items in
    let segment = c.in-Some.segment in
    let within = c.requires.2 in
    let there = inv.0 segment (last_member was c.pop.new.self.items segment c.in-Some.ensures.items) in
    let says = c.in-Err.ensures.takes.lawful c.requires.0 (inv.2 c.requires.0 c.requires.1 within) (within segment there) in
    search (rules, says)

pub returns-in-Err-NoMemory-default-clause-right : goal.returns-in-Err-NoMemory-default-clause-right
returns-in-Err-NoMemory-default-clause-right c = λ T right within.
    subst (λ (a : State). IsRight a T) (sym c.in-Err-NoMemory-default.ensures.takes.same) (c.loop-segment.invariant.2 T right within)

pub returns-in-Err-NoMemory-default-clause-grows : goal.returns-in-Err-NoMemory-default-clause-grows
returns-in-Err-NoMemory-default-clause-grows c =
    λ p n h. subst (λ (z : State). HasTaken z p n) (sym c.in-Err-NoMemory-default.ensures.takes.same) (c.loop-segment.invariant.3 p n h)
