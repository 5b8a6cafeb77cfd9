-- Each desk that is adopted leaves the list with its parts and all that it got.
use Rattle.std.proofs.Common.{◌≡◌, ◌+◌, List, [], ◌∷◌, ◌++◌, sym, ap, ◌∙◌, subst, arith, rules, refl}
use Rattle.htl_exchange.specs.declared.pass.Known.{Known}
use Rattle.htl_exchange.specs.Desks.{DeskValue, AreDesksOf, parts_at, KeepAll}
use Rattle.htl_exchange.proofs.DeskLists.{parts_at-last, desks-add, desks-front, desks-last, keeps-through, keeps-adopted, keeps-refused}
use Rattle.htl_exchange.proofs.closing.gather.Goals as goal

pub loop-other-init : goal.loop-other-init
loop-other-init c = (c.requires.first, c.requires.others, c.requires.parts, refl, omega arith, λ p h. h)

pub adopt-requires-clause-other : goal.adopt-requires-clause-other
adopt-requires-clause-other c =
    desks-last c.args.exchange.now c.pop.new.self.items c.in-Some.other
    (subst (AreDesksOf c.args.exchange.now) c.in-Some.ensures.items c.loop-other.invariant.1)

pub adopt-requires-clause-parts : goal.adopt-requires-clause-parts
adopt-requires-clause-parts c =
    let e : parts_at c.loop-other.desks.items ≡ parts_at c.pop.new.self.items + c.in-Some.other.known.parts =
    ap parts_at c.in-Some.ensures.items ∙ parts_at-last c.pop.new.self.items c.in-Some.other in
    omega arith

pub returns-in-Err-clause-of : goal.returns-in-Err-clause-of
returns-in-Err-clause-of c =
    let front = desks-front c.args.exchange.now c.pop.new.self.items c.in-Some.other
    (subst (AreDesksOf c.args.exchange.now) c.in-Some.ensures.items c.loop-other.invariant.1) in (
      c.adopt.ensures.of,
      subst (AreDesksOf c.args.exchange.now) (sym c.push_reserved.ensures.items)
          (desks-add c.args.exchange.now c.pop.new.self.items c.in-Err.other front c.in-Err.ensures.err.2),
    )

pub returns-in-Err-clause-parts : goal.returns-in-Err-clause-parts
returns-in-Err-clause-parts c =
    let e : parts_at c.loop-other.desks.items ≡ parts_at c.pop.new.self.items + c.in-Some.other.known.parts =
    ap parts_at c.in-Some.ensures.items ∙ parts_at-last c.pop.new.self.items c.in-Some.other in
    let f : parts_at c.push_reserved.new.self.items ≡ parts_at c.pop.new.self.items + c.in-Err.other.known.parts =
    ap parts_at c.push_reserved.ensures.items ∙ parts_at-last c.pop.new.self.items c.in-Err.other in
    let p : c.adopt.new.self.known.parts ≡ c.loop-other.first.known.parts = ap (λ (v : Known). v.parts) c.in-Err.ensures.err.0 in
    let q : c.in-Err.other.known.parts ≡ c.in-Some.other.known.parts = ap (λ (v : Known). v.parts) c.in-Err.ensures.err.1 in
    omega arith

pub returns-in-Err-clause-kept : goal.returns-in-Err-clause-kept
returns-in-Err-clause-kept c =
    let first = c.loop-other.first in
    let others : List DeskValue = c.pop.new.self.items in
    let now = c.adopt.new.self in
    keeps-through (c.args.first.now ∷ c.args.desks.now.items) (first ∷ c.loop-other.desks.items)
    (now ∷ c.push_reserved.new.self.items) c.loop-other.invariant.5
    (subst (λ (l : List DeskValue). KeepAll (first ∷ l) (now ∷ c.push_reserved.new.self.items)) (sym c.in-Some.ensures.items)
    (subst (λ (l : List DeskValue). KeepAll (first ∷ others ++ c.in-Some.other ∷ []) (now ∷ l)) (sym c.push_reserved.ensures.items)
    (keeps-refused c.loop-other.first c.adopt.new.self c.in-Some.other c.in-Err.other c.pop.new.self.items c.in-Err.ensures.err.0 c.in-Err.ensures.err.1)))

pub loop-other-preserved : goal.loop-other-preserved
loop-other-preserved c =
    let front = desks-front c.args.exchange.now c.pop.new.self.items c.in-Some.other
    (subst (AreDesksOf c.args.exchange.now) c.in-Some.ensures.items c.loop-other.invariant.1) in
    let e : parts_at c.loop-other.desks.items ≡ parts_at c.pop.new.self.items + c.in-Some.other.known.parts =
    ap parts_at c.in-Some.ensures.items ∙ parts_at-last c.pop.new.self.items c.in-Some.other in
    let a : c.adopt.new.self.known.parts ≡ c.loop-other.first.known.parts + c.in-Some.other.known.parts =
    ap (λ (v : Known). v.parts) c.in_default-adopt.ensures.ok in
    let kept : KeepAll (c.loop-other.first ∷ c.loop-other.desks.items) (c.adopt.new.self ∷ c.pop.new.self.items) =
    subst (λ (l : List DeskValue). KeepAll (c.loop-other.first ∷ l) (c.adopt.new.self ∷ c.pop.new.self.items)) (sym c.in-Some.ensures.items)
    (keeps-adopted c.loop-other.first c.adopt.new.self c.in-Some.other c.pop.new.self.items c.in_default-adopt.ensures.ok) in (
      c.adopt.ensures.of,
      front,
      omega arith,
      search rules,
      omega arith,
      keeps-through (c.args.first.now ∷ c.args.desks.now.items)
          (c.loop-other.first ∷ c.loop-other.desks.items) (c.adopt.new.self ∷ c.pop.new.self.items) c.loop-other.invariant.5 kept,
    )
