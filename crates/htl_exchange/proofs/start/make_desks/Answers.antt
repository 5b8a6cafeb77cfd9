-- Splitting keeps the rule, and the desks have the eight parts together.
use Rattle.std.proofs.Common.{◌≡◌, ◌+◌, ◌-◌, refl, ap, sym, ◌∙◌, subst, arith, vec_len}
use Rattle.htl_exchange.specs.declared.pass.Known.{Known}
use Rattle.htl_exchange.specs.Runs.{has}
use Rattle.htl_exchange.specs.Moves.{known_of}
use Rattle.htl_exchange.specs.Desks.{ExchangeValue, exchange_value, AreAtExchange, AreFresh, parts_at, pushes_at}
use Rattle.htl_exchange.proofs.DeskLists.{parts_at-last, pushes_at-last, desks-add, fresh-add}
use Rattle.htl_exchange.proofs.Keeping.{splits}
use Rattle.htl_exchange.proofs.start.make_desks.Goals as goal

pub another-part-requires-clause-rule : goal.another-part-requires-clause-rule
another-part-requires-clause-rule c = splits _ _ (omega (arith, c.loop.invariant.2))

pub loop-preserved : goal.loop-preserved
loop-preserved c =
    let inv = c.loop.invariant in
    let q = c.another-part.ensures.queue in
    let r = c.another-part.ensures.rule in
    let e : ExchangeValue = exchange_value c.args.pass.table_id c.args.case.now 0 0 in
    let own : c.new.result.known ≡ known_of c.another-part.result = c.new.ensures.of.1 in
    let trace : (known_of c.another-part.new.pass).trace ≡ c.args.case.now = ap (λ (v : Known). v.trace) r.0 ∙ inv.1.trace in
    let parts : (known_of c.another-part.new.pass).parts ≡ (known_of c.loop.pass).parts - 1 = ap (λ (v : Known). v.parts) r.0 in
    let sum : (known_of c.loop.pass).parts + c.loop.counter ≡ 9 = inv.2 in
    let more : parts_at c.push_reserved.new.self.items ≡ parts_at c.loop.desks.items + c.new.result.known.parts =
    ap parts_at c.push_reserved.ensures.items ∙ parts_at-last c.loop.desks.items c.new.result in
    let one : c.new.result.known.parts ≡ 1 = ap (λ (v : Known). v.parts) (own ∙ r.1) in
    let before : parts_at c.loop.desks.items + 1 ≡ c.loop.counter = inv.3 in
    let pushed : pushes_at c.push_reserved.new.self.items ≡ pushes_at c.loop.desks.items + c.new.result.known.pushes =
    ap pushes_at c.push_reserved.ensures.items ∙ pushes_at-last c.loop.desks.items c.new.result in
    let none : c.new.result.known.pushes ≡ 0 = ap (λ (v : Known). v.pushes) (own ∙ r.1) in
    let kept : (known_of c.another-part.new.pass).pushes ≡ (known_of c.loop.pass).pushes = ap (λ (v : Known). v.pushes) r.0 in
    let all : pushes_at c.loop.desks.items + (known_of c.loop.pass).pushes ≡ (known_of c.args.pass).pushes = inv.8 in (
      (q.0.0 ∙ inv.0.0, q.0.1 ∙ inv.0.1, q.0.2 ∙ inv.0.2),
      record {
        trace = trace;
        parts = refl;
        log = ap (λ (v : Known). v.log) r.0 ∙ inv.1.log;
        got = λ p. ap (λ (v : Known). has v.got p) r.0 ∙ inv.1.got p;
      },
      omega arith,
      omega arith,
      omega (arith, c.push_reserved.ensures.len, inv.4),
      c.push_reserved.ensures.capacity ∙ inv.5,
      subst (AreAtExchange c.args.pass.table_id c.args.case.now) (sym c.push_reserved.ensures.items)
          (desks-add e c.loop.desks.items c.new.result inv.6
          (c.new.ensures.of.0 ∙ q.1.0 ∙ sym c.requires.pass.0, ap (λ (v : Known). v.trace) (own ∙ r.1) ∙ inv.1.trace)),
      subst AreFresh (sym c.push_reserved.ensures.items) (fresh-add c.loop.desks.items c.new.result inv.7 c.new.ensures.fresh),
      omega (arith, pushed, none, kept, all),
    )

pub returns-clause-of : goal.returns-clause-of
returns-clause-of c =
    let inv = c.loop.invariant in
    let e : ExchangeValue = exchange_value c.args.pass.table_id c.args.case.now 0 0 in
    subst (AreAtExchange c.args.pass.table_id c.args.case.now) (sym c.push_reserved-2.ensures.items)
    (desks-add e c.loop.desks.items c.new-2.result inv.6
    (c.new-2.ensures.of.0 ∙ inv.0.0, ap (λ (v : Known). v.trace) c.new-2.ensures.of.1 ∙ inv.1.trace))

pub returns-clause-fresh : goal.returns-clause-fresh
returns-clause-fresh c =
    subst AreFresh (sym c.push_reserved-2.ensures.items) (fresh-add c.loop.desks.items c.new-2.result c.loop.invariant.7 c.new-2.ensures.fresh)

pub returns-clause-parts : goal.returns-clause-parts
returns-clause-parts c =
    let inv = c.loop.invariant in
    let more : parts_at c.push_reserved-2.new.self.items ≡ parts_at c.loop.desks.items + c.new-2.result.known.parts =
    ap parts_at c.push_reserved-2.ensures.items ∙ parts_at-last c.loop.desks.items c.new-2.result in
    let left : c.new-2.result.known.parts ≡ (known_of c.loop.pass).parts = ap (λ (v : Known). v.parts) c.new-2.ensures.of.1 in
    let before : parts_at c.loop.desks.items + 1 ≡ c.loop.counter = inv.3 in
    let sum : (known_of c.loop.pass).parts + c.loop.counter ≡ 9 = inv.2 in
    let len : vec_len c.loop.desks + 1 ≡ c.loop.counter = inv.4 in
    (omega arith, omega (arith, c.push_reserved-2.ensures.len))

pub returns-clause-pushes : goal.returns-clause-pushes
returns-clause-pushes c =
    let pushed : pushes_at c.push_reserved-2.new.self.items ≡ pushes_at c.loop.desks.items + c.new-2.result.known.pushes =
    ap pushes_at c.push_reserved-2.ensures.items ∙ pushes_at-last c.loop.desks.items c.new-2.result in
    let left : c.new-2.result.known.pushes ≡ (known_of c.loop.pass).pushes = ap (λ (v : Known). v.pushes) c.new-2.ensures.of.1 in
    let all : pushes_at c.loop.desks.items + (known_of c.loop.pass).pushes ≡ (known_of c.args.pass).pushes = c.loop.invariant.8 in
    omega (arith, pushed, left, all)
