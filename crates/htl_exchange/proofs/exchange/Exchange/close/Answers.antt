-- The desks that come back have all that those handed in had.
use Rattle.std.proofs.Common.{◌≡◌, ◌+◌, List, [], ◌∷◌, ◌++◌, sym, ap, ◌∙◌, subst, arith, rules}
use Rattle.htl_exchange.specs.Desks.{ExchangeValue, DeskValue, AreDesksOf, parts_at, KeepAll}
use Rattle.htl_exchange.proofs.DeskLists.{parts_at-last, desks-add, desks-front, desks-last, last_first, first_last, keeps-through}
use Rattle.htl_exchange.proofs.exchange.Exchange.close.Goals as goal

pub finish-requires-clause-first : goal.finish-requires-clause-first
finish-requires-clause-first g c =
    desks-last c.args.self c.pop.new.self.items c.in-Some.first (subst (AreDesksOf c.args.self) c.in-Some.ensures.items c.requires)

pub finish-requires-clause-others : goal.finish-requires-clause-others
finish-requires-clause-others g c =
    desks-front c.args.self c.pop.new.self.items c.in-Some.first (subst (AreDesksOf c.args.self) c.in-Some.ensures.items c.requires)

pub finish-requires-clause-parts : goal.finish-requires-clause-parts
finish-requires-clause-parts g c =
    let e : parts_at c.args.desks.items ≡ parts_at c.pop.new.self.items + c.in-Some.first.known.parts =
    ap parts_at c.in-Some.ensures.items ∙ parts_at-last c.pop.new.self.items c.in-Some.first in
    let all : parts_at c.args.desks.items ≡ 8 = search rules in
    omega arith

pub returns-clause-memory : goal.returns-clause-memory
returns-clause-memory g c _ =
    let f = c.finish.ensures in
    let e : parts_at c.push_reserved.new.self.items ≡ parts_at c.finish.new.desks.items + c.finish.new.first.known.parts =
    ap parts_at c.push_reserved.ensures.items ∙ parts_at-last c.finish.new.desks.items c.finish.new.first in
    let p = f.parts in
    let all : AreDesksOf c.args.self c.push_reserved.new.self.items =
    subst (AreDesksOf c.args.self) (sym c.push_reserved.ensures.items) (desks-add c.args.self c.finish.new.desks.items c.finish.new.first f.of.1 f.of.0) in
    (subst (λ (s : ExchangeValue). AreDesksOf s c.push_reserved.new.self.items) (sym c.exchange-2.view_is) all, omega arith, c.len.ensures)

pub returns-clause-kept : goal.returns-clause-kept
returns-clause-kept g c =
    let first = c.in-Some.first in
    let others : List DeskValue = c.pop.new.self.items in
    let left : List DeskValue = c.finish.new.desks.items in
    let a : KeepAll c.args.desks.items (first ∷ others) = subst (λ l. KeepAll l (first ∷ others)) (sym c.in-Some.ensures.items) (last_first others first) in
    let b : KeepAll c.args.desks.items (c.finish.new.first ∷ left) =
    keeps-through c.args.desks.items (first ∷ others) (c.finish.new.first ∷ left) a c.finish.ensures.kept in
    subst (λ l. KeepAll c.args.desks.items l) (sym c.push_reserved.ensures.items)
    (keeps-through c.args.desks.items (c.finish.new.first ∷ left) (left ++ c.finish.new.first ∷ []) b (first_last left c.finish.new.first))
