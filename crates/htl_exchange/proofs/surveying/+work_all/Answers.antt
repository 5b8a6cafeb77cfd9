-- Each desk goes to a thread and comes back with its parts.
use Rattle.std.proofs.Common.{rules, ◌≡◌, ◌+◌, [], ◌∷◌, ◌++◌, sym, ap, ◌∙◌, subst}
use denote.Param.Send.{sendable}
use Rattle.std.proofs.Crossing.{crosses}
use Rattle.htl_exchange.specs.Desks.{AreDesksOf, IsDeskOf, parts_at}
use Rattle.htl_exchange.proofs.Sends.{desk_send, exchange_sync}
use Rattle.htl_exchange.proofs.DeskLists.{parts_at-last, desks-add, desks-front, desks-last}
use Rattle.htl_exchange.proofs.surveying.+work_all.Goals as goal

pub spawn_with-started-requires-send-T : goal.spawn_with-started-requires-send-T
spawn_with-started-requires-send-T g t c κs within = search (sendable, desk_send) depth 8

pub spawn_with-started-requires-clause-runs : goal.spawn_with-started-requires-clause-runs
spawn_with-started-requires-clause-runs g t c κs within =
    desks-last c.args.exchange.now c.pop.new.self.items c.in-Some.desk (subst (AreDesksOf c.args.exchange.now) c.in-Some.ensures.items c.requires.0)

pub work_all-rest-requires-after_bounds : goal.work_all-rest-requires-after_bounds
work_all-rest-requires-after_bounds g t c κs within =
    let all : AreDesksOf c.args.exchange.now (c.pop.new.self.items ++ c.in-Some.desk ∷ []) =
    subst (AreDesksOf c.args.exchange.now) c.in-Some.ensures.items c.requires.0 in
    (desks-front c.args.exchange.now c.pop.new.self.items c.in-Some.desk all, search rules)

pub spawn_with-started-requires-send-F : goal.spawn_with-started-requires-send-F
spawn_with-started-requires-send-F g t c κs within = search (sendable, crosses, desk_send, exchange_sync) depth 30

pub returns-clause-of : goal.returns-clause-of
returns-clause-of g t c =
    let kept : IsDeskOf c.args.exchange.now c.join-desk.result × (c.join-desk.result.known.parts ≡ c.in-Some.desk.known.parts) = search rules in
    let all : c.push_reserved.new.self.items ≡ c.in_ok-desks.desks.items ++ c.join-desk.result ∷ [] = c.push_reserved.ensures.items in
    let rest = c.in_ok-desks.ensures.of in
    let was : parts_at c.args.desks.items ≡ parts_at c.pop.new.self.items + c.in-Some.desk.known.parts =
    ap parts_at c.in-Some.ensures.items ∙ parts_at-last c.pop.new.self.items c.in-Some.desk in
    let is : parts_at c.push_reserved.new.self.items ≡ parts_at c.in_ok-desks.desks.items + c.join-desk.result.known.parts =
    ap parts_at all ∙ parts_at-last c.in_ok-desks.desks.items c.join-desk.result in
    let same : parts_at c.in_ok-desks.desks.items ≡ parts_at c.pop.new.self.items = rest.1 in (
      subst (AreDesksOf c.args.exchange.now) (sym all) (desks-add c.args.exchange.now c.in_ok-desks.desks.items c.join-desk.result rest.0 kept.0),
      is ∙ (λ i. same i + kept.1 i) ∙ sym was,
    )
