-- Each desk plays in a thread and comes back.
use Rattle.std.proofs.Common.{rules, ◌≡◌, [], ◌∷◌, ◌++◌, sym, subst}
use denote.Param.Send.{sendable}
use Rattle.std.proofs.Crossing.{crosses}
use Rattle.htl_exchange.specs.Desks.{AreDesksOf, IsDeskOf}
use Rattle.htl_exchange.proofs.Sends.{desk_send, exchange_sync}
use Rattle.htl_exchange.proofs.DeskLists.{desks-add, desks-front, desks-last}
use Rattle.test_cases.proofs.schedules.+play_all.Goals as goal

pub spawn_with-started-requires-send-T : goal.spawn_with-started-requires-send-T
spawn_with-started-requires-send-T g t c κs within = search (sendable, desk_send) depth 8

pub spawn_with-started-requires-clause-runs : goal.spawn_with-started-requires-clause-runs
spawn_with-started-requires-clause-runs g t c κs within =
    desks-last c.args.exchange.now c.pop.new.self.items c.in-Some.desk (subst (AreDesksOf c.args.exchange.now) c.in-Some.ensures.items c.requires)

pub play_all-rest-requires-after_bounds : goal.play_all-rest-requires-after_bounds
play_all-rest-requires-after_bounds g t c κs within =
    desks-front c.args.exchange.now c.pop.new.self.items c.in-Some.desk (subst (AreDesksOf c.args.exchange.now) c.in-Some.ensures.items c.requires)

pub spawn_with-started-requires-send-F : goal.spawn_with-started-requires-send-F
spawn_with-started-requires-send-F g t c κs within = search (sendable, crosses, desk_send, exchange_sync) depth 30

pub returns-clause-of : goal.returns-clause-of
returns-clause-of g t c =
    let all : c.push_reserved.new.self.items ≡ c.in_ok-desks.desks.items ++ c.join-desk.result ∷ [] = c.push_reserved.ensures.items in
    let rest : AreDesksOf c.args.exchange.now c.in_ok-desks.desks.items = c.in_ok-desks.ensures.of in
    let kept : IsDeskOf c.args.exchange.now c.join-desk.result = search rules in
    subst (AreDesksOf c.args.exchange.now) (sym all) (desks-add c.args.exchange.now c.in_ok-desks.desks.items c.join-desk.result rest kept)
