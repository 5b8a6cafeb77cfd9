-- The keeper took the segments of one round, which the source skips, or memory was refused to take them over.
use Rattle.std.proofs.Common.{◌*◌, arith, refl, take}
use Rattle.std.proofs.lemmas.Option.{IfSome_then}
use Rattle.std.proofs.lemmas.Result.{err_from_is_err_and}
use Rattle.htl_reading.specs.Parts.{most_parts}
use Rattle.htl_reading.proofs.SkipLaws.{front_skipped, front_refused, front_there, none_skipped}
use Rattle.htl_reading.proofs.RoundLaws.{lists_of}
use Rattle.htl_reading.proofs.TailLaws.{asks_still}
use Rattle.htl_reading.proofs.rounds.take_round.Goals as goal

pub returns-in_default-clause-skips : goal.returns-in_default-clause-skips
returns-in_default-clause-skips g c =
    none_skipped g.K.Keeper.gathers (g.R.Source.state c.args.source.now) c.args.keeper.now c.args.offset c.requires.few
    (g.R.Source.state c.gather_front.new.source) c.gather_front.ensures.tails.same c.requires.ready

pub returns-in_err-spare-clause-skips : goal.returns-in_err-spare-clause-skips
returns-in_err-spare-clause-skips g c =
    let p = err_from_is_err_and c.from_residual.result c.from_residual.ensures.1 in
    let old = g.R.Source.state c.args.source.now in
    let front = c.in-Some.ensures in
    rw (p.1, p.2) (front_refused g.K.Keeper.gathers old c.args.keeper.now c.args.offset c.requires.few (g.R.Source.state c.gather_front.new.source)
    (g.R.Source.state c.skip.new.self) front.tails.same c.in-Some.front.len front.few c.skip.ensures
    (front_there lists_of c.new-none.result c.in-Some.front.keepers.items c.in-Some.front.len old.remaining front.taken) _ _
    (omega (arith, front.some)))

pub returns-in_err-spare-clause-tails : goal.returns-in_err-spare-clause-tails
returns-in_err-spare-clause-tails g c =
    asks_still (3 * most_parts c.args.workers) (g.R.Source.state c.args.source.now) (g.R.Source.state c.gather_front.new.source)
    (g.R.Source.state c.skip.new.self) c.in-Some.ensures.tails.asks c.skip.ensures.tails

pub returns-clause-skips : goal.returns-clause-skips
returns-clause-skips g c =
    let old = g.R.Source.state c.args.source.now in
    let front = c.in-Some.ensures in
    front_skipped g.K.Keeper.gathers old c.args.keeper.now c.args.offset c.requires.few (g.R.Source.state c.gather_front.new.source)
    (g.R.Source.state c.skip.new.self) front.tails.same c.in-Some.front.len front.few c.skip.ensures
    (front_there lists_of c.new-none.result c.in-Some.front.keepers.items c.in-Some.front.len old.remaining front.taken) _ _ refl
    (IfSome_then old.remaining front.taken
    (λ bytes it. (it.0, c.in_ok-spare.ensures.taken c.new-none.result (take c.in-Some.front.len bytes) c.new-none.ensures it.1)))

pub returns-clause-tails : goal.returns-clause-tails
returns-clause-tails g c =
    asks_still (3 * most_parts c.args.workers) (g.R.Source.state c.args.source.now) (g.R.Source.state c.gather_front.new.source)
    (g.R.Source.state c.skip.new.self) c.in-Some.ensures.tails.asks c.skip.ensures.tails
