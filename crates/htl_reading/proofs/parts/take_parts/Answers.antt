-- The keeper took the segments of the parts at the source's front, which are skipped, or memory was refused to take them over.
use Rattle.std.proofs.Common.{arith, take}
use Rattle.std.proofs.lemmas.Option.{IfSome_then}
use Rattle.std.proofs.lemmas.Result.{err_from_is_err_and}
use Rattle.htl_reading.proofs.ReadLaws.{asks_once, asks_then}
use Rattle.htl_reading.proofs.SkipLaws.{front_skipped, front_refused, front_there, none_skipped}
use Rattle.htl_reading.proofs.parts.take_parts.Goals as goal

pub returns-in_default : goal.returns-in_default
returns-in_default g c =
    let old = g.R.Source.state c.args.source.now in
    let new = g.R.Source.state c.gather_front.new.source in
    let tails = c.gather_front.ensures.tails in
    record {
      skips = none_skipped g.K.Keeper.gathers old c.args.keeper.now 0 (omega arith) new tails.same c.requires;
      readers = asks_once c.args.workers old.remaining old new tails.asks;
    }

pub returns-in_err-append_all : goal.returns-in_err-append_all
returns-in_err-append_all g c =
    let p = err_from_is_err_and c.from_residual.result c.from_residual.ensures.1 in
    let old = g.R.Source.state c.args.source.now in
    let mid = g.R.Source.state c.gather_front.new.source in
    let new = g.R.Source.state c.skip.new.self in
    let front = c.in-Some.ensures in
    let there = front_there g.K.Keeper.gathers c.args.keeper.now c.in-Some.front.keepers.items c.in-Some.front.len old.remaining front.taken in
    rw (p.1, p.2) (record {
      skips = front_refused g.K.Keeper.gathers old c.args.keeper.now 0 (omega arith) mid new front.tails.same c.in-Some.front.len front.few
          c.skip.ensures there _ _ (omega (arith, front.some));
      readers = asks_then c.args.workers old.remaining old mid new (asks_once c.args.workers old.remaining old mid front.tails.asks)
          c.skip.ensures.tails;
    })

pub returns : goal.returns
returns g c =
    let old = g.R.Source.state c.args.source.now in
    let mid = g.R.Source.state c.gather_front.new.source in
    let new = g.R.Source.state c.skip.new.self in
    let front = c.in-Some.ensures in
    let there = front_there g.K.Keeper.gathers c.args.keeper.now c.in-Some.front.keepers.items c.in-Some.front.len old.remaining front.taken in
    record {
      skips = front_skipped g.K.Keeper.gathers old c.args.keeper.now 0 (omega arith) mid new front.tails.same c.in-Some.front.len front.few
          c.skip.ensures there _ c.in-Some.front.len (omega arith)
          (IfSome_then old.remaining front.taken (λ bytes it. (it.0, c.in_ok-append_all.ensures (take c.in-Some.front.len bytes) it.1)));
      readers = asks_then c.args.workers old.remaining old mid new (asks_once c.args.workers old.remaining old mid front.tails.asks)
          c.skip.ensures.tails;
    }
