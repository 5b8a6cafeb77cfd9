-- The desk has every part, and keeps what it got.
use Rattle.std.proofs.Common.{◌≡◌}
use Rattle.htl_exchange.specs.Desks.{IsDeskOf, KeepsGot}
use Rattle.htl_exchange.proofs.closing.drain.Given as goal

abbrev pub invariant-loop : goal.invariant-loop
invariant-loop g l =
    (goal.iterator-loop g).can_next l.iterator' × (goal.iterator-loop g).is_finite l.iterator' × IsDeskOf l.exchange l.first × (l.first.known.parts ≡ 8)
    × KeepsGot l.initial.first.known l.first.known
