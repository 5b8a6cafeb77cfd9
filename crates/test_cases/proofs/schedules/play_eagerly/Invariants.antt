-- The desk that collects until there is nothing stays one of the exchange.
use Rattle.htl_exchange.specs.Desks.{IsDeskOf}
use Rattle.test_cases.proofs.schedules.play_eagerly.Given as goal

abbrev pub invariant-loop : goal.invariant-loop
invariant-loop g l = IsDeskOf l.exchange l.desk
