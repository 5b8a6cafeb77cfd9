-- Each desk so far has one part, and the pass the parts that are left.
use Rattle.std.proofs.Common.{◌≡◌, ◌+◌, vec_len, vec_capacity}
use Rattle.crossbeam_queue.specs.Passes.{IsSamePass}
use Rattle.htl_exchange.specs.Moves.{known_of}
use Rattle.htl_exchange.specs.Filling.{IsIdle}
use Rattle.htl_exchange.specs.Desks.{AreAtExchange, AreFresh, parts_at, pushes_at}
use Rattle.htl_exchange.proofs.start.make_desks.Given as goal

abbrev pub invariant-loop : goal.invariant-loop
invariant-loop l =
    IsSamePass l.initial.pass l.pass × IsIdle l.case (known_of l.pass).parts (known_of l.pass)
    × ((known_of l.pass).parts + l.counter ≡ 9) × (parts_at l.desks.items + 1 ≡ l.counter) × (vec_len l.desks + 1 ≡ l.counter)
    × (vec_capacity l.desks ≡ vec_capacity l.initial.desks) × AreAtExchange l.initial.pass.table_id l.case l.desks.items × AreFresh l.desks.items
    × (pushes_at l.desks.items + (known_of l.pass).pushes ≡ (known_of l.initial.pass).pushes)
