-- What both the first desk and the others have got stays, and so do their parts.
use Rattle.std.proofs.Common.{◌≡◌, ◌+◌, ◌≤◌, ◌∷◌, vec_len, vec_capacity}
use Rattle.htl_exchange.specs.Desks.{IsDeskOf, AreDesksOf, parts_at, KeepAll}
use Rattle.htl_exchange.proofs.closing.gather.Given as goal

abbrev pub invariant-loop-other : goal.invariant-loop-other
invariant-loop-other l =
    IsDeskOf l.exchange l.first × AreDesksOf l.exchange l.desks.items × (l.first.known.parts + parts_at l.desks.items ≡ 8)
    × (vec_capacity l.desks ≡ vec_capacity l.initial.desks) × (vec_len l.desks ≤ vec_len l.initial.desks)
    × KeepAll (l.initial.first ∷ l.initial.desks.items) (l.first ∷ l.desks.items)

abbrev pub decreases-loop-other : goal.decreases-loop-other
decreases-loop-other l = vec_len l.desks
