-- The rows are in the order of their keys.
use Rattle.std.proofs.Common.{rules, ◌≡◌}
use Rattle.std.specs.Ordering.{is_lt}
use Rattle.std.proofs.lemmas.Fn.{always_returns_same}
use Rattle.std.proofs.lemmas.List.Sorted.{ranks_by}
use Rattle.htl_event.specs.declared.slot.Count.{Count}
use Rattle.htl_answers.proofs.adding.sort_by_key.Goals as goal

pub returns-clause-sorted : goal.returns-clause-sorted
returns-clause-sorted g c =
    c.sort_unstable_by.ensures.sorted
    (λ (x y : g.row.L-Key.Denot × Count). is_lt (g.L.Key.Ord.cmp x.0 y.0)) (ranks_by g.met.L.Key.Ord.total (λ (row : g.row.L-Key.Denot × Count). row.0))
    (always_returns_same _ (λ a r. is_lt r ≡ is_lt (g.L.Key.Ord.cmp a.0.now.0 a.1.0.now.0)) _ (λ a r q k. search rules))
