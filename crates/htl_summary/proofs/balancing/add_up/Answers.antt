-- The sums of the sorted balances are those of the balances.
use Rattle.std.proofs.Common.{rules, ◌≡◌}
use Rattle.std.specs.List.Sorted.{IsSortedByKey}
use Rattle.std.specs.Ordering.{is_lt}
use Rattle.std.proofs.lemmas.Fn.{always_returns_same}
use Rattle.std.proofs.lemmas.List.Sorted.{ranks_by}
use Rattle.htl_event.specs.declared.balance.Balance.{Balance}
use Rattle.htl_summary.proofs.AddedBalances.{added, added_moved, fit_moved}
use Rattle.htl_summary.proofs.balancing.add_up.Goals as goal

pub returns : goal.returns
returns g c =
    let order = g.met.K.Ord.total in
    let rows = c.args.rows.now.items in
    let sorted = c.sort_unstable_by.new.self.items in
    let sums = c.dedup_by.new.self.items in
    let moved = c.sort_unstable_by.ensures.permutation in
    let in_order : IsSortedByKey (λ (row : Balance g.row.K.Denot). row.by) g.K.Ord.cmp sorted =
    c.sort_unstable_by.ensures.sorted
    (λ (x y : Balance g.row.K.Denot). is_lt (g.K.Ord.cmp x.by y.by)) (ranks_by order (λ (row : Balance g.row.K.Denot). row.by))
    (always_returns_same _ (λ a r. is_lt r ≡ is_lt (g.K.Ord.cmp a.0.now.by a.1.0.now.by)) _ (λ a r q k. search rules)) in
    added_moved order rows sorted sums moved
    (added order c.requires.proper _ (λ s row sum b t same now call. search rules) _ sorted sums in_order
    (fit_moved order rows sorted moved c.requires.fits) c.dedup_by.ensures.filtered)
