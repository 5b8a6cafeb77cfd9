-- Sorted rows of different keys rise, and are those that were there.
use Rattle.std.proofs.Common.{rules, ◌≡◌}
use Rattle.std.specs.Ordering.{is_lt}
use Rattle.std.proofs.lemmas.Fn.{always_returns_same}
use Rattle.std.proofs.lemmas.List.Sorted.{ranks_by}
use Rattle.htl_summary.specs.Ranking.{rank_cmp}
use Rattle.htl_summary.proofs.Sorted.{rank_total, rising_by_rank, same_members}
use Rattle.htl_summary.proofs.ranking.put_most_first.Goals as goal

pub returns-clause-rising : goal.returns-clause-rising
returns-clause-rising g c =
    let number = g.R.Ranked.number_of in
    let key = g.R.Ranked.key_of in
    let order = g.met.R.Key.Ord.total in
    let sorted = c.sort_unstable_by.ensures in
    rising_by_rank order g.met.R.Ranked.proper number key _ _ c.requires sorted.permutation
    (sorted.sorted (λ x y. is_lt (rank_cmp g.R.Key.Ord.cmp number key x y)) (ranks_by (rank_total order g.met.R.Ranked.proper number key) (λ row. row))
    (always_returns_same _ (λ a r. is_lt r ≡ is_lt (rank_cmp g.R.Key.Ord.cmp number key a.0.now a.1.0.now)) _ (λ a r q k. search rules)))

pub returns-clause-members : goal.returns-clause-members
returns-clause-members g c = same_members _ _ c.sort_unstable_by.ensures.permutation
