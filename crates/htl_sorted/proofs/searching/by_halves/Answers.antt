-- A binary search by keys finds the place or the gap.
use Rattle.std.proofs.Common.{rules}
use Rattle.std.proofs.lemmas.List.Sorted.{answers_always}
use Rattle.htl_sorted.proofs.Places.{searched}
use Rattle.htl_sorted.proofs.searching.by_halves.Goals as goal

pub returns : goal.returns
returns g c =
    let facts = c.binary_search_by_key.ensures in
    let by_key = facts.position g.L.Keyed.key_of (answers_always _ _ _ (λ f a r h called. search rules)) in
    searched g.L.Keyed.key_of g.L.Keyed.value_of g.met.L.Key.Ord.total c.args.key c.args.rows.now c.requires _ facts.bound by_key
