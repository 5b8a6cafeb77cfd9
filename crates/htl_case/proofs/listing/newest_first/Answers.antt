-- A sort by falling sequence leaves the newest first.
use Rattle.std.proofs.Common.{ℕ, rules}
use Rattle.std.specs.declared.cmp.Reverse.{Reverse}
use Rattle.std.proofs.lemmas.List.Sorted.{answers_always}
use Rattle.htl_event.specs.Events.{Event}
use Rattle.htl_case.proofs.Listings.{newest_first}
use Rattle.htl_case.proofs.listing.newest_first.Goals as goal

pub returns-clause-sorted : goal.returns-clause-sorted
returns-clause-sorted c =
    let key : Event → Reverse ℕ = λ e. record { 0 = e.sequence } in
    newest_first c.sort_unstable_by_key.new.self.items
    (c.sort_unstable_by_key.ensures.sorted key (answers_always _ _ _ (λ f a r g h. search rules)))
