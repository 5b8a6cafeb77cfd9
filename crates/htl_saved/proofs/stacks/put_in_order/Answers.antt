-- A sorted list without repeats rises and keeps its members.
use Rattle.std.specs.Prelude.{nat_eq}
use Rattle.std.specs.Cmp.Lexicographic.{pointwise}
use Rattle.std.proofs.lemmas.List.Filters.{dedup_is}
use Rattle.std.proofs.lemmas.List.Kept.{Contains-dedup, Contains-from_dedup, IsStrictlySortedBy-dedup}
use Rattle.std.proofs.lemmas.List.Sorted.{Contains-permutation, IsPermutation-sym}
use Rattle.htl_event.specs.contracts.shared_stack.SharedStackEq.TheImpl.Laws.{laws-law}
use Rattle.htl_event.specs.OrderLaws.{stack_total, stack_ties}
use Rattle.htl_saved.proofs.Places.{rising_strict, same_is}
use Rattle.htl_saved.proofs.stacks.put_in_order.Goals as goal

pub returns-clause-rising : goal.returns-clause-rising
returns-clause-rising c =
    let is = dedup_is _ _ _ c.dedup.ensures.filtered in
    rw is (rising_strict _ (IsStrictlySortedBy-dedup stack_total stack_ties _ c.sort_unstable.ensures.sorted))

pub returns-clause-members : goal.returns-clause-members
returns-clause-members c s =
    let is = dedup_is _ _ _ c.dedup.ensures.filtered in
    let moved = c.sort_unstable.ensures.permutation in (
      λ h. Contains-permutation _ _ s (IsPermutation-sym _ _ moved) (Contains-from_dedup (pointwise nat_eq) _ s (rw is at h)),
      λ h. rw is (Contains-dedup laws-law same_is _ s (Contains-permutation _ _ s moved h)),
    )
