-- Sorted rows of which each stands once rise, and are those that were there.
use Rattle.std.proofs.Common.{◌≡◌, List, [], ◌∷◌, sym, ◌∙◌}
use Rattle.std.specs.Cmp.{Equal-is}
use Rattle.std.specs.List.Sorted.{IsStrictlySortedBy}
use Rattle.std.specs.declared.cmp.Ordering.{Ordering}
use Rattle.std.specs.declared.cmp.Ordering.TheVariants.{Less}
use Rattle.std.proofs.lemmas.List.Filters.{dedup_is}
use Rattle.std.proofs.lemmas.List.Kept.{Contains-dedup, Contains-from_dedup, IsStrictlySortedBy-dedup}
use Rattle.std.proofs.lemmas.List.Sorted.{Contains-permutation, IsPermutation-sym}
use Rattle.htl_event.specs.Members.{IsRising}
use Rattle.htl_answers.proofs.ordering.put_in_order.Goals as goal

rising_strict : {X : Type 0} (cmp : X → X → Ordering) (xs : List X) → IsStrictlySortedBy cmp xs → IsRising (λ a b. cmp a b ≡ Less) xs
unfolding IsStrictlySortedBy
rising_strict cmp [] h = tt
rising_strict cmp (x ∷ xs) h = (h.0, rising_strict cmp xs h.1)

pub returns-clause-rising : goal.returns-clause-rising
returns-clause-rising g c =
    let is = dedup_is _ _ _ c.dedup.ensures.filtered in
    rw is (rising_strict _ _ (IsStrictlySortedBy-dedup g.met.T.Ord.total g.met.T.Ord.matches_eq _ c.sort_unstable.ensures.sorted))

pub returns-clause-members : goal.returns-clause-members
returns-clause-members g c x =
    let is = dedup_is _ _ _ c.dedup.ensures.filtered in
    let moved = c.sort_unstable.ensures.permutation in (
      λ h. Contains-permutation _ _ x (IsPermutation-sym _ _ moved) (Contains-from_dedup _ _ x (rw is at h)),
      λ h. rw is (Contains-dedup g.met.T.Eq.laws (λ a b e. c.requires a b ((Equal-is _).0 (sym (g.met.T.Ord.matches_eq a b) ∙ e))) _ x
          (Contains-permutation _ _ x moved h)),
    )
