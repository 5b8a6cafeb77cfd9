-- Both halves are in order and merged, so each owner has what all sums say of it.
use Rattle.std.proofs.Common.{rules, ◌≡◌, ◌++◌, ◌/◌, List, Option, length, take, drop, subst, sym, ap, ◌∙◌}
use Rattle.std.specs.List.{filter_map}
use Rattle.std.specs.Ordering.{nat_cmp}
use Rattle.std.specs.FinMap.Entries.{find}
use Rattle.std.proofs.lemmas.List.{take-append-drop}
use Rattle.std.proofs.lemmas.List.Elements.{filter_map-append}
use Rattle.htl_event.specs.declared.slot.Slot.{Slot}
use Rattle.htl_event.specs.declared.slot.Count.{Count}
use Rattle.htl_sorted.specs.Entries.{joined_at}
use Rattle.htl_summary.specs.Totals.{by_owner, total_at, CanAddUp}
use Rattle.htl_summary.proofs.Totals.{total-append, fits_first, fits_second, fits_both}
use Rattle.htl_summary.proofs.rows.+rows_by_owner.Goals as goal

-- the rows of all sums are those of one half and then those of the other
both_halves : {Row : Type 0} (of_sum : Slot × Count → Option Row) (sums front back : List (Slot × Count))
    → front ≡ take (length sums / 2) sums → back ≡ drop (length sums / 2) sums
    → filter_map of_sum sums ≡ filter_map of_sum front ++ filter_map of_sum back
both_halves of_sum sums front back one two =
    ap (filter_map of_sum) (sym (take-append-drop (length sums / 2) sums) ∙ ap (λ l. l ++ drop (length sums / 2) sums) (sym one)
    ∙ ap (λ l. front ++ l) (sym two)) ∙ filter_map-append of_sum front back

pub rows_by_owner-requires : goal.rows_by_owner-requires
rows_by_owner-requires g t c κs within =
    let of_sum : Slot × Count → Option g.row.R.Denot = λ s. g.R.OwnedRow.row_of_sum s.0 s.1 in
    let front = c.split_at.result.0.now in
    let back = c.split_at.result.1.now in
    let halves = both_halves of_sum c.args.sums.now front back c.split_at.ensures.front c.split_at.ensures.back in
    let fits : CanAddUp g.R.OwnedRow.owner_of g.R.OwnedRow.joined g.R.OwnedRow.can_join (filter_map of_sum front) =
    fits_first g.R.OwnedRow.owner_of g.R.OwnedRow.joined g.R.OwnedRow.can_join (filter_map of_sum front) (filter_map of_sum back)
    (subst (CanAddUp g.R.OwnedRow.owner_of g.R.OwnedRow.joined g.R.OwnedRow.can_join) halves c.requires.fits) in
    search rules

pub rows_by_owner-requires-2 : goal.rows_by_owner-requires-2
rows_by_owner-requires-2 g t c κs within =
    let of_sum : Slot × Count → Option g.row.R.Denot = λ s. g.R.OwnedRow.row_of_sum s.0 s.1 in
    let front = c.split_at.result.0.now in
    let back = c.split_at.result.1.now in
    let halves = both_halves of_sum c.args.sums.now front back c.split_at.ensures.front c.split_at.ensures.back in
    let fits : CanAddUp g.R.OwnedRow.owner_of g.R.OwnedRow.joined g.R.OwnedRow.can_join (filter_map of_sum back) =
    fits_second g.R.OwnedRow.owner_of g.R.OwnedRow.joined g.R.OwnedRow.can_join (filter_map of_sum front) (filter_map of_sum back)
    (subst (CanAddUp g.R.OwnedRow.owner_of g.R.OwnedRow.joined g.R.OwnedRow.can_join) halves c.requires.fits) in
    search rules

pub merge-requires-clause-fits : goal.merge-requires-clause-fits
merge-requires-clause-fits g t c = λ k x y at_left at_right.
    let of_sum : Slot × Count → Option g.row.R.Denot = λ s. g.R.OwnedRow.row_of_sum s.0 s.1 in
    let front = c.split_at.result.0.now in
    let back = c.split_at.result.1.now in
    let halves = both_halves of_sum c.args.sums.now front back c.split_at.ensures.front c.split_at.ensures.back in
    fits_both g.R.OwnedRow.owner_of g.R.OwnedRow.joined g.R.OwnedRow.can_join (filter_map of_sum front) (filter_map of_sum back)
    (subst (CanAddUp g.R.OwnedRow.owner_of g.R.OwnedRow.joined g.R.OwnedRow.can_join) halves c.requires.fits) k x y
    (sym (c.in_ok-left.ensures.values k)
    ∙ ap (λ items. find nat_cmp k (by_owner g.R.OwnedRow.owner_of items)) (sym c.deref.ensures.value) ∙ at_left)
    (sym (c.in_ok-right.ensures.values k)
    ∙ ap (λ items. find nat_cmp k (by_owner g.R.OwnedRow.owner_of items)) (sym c.deref-2.ensures.value) ∙ at_right)

pub returns : goal.returns
returns g t c =
    let key = g.R.OwnedRow.owner_of in
    let join = g.R.OwnedRow.joined in
    let of_sum : Slot × Count → Option g.row.R.Denot = λ s. g.R.OwnedRow.row_of_sum s.0 s.1 in
    let front = c.split_at.result.0.now in
    let back = c.split_at.result.1.now in
    let halves = both_halves of_sum c.args.sums.now front back c.split_at.ensures.front c.split_at.ensures.back in
    record {
      sorted = c.in_ok-rows-2.ensures.sorted;
      values = λ k.
          let left = ap (λ items. find nat_cmp k (by_owner key items)) c.deref.ensures.value ∙ c.in_ok-left.ensures.values k in
          let right = ap (λ items. find nat_cmp k (by_owner key items)) c.deref-2.ensures.value ∙ c.in_ok-right.ensures.values k in
          c.in_ok-rows-2.ensures.values k
          ∙ ap (λ o. joined_at join o (find nat_cmp k (by_owner key c.deref-2.result.now))) left
          ∙ ap (λ o. joined_at join (total_at key join k (filter_map of_sum front)) o) right
          ∙ sym (total-append key join c.requires.associative k (filter_map of_sum front) (filter_map of_sum back))
          ∙ ap (total_at key join k) (sym halves);
    }
