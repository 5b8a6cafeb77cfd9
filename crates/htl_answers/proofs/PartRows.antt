-- The rows so far, with those of one part more, count the events of all these parts.
use Rattle.std.proofs.Common.{◌≡◌, ℕ, ◌+◌, ◌≤◌, List, ◌++◌, length, sym, ap, ◌∙◌, arith}
use Rattle.std.specs.declared.cmp.Ordering.{Ordering}
use Rattle.std.proofs.lemmas.List.Sums.{sum_by-append}
use Rattle.htl_event.specs.Events.{Event}
use Rattle.htl_event.specs.declared.slot.Slot.{Slot}
use Rattle.htl_event.specs.declared.slot.Count.{Count}
use Rattle.htl_event.specs.Tallies.{plus_count, total_of}
use Rattle.htl_tree.specs.declared.slots.Slots.{Slots}
use Rattle.htl_answers.specs.Rows.{count_of, total_in, rows_of, CountAlike}
use Rattle.htl_answers.proofs.RowCounts.{count_of-append}
use Rattle.htl_answers.proofs.EventRows.{rows_of-append, rows_few}
use Rattle.htl_tree.proofs.SumsFromTally.{plus_assoc}

module _ {K : Type 0} (cmp : K → K → Ordering) (key : Slot → List ℕ → K) (slots : Slots) (before folded : List (K × Count))
    (xs ys held : List Event) where
  abbrev rows : List Event → List (K × Count)
  rows events = rows_of key slots events

  -- at each key, the rows before, those that the part folded and those that it holds count the events of all
  pub part_counted : (k : K) → count_of cmp k before ≡ count_of cmp k (rows xs) → count_of cmp k folded ≡ count_of cmp k (rows ys)
      → count_of cmp k ((before ++ folded) ++ rows held) ≡ count_of cmp k (rows (xs ++ (ys ++ held)))
  part_counted k of_before of_folded =
      count_of-append cmp k (before ++ folded) (rows held)
      ∙ ap (λ c. plus_count c (count_of cmp k (rows held))) (count_of-append cmp k before folded)
      ∙ ap (λ c. plus_count (plus_count c (count_of cmp k folded)) (count_of cmp k (rows held))) of_before
      ∙ ap (λ c. plus_count (plus_count (count_of cmp k (rows xs)) c) (count_of cmp k (rows held))) of_folded
      ∙ plus_assoc (count_of cmp k (rows xs)) (count_of cmp k (rows ys)) (count_of cmp k (rows held))
      ∙ ap (plus_count (count_of cmp k (rows xs))) (sym (ap (count_of cmp k) (rows_of-append key slots ys held) ∙ count_of-append cmp k (rows ys) (rows held)))
      ∙ sym (ap (count_of cmp k) (rows_of-append key slots xs (ys ++ held)) ∙ count_of-append cmp k (rows xs) (rows (ys ++ held)))

  -- the rows so far and those of one part more count no more in all than the bounds of both together
  pub part_total : (most size : ℕ) → total_in before ≤ most → total_in folded ≤ size
      → total_in ((before ++ folded) ++ rows held) ≤ most + (size + length held)
  part_total most size of_before of_folded =
      let f : K × Count → ℕ = λ row. total_of row.1 in
      let all = sum_by-append f (before ++ folded) (rows held) in
      let first = sum_by-append f before folded in
      let few = rows_few cmp key slots held in
      omega (arith, of_before, of_folded, all, first, few)

  -- rows that count so many events more count no more than these
  pub counted_upto : (rows : List (K × Count)) → CountAlike cmp (before ++ rows_of key slots held) rows → total_in rows ≤ total_in before + length held
  counted_upto rows alike =
      let same = alike.total in
      let all = sum_by-append (λ (row : K × Count). total_of row.1) before (rows_of key slots held) in
      let few = rows_few cmp key slots held in
      omega (arith, same, all, few)
