-- The rows that a tree lists count what its events do, and no more than the tree.
use Rattle.std.proofs.Common.{◌≡◌, ◌≢◌, ℕ, ◌+◌, ◌≤◌, true, false, cond, ◌&&◌, List, [], ◌∷◌, Some}
use Rattle.std.proofs.Common.{refl, sym, ap, ◌∙◌, arith, unwrap_or}
use Rattle.std.specs.List.{sum_by}
use Rattle.std.specs.Ordering.{is_eq, ordering_then}
use Rattle.std.specs.Cmp.{IsTotalOrder, tied_itself, then_total, on_total}
use Rattle.std.specs.FinMap.Entries.{find}
use Rattle.std.specs.declared.cmp.Ordering.{Ordering}
use Rattle.std.specs.declared.cmp.Ordering.TheVariants.{Less, Equal, Greater}
use Rattle.std.proofs.lemmas.List.Sums.{sum_by-cons}
use Rattle.htl_event.specs.Events.{Event}
use Rattle.htl_event.specs.declared.slot.Slot.{Slot}
use Rattle.htl_event.specs.declared.slot.Count.{Count}
use Rattle.htl_event.specs.Slots.{same_slot}
use Rattle.htl_event.specs.SlotOrder.{slot_cmp}
use Rattle.htl_event.specs.OrderLaws.{slot_total, slot_same, stack_total}
use Rattle.htl_event.specs.Stacks.{stack_cmp}
use Rattle.htl_event.specs.Tallies.{zero_count, plus_count, total_of}
use Rattle.htl_tree.specs.declared.slots.Slots.{Slots}
use Rattle.htl_tree.specs.HasSlot.{has_slot}
use Rattle.htl_tree.specs.Trees.{Tree, IsTree, HasTally, BySlot, ByStackAndSlot, ListsSums, ListsRowsOf, key_cmp, count_at, count_under, total_count}
use Rattle.htl_tree.proofs.Events.{under_events}
use Rattle.htl_tree.proofs.TreesAsLists.{key_total}
use Rattle.htl_tree.proofs.Under.{same_slot_tied}
use Rattle.htl_answers.specs.RowOrder.{row_cmp, row_same}
use Rattle.htl_answers.specs.Rows.{count_of, total_in, rows_of}
use Rattle.htl_answers.proofs.RowCounts.{count_of-listed, total_upto}
use Rattle.htl_answers.proofs.EventRows.{slot_counts, stack_counts}

-- the order of rows, by slot and then by stack, is total
pub row_total : IsTotalOrder row_cmp
row_total = then_total (on_total (λ (x : Slot × List ℕ). x.0) slot_total) (on_total (λ (x : Slot × List ℕ). x.1) stack_total)

-- what comes before another has another key
pub less_differs : {K : Type 0} {cmp : K → K → Ordering} → IsTotalOrder cmp → (x y : K) → cmp x y ≡ Less → x ≢ y
less_differs {K} {cmp} o x y less same = let tied : cmp x y ≡ Equal = ap (cmp x) (sym same) ∙ tied_itself o x in apart (sym less ∙ tied)
  where
    apart : Less ≡ Equal → ⊥
    apart e = cc

abbrev At : Type 0
At = (List ℕ × Slot) × Count

-- ---- sums of slots

sums_apart : (a b : Slot × Count) → BySlot a.0 b.0 → a.0 ≢ b.0
sums_apart a b less = less_differs slot_total a.0 b.0 less

-- a tree's sums of slots count what the rows of its events do
pub sums_count : (tree : Tree) (slots : Slots) (sums : List (Slot × Count)) → IsTree tree → ListsSums tree slots sums → (events : List Event)
    → HasTally tree events → (k : Slot) → count_of slot_cmp k sums ≡ count_of slot_cmp k (rows_of (λ s stack. s) slots events)
sums_count tree slots sums is listed events tallied k =
    count_of-listed slot_total slot_same sums_apart (count_under tree []) (has_slot slots) sums listed k
    ∙ ap (λ c. cond (has_slot slots k) c zero_count) (under_events tree is events tallied [] k)
    ∙ sym (slot_counts slots k events)

under_upto : (tree : Tree) (s : Slot) → total_of (count_under tree [] s) ≤ sum_by (λ t. cond (is_eq (slot_cmp s t.0.1)) (total_of t.1) 0) tree
under_upto [] s = omega arith
under_upto (row ∷ tree) s =
    let rest = under_upto tree s in
    let both = sum_by-cons (λ (t : At). cond (is_eq (slot_cmp s t.0.1)) (total_of t.1) 0) row tree in
    let f = count_under tree [] s in
    let one : total_of (cond (same_slot s row.0.1 && true) (plus_count row.1 f) f) ≡ cond (same_slot s row.0.1) (total_of row.1) 0 + total_of f =
    elim (same_slot s row.0.1) as (λ b. total_of (cond (b && true) (plus_count row.1 f) f) ≡ cond b (total_of row.1) 0 + total_of f)
    [ true ↦ omega arith | false ↦ omega arith ] in
    let tied : cond (same_slot s row.0.1) (total_of row.1) 0 ≡ cond (is_eq (slot_cmp s row.0.1)) (total_of row.1) 0 =
    ap (λ b. cond b (total_of row.1) 0) (same_slot_tied s row.0.1) in
    omega (arith, rest, both, one, tied)

-- a tree's sums of slots count no more in all than the tree
pub sums_few : (tree : Tree) (slots : Slots) (sums : List (Slot × Count)) → ListsSums tree slots sums → total_in sums ≤ total_count tree
sums_few tree slots sums listed =
    total_upto slot_total slot_same sums_apart (λ (t : At). t.0.1) (λ (t : At). total_of t.1) tree sums listed.rising
    (λ row h. let upto = under_upto tree row.0 in let same = ap total_of ((listed.members row).0 h).0 in omega (arith, upto, same))

-- ---- rows of slots and stacks

rows_apart : (a b : (Slot × List ℕ) × Count) → ByStackAndSlot a b → a.0 ≢ b.0
rows_apart a b less same = less_differs key_total (a.0.1, a.0.0) (b.0.1, b.0.0) less (ap (λ (x : Slot × List ℕ). (x.1, x.0)) same)

-- a tree's rows of slots and stacks count what the rows of its events do
pub rows_count : (tree : Tree) (slots : Slots) (rows : List ((Slot × List ℕ) × Count)) → ListsRowsOf tree slots rows → (events : List Event)
    → HasTally tree events → (k : Slot × List ℕ) → count_of row_cmp k rows ≡ count_of row_cmp k (rows_of (λ s stack. (s, stack)) slots events)
rows_count tree slots rows listed events tallied k =
    count_of-listed row_total row_same rows_apart (λ (x : Slot × List ℕ). count_at tree x.0 x.1) (λ (x : Slot × List ℕ). has_slot slots x.0) rows listed k
    ∙ ap (λ c. cond (has_slot slots k.0) c zero_count) (tallied k.0 k.1)
    ∙ sym (stack_counts slots k.0 k.1 events)

tied_turned : (r s : Ordering) → is_eq (ordering_then r s) ≡ is_eq (ordering_then s r)
tied_turned Less Less = refl
tied_turned Less Equal = refl
tied_turned Less Greater = refl
tied_turned Equal Less = refl
tied_turned Equal Equal = refl
tied_turned Equal Greater = refl
tied_turned Greater Less = refl
tied_turned Greater Equal = refl
tied_turned Greater Greater = refl

at_upto : (tree : Tree) (k : Slot × List ℕ)
    → total_of (count_at tree k.0 k.1) ≤ sum_by (λ t. cond (is_eq (row_cmp k (t.0.1, t.0.0))) (total_of t.1) 0) tree
at_upto [] k = omega arith
at_upto (row ∷ tree) k =
    let rest = at_upto tree k in
    let both = sum_by-cons (λ (t : At). cond (is_eq (row_cmp k (t.0.1, t.0.0))) (total_of t.1) 0) row tree in
    let turned = tied_turned (stack_cmp k.1 row.0.0) (slot_cmp k.0 row.0.1) in
    let tied : cond (is_eq (row_cmp k (row.0.1, row.0.0))) (total_of row.1) 0 ≡ cond (is_eq (key_cmp (k.1, k.0) row.0)) (total_of row.1) 0 =
    ap (λ b. cond b (total_of row.1) 0) (sym turned) in
    let found = find key_cmp (k.1, k.0) tree in
    let one : total_of (unwrap_or (cond (is_eq (key_cmp (k.1, k.0) row.0)) (Some row.1) found) zero_count)
    ≤ cond (is_eq (key_cmp (k.1, k.0) row.0)) (total_of row.1) 0 + total_of (unwrap_or found zero_count) =
    elim (is_eq (key_cmp (k.1, k.0) row.0)) as (λ b. total_of (unwrap_or (cond b (Some row.1) found) zero_count)
    ≤ cond b (total_of row.1) 0 + total_of (unwrap_or found zero_count))
    [ true ↦ omega arith | false ↦ omega arith ] in
    omega (arith, rest, both, tied, one)

-- a tree's rows of slots and stacks count no more in all than the tree
pub rows_few : (tree : Tree) (slots : Slots) (rows : List ((Slot × List ℕ) × Count)) → ListsRowsOf tree slots rows → total_in rows ≤ total_count tree
rows_few tree slots rows listed =
    total_upto row_total row_same rows_apart (λ (t : At). (t.0.1, t.0.0)) (λ (t : At). total_of t.1) tree rows listed.rising
    (λ row h. let upto = at_upto tree row.0 in let same = ap total_of ((listed.members row).0 h).0 in omega (arith, upto, same))
