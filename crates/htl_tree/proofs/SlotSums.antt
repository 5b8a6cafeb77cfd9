-- What counts add up to by slot changes with one count more, and not with the order of the counts.
use Rattle.std.proofs.Common.{◌≡◌, ℕ, zero, suc, ◌+◌, ◌<◌, ◌≤◌, List, [], ◌∷◌, ◌++◌, length, take, drop, get_or}
use Rattle.std.proofs.Common.{Option, Some, true, false, cond, unwrap_or, refl, sym, ◌∙◌, ap, subst, arith}
use Rattle.std.specs.Cmp.{tied_itself}
use Rattle.std.specs.List.{sum_by, AllByRecursion}
use Rattle.std.specs.List.Sorted.{IsPermutation}
use Rattle.std.specs.Ordering.{is_eq, eq_by_cmp}
use Rattle.std.specs.declared.cmp.Ordering.TheVariants.{Less, Equal, Greater}
use Rattle.std.specs.FinMap.Entries.{find, put, find-put, is_sorted-put}
use Rattle.std.proofs.lemmas.List.{take_more, take-append-drop}
use Rattle.std.proofs.lemmas.List.Sums.{sum_by-cons}
use Rattle.std.proofs.lemmas.List.Sorted.{sum_by-IsPermutation, IsPermutation-sym, Contains-permutation}
use Rattle.htl_event.specs.declared.slot.Slot.{Slot}
use Rattle.htl_event.specs.declared.slot.Sign.{Sign}
use Rattle.htl_event.specs.declared.slot.Count.{Count}
use Rattle.htl_event.specs.Tallies.{zero_count, plus_count, total_of, IsPositive}
use Rattle.htl_event.specs.SlotOrder.{slot_cmp}
use Rattle.htl_event.specs.OrderLaws.{slot_total, slot_same}
use Rattle.htl_event.proofs.Members.{at_member, each_member}
use Rattle.htl_sorted.specs.Entries.{Each}
use Rattle.htl_sorted.proofs.Finds.{each_put}
use Rattle.htl_tree.specs.Nodes.{count_in, counts_at, AreAddedUp}
use Rattle.htl_tree.proofs.CopiesAndSums.{zero_right, zero_left}
use Rattle.htl_tree.proofs.Events.{side, side_adds, side_zero, same_sides}
use Rattle.htl_tree.proofs.SumsFromTally.{plus_assoc}

abbrev Counts : Type 0
Counts = List (Slot × Count)

-- ---- one count more

counts_at-append : (s : Slot) (xs ys : Counts) → counts_at s (xs ++ ys) ≡ plus_count (counts_at s xs) (counts_at s ys)
counts_at-append s [] ys = zero_left (counts_at s ys)
counts_at-append s (x ∷ xs) ys =
    elim (eq_by_cmp slot_cmp s x.0)
    as (λ b. cond b (plus_count x.1 (counts_at s (xs ++ ys))) (counts_at s (xs ++ ys))
    ≡ plus_count (cond b (plus_count x.1 (counts_at s xs)) (counts_at s xs)) (counts_at s ys)) [
      | true ↦ ap (λ c. plus_count x.1 c) (counts_at-append s xs ys) ∙ sym (plus_assoc x.1 (counts_at s xs) (counts_at s ys))
      | false ↦ counts_at-append s xs ys
    ]

-- sums to which one count more was added are those of the counts with this one
pub added_more : (xs : Counts) (x : Slot × Count) (old new : Counts) → AreAddedUp xs old → IsPositive x.1
    → new ≡ put slot_cmp x.0 (plus_count (count_in old x.0) x.1) old → AreAddedUp (xs ++ x ∷ []) new
added_more xs x old new h some is =
    let v : Count = plus_count (count_in old x.0) x.1 in
    let more : IsPositive v = omega (arith, some) in
    subst (λ l. AreAddedUp (xs ++ x ∷ []) l) (sym is) record {
      sorted = is_sorted-put slot_cmp slot_total x.0 v old h.sorted;
      positive = each_put slot_cmp IsPositive x.0 v old more h.positive;
      values = λ s.
          ap (λ (o : Option Count). unwrap_or o zero_count) (find-put slot_cmp slot_total s x.0 v old)
          ∙ (elim (slot_cmp s x.0) as (λ r. slot_cmp s x.0 ≡ r → unwrap_or (cond (is_eq r) (Some v) (find slot_cmp s old)) zero_count
          ≡ plus_count (count_in old s) (cond (is_eq r) (plus_count x.1 zero_count) zero_count)) [
            | Less ↦ λ c. zero_right (count_in old s)
            | Equal ↦ λ c. ap (λ t. plus_count (count_in old t) x.1) (sym (slot_same s x.0 c))
                ∙ ap (plus_count (count_in old s)) (zero_right x.1)
            | Greater ↦ λ c. zero_right (count_in old s)
          ]) refl
          ∙ ap (λ c. plus_count c (counts_at s (x ∷ []))) (h.values s)
          ∙ sym (counts_at-append s xs (x ∷ []));
    }

-- the counts so far and the next are no more than all
pub added_room : (xs : Counts) (i : ℕ) (d : Slot × Count) (old : Counts) → i < length xs → AreAddedUp (take i xs) old
    → total_of (count_in old (get_or xs i d).0) + total_of (get_or xs i d).1 ≤ total_of (counts_at (get_or xs i d).0 xs)
added_room xs i d old lt h =
    let x : Slot × Count = get_or xs i d in
    let one : counts_at x.0 (x ∷ []) ≡ x.1 =
    ap (λ r. cond (is_eq r) (plus_count x.1 zero_count) zero_count) (tied_itself slot_total x.0) ∙ sym (zero_right x.1) in
    let now : counts_at x.0 (take (i + 1) xs) ≡ plus_count (count_in old x.0) x.1 = ap (counts_at x.0) (take_more xs i d lt)
    ∙ counts_at-append x.0 (take i xs) (x ∷ [])
    ∙ ap (plus_count (counts_at x.0 (take i xs))) one ∙ ap (λ c. plus_count c x.1) (sym (h.values x.0)) in
    let all = ap total_of (ap (counts_at x.0) (sym (take-append-drop (i + 1) xs))
    ∙ counts_at-append x.0 (take (i + 1) xs) (drop (i + 1) xs)) in
    let same = ap total_of now in
    omega (arith, all, same)

-- each count of a list without zeros isn't zero
pub positive_at_index : (es : Counts) (i : ℕ) (d : Slot × Count) → i < length es → Each IsPositive es → IsPositive (get_or es i d).1
positive_at_index [] i d lt h = absurd (omega (arith, lt))
positive_at_index (e ∷ es) zero d lt h = h.0
positive_at_index (e ∷ es) (suc i) d lt h = positive_at_index es i d (omega (arith, lt)) h.1

-- ---- in another order

side_of_counts : (sign : Sign) (s : Slot) (xs : Counts)
    → side sign (counts_at s xs) ≡ sum_by (λ (x : Slot × Count). cond (eq_by_cmp slot_cmp s x.0) (side sign x.1) 0) xs
side_of_counts sign s [] = side_zero sign
side_of_counts sign s (x ∷ xs) =
    let rest = side_of_counts sign s xs in
    let whole = sum_by-cons (λ (x : Slot × Count). cond (eq_by_cmp slot_cmp s x.0) (side sign x.1) 0) x xs in
    (elim (eq_by_cmp slot_cmp s x.0)
    as (λ b. side sign (cond b (plus_count x.1 (counts_at s xs)) (counts_at s xs))
    ≡ cond b (side sign x.1) 0 + sum_by (λ (x : Slot × Count). cond (eq_by_cmp slot_cmp s x.0) (side sign x.1) 0) xs) [
      | true ↦ side_adds sign x.1 (counts_at s xs) ∙ ap (λ n. side sign x.1 + n) rest
      | false ↦ omega (arith, rest)
    ]) ∙ sym whole

-- counts in another order add up to the same for each slot
pub counts_at-moved : (xs ys : Counts) → IsPermutation xs ys → (s : Slot) → counts_at s ys ≡ counts_at s xs
counts_at-moved xs ys moved s = same_sides _ _ (λ sign. side_of_counts sign s ys
    ∙ sum_by-IsPermutation (λ (x : Slot × Count). cond (eq_by_cmp slot_cmp s x.0) (side sign x.1) 0) xs ys moved
    ∙ sym (side_of_counts sign s xs))

-- sums of counts are sums of the same counts in another order
pub added_moved : (xs ys sums : Counts) → IsPermutation xs ys → AreAddedUp ys sums → AreAddedUp xs sums
added_moved xs ys sums moved h = record {
  sorted = h.sorted;
  positive = h.positive;
  values = λ s. h.values s ∙ counts_at-moved xs ys moved s;
}

all_positive : (es : Counts) → Each IsPositive es → AllByRecursion (λ (e : Slot × Count). IsPositive e.1) es
all_positive [] h = tt
all_positive (e ∷ es) h = (h.0, all_positive es h.1)

each_positive : (es : Counts) → AllByRecursion (λ (e : Slot × Count). IsPositive e.1) es → Each IsPositive es
each_positive [] h = tt
each_positive (e ∷ es) h = (h.0, each_positive es h.1)

-- counts in another order are still none of them zero
pub positive_moved : (xs ys : Counts) → IsPermutation xs ys → Each IsPositive xs → Each IsPositive ys
positive_moved xs ys moved h = each_positive ys (each_member (λ (e : Slot × Count). IsPositive e.1) ys
    (λ e there. at_member (λ (e : Slot × Count). IsPositive e.1) xs e (all_positive xs h)
    (Contains-permutation ys xs e (IsPermutation-sym xs ys moved) there)))

-- the counts that were listed, and those that are added up
pub sorted_counts : (all listed sorted added : Counts) → listed ≡ all → IsPermutation listed sorted → added ≡ sorted
    → IsPermutation all added
sorted_counts all listed sorted added is moved same =
    subst (λ (l : Counts). IsPermutation all l) (sym same) (subst (λ (l : Counts). IsPermutation l sorted) is moved)
