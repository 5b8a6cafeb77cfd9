-- A position to which rows were added, there or further in, counts these more at one path and else the same.
use Rattle.std.proofs.Common.{◌≡◌, ℕ, zero, suc, ◌+◌, ◌<◌, ◌≤◌, ◌≢◌, List, [], ◌∷◌, ◌++◌, length, get_or, take, Option}
use Rattle.std.proofs.Common.{Some, None, Result, MatchResult, true, false, cond, unwrap_or, refl, sym, inl, inr, ◌∙◌, ap, subst, arith}
use Rattle.std.specs.Cmp.{tied_itself, nat_cmp_total}
use Rattle.std.specs.Ordering.{nat_cmp, is_eq, eq_by_cmp}
use Rattle.std.specs.declared.cmp.Ordering.TheVariants.{Less, Equal, Greater}
use Rattle.std.specs.FinMap.{nat_cmp-IsAntisymmetric}
use Rattle.std.specs.Int.Bits.{bit_or}
use Rattle.std.specs.FinMap.Entries.{find, put, find-put, is_sorted-put}
use Rattle.std.proofs.lemmas.Bool.{cases_eq}
use Rattle.std.proofs.lemmas.List.{append-nil}
use Rattle.htl_event.specs.SlotOrder.{slot_cmp}
use Rattle.htl_event.specs.OrderLaws.{slot_total, slot_same}
use Rattle.htl_event.specs.declared.slot.Slot.{Slot}
use Rattle.htl_event.specs.declared.slot.Count.{Count}
use Rattle.htl_event.specs.Tallies.{zero_count, plus_count, total_of, IsPositive}
use Rattle.htl_sorted.specs.Entries.{IsSorted, Each, joined_at}
use Rattle.htl_sorted.proofs.Finds.{find_put_other, each_put, each_found, each_from_found}
use Rattle.htl_tree.specs.declared.node.Node.{Node}
use Rattle.htl_tree.specs.declared.row.Row.{Row}
use Rattle.htl_tree.specs.Nodes.{Position, tally, tally_of, no_tally, counts, children, count_in, at_child, IsNonEmpty, IsNormal, NormalAt}
use Rattle.htl_tree.specs.Filters.{HasFiltersOf, HaveFilters}
use Rattle.htl_tree.specs.Nodes.{frames, filters, top, inside, HasFilters, IsKept}
use Rattle.htl_tree.specs.Rows.{entries_of, slot_sum, Gained, AddsRows, IsGained, IsLeafOfRows}
use Rattle.htl_tree.proofs.FilterBits.{filters_also}
use Rattle.htl_tree.proofs.FiltersOfPositions.{has_left, filters_end, filters_on, filters_before}
use Rattle.htl_tree.proofs.Positions.{find_before}
use Rattle.htl_tree.proofs.CountAdded.{normal_here, normal_counts, normal_with_child, tally_child, tally_else, nonempty_from}
use Rattle.htl_tree.proofs.CountAdded.{put_before, normal_after, kept_below, nonempty_child, match_result}
use Rattle.htl_tree.proofs.Entered.{entered_kept}
use Rattle.htl_tree.proofs.CopiesAndSums.{zero_left, zero_right, joined_count, joined_positive}
use Rattle.htl_tree.proofs.SumsFromTally.{plus_assoc}

-- ---- one row more

pub slot_sum-append : (slot : Slot) (xs ys : List Row) → slot_sum slot (xs ++ ys) ≡ plus_count (slot_sum slot xs) (slot_sum slot ys)
slot_sum-append slot [] ys = zero_left (slot_sum slot ys)
slot_sum-append slot (x ∷ xs) ys =
    elim (eq_by_cmp slot_cmp slot x.slot) as (λ b. cond b (plus_count x.count (slot_sum slot (xs ++ ys))) (slot_sum slot (xs ++ ys))
    ≡ plus_count (cond b (plus_count x.count (slot_sum slot xs)) (slot_sum slot xs)) (slot_sum slot ys)) [
      | true ↦ ap (plus_count x.count) (slot_sum-append slot xs ys) ∙ sym (plus_assoc x.count (slot_sum slot xs) (slot_sum slot ys))
      | false ↦ slot_sum-append slot xs ys
    ]

-- what the first rows and the next one count is no more than what all count
pub sum_room : (rows : List Row) (i : ℕ) (d : Row) (slot : Slot) → i < length rows → slot ≡ (get_or rows i d).slot
    → total_of (slot_sum slot (take i rows)) + total_of (get_or rows i d).count ≤ total_of (slot_sum slot rows)
sum_room [] i d slot lt is = absurd (omega arith)
sum_room (x ∷ xs) zero d slot lt is =
    let here : slot_sum slot (x ∷ xs) ≡ plus_count x.count (slot_sum slot xs) =
    ap (λ s. cond (eq_by_cmp slot_cmp slot s) (plus_count x.count (slot_sum slot xs)) (slot_sum slot xs)) (sym is)
    ∙ ap (λ r. cond (is_eq r) (plus_count x.count (slot_sum slot xs)) (slot_sum slot xs)) (tied_itself slot_total slot) in
    let all = ap total_of here in
    omega (arith, all)
sum_room (x ∷ xs) (suc i) d slot lt is =
    let rest = sum_room xs i d slot (omega arith) is in
    elim (eq_by_cmp slot_cmp slot x.slot)
    as (λ b. total_of (cond b (plus_count x.count (slot_sum slot (take i xs))) (slot_sum slot (take i xs))) + total_of
    (get_or xs i d).count ≤ total_of (cond b (plus_count x.count (slot_sum slot xs)) (slot_sum slot xs))) [
      | true ↦ omega (arith, rest)
      | false ↦ rest
    ]

-- a slot that rows count
pub some_slot : (rows : List Row) → 0 < length rows → Each IsPositive (entries_of rows) → (slot : Slot) × IsPositive (slot_sum slot rows)
some_slot [] lt h = absurd (omega arith)
some_slot (row ∷ rows) lt h =
    let here : slot_sum row.slot (row ∷ rows) ≡ plus_count row.count (slot_sum row.slot rows) = ap
    (λ r. cond (is_eq r) (plus_count row.count (slot_sum row.slot rows)) (slot_sum row.slot rows)) (tied_itself slot_total row.slot) in
    let some : IsPositive row.count = h.0 in
    let sum : IsPositive (plus_count row.count (slot_sum row.slot rows)) = omega (arith, some) in
    (row.slot, subst IsPositive (sym here) sum)

-- a count that was put
count_put : (counts : List (Slot × Count)) (row : Row) (slot : Slot)
    → count_in (put slot_cmp row.slot (plus_count (count_in counts row.slot) row.count) counts) slot
    ≡ plus_count (count_in counts slot) (slot_sum slot (row ∷ []))
count_put counts row slot =
    let v : Count = plus_count (count_in counts row.slot) row.count in
    ap (λ (o : Option Count). unwrap_or o zero_count) (find-put slot_cmp slot_total slot row.slot v counts)
    ∙ (elim (slot_cmp slot row.slot) as (λ r. slot_cmp slot row.slot ≡ r
    → unwrap_or (cond (is_eq r) (Some v) (find slot_cmp slot counts)) zero_count
    ≡ plus_count (count_in counts slot) (cond (is_eq r) (plus_count row.count zero_count) zero_count)) [
      | Less ↦ λ c. zero_right (count_in counts slot)
      | Equal ↦ λ c. ap (λ s. plus_count (count_in counts s) row.count) (sym (slot_same slot row.slot c))
          ∙ ap (plus_count (count_in counts slot)) (zero_right row.count)
      | Greater ↦ λ c. zero_right (count_in counts slot)
    ]) refl

-- counts that gained rows, and then the count of one row more, gained all of them
pub gained_more : (rows : List Row) (row : Row) (old mid new : List (Slot × Count)) → Gained rows old mid → IsPositive row.count
    → new ≡ put slot_cmp row.slot (plus_count (count_in mid row.slot) row.count) mid → Gained (rows ++ row ∷ []) old new
gained_more rows row old mid new h some is =
    let v : Count = plus_count (count_in mid row.slot) row.count in
    let more : IsPositive v = omega (arith, some) in
    subst (λ l. Gained (rows ++ row ∷ []) old l) (sym is) record {
      sorted = is_sorted-put slot_cmp slot_total row.slot v mid h.sorted;
      positive = each_put slot_cmp IsPositive row.slot v mid more h.positive;
      counts = λ slot. count_put mid row slot ∙ ap (λ c. plus_count c (slot_sum slot (row ∷ []))) (h.counts slot)
          ∙ plus_assoc (count_in old slot) (slot_sum slot rows) (slot_sum slot (row ∷ []))
          ∙ ap (plus_count (count_in old slot)) (sym (slot_sum-append slot rows (row ∷ [])));
    }

-- counts merged with those of rows gained the rows
pub gained_merged : (rows : List Row) (old more sums : List (Slot × Count)) → Each IsPositive old → Gained rows [] more
    → IsSorted slot_cmp sums
    → ((slot : Slot) → find slot_cmp slot sums ≡ joined_at plus_count (find slot_cmp slot old) (find slot_cmp slot more))
    → Gained rows old sums
gained_merged rows old more sums positive gained sorted values = record {
  sorted = sorted;
  positive = each_from_found slot_cmp slot_total IsPositive sums sorted (λ s v found.
      joined_positive (find slot_cmp s old) (find slot_cmp s more) v (λ x is. each_found slot_cmp IsPositive s x old positive is)
      (λ y is. each_found slot_cmp IsPositive s y more gained.positive is) (sym (values s) ∙ found));
  counts = λ slot. ap (λ (o : Option Count). unwrap_or o zero_count) (values slot)
      ∙ joined_count (find slot_cmp slot old) (find slot_cmp slot more)
      ∙ ap (plus_count (count_in old slot)) (gained.counts slot ∙ sym (zero_left (slot_sum slot rows)));
}

-- ---- a node with more

module _ {A : Type 0} (n m : Position A) (rows : List Row) where
  -- a position whose own counts gained rows, with their filters, is the old one with the rows added there
  pub gained_here : (es : List (Slot × Count)) (w : ℕ) → IsNormal n → counts m ≡ es → filters m ≡ bit_or (filters n) w → children m ≡ children n
      → Gained rows (counts n) es → HaveFilters w es → IsGained [] rows n m
  gained_here es w h o new k gained filtered = record {
    normal = normal_counts n m k h (rw o gained.sorted) (rw o gained.positive) (rw (o, new) (filters_also (filters n) w es filtered))
        (rw new (has_left (filters n) w));
    counts = record { here = λ s. ap (λ l. count_in l s) o ∙ gained.counts s; elsewhere = elsewhere };
  }
    where
      elsewhere : (p : List ℕ) (t : Slot) → p ≢ [] → tally p t m ≡ tally p t n
      elsewhere [] t differs = absurd (differs refl)
      elsewhere (f ∷ p) t differs = rw k refl

  module _ (some : (slot : Slot) × IsPositive (slot_sum slot rows)) (f : ℕ) (c : Position A) (o : counts m ≡ counts n)
      (w : HasFilters c → HasFilters m) (k : children m ≡ put nat_cmp f c (children n)) (h : IsNormal n) where
    adds_below : (path : List ℕ) → AddsRows path rows (λ p t. at_child (λ c. tally p t c) (find nat_cmp f (children n))) (tally_of c)
        → AddsRows (f ∷ path) rows (tally_of n) (tally_of m)
    adds_below path adds = record { here = λ s. tally_child n m f c o w k h path s ∙ adds.here s; elsewhere = elsewhere }
      where
        elsewhere : (p : List ℕ) (t : Slot) → p ≢ f ∷ path → tally p t m ≡ tally p t n
        elsewhere [] t differs = rw o refl
        elsewhere (g ∷ p) t differs = elim (cases_eq g f) [
          | inl same ↦ rw same (tally_child n m f c o w k h p t ∙ adds.elsewhere p t (λ e. differs (λ i. same i ∷ e i)))
          | inr other ↦ tally_else n m f c o w k h g p t other
        ]

    -- the node that the path leads to counts something
    filled : (path : List ℕ) (old : List ℕ → Slot → Count) → AddsRows path rows old (tally_of c) → IsNonEmpty c
    filled path old adds =
        let positive = some.1 in
        let sum : IsPositive (plus_count (old path some.0) (slot_sum some.0 rows)) = omega (arith, positive) in
        nonempty_from c path some.0 (subst IsPositive (sym (adds.here some.0)) sum)

    -- rows added further in, at a path from the child, are added at the path with the child's frame before it
    pub gained_below : (old : Position A) → find nat_cmp f (children n) ≡ Some old → (path : List ℕ) → IsGained path rows old c
        → IsGained (f ∷ path) rows n m
    gained_below old found path gained = record {
      normal = normal_with_child n m f c o w k h gained.normal (filled path (tally_of old) gained.counts);
      counts = adds_below path (rw found gained.counts);
    }

    -- a new child that counts rows at a path adds these at the path with the child's frame before it
    pub gained_branch : find nat_cmp f (children n) ≡ None → (path : List ℕ) → IsLeafOfRows path rows c → IsGained (f ∷ path) rows n m
    gained_branch none path new = record {
      normal = normal_with_child n m f c o w k h new.normal (filled path no_tally new.counts);
      counts = adds_below path (rw none new.counts);
    }

-- rows that were added below a child, or refused
pub rows_stepped : {A : Type 0} (n m : Position A) → IsNormal n → (rows : List Row) → (slot : Slot) × IsPositive (slot_sum slot rows)
    → (f : ℕ) (old new : Position A) → find nat_cmp f (children n) ≡ Some old → counts m ≡ counts n → (HasFilters new → HasFilters m)
    → children m ≡ put nat_cmp f new (children n) → (path : List ℕ) → {X E : Type 0} (r : Result X E)
    → MatchResult r (λ _. IsGained path rows old new) (λ _. IsKept old new)
    → MatchResult r (λ _. IsGained (f ∷ path) rows n m) (λ _. IsKept n m)
rows_stepped n m h rows some f old new found o w k path r result = match_result r result
    (λ x gained. gained_below n m rows some f new o w k h old found path gained)
    (λ x kept. kept_below n m f new o w k h old found kept (nonempty_child n h f old found))

-- ---- leaves

-- a node without children, whose counts are those of rows, counts these rows at its own place and nothing else
pub leaf_end : {A : Type 0} (m : Position A) (rows : List Row) → children m ≡ [] → Gained rows [] (counts m) → HaveFilters (filters m) (counts m)
    → IsLeafOfRows [] rows m
leaf_end {A} m rows k gained filtered = record {
  normal = record { everywhere = at };
  counts = record { here = gained.counts; elsewhere = elsewhere };
}
  where
    at : (p : List ℕ) → NormalAt p m
    at [] = record {
      slots = gained.sorted;
      positive = gained.positive;
      filtered = filters_end m filtered k;
      frames = rw k tt;
      nonempty = rw k tt;
    }
    at (f ∷ p) = rw k tt

    elsewhere : (p : List ℕ) (t : Slot) → p ≢ [] → tally p t m ≡ zero_count
    elsewhere [] t differs = absurd (differs refl)
    elsewhere (f ∷ p) t differs = rw k refl

pub leaf_under : {A : Type 0} (m c : Position A) (f : ℕ) (path : List ℕ) (rows : List Row) → (slot : Slot) × IsPositive (slot_sum slot rows)
    → counts m ≡ [] → children m ≡ (f, c) ∷ [] → HasFiltersOf (filters m) (filters c) → IsLeafOfRows path rows c → IsLeafOfRows (f ∷ path) rows m
leaf_under m c f path rows some o k w child = record {
  normal = record { everywhere = at };
  counts = record { here = λ s. here path s ∙ child.counts.here s; elsewhere = elsewhere };
}
  where
    filled : IsNonEmpty c
    filled =
        let positive = some.1 in
        let sum : IsPositive (plus_count zero_count (slot_sum some.0 rows)) = omega (arith, positive) in
        nonempty_from c path some.0 (subst IsPositive (sym (child.counts.here some.0)) sum)

    at : (p : List ℕ) → NormalAt p m
    at [] = record {
      slots = rw o tt;
      positive = rw o tt;
      filtered = filters_on m c f o k w (normal_here c child.normal).filtered;
      frames = rw k tt;
      nonempty = rw k (filled, tt);
    }
    at (g ∷ p) = elim (cases_eq g f) [
      | inl same ↦ rw (k, same, tied_itself nat_cmp_total f) (child.normal.everywhere p)
      | inr other ↦ rw (k, find_put_other nat_cmp nat_cmp_total nat_cmp-IsAntisymmetric g f c [] other) tt
    ]

    here : (p : List ℕ) (t : Slot) → tally (f ∷ p) t m ≡ tally p t c
    here p t = rw (k, tied_itself nat_cmp_total f) refl

    elsewhere : (p : List ℕ) (t : Slot) → p ≢ f ∷ path → tally p t m ≡ zero_count
    elsewhere [] t differs = rw o refl
    elsewhere (g ∷ p) t differs = elim (cases_eq g f) [
      | inl same ↦ rw same (here p t ∙ child.counts.elsewhere p t (λ e. differs (λ i. same i ∷ e i)))
      | inr other ↦ rw k (ap (λ x. at_child (λ c. tally p t c) x)
          (find_put_other nat_cmp nat_cmp_total nat_cmp-IsAntisymmetric g f c [] other))
    ]

-- ---- nodes seen from before their frames

module _ {A : Type 0} (rows : List Row) (some : (slot : Slot) × IsPositive (slot_sum slot rows)) where
  gained_before : (fs : List ℕ) (n m : Node A) → IsNormal (fs, n) → (path : List ℕ) → IsGained path rows (inside n) (inside m)
      → IsGained (fs ++ path) rows (fs, n) (fs, m)
  gained_before [] n m h path gained = gained
  gained_before (f ∷ fs) n m h path gained =
      gained_below (f ∷ fs, n) (f ∷ fs, m) rows some f (fs, m) refl (filters_before f (fs, m)) (put_before f (fs, n) (fs, m)) h (fs, n)
      (find_before f (fs, n)) (fs ++ path) (gained_before fs n m (normal_after f (fs, n) h) path gained)

  -- rows that were added inside a node after it was left only some of its frames
  pub entered_gained : (old : Position A) (n m : Node A) → IsKept old (top n) → frames m ≡ frames n → (path rest : List ℕ)
      → path ≡ frames n ++ rest → IsGained rest rows (inside n) (inside m) → IsGained path rows old (top m)
  entered_gained old n m kept same path rest is inner = subst (λ p. IsGained p rows old (top m)) (sym is) record {
    normal = gained.normal;
    counts = record {
      here = λ s. gained.counts.here s ∙ ap (λ c. plus_count c (slot_sum s rows)) (kept.counts (frames n ++ rest) s);
      elsewhere = λ p s other. gained.counts.elsewhere p s other ∙ kept.counts p s;
    };
  }
    where
      gained : IsGained (frames n ++ rest) rows (top n) (top m)
      gained = subst (λ l. IsGained (frames n ++ rest) rows (top n) (l, m)) (sym same)
          (gained_before (frames n) n m kept.normal rest inner)

  -- rows that were added inside such a node, or refused
  pub rows_entered : (old : Position A) (n m : Node A) → IsKept old (top n) → frames m ≡ frames n → (path rest : List ℕ)
      → path ≡ frames n ++ rest → {X E : Type 0} (r : Result X E)
      → MatchResult r (λ _. IsGained rest rows (inside n) (inside m)) (λ _. IsKept (inside n) (inside m))
      → MatchResult r (λ _. IsGained path rows old (top m)) (λ _. IsKept old (top m))
  rows_entered old n m kept same path rest is r result = match_result r result
      (λ x gained. entered_gained old n m kept same path rest is gained) (λ x again. entered_kept old n kept m same again)

  leaf_before : (fs : List ℕ) (m : Node A) (path : List ℕ) → IsLeafOfRows path rows (inside m) → IsLeafOfRows (fs ++ path) rows (fs, m)
  leaf_before [] m path new = new
  leaf_before (f ∷ fs) m path new =
      leaf_under (f ∷ fs, m) (fs, m) f (fs ++ path) rows some refl refl (λ s is. is) (leaf_before fs m path new)

  -- a node that counts rows at its own place counts them at the end of its frames, seen from their top
  pub leaf_top : (m : Node A) → IsLeafOfRows [] rows (inside m) → IsLeafOfRows (frames m) rows (top m)
  leaf_top m new = subst (λ l. IsLeafOfRows l rows (top m)) (append-nil (frames m)) (leaf_before (frames m) m [] new)
