-- Counts from which rows were taken out, and then the zeros, count what is left, and none of them is zero.
use Rattle.std.proofs.Common.{◌≡◌, ℕ, zero, suc, ◌+◌, ◌-◌, ◌<◌, ◌||◌, List, [], ◌∷◌, ◌++◌, length, get_or, take, filter, Option}
use Rattle.std.proofs.Common.{Some, Bool, true, false, T, cond, nat_lt, unwrap_or, refl, sym, ◌∙◌, ap, subst, arith}
use Rattle.std.specs.Cmp.{tied_itself}
use Rattle.std.specs.Ordering.{is_eq, eq_by_cmp}
use Rattle.std.specs.declared.cmp.Ordering.{Ordering}
use Rattle.std.specs.declared.cmp.Ordering.TheVariants.{Less, Equal, Greater}
use Rattle.std.specs.FinMap.Entries.{find, put, below_all, find-put, is_sorted-put}
use Rattle.std.proofs.lemmas.Bool.{ltb-false}
use Rattle.htl_event.specs.SlotOrder.{slot_cmp}
use Rattle.htl_event.specs.OrderLaws.{slot_total, slot_same}
use Rattle.htl_event.specs.declared.slot.Slot.{Slot}
use Rattle.htl_event.specs.declared.slot.Count.{Count}
use Rattle.htl_event.specs.Tallies.{zero_count, plus_count, IsPositive}
use Rattle.htl_lemmas.proofs.Tests.{both, both_left, both_right}
use Rattle.htl_sorted.specs.Entries.{IsSorted, Each}
use Rattle.htl_sorted.proofs.Finds.{find_below, below_tied}
use Rattle.htl_tree.specs.declared.row.Row.{Row}
use Rattle.htl_tree.specs.Nodes.{count_in}
use Rattle.htl_tree.specs.Rows.{slot_sum}
use Rattle.htl_tree.specs.Removed.{IsAtMost, minus_count, is_some_count, Lost}
use Rattle.htl_tree.proofs.CopiesAndSums.{zero_right}
use Rattle.htl_tree.proofs.RowsAdded.{slot_sum-append}

-- ---- one row less

-- what is left of a count and what was taken out make up the count
minus_plus : (all part : Count) → IsAtMost part all → plus_count (minus_count all part) part ≡ all
minus_plus all part h =
    let lt = h.plus in
    let mt = h.minus in
    let p : (all.plus - part.plus) + part.plus ≡ all.plus = omega (arith, lt) in
    let m : (all.minus - part.minus) + part.minus ≡ all.minus = omega (arith, mt) in
    λ i. record { plus = p i; minus = m i }

-- the last of three counts may come before the second
pub plus_swap : (a b c : Count) → plus_count (plus_count a b) c ≡ plus_count a (plus_count c b)
plus_swap a b c =
    let p : (a.plus + b.plus) + c.plus ≡ a.plus + (c.plus + b.plus) = omega arith in
    let m : (a.minus + b.minus) + c.minus ≡ a.minus + (c.minus + b.minus) = omega arith in
    λ i. record { plus = p i; minus = m i }

-- a count of which a row's was taken out
count_taken : (counts : List (Slot × Count)) (row : Row) (slot : Slot) → IsAtMost row.count (count_in counts row.slot)
    → count_in counts slot ≡ plus_count
    (count_in (put slot_cmp row.slot (minus_count (count_in counts row.slot) row.count) counts) slot) (slot_sum slot (row ∷ []))
count_taken counts row slot h =
    let v : Count = minus_count (count_in counts row.slot) row.count in
    (elim (slot_cmp slot row.slot) as (λ r. slot_cmp slot row.slot ≡ r → count_in counts slot
    ≡ plus_count (unwrap_or (cond (is_eq r) (Some v) (find slot_cmp slot counts)) zero_count)
    (cond (is_eq r) (plus_count row.count zero_count) zero_count)) [
      | Less ↦ λ c. zero_right (count_in counts slot)
      | Equal ↦ λ c. ap (count_in counts) (slot_same slot row.slot c) ∙ sym (minus_plus (count_in counts row.slot) row.count h)
          ∙ ap (plus_count v) (zero_right row.count)
      | Greater ↦ λ c. zero_right (count_in counts slot)
    ]) refl
    ∙ ap (λ (o : Option Count). plus_count (unwrap_or o zero_count) (slot_sum slot (row ∷ [])))
    (sym (find-put slot_cmp slot_total slot row.slot v counts))

-- counts that lost rows, and then the count of one row more, lost all of them
pub lost_more : (rows : List Row) (row : Row) (old mid new : List (Slot × Count)) → Lost rows old mid
    → IsAtMost row.count (count_in mid row.slot)
    → new ≡ put slot_cmp row.slot (minus_count (count_in mid row.slot) row.count) mid → Lost (rows ++ row ∷ []) old new
lost_more rows row old mid new h room is =
    let v : Count = minus_count (count_in mid row.slot) row.count in
    let left : List (Slot × Count) = put slot_cmp row.slot v mid in
    subst (λ l. Lost (rows ++ row ∷ []) old l) (sym is) record {
      sorted = is_sorted-put slot_cmp slot_total row.slot v mid h.sorted;
      counts = λ slot. h.counts slot ∙ ap (λ c. plus_count c (slot_sum slot rows)) (count_taken mid row slot room)
          ∙ plus_swap (count_in left slot) (slot_sum slot (row ∷ [])) (slot_sum slot rows)
          ∙ ap (plus_count (count_in left slot)) (sym (slot_sum-append slot rows (row ∷ [])));
    }

-- what the first rows and the next one count is no more than what all count
sum_within : (rows : List Row) (i : ℕ) (d : Row) (slot : Slot) → i < length rows → slot ≡ (get_or rows i d).slot
    → IsAtMost (plus_count (slot_sum slot (take i rows)) (get_or rows i d).count) (slot_sum slot rows)
sum_within [] i d slot lt is = absurd (omega arith)
sum_within (x ∷ xs) zero d slot lt is =
    let here : slot_sum slot (x ∷ xs) ≡ plus_count x.count (slot_sum slot xs) =
    ap (λ s. cond (eq_by_cmp slot_cmp slot s) (plus_count x.count (slot_sum slot xs)) (slot_sum slot xs)) (sym is)
    ∙ ap (λ r. cond (is_eq r) (plus_count x.count (slot_sum slot xs)) (slot_sum slot xs)) (tied_itself slot_total slot) in
    subst (λ c. IsAtMost (plus_count zero_count x.count) c) (sym here) record { plus = omega arith; minus = omega arith }
sum_within (x ∷ xs) (suc i) d slot lt is =
    let rest = sum_within xs i d slot (omega arith) is in
    let p = rest.plus in
    let m = rest.minus in
    elim (eq_by_cmp slot_cmp slot x.slot)
    as (λ b. IsAtMost (plus_count (cond b (plus_count x.count (slot_sum slot (take i xs))) (slot_sum slot (take i xs))) (get_or xs i d).count)
    (cond b (plus_count x.count (slot_sum slot xs)) (slot_sum slot xs))) [
      | true ↦ record { plus = omega (arith, p); minus = omega (arith, m) }
      | false ↦ rest
    ]

-- the next row's count is still there
pub row_room : (rows : List Row) (i : ℕ) (d : Row) (old mid : List (Slot × Count)) → i < length rows → Lost (take i rows) old mid
    → ((slot : Slot) → IsAtMost (slot_sum slot rows) (count_in old slot))
    → IsAtMost (get_or rows i d).count (count_in mid (get_or rows i d).slot)
row_room rows i d old mid lt lost counted =
    let slot = (get_or rows i d).slot in
    let within = sum_within rows i d slot lt refl in
    let all = counted slot in
    let here = lost.counts slot in
    let wp = within.plus in
    let wm = within.minus in
    let most_plus = all.plus in
    let most_minus = all.minus in
    let hp : (count_in old slot).plus ≡ (count_in mid slot).plus + (slot_sum slot (take i rows)).plus = ap (λ c. c.plus) here in
    let hm : (count_in old slot).minus ≡ (count_in mid slot).minus + (slot_sum slot (take i rows)).minus = ap (λ c. c.minus) here in
    record { plus = omega (arith, wp, most_plus, hp); minus = omega (arith, wm, most_minus, hm) }

-- ---- lists without some of their entries

module _ {K X : Type 0} (R : K → K → Ordering) (passes : K × X → Bool) where
  below_filter : (k : K) (es : List (K × X)) → T (below_all R k es) → T (below_all R k (filter passes es))
  below_filter k [] h = tt
  below_filter k (e ∷ es) h =
      let rest = below_filter k es (both_right _ _ h) in
      elim (passes e) as (λ b. T (below_all R k (cond b (e ∷ filter passes es) (filter passes es)))) [
        | true ↦ both _ _ (both_left _ _ h) rest
        | false ↦ rest
      ]

  sorted_filter : (es : List (K × X)) → IsSorted R es → IsSorted R (filter passes es)
  sorted_filter [] h = tt
  sorted_filter (e ∷ es) h =
      let rest = sorted_filter es (both_right _ _ h) in
      elim (passes e) as (λ b. IsSorted R (cond b (e ∷ filter passes es) (filter passes es))) [
        | true ↦ both _ _ (below_filter e.0 es (both_left _ _ h)) rest
        | false ↦ rest
      ]

-- ---- counts without zeros

pub some_positive : (c : Count) → is_some_count c ≡ true → IsPositive c
some_positive c h = of c.plus c.minus h
  where
    of : (p m : ℕ) → (nat_lt 0 p || nat_lt 0 m) ≡ true → 0 < p + m
    of zero zero h = let never : false ≡ true = h in absurd (cc)
    of zero (suc m) h = omega arith
    of (suc p) m h = omega arith

none_zero : (c : Count) → is_some_count c ≡ false → c ≡ zero_count
none_zero c h = let both = of c.plus c.minus h in let p = both.0 in let m = both.1 in λ i. record { plus = p i; minus = m i }
  where
    of : (p m : ℕ) → (nat_lt 0 p || nat_lt 0 m) ≡ false → (p ≡ 0) × (m ≡ 0)
    of p m h = (elim (nat_lt 0 p) as (λ b. nat_lt 0 p ≡ b → (b || nat_lt 0 m) ≡ false → (p ≡ 0) × (m ≡ 0)) [
      | true ↦ λ e never. let no : true ≡ false = never in absurd (cc)
      | false ↦ λ e rest. let left = ltb-false 0 p e in let right = ltb-false 0 m rest in (omega (arith, left), omega (arith, right))
    ]) refl h

abbrev somes : List (Slot × Count) → List (Slot × Count)
somes es = filter (λ entry. is_some_count entry.1) es

count_somes : (slot : Slot) (es : List (Slot × Count)) → IsSorted slot_cmp es → count_in (somes es) slot ≡ count_in es slot
count_somes slot [] sorted = refl
count_somes slot (e ∷ es) sorted =
    let rest = count_somes slot es (both_right _ _ sorted) in
    (elim (is_some_count e.1)
    as (λ b. is_some_count e.1 ≡ b → count_in (cond b (e ∷ somes es) (somes es)) slot ≡ count_in (e ∷ es) slot) [
      | true ↦ λ some. elim (eq_by_cmp slot_cmp slot e.0) as (λ b. unwrap_or (cond b (Some e.1) (find slot_cmp slot (somes es))) zero_count
          ≡ unwrap_or (cond b (Some e.1) (find slot_cmp slot es)) zero_count) [
            | true ↦ refl
            | false ↦ rest
          ]
      | false ↦ λ none. rest ∙ (elim (slot_cmp slot e.0) as (λ r. slot_cmp slot e.0 ≡ r
          → count_in es slot ≡ unwrap_or (cond (is_eq r) (Some e.1) (find slot_cmp slot es)) zero_count) [
            | Less ↦ λ c. refl
            | Equal ↦ λ c. ap (λ (o : Option Count). unwrap_or o zero_count) (find_below slot_cmp slot_total slot es
                (below_tied slot_cmp slot_total slot e.0 es c (both_left _ _ sorted))) ∙ sym (none_zero e.1 none)
            | Greater ↦ λ c. refl
          ]) refl
    ]) refl

-- counts that lost rows lost the same once the zeros are dropped
pub lost_somes : (rows : List Row) (old mid new : List (Slot × Count)) → Lost rows old mid
    → new ≡ filter (λ entry. is_some_count entry.1) mid → Lost rows old new
lost_somes rows old mid new h is = subst (λ l. Lost rows old l) (sym is) record {
  sorted = sorted_filter slot_cmp (λ entry. is_some_count entry.1) mid h.sorted;
  counts = λ slot. h.counts slot ∙ ap (λ c. plus_count c (slot_sum slot rows)) (sym (count_somes slot mid h.sorted));
}

-- and no count is zero then
pub somes_positive : (es new : List (Slot × Count)) → new ≡ filter (λ entry. is_some_count entry.1) es → Each IsPositive new
somes_positive es new is = subst (λ l. Each IsPositive l) (sym is) (all es)
  where
    all : (es : List (Slot × Count)) → Each IsPositive (somes es)
    all [] = tt
    all (e ∷ es) = (elim (is_some_count e.1) as (λ b. is_some_count e.1 ≡ b → Each IsPositive (cond b (e ∷ somes es) (somes es))) [
      | true ↦ λ some. (some_positive e.1 some, all es)
      | false ↦ λ none. all es
    ]) refl
