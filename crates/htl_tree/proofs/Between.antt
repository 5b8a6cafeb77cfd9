-- The counts of some slots are listed by stack and by slot, and their sums by slot.
use Rattle.std.proofs.Common.{◌≡◌, ℕ, ◌≤◌, List, [], ◌∷◌}
use Rattle.std.proofs.Common.{map, Option, Some, None, T, Bool, true}
use Rattle.std.proofs.Common.{false, ◌&&◌, cond, unwrap_or, refl, sym, ◌∙◌, ap, subst, arith, inl, inr}
use Rattle.std.specs.Prelude.{Contains}
use Rattle.std.specs.List.{AllByRecursion}
use Rattle.std.specs.Ordering.{is_eq, eq_by_cmp}
use Rattle.std.specs.FinMap.Entries.{find, below_all}
use Rattle.std.specs.declared.cmp.Ordering.TheVariants.{Less, Equal, Greater}
use Rattle.htl_event.specs.SlotOrder.{slot_cmp}
use Rattle.htl_event.specs.OrderLaws.{slot_total, slot_same}
use Rattle.htl_event.specs.declared.slot.Slot.{Slot}
use Rattle.htl_event.specs.declared.slot.Slot.TheVariants.{Tagged}
use Rattle.htl_event.specs.declared.slot.Count.{Count}
use Rattle.htl_event.specs.Slots.{same_slot}
use Rattle.htl_event.specs.Members.{IsRising}
use Rattle.htl_event.specs.Tallies.{zero_count, plus_count, total_of, IsPositive}
use Rattle.htl_event.proofs.Members.{Contains-here, Contains-there, Contains-cases, Contains-nil}
use Rattle.htl_sorted.specs.Entries.{IsSorted, Each}
use Rattle.htl_lemmas.proofs.Tests.{both_left, both_right, less}
use Rattle.htl_sorted.proofs.Finds.{find_first, each_found, found_behind}
use Rattle.htl_tree.specs.Trees.{Tree, key_cmp, count_at, count_under, sum_where, total_count}
use Rattle.htl_tree.specs.Trees.{IsTree, ByStackAndSlot, ListsRowsOf, BySlot, ListsSums}
use Rattle.htl_tree.specs.declared.slots.Slots.{Slots}
use Rattle.htl_tree.specs.declared.slots.Slots.TheVariants.{One}
use Rattle.htl_tree.specs.HasSlot.{has_slot}
use Rattle.htl_tree.specs.Nodes.{count_in, counts_at, picked, asked_of, counts_in, AreAddedUp}
use Rattle.htl_tree.proofs.TreesAsLists.{key_total, key_same}
use Rattle.htl_tree.proofs.SlotRows.{listed}
use Rattle.htl_tree.proofs.Under.{same_slot_Decides, same_slot_tied, sum_where_le_total}

abbrev At : Type 0
At = (Slot × List ℕ) × Count

abbrev whole : List ℕ → Bool
whole stack = true

-- ---- one slot

-- the rows of one slot
pub one_slot : (slot : Slot) (t : Tree) → map (λ (row : At). (row.0.1, row.1)) (picked (has_slot (One slot)) t) ≡ listed slot t
one_slot slot [] = refl
one_slot slot (row ∷ t) =
    (elim (has_slot (One slot) row.0.1)
    as (λ b. map (λ (row : At). (row.0.1, row.1))
    (cond b (((row.0.1, row.0.0), row.1) ∷ picked (has_slot (One slot)) t) (picked (has_slot (One slot)) t))
    ≡ cond b ((row.0.0, row.1) ∷ listed slot t) (listed slot t)) [
      | true ↦ ap (λ l. (row.0.0, row.1) ∷ l) (one_slot slot t)
      | false ↦ one_slot slot t
    ])

-- ---- the rows of a range are listed

module _ (p : Slot → Bool) where
  rising_after : (row : (List ℕ × Slot) × Count) (t : Tree) → T (below_all key_cmp row.0 t)
      → AllByRecursion (λ (x : At). ByStackAndSlot ((row.0.1, row.0.0), row.1) x) (picked p t)
  rising_after row [] h = tt
  rising_after row (x ∷ t) h =
      let rest = rising_after row t (both_right _ _ h) in
      elim (p x.0.1) as (λ b. AllByRecursion (λ (y : At). ByStackAndSlot ((row.0.1, row.0.0), row.1) y)
      (cond b (((x.0.1, x.0.0), x.1) ∷ picked p t) (picked p t))) [
        | true ↦ (less _ (both_left _ _ h), rest)
        | false ↦ rest
      ]

  rising : (t : Tree) → IsSorted key_cmp t → IsRising (λ (a b : At). ByStackAndSlot a b) (picked p t)
  rising [] s = tt
  rising (x ∷ t) s = elim (p x.0.1)
      as (λ b. IsRising (λ (a b : At). ByStackAndSlot a b) (cond b (((x.0.1, x.0.0), x.1) ∷ picked p t) (picked p t))) [
        | true ↦ (rising_after x t (both_left _ _ s), rising t (both_right _ _ s))
        | false ↦ rising t (both_right _ _ s)
      ]

  picked_found : (t : Tree) → IsSorted key_cmp t → (x : At) → Contains (picked p t) x
      → (find key_cmp (x.0.1, x.0.0) t ≡ Some x.1) × (p x.0.0 ≡ true)
  picked_found [] s x h = absurd (Contains-nil x h)
  picked_found (row ∷ t) s x h =
      (elim (p row.0.1) as (λ b. p row.0.1 ≡ b → Contains (cond b (((row.0.1, row.0.0), row.1) ∷ picked p t) (picked p t)) x
      → (find key_cmp (x.0.1, x.0.0) (row ∷ t) ≡ Some x.1) × (p x.0.0 ≡ true)) [
        | true ↦ λ e c. elim (Contains-cases ((row.0.1, row.0.0), row.1) (picked p t) x c) [
          | inl is ↦ (
            ap (λ (y : At). find key_cmp (y.0.1, y.0.0) (row ∷ t)) (sym is) ∙ find_first key_cmp key_total row t
                ∙ ap (λ (y : At). Some y.1) is,
            ap (λ (y : At). p y.0.0) (sym is) ∙ e,
          )
          | inr there ↦ let rest = picked_found t (both_right _ _ s) x there in (found_behind key_cmp key_total row t s (x.0.1, x.0.0) x.1 rest.0, rest.1)
        ]
        | false ↦ λ e c. let rest = picked_found t (both_right _ _ s) x c in (found_behind key_cmp key_total row t s (x.0.1, x.0.0) x.1 rest.0, rest.1)
      ]) refl h

  found_picked : (t : Tree) (s : Slot) (k : List ℕ) (c : Count) → p s ≡ true → find key_cmp (k, s) t ≡ Some c
      → Contains (picked p t) ((s, k), c)
  found_picked [] s k c passes found = cc
  found_picked (row ∷ t) s k c passes found =
      (elim (key_cmp (k, s) row.0) as (λ r. key_cmp (k, s) row.0 ≡ r
      → cond (is_eq r) (Some row.1) (find key_cmp (k, s) t) ≡ Some c → Contains (picked p (row ∷ t)) ((s, k), c)) [
        | Less ↦ λ e is. further (found_picked t s k c passes is)
        | Equal ↦ λ e is.
            let same = key_same (k, s) row.0 e in
            let mine : p row.0.1 ≡ true = ap (λ (y : List ℕ × Slot). p y.1) (sym same) ∙ passes in
            let value : row.1 ≡ c = ap (λ (o : Option Count). unwrap_or o c) is in
            let x : ◌≡◌ {A = At} ((row.0.1, row.0.0), row.1) ((s, k), c) =
            λ i. ((sym (ap (λ (y : List ℕ × Slot). y.1) same) i, sym (ap (λ (y : List ℕ × Slot). y.0) same) i), value i) in
            rw mine (subst (λ (y : At). Contains (((row.0.1, row.0.0), row.1) ∷ picked p t) y) x
            (Contains-here ((row.0.1, row.0.0), row.1) (picked p t)))
        | Greater ↦ λ e is. further (found_picked t s k c passes is)
      ]) refl found
    where
      further : Contains (picked p t) ((s, k), c) → Contains (picked p (row ∷ t)) ((s, k), c)
      further h = elim (p row.0.1) as (λ b. Contains (cond b (((row.0.1, row.0.0), row.1) ∷ picked p t) (picked p t)) ((s, k), c)) [
        | true ↦ Contains-there ((row.0.1, row.0.0), row.1) (picked p t) ((s, k), c) h
        | false ↦ h
      ]

-- the rows of a tree whose slots are asked for are listed, by stack and then by slot
pub lists_rows_of : (t : Tree) → IsTree t → (slots : Slots) → ListsRowsOf t slots (picked (has_slot slots) t)
lists_rows_of t h slots = record { rising = rising (has_slot slots) t h.ordered; members = λ x. (into x, out x) }
  where
    into : (x : At) → Contains (picked (has_slot slots) t) x
        → (x.1 ≡ count_at t x.0.0 x.0.1) × IsPositive x.1 × (has_slot slots x.0.0 ≡ true)
    into x c =
        let found = picked_found (has_slot slots) t h.ordered x c in (
          sym (ap (λ (o : Option Count). unwrap_or o zero_count) found.0),
          each_found key_cmp IsPositive (x.0.1, x.0.0) x.1 t h.positive found.0,
          found.1,
        )

    out : (x : At) → (x.1 ≡ count_at t x.0.0 x.0.1) × IsPositive x.1 × (has_slot slots x.0.0 ≡ true)
        → Contains (picked (has_slot slots) t) x
    out x (is, some, passes) = of (find key_cmp (x.0.1, x.0.0) t) refl
      where
        of : (o : Option Count) → find key_cmp (x.0.1, x.0.0) t ≡ o → Contains (picked (has_slot slots) t) x
        of None none = let zero : x.1 ≡ zero_count = is ∙ ap (λ (o : Option Count). unwrap_or o zero_count) none in
            let never : IsPositive zero_count = subst IsPositive zero some in absurd (omega (arith, never))
        of (Some c) found = let value : c ≡ x.1 = sym (is ∙ ap (λ (o : Option Count). unwrap_or o zero_count) found) in
            found_picked (has_slot slots) t x.0.0 x.0.1 x.1 passes (found ∙ ap (λ (d : Count). Some d) value)

-- ---- sums

-- counts of slots that pass add up to those of the tree
asked_sum : (slots : Slots) (s : Slot) (t : Tree)
    → counts_at s (asked_of slots (counts_in t)) ≡ cond (has_slot slots s) (sum_where whole s t) zero_count
asked_sum slots s [] = elim (has_slot slots s) as (λ b. zero_count ≡ cond b zero_count zero_count) [ true ↦ refl | false ↦ refl ]
asked_sum slots s (row ∷ t) =
    let rest = asked_sum slots s t in
    let kept : List (Slot × Count) = asked_of slots (counts_in t) in
    let here : Slot × Count = (row.0.1, row.1) in
    (elim (same_slot s row.0.1) as (λ c. same_slot s row.0.1 ≡ c → counts_at s (asked_of slots (counts_in (row ∷ t)))
    ≡ cond (has_slot slots s) (cond (c && true) (plus_count row.1 (sum_where whole s t)) (sum_where whole s t)) zero_count) [
      | true ↦ λ e.
          let same : has_slot slots row.0.1 ≡ has_slot slots s = ap (has_slot slots) (sym ((same_slot_Decides s row.0.1).0 e)) in
          let tied : eq_by_cmp slot_cmp s row.0.1 ≡ true = sym (same_slot_tied s row.0.1) ∙ e in
          ap (λ b. counts_at s (cond b (here ∷ kept) kept)) same
          ∙ (elim (has_slot slots s) as (λ b. counts_at s kept ≡ cond b (sum_where whole s t) zero_count
          → counts_at s (cond b (here ∷ kept) kept) ≡ cond b (plus_count row.1 (sum_where whole s t)) zero_count) [
            | true ↦ λ r. ap (λ b. cond b (plus_count row.1 (counts_at s kept)) (counts_at s kept)) tied ∙ ap (plus_count row.1) r
            | false ↦ λ r. r
          ]) rest
      | false ↦ λ e.
          let apart : eq_by_cmp slot_cmp s row.0.1 ≡ false = sym (same_slot_tied s row.0.1) ∙ e in
          (elim (has_slot slots row.0.1) as (λ b. counts_at s (cond b (here ∷ kept) kept) ≡ counts_at s kept) [
            | true ↦ ap (λ b. cond b (plus_count row.1 (counts_at s kept)) (counts_at s kept)) apart
            | false ↦ refl
          ]) ∙ rest
    ]) refl

-- and no slot's to more than the tree's total
pub asked_total : (slots : Slots) (s : Slot) (t : Tree) → total_of (counts_at s (asked_of slots (counts_in t))) ≤ total_count t
asked_total slots s t =
    let is = ap total_of (asked_sum slots s t) in
    let most = sum_where_le_total s whole t in
    elim (has_slot slots s)
    as (λ b. total_of (counts_at s (asked_of slots (counts_in t))) ≡ total_of (cond b (sum_where whole s t) zero_count)
    → total_of (counts_at s (asked_of slots (counts_in t))) ≤ total_count t) [
      | true ↦ λ same. omega (arith, same, most)
      | false ↦ λ same. omega (arith, same)
    ] is

-- where no count of a tree is zero, none of those that are asked for is
pub asked_positive : (slots : Slots) (t : Tree) → Each IsPositive t → Each IsPositive (asked_of slots (counts_in t))
asked_positive slots [] h = tt
asked_positive slots (row ∷ t) h =
    let kept : List (Slot × Count) = asked_of slots (counts_in t) in
    elim (has_slot slots row.0.1) as (λ b. Each IsPositive (cond b ((row.0.1, row.1) ∷ kept) kept)) [
      | true ↦ (h.0, asked_positive slots t h.1)
      | false ↦ asked_positive slots t h.1
    ]

-- ---- entries in slot order as a list

first_rises : (x : Slot × Count) (es : List (Slot × Count)) → T (below_all slot_cmp x.0 es)
    → AllByRecursion (λ (y : Slot × Count). BySlot x.0 y.0) es
first_rises x [] h = tt
first_rises x (e ∷ es) h = (less _ (both_left _ _ h), first_rises x es (both_right _ _ h))

sums_rise : (es : List (Slot × Count)) → IsSorted slot_cmp es → IsRising (λ (a b : Slot × Count). BySlot a.0 b.0) es
sums_rise [] s = tt
sums_rise (e ∷ es) s = (first_rises e es (both_left _ _ s), sums_rise es (both_right _ _ s))

sum_found : (es : List (Slot × Count)) → IsSorted slot_cmp es → (x : Slot × Count) → Contains es x → find slot_cmp x.0 es ≡ Some x.1
sum_found [] s x h = absurd (Contains-nil x h)
sum_found (e ∷ es) s x h = elim (Contains-cases e es x h) [
  | inl is ↦ ap (λ (y : Slot × Count). find slot_cmp y.0 (e ∷ es)) (sym is) ∙ find_first slot_cmp slot_total e es
      ∙ ap (λ (y : Slot × Count). Some y.1) is
  | inr there ↦ found_behind slot_cmp slot_total e es s x.0 x.1 (sum_found es (both_right _ _ s) x there)
]

found_sum : (es : List (Slot × Count)) (k : Slot) (c : Count) → find slot_cmp k es ≡ Some c → Contains es (k, c)
found_sum [] k c found = cc
found_sum (e ∷ es) k c found =
    (elim (slot_cmp k e.0) as (λ r. slot_cmp k e.0 ≡ r → cond (is_eq r) (Some e.1) (find slot_cmp k es) ≡ Some c
    → Contains (e ∷ es) (k, c)) [
      | Less ↦ λ _ is. Contains-there e es (k, c) (found_sum es k c is)
      | Equal ↦ λ tied is.
          let same : k ≡ e.0 = slot_same k e.0 tied in
          let value : e.1 ≡ c = ap (λ (o : Option Count). unwrap_or o c) is in
          let x : ◌≡◌ {A = Slot × Count} e (k, c) = λ i. (sym same i, value i) in
          subst (λ (y : Slot × Count). Contains (e ∷ es) y) x (Contains-here e es)
      | Greater ↦ λ _ is. Contains-there e es (k, c) (found_sum es k c is)
    ]) refl found

-- sums of a range of slots
pub lists_sums : (t : Tree) (slots : Slots) (sums : List (Slot × Count)) → AreAddedUp (asked_of slots (counts_in t)) sums
    → ListsSums t slots sums
lists_sums t slots sums h = record { rising = sums_rise sums h.sorted; members = λ x. (into x, out x) }
  where
    value : (s : Slot) → count_in sums s ≡ cond (has_slot slots s) (count_under t [] s) zero_count
    value s = h.values s ∙ asked_sum slots s t

    into : (x : Slot × Count) → Contains sums x → (x.1 ≡ count_under t [] x.0) × IsPositive x.1 × (has_slot slots x.0 ≡ true)
    into x c =
        let found = sum_found sums h.sorted x c in
        let is : x.1 ≡ cond (has_slot slots x.0) (count_under t [] x.0) zero_count =
        sym (ap (λ (o : Option Count). unwrap_or o zero_count) found) ∙ value x.0 in
        let some : IsPositive x.1 = each_found slot_cmp IsPositive x.0 x.1 sums h.positive found in
        (elim (has_slot slots x.0) as (λ b. x.1 ≡ cond b (count_under t [] x.0) zero_count
        → (x.1 ≡ count_under t [] x.0) × IsPositive x.1 × (b ≡ true)) [
          | true ↦ λ e. (e, some, refl)
          | false ↦ λ e. let never : IsPositive zero_count = subst IsPositive e some in absurd (omega (arith, never))
        ]) is

    out : (x : Slot × Count) → (x.1 ≡ count_under t [] x.0) × IsPositive x.1 × (has_slot slots x.0 ≡ true) → Contains sums x
    out x (is, some, passes) =
        let here : count_in sums x.0 ≡ x.1 = value x.0 ∙ ap (λ b. cond b (count_under t [] x.0) zero_count) passes ∙ sym is in
        of (find slot_cmp x.0 sums) refl here
      where
        of : (o : Option Count) → find slot_cmp x.0 sums ≡ o → unwrap_or (find slot_cmp x.0 sums) zero_count ≡ x.1 → Contains sums x
        of None none here = let zero : zero_count ≡ x.1 = ap (λ (o : Option Count). unwrap_or o zero_count) (sym none) ∙ here in
            let never : IsPositive zero_count = subst IsPositive (sym zero) some in absurd (omega (arith, never))
        of (Some c) found here = let same : c ≡ x.1 = ap (λ (o : Option Count). unwrap_or o zero_count) (sym found) ∙ here in
            found_sum sums x.0 x.1 (found ∙ ap (λ (d : Count). Some d) same)

-- what an index beyond all counts would give
abbrev pub no_count : Slot × Count
no_count = (Tagged 0 [], zero_count)
