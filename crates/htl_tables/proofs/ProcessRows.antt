-- The rows of one process stand together, in a table that is sorted by process.
use Rattle.std.proofs.Common.{◌≡◌, ℕ, zero, suc, ◌+◌, ◌<◌, ◌≤◌, ◌==◌, Bool, true, false, List, []}
use Rattle.std.proofs.Common.{◌∷◌, length, get_or, take, drop, refl, sym, ap, ◌∙◌, inl, inr, arith, nat_lt, length-drop}
use Rattle.std.specs.Prelude.{filter}
use Rattle.std.proofs.lemmas.List.{get_or-drop}
use Rattle.std.specs.List.Sorted.{IsPartitionedBy, IsPartitionPoint}
use Rattle.std.specs.declared.cmp.Ordering.TheVariants.{Less}
use Rattle.std.proofs.lemmas.Bool.{cases_lt, cases_eq, eqb-true, eq-eqb, ne_eqb, ltb-true, lt-ltb, both_ways}
use Rattle.std.proofs.lemmas.Bool.Decides.{nat_tests}
use Rattle.htl_event.specs.Events.{Event}
use Rattle.htl_event.specs.Slots.{base_of}
use Rattle.htl_event.specs.Handles.{ByBase}
use Rattle.htl_event.specs.Members.{Lists, IsRising}
use Rattle.htl_event.proofs.Members.{at_member, each_member, filter-pass, filter-skip, Contains-filter, Contains-from_filter}
use Rattle.htl_sorted.specs.Entries.{IsSorted}
use Rattle.htl_sorted.proofs.Places.{rising}
use Rattle.htl_tables.specs.Keys.{key_cmp, key_of, keyed, ByKey}
use Rattle.htl_tables.specs.RowOrder.{AreByProcess}
use Rattle.htl_tables.specs.Latest.{HasEventOf}
use Rattle.htl_tables.proofs.Tables.{rows_listed}
use Rattle.htl_tables.proofs.KeyOrder.{key_total}

-- ---- a part of a list, between what fails a test

module _ {X : Type 0} (test : X → Bool) where
  none_pass : (xs : List X) → ((k : ℕ) (d : X) → k < length xs → test (get_or xs k d) ≡ false) → filter test xs ≡ []
  none_pass [] fails = refl
  none_pass (x ∷ xs) fails = filter-skip test x xs (fails 0 x (omega arith)) ∙ none_pass xs (λ k d lt. fails (suc k) d (omega (arith, lt)))

  first_pass : (n : ℕ) (xs : List X) → n ≤ length xs → ((k : ℕ) (d : X) → k < n → test (get_or xs k d) ≡ true)
      → ((k : ℕ) (d : X) → n ≤ k → k < length xs → test (get_or xs k d) ≡ false)
      → take n xs ≡ filter test xs
  first_pass zero xs le passes fails = sym (none_pass xs (λ k d lt. fails k d (omega arith) lt))
  first_pass (suc n) [] le passes fails = refl
  first_pass (suc n) (x ∷ xs) le passes fails =
      ap (λ l. x ∷ l) (first_pass n xs (omega (arith, le)) (λ k d lt. passes (suc k) d (omega (arith, lt)))
      (λ k d ge lt. fails (suc k) d (omega (arith, ge)) (omega (arith, lt))))
      ∙ sym (filter-pass test x xs (passes 0 x (omega arith)))

  middle_passes : (m n : ℕ) (xs : List X) → n ≤ length (drop m xs)
      → ((k : ℕ) (d : X) → k < m → k < length xs → test (get_or xs k d) ≡ false)
      → ((k : ℕ) (d : X) → k < n → test (get_or (drop m xs) k d) ≡ true)
      → ((k : ℕ) (d : X) → n ≤ k → k < length (drop m xs) → test (get_or (drop m xs) k d) ≡ false)
      → take n (drop m xs) ≡ filter test xs
  middle_passes zero n xs le below passes fails = first_pass n xs le passes fails
  middle_passes (suc m) n [] le below passes fails = first_pass n [] le passes fails
  middle_passes (suc m) n (x ∷ xs) le below passes fails =
      middle_passes m n xs le (λ k d lt in_range. below (suc k) d (omega (arith, lt)) (omega (arith, in_range))) passes fails
      ∙ sym (filter-skip test x xs (below 0 x (omega arith) (omega arith)))

-- ---- rows by process

less_le : (a b : Event) → key_cmp (key_of a) (key_of b) ≡ Less → a.process ≤ b.process
less_le a b order =
    let order' = order in
    grind (arith, nat_tests)

-- rows in order of their keys are in order of their processes
pub by_process : (rows : List Event) → IsSorted key_cmp (keyed rows) → AreByProcess rows
by_process rows sorted i j d le lt =
    elim (cases_lt i j) [
      | inl before ↦ less_le (get_or rows i d) (get_or rows j d) (rising key_of (λ (e : Event). e) key_total rows sorted i j d before lt)
      | inr past ↦ let same : i ≡ j = omega (arith, le, past) in rw same (omega arith)
    ]

-- the event is of a lower process
abbrev pub is_below : ℕ → Event → Bool
is_below process e = nat_lt e.process process

-- the event is of this process
abbrev pub is_there : ℕ → Event → Bool
is_there process e = e.process == process

module _ (rows : List Event) (process : ℕ) (ordered : AreByProcess rows) where
  -- rows by process are parted into those of lower processes and the others
  pub below_parted : IsPartitionedBy (is_below process) rows
  below_parted i j d le lt t =
      let up = ordered i j d le lt in
      let below = ltb-true (get_or rows j d).process process t in
      lt-ltb (get_or rows i d).process process (omega (arith, up, below))

  module _ (start : ℕ) (point : IsPartitionPoint (λ e. is_below process e ≡ true) (λ e. is_below process e ≡ false) rows start) where
    shifted : (k : ℕ) (d : Event) → get_or (drop start rows) k d ≡ get_or rows (start + k) d
    shifted k d = get_or-drop start rows k d

    at_least : (k : ℕ) (d : Event) → k < length (drop start rows) → process ≤ (get_or (drop start rows) k d).process
    at_least k d lt =
        let within : start + k < length rows = omega (arith, lt, length-drop start rows) in
        let test = point.1 (start + k) d (omega arith) within in
        rw (shifted k d) (elim (cases_lt (get_or rows (start + k) d).process process) [
          | inl below ↦ absurd (both_ways (is_below process (get_or rows (start + k) d)) test (lt-ltb _ _ below))
          | inr le ↦ le
        ])

    -- the rows from the first of a process on are parted into its own and the others
    pub there_parted : IsPartitionedBy (is_there process) (drop start rows)
    there_parted i j d le lt t =
        let within : start + j < length rows = omega (arith, lt, length-drop start rows) in
        let up = ordered (start + i) (start + j) d (omega (arith, le)) within in
        let from = at_least i d (omega (arith, le, lt)) in
        let same = eqb-true (get_or (drop start rows) j d).process process t in
        let is_i = ap (λ (e : Event). e.process) (shifted i d) in
        let is_j = ap (λ (e : Event). e.process) (shifted j d) in
        eq-eqb (get_or (drop start rows) i d).process process (omega (arith, up, from, same, is_i, is_j))

    -- as many rows as the search cuts off there are all rows of the process
    pub together : (len : ℕ) → len ≤ length (drop start rows)
        → IsPartitionPoint (λ e. is_there process e ≡ true) (λ e. is_there process e ≡ false) (drop start rows) len
        → take len (drop start rows) ≡ filter (is_there process) rows
    together len le there =
        middle_passes (is_there process) start len rows le
        (λ k d lt in_range. (let below = ltb-true (get_or rows k d).process process (point.0 k d (omega arith) lt) in
        ne_eqb (get_or rows k d).process process (λ e. omega (arith, below, e))))
        (λ k d lt. there.0 k d (omega arith) lt) (λ k d ge lt. there.1 k d ge lt)

-- ---- what they list

less_base : (a b : Event) → key_cmp (key_of a) (key_of b) ≡ Less → a.process ≡ b.process → base_of a.handle < base_of b.handle
less_base a b order owner =
    let order' = order in
    let owner' = owner in
    grind (arith, nat_tests)

by_base : (process : ℕ) (rows : List Event) → IsRising ByKey rows → IsRising ByBase (filter (is_there process) rows)
by_base process [] r = tt
by_base process (row ∷ rows) r =
    elim (cases_eq row.process process) [
      | inl is ↦ rw (filter-pass (is_there process) row rows (eq-eqb row.process process is)) (
        each_member (ByBase row) (filter (is_there process) rows) (λ e h.
            let there = Contains-from_filter (is_there process) rows e h in
            less_base row e (at_member (ByKey row) rows e r.0 there.0) (is ∙ sym (eqb-true e.process process there.1))),
        by_base process rows r.1,
      )
      | inr ne ↦ rw (filter-skip (is_there process) row rows (ne_eqb row.process process ne)) (by_base process rows r.1)
    ]

-- the rows of a process list its events by base handle
pub process_listed : (rows : List Event) (process : ℕ) → IsSorted key_cmp (keyed rows)
    → Lists ByBase (HasEventOf rows process) (filter (is_there process) rows)
process_listed rows process sorted =
    let whole = rows_listed rows sorted in
    record {
      rising = by_base process rows whole.rising;
      members = λ e. (
        (λ h. let there = Contains-from_filter (is_there process) rows e h in
            (eqb-true e.process process there.1, (whole.members e).0 there.0)),
        (λ has. Contains-filter (is_there process) rows e ((whole.members e).1 has.1) (eq-eqb e.process process has.0)),
      );
    }
