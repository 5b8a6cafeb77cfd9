-- A table that gains a range which overlaps none is a table.
use Rattle.std.proofs.Common.{◌≡◌, ◌≢◌, ◌≤◌, ◌<◌, ◌⊎◌, [], ◌∷◌, ℕ, false, List, get_or, inl, inr, length, refl, arith}
use Rattle.std.proofs.Common.{sym, ap, IsPermutation}
use Rattle.std.specs.BTreeMap.{BTreeMap, IsOrdered, insert_entry}
use Rattle.std.specs.List.{Contains, list_any}
use Rattle.std.specs.List.Sorted.{IsStrictlySortedBy}
use Rattle.std.specs.Map.{keys_of}
use Rattle.std.specs.Ordering.{nat_cmp}
use Rattle.std.proofs.lemmas.Bool.{cases_order, le-ltb, lt-ltb, ne_eqb}
use Rattle.std.proofs.lemmas.List.{get_or-map, length-map}
use Rattle.std.proofs.lemmas.List.Elements.{All-contains, Contains-get_or}
use Rattle.std.proofs.lemmas.List.Sorted.{Contains-permutation, IsPermutation-cons, IsPermutation-refl}
use Rattle.std.proofs.lemmas.List.Sorted.{IsPermutation-swap, IsPermutation-sym, IsPermutation-trans}
use Rattle.std.proofs.lemmas.Map.Keys.{below_from_sorted}
use Rattle.htl_symbols.specs.Ranges.{IsTable, Range, meets}
use Rattle.htl_symbols.specs.Symbols.{range_of, ranges_of}
use Rattle.htl_symbols.specs.declared.symbols.Symbol.{Symbol}
use Rattle.htl_event.proofs.Members.{Contains-cases, Contains-here, Contains-map, Contains-there}
use Rattle.htl_symbols.proofs.LastBegun.{apart}
use Rattle.htl_symbols.proofs.Overlaps.{not-met}

-- an entry of the map
abbrev Entry : Type 0
Entry = ℕ × Symbol

-- an entry of a new key goes somewhere into the list
insert_entry-IsPermutation : (es : List Entry) (k : ℕ) (v : Symbol) → ((e : Entry) → Contains es e → e.0 ≢ k)
    → IsPermutation ((k, v) ∷ es) (insert_entry nat_cmp es k v)
insert_entry-IsPermutation [] k v new = IsPermutation-refl ((k, v) ∷ [])
insert_entry-IsPermutation (e ∷ es) k v new = elim (cases_order k e.0) [
  | inl same ↦ absurd (new e (Contains-here e es) (sym same))
  | inr (inl less) ↦ rw (lt-ltb k e.0 less) (IsPermutation-refl ((k, v) ∷ e ∷ es))
  | inr (inr more) ↦
      let later = insert_entry-IsPermutation es k v (λ f there. new f (Contains-there e es f there)) in
      rw (le-ltb k e.0 (omega arith), ne_eqb k e.0 (λ same. omega arith)) (
      IsPermutation-trans ((k, v) ∷ e ∷ es) (e ∷ (k, v) ∷ es) (e ∷ insert_entry nat_cmp es k v)
      (IsPermutation-swap ((k, v) ∷ e ∷ es) (e ∷ (k, v) ∷ es) 0 1 (omega arith) (omega arith) refl)
      (IsPermutation-cons e ((k, v) ∷ es) (insert_entry nat_cmp es k v) later)
      )
]

-- sorted entries that are filled and of which each ends before those that start later are a table
IsTable-from_entries : (es : List Entry) → IsStrictlySortedBy nat_cmp (keys_of es) → ((e : Entry) → Contains es e → e.0 < e.1.end)
    → ((e f : Entry) → Contains es e → Contains es f → e.0 < f.0 → e.1.end ≤ f.0) → IsTable (ranges_of es)
IsTable-from_entries [] sorted filled apart =
    record { filled = λ k d below. absurd (omega arith); rising = λ i j d less below. absurd (omega arith) }
IsTable-from_entries (e ∷ es) sorted filled apart =
    record {
      filled = λ k d below. rw (range_at k d (within k below))
          (filled (entry k) (Contains-get_or (e ∷ es) k e (within k below)));
      rising = rising;
    }
  where
    entry : ℕ → Entry
    entry k = get_or (e ∷ es) k e

    within : (k : ℕ) → k < length (ranges_of (e ∷ es)) → k < length (e ∷ es)
    within k below = rw (length-map (e ∷ es) range_of) at below

    range_at : (k : ℕ) (d : Range) → k < length (e ∷ es) → get_or (ranges_of (e ∷ es)) k d ≡ range_of (get_or (e ∷ es) k e)
    range_at k d below = get_or-map range_of (e ∷ es) k e d below

    key_at : (k : ℕ) → k < length (e ∷ es) → get_or (keys_of (e ∷ es)) k 0 ≡ (get_or (e ∷ es) k e).0
    key_at k below = get_or-map (λ f. f.0) (e ∷ es) k e 0 below

    rising : (i j : ℕ) (d : Range) → i < j → j < length (ranges_of (e ∷ es))
        → (get_or (ranges_of (e ∷ es)) i d).end ≤ (get_or (ranges_of (e ∷ es)) j d).start
    rising i j d less below =
        let j-below : j < length (e ∷ es) = within j below in
        let i-below : i < length (e ∷ es) = omega arith in
        let keys-below : j < length (keys_of (e ∷ es)) = rw length-map j-below in
        let starts = rw (key_at i i-below, key_at j j-below) at (below_from_sorted (keys_of (e ∷ es)) i j 0 sorted less keys-below) in
        rw (range_at i d i-below, range_at j d j-below) (
        apart (get_or (e ∷ es) i e) (get_or (e ∷ es) j e) (Contains-get_or (e ∷ es) i e i-below) (Contains-get_or (e ∷ es) j e j-below)
        starts
        )

-- the key of a range that overlaps none is new
pub new-key : (m : BTreeMap ℕ Symbol) (start : ℕ) (v : Symbol) → IsOrdered nat_cmp m → IsTable (ranges_of m.entries) → start < v.end
    → list_any (meets start v.end) (ranges_of m.entries) ≡ false → (e : Entry) → Contains m.entries e → e.0 ≢ start
new-key m start v o t some none e there same =
    let listed = Contains-map range_of m.entries e there in
    let filled = All-contains (λ r. r.start < r.end) (ranges_of m.entries) (range_of e) t.filled listed in
    elim (not-met (ranges_of m.entries) start v.end (range_of e) none listed) [
      | inl behind ↦ absurd (omega arith)
      | inr before ↦ absurd (omega arith)
    ]

-- what the map has after the insertion
pub gains : (m n : BTreeMap ℕ Symbol) (start : ℕ) (v : Symbol) → IsOrdered nat_cmp m → IsTable (ranges_of m.entries) → start < v.end
    → list_any (meets start v.end) (ranges_of m.entries) ≡ false → n.entries ≡ insert_entry nat_cmp m.entries start v
    → IsPermutation ((start, v) ∷ m.entries) n.entries
gains m n start v o t some none e = rw e (insert_entry-IsPermutation m.entries start v (new-key m start v o t some none))

-- and it is a table again
pub IsTable-insert : (m n : BTreeMap ℕ Symbol) (start : ℕ) (v : Symbol) → IsOrdered nat_cmp m → IsOrdered nat_cmp n
    → IsTable (ranges_of m.entries)
    → start < v.end → list_any (meets start v.end) (ranges_of m.entries) ≡ false
    → n.entries ≡ insert_entry nat_cmp m.entries start v → IsTable (ranges_of n.entries)
IsTable-insert m n start v o p t some none e = IsTable-from_entries n.entries p filled ordered
  where
    moved : IsPermutation ((start, v) ∷ m.entries) n.entries
    moved = gains m n start v o t some none e

    from : (e : Entry) → Contains n.entries e → (e ≡ (start, v)) ⊎ Contains m.entries e
    from e there =
        let back = IsPermutation-sym ((start, v) ∷ m.entries) n.entries moved in
        elim (Contains-cases (start, v) m.entries e (Contains-permutation n.entries ((start, v) ∷ m.entries) e back there)) [
          | inl is ↦ inl (sym is)
          | inr old ↦ inr old
        ]

    old-filled : (e : Entry) → Contains m.entries e → e.0 < e.1.end
    old-filled e there = All-contains (λ r. r.start < r.end) (ranges_of m.entries) (range_of e) t.filled
        (Contains-map range_of m.entries e there)

    filled : (e : Entry) → Contains n.entries e → e.0 < e.1.end
    filled e there = elim (from e there) [ inl new ↦ rw new some | inr old ↦ old-filled e old ]

    -- the new range and an old one
    beside : (e : Entry) → Contains m.entries e → (v.end ≤ e.0) ⊎ (e.1.end ≤ start)
    beside e there = not-met (ranges_of m.entries) start v.end (range_of e) none (Contains-map range_of m.entries e there)

    ordered : (e f : Entry) → Contains n.entries e → Contains n.entries f → e.0 < f.0 → e.1.end ≤ f.0
    ordered e f e-there f-there less = elim (from e e-there) [
      | inl e-new ↦ elim (from f f-there) [
        | inl f-new ↦ absurd (omega (arith, ap (λ x. x.0) e-new, ap (λ x. x.0) f-new))
        | inr f-old ↦ rw e-new (new-first f f-old (rw e-new at less))
      ]
      | inr e-old ↦ elim (from f f-there) [
        | inl f-new ↦ rw f-new (new-last e e-old (rw f-new at less))
        | inr f-old ↦ apart (ranges_of m.entries) (range_of e) (range_of f) t (Contains-map range_of m.entries e e-old)
            (Contains-map range_of m.entries f f-old) less
      ]
    ]
      where
        new-first : (f : Entry) → Contains m.entries f → start < f.0 → v.end ≤ f.0
        new-first f old less = let filled =
            old-filled f old in elim (beside f old) [ inl behind ↦ behind | inr before ↦ absurd (omega arith) ]

        new-last : (e : Entry) → Contains m.entries e → e.0 < start → e.1.end ≤ start
        new-last e old less = elim (beside e old) [ inl behind ↦ absurd (omega arith) | inr before ↦ before ]
