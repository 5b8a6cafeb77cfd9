-- Beside the last range of a table that begins by an address, the others end before it or start after the address.
use Rattle.std.proofs.Common.{◌≡◌, ◌≤◌, ◌<◌, ◌⊎◌, ℕ, false, List, Some, None, get_or, inl, inr, refl, arith, sym, ap, subst, ◌∙◌}
use Rattle.std.specs.BTreeMap.{BTreeMap, IsOrdered, get}
use Rattle.std.specs.List.{All, Contains}
use Rattle.std.specs.Option.{IsSome}
use Rattle.std.specs.Ordering.{is_gt, nat_cmp}
use Rattle.std.proofs.lemmas.Bool.{cases_lt, cases_order, eq-eqb, le-ltb, lt-ltb}
use Rattle.std.proofs.lemmas.Cmp.{nat_cmp_total}
use Rattle.std.proofs.Math.Nat.{eq-or-lt_of_le}
use Rattle.std.proofs.lemmas.List.{get_or_default}
use Rattle.std.proofs.lemmas.List.Elements.{All-contains, Contains-get_or}
use Rattle.std.proofs.lemmas.Map.Lookups.{exact_unsigned}
use Rattle.std.proofs.lemmas.Map.Views.{btree_map_get_iff}
use Rattle.std.proofs.lemmas.Option.{none-some, same_Some}
use Rattle.htl_symbols.specs.Ranges.{IsTable, Range}
use Rattle.htl_symbols.specs.Symbols.{IsLastBegun, range_of, ranges_of}
use Rattle.htl_symbols.specs.declared.symbols.Symbol.{Symbol}
use Rattle.htl_event.proofs.Members.{Contains-map, Contains-from_map}

-- the other ranges of a table whose last range that begins by the address is r
pub cases_begun : (table : List Range) (address : ℕ) (r q : Range) → IsLastBegun table address r → Contains table q
    → (q ≡ r) ⊎ ((q.end ≤ r.start) ⊎ (address < q.start))
cases_begun table address r q l listed = elim (cases_order q.start address) [
  | inl same ↦ begun (omega arith)
  | inr (inl less) ↦ begun (omega arith)
  | inr (inr more) ↦ inr (inr more)
]
  where
    begun : q.start ≤ address → (q ≡ r) ⊎ ((q.end ≤ r.start) ⊎ (address < q.start))
    begun le = elim (l.last q listed le) [ inl same ↦ inl same | inr before ↦ inr (inl before) ]

-- how the order of a map's keys says that one is at most another
pub not_gt_from_le : (a b : ℕ) → a ≤ b → is_gt (nat_cmp a b) ≡ false
not_gt_from_le a b le = elim (eq-or-lt_of_le le) [
  | inl same ↦ rw (same, le-ltb b b (omega arith), eq-eqb b b refl) refl
  | inr less ↦ rw (lt-ltb a b less) refl
]

-- of two ranges of a table, the one that starts first ends before the other
pub apart : (table : List Range) (a b : Range) → IsTable table → Contains table a → Contains table b → a.start < b.start → a.end ≤ b.start
apart table a b t (i, i-below, i-at) (j, j-below, j-at) less =
    let at : get_or table j a ≡ b = get_or_default table j a b j-below ∙ j-at in
    elim (cases_order i j) [
      | inl same ↦ let equal : a ≡ b = sym i-at ∙ ap (λ k. get_or table k a) same ∙ at in absurd (omega (arith, ap (λ r. r.start) equal))
      | inr (inl before) ↦ let rising = rw (i-at, at) at (t.rising i j a before j-below) in rising
      | inr (inr after) ↦
          let rising = rw (i-at, at) at (t.rising j i a after i-below) in
          let filled = rw at at (t.filled j a j-below) in
          absurd (omega arith)
    ]

-- the entry e of a map, the last whose key is at most the address, is the last range that begins by it
pub IsLastBegun-from_map : (m : BTreeMap ℕ Symbol) (address : ℕ) (e : ℕ × Symbol) → IsOrdered nat_cmp m → IsTable (ranges_of m.entries)
    → e.0 ≤ address → get nat_cmp m e.0 ≡ Some e.1 → ((k : ℕ) → k ≤ address → IsSome (get nat_cmp m k) → k ≤ e.0)
    → IsLastBegun (ranges_of m.entries) address (range_of e)
IsLastBegun-from_map m address e o t begun at last = record {
  listed = listed;
  filled = All-contains (λ r. r.start < r.end) (ranges_of m.entries) (range_of e) t.filled listed;
  begun = begun;
  last = λ q there le. let from =
      Contains-from_map range_of m.entries q there in (rw (sym from.2) (of_entry from.0 from.1 (rw (sym from.2) at le)));
}
  where
    listed : Contains (ranges_of m.entries) (range_of e)
    listed = Contains-map range_of m.entries e ((btree_map_get_iff nat_cmp_total exact_unsigned m o e.0 e.1).0 at)

    of_entry : (f : ℕ × Symbol) → Contains m.entries f → f.0 ≤ address → (range_of f ≡ range_of e) ⊎ (f.1.end ≤ e.0)
    of_entry f there le =
        let found = (btree_map_get_iff nat_cmp_total exact_unsigned m o f.0 f.1).1 there in
        elim (eq-or-lt_of_le (last f.0 le (rw found refl))) [
          | inl same ↦ inl (ap range_of (pair f e same (same_Some f.1 e.1 (sym found ∙ ap (get nat_cmp m) same ∙ at))))
          | inr less ↦ inr (apart (ranges_of m.entries) (range_of f) (range_of e) t (Contains-map range_of m.entries f there) listed less)
        ]
      where
        pair : (f e : ℕ × Symbol) → f.0 ≡ e.0 → f.1 ≡ e.1 → f ≡ e
        pair (k, v) (l, w) p q = cc

-- no range begins by an address that is below every key
pub begin-after_from_map : (m : BTreeMap ℕ Symbol) (address : ℕ) → IsOrdered nat_cmp m
    → ((k : ℕ) → k ≤ address → get nat_cmp m k ≡ None) → All (λ r. address < r.start) (ranges_of m.entries)
begin-after_from_map m address o none = λ k d below.
    let e = Contains-from_map range_of m.entries _ (Contains-get_or (ranges_of m.entries) k d below) in
    let P : Range → Type 0 = λ r. address < r.start in
    subst P e.2 (after e.0 e.1)
  where
    after : (e : ℕ × Symbol) → Contains m.entries e → address < e.0
    after e there = elim (cases_lt address e.0) [
      | inl less ↦ less
      | inr le ↦ let found = (btree_map_get_iff nat_cmp_total exact_unsigned m o e.0 e.1).1 there in absurd
          (none-some e.1 (sym (none e.0 le) ∙ found))
    ]
