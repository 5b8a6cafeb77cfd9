-- In the order of sort keys, of one handle the later event's key comes first, and of one sequence the first of the list.
use Rattle.std.proofs.Common.{◌≡◌, ℕ, ◌<◌, ◌≤◌, true, false, List, get_or, Some, ap, ◌⊎◌, arith, slice_get, IsSorted}
use Rattle.std.specs.Ordering.{is_lt}
use Rattle.std.specs.Cmp.{IsTotalOrder, tied_itself}
use Rattle.std.proofs.lemmas.Bool.Decides.{nat_tests}
use Rattle.std.proofs.lemmas.Option.{slice_get_within, get_or_from_slice_get}
use Rattle.std.proofs.lemmas.List.Sorted.{sorted_far, ranks_by}
use Rattle.htl_event.specs.Events.{Event}
use Rattle.htl_event.specs.Slots.{base_of}
use Rattle.htl_tables.specs.declared.sort_key.SortKey.{SortKey}
use Rattle.htl_tables.specs.contracts.sort_key.SortKeyOrd.TheImpl.Laws.{total-law}
use Rattle.htl_tables.specs.SortKeys.{sort_key_cmp, sort_key_of}

pub sort_key_total : IsTotalOrder sort_key_cmp
sort_key_total = total-law

-- the key b comes no later than a, and c no later than b
pub no_later-trans : (a b c : SortKey) → is_lt (sort_key_cmp a b) ≡ false → is_lt (sort_key_cmp b c) ≡ false
    → is_lt (sort_key_cmp a c) ≡ false
no_later-trans a b c ab bc = (ranks_by sort_key_total (λ (x : SortKey). x)).chain a b c ab bc

-- a sort key comes no later than itself
pub no_later-same : (k : SortKey) → is_lt (sort_key_cmp k k) ≡ false
no_later-same k = ap is_lt (tied_itself sort_key_total k)

-- what comes before comes no later
pub less_no_later : (a b : SortKey) → is_lt (sort_key_cmp a b) ≡ true → is_lt (sort_key_cmp b a) ≡ false
less_no_later a b order = (ranks_by sort_key_total (λ (x : SortKey). x)).one_way a b order

-- keys that stand in order
pub sorted_no_later : (keys : List SortKey) → IsSorted sort_key_cmp keys → (j k : ℕ) (t u : SortKey) → j ≤ k → slice_get keys j ≡ Some t
    → slice_get keys k ≡ Some u
    → is_lt (sort_key_cmp u t) ≡ false
sorted_no_later keys sorted j k t u le at_j at_k =
    let far = sorted_far (λ (x y : SortKey). is_lt (sort_key_cmp x y))
    (ranks_by sort_key_total (λ (x : SortKey). x)) keys sorted j k t le (slice_get_within keys k u at_k) in
    let first : get_or keys j t ≡ t = get_or_from_slice_get keys j t t at_j in
    let second : get_or keys k t ≡ u = get_or_from_slice_get keys k u t at_k in
    rw (first, second) at far

-- of two keys of one handle the later event's comes first, and of one sequence the first of the list
pub in_order : (a b : Event) (r s i j : ℕ) → is_lt (sort_key_cmp (sort_key_of b s j) (sort_key_of a r i)) ≡ false
    → a.process ≡ b.process → base_of a.handle ≡ base_of b.handle
    → (b.sequence < a.sequence) ⊎ ((b.sequence ≡ a.sequence) × ((r < s) ⊎ ((r ≡ s) × (i ≤ j))))
in_order a b r s i j order process base =
    let order' = order in
    grind (arith, nat_tests)
