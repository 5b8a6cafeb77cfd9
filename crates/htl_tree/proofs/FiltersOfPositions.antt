-- A position has the filters of all that is counted there and further in: as it is made, changed and put together with others.
use Rattle.std.proofs.Common.{◌≡◌, ◌≢◌, ◌∙◌, ℕ, List, [], ◌∷◌, Option, Some, None, true, false, cond, refl, sym, ap, subst, inl, inr}
use Rattle.std.specs.Cmp.{nat_cmp_total}
use Rattle.std.specs.Ordering.{nat_cmp, eq_by_cmp}
use Rattle.std.specs.FinMap.{nat_cmp-IsAntisymmetric}
use Rattle.std.specs.FinMap.Entries.{find, put}
use Rattle.std.specs.Int.Bits.{bit_or}
use Rattle.std.proofs.lemmas.Bool.{cases_eq}
use Rattle.htl_event.specs.declared.slot.Slot.{Slot}
use Rattle.htl_event.specs.declared.slot.Count.{Count}
use Rattle.htl_event.specs.Tallies.{plus_count, IsPositive}
use Rattle.htl_sorted.proofs.Finds.{find_put_same, find_put_other}
use Rattle.htl_tree.specs.Filters.{filter_of, HasFilter, HasFiltersOf, HaveFilters}
use Rattle.htl_tree.specs.declared.node.Node.{Node}
use Rattle.htl_tree.specs.Nodes.{Position, inside, counts, filters, children, tally, count_in, at_child, HasFilters, IsNormal, IsNormalPosition}
use Rattle.htl_tree.proofs.FilterBits.{or_left, or_right, not_zero, counted_has_filter, filters_list, either_positive}
use Rattle.htl_tree.proofs.Positions.{before}

-- the filters of either number are in both together
pub has_left : (m n : ℕ) → HasFiltersOf (bit_or m n) m
has_left m n s h = or_left m n (filter_of s) h

pub has_right : (m n : ℕ) → HasFiltersOf (bit_or m n) n
has_right m n s h = or_right m n (filter_of s) h

module _ {A : Type 0} where
  -- the counts at a position have their filters there
  pub counts_have_filters : (n : Position A) → IsNormalPosition n → HaveFilters (filters n) (counts n)
  counts_have_filters n h = filters_list (filters n) (counts n) h.slots h.positive (λ s some. h.filtered [] s some)

  -- where nothing is counted further in
  pub filters_end : (m : Position A) → HaveFilters (filters m) (counts m) → children m ≡ [] → HasFilters m
  filters_end m counts_here none [] s some = counted_has_filter (filters m) s (counts m) counts_here some
  filters_end m counts_here none (f ∷ p) s some =
      absurd (not_zero (subst IsPositive (ap (λ ks. at_child (λ c. tally p s c) (find nat_cmp f ks)) none) some))

  -- where one position is further in, and nothing is counted here
  pub filters_on : (m c : Position A) (f : ℕ) → counts m ≡ [] → children m ≡ (f, c) ∷ [] → HasFiltersOf (filters m) (filters c) → HasFilters c → HasFilters m
  filters_on m c f o k w h [] s some =
      absurd (not_zero (subst IsPositive (ap (λ es. count_in es s) o) some))
  filters_on m c f o k w h (g ∷ p) s some =
      (elim (eq_by_cmp nat_cmp g f) as (λ b. IsPositive (at_child (λ c. tally p s c) (cond b (Some c) None)) → HasFilter (filters m) s) [
        | true ↦ λ there. w s (h p s there)
        | false ↦ λ none. absurd (not_zero none)
      ]) (subst IsPositive (ap (λ ks. at_child (λ c. tally p s c) (find nat_cmp g ks)) k) some)

  -- where a frame comes before the position
  pub filters_before : (f : ℕ) (c : Position A) → HasFilters c → HasFilters (before f c)
  filters_before f c h = filters_on (before f c) c f refl refl (λ s is. is) h

  -- where other counts are here, and the same further in
  pub filters_counts : (n m : Position A) → children m ≡ children n → HaveFilters (filters m) (counts m) → HasFiltersOf (filters m) (filters n)
      → HasFilters n → HasFilters m
  filters_counts n m k here w h [] s some = counted_has_filter (filters m) s (counts m) here some
  filters_counts n m k here w h (f ∷ p) s some =
      w s (h (f ∷ p) s (subst IsPositive (ap (λ ks. at_child (λ c. tally p s c) (find nat_cmp f ks)) k) some))

  -- where one of the positions further in is another
  pub filters_child : (n m : Position A) (f : ℕ) (c : Position A) → counts m ≡ counts n → children m ≡ put nat_cmp f c (children n)
      → HasFiltersOf (filters m) (filters n) → HasFiltersOf (filters m) (filters c) → HasFilters n → HasFilters c → HasFilters m
  filters_child n m f c o k w v h there [] s some = w s (h [] s (subst (λ es. IsPositive (count_in es s)) o some))
  filters_child n m f c o k w v h there (g ∷ p) s some = elim (cases_eq g f) [
    | inl same ↦ v s (there p s (rw_same same))
    | inr other ↦ w s (h (g ∷ p) s (rw_other other))
  ]
    where
      at : Option (Position A) → Count
      at o = at_child (λ c. tally p s c) o

      put_there : IsPositive (at (find nat_cmp g (put nat_cmp f c (children n))))
      put_there = subst IsPositive (ap (λ ks. at (find nat_cmp g ks)) k) some

      rw_same : g ≡ f → IsPositive (tally p s c)
      rw_same same = subst IsPositive (ap at (ap (λ q. find nat_cmp q (put nat_cmp f c (children n))) same
          ∙ find_put_same nat_cmp nat_cmp_total f c (children n))) put_there

      rw_other : g ≢ f → IsPositive (at (find nat_cmp g (children n)))
      rw_other other = subst IsPositive (ap at (find_put_other nat_cmp nat_cmp_total nat_cmp-IsAntisymmetric g f c (children n) other)) put_there

  -- where the node has the filters of that position too
  pub more_filters : (n m : Node A) (c : Position A) (f : ℕ) → counts (inside m) ≡ counts (inside n)
      → children (inside m) ≡ put nat_cmp f c (children (inside n)) → filters (inside m) ≡ bit_or (filters (inside n)) (filters c)
      → IsNormal (inside n) → HasFilters c → HasFilters (inside m)
  more_filters n m c f o k w h there =
      let here : IsNormalPosition (inside n) = h.everywhere [] in
      filters_child (inside n) (inside m) f c o k (rw w (has_left (filters (inside n)) (filters c))) (rw w (has_right (filters (inside n)) (filters c)))
      here.filtered there

  -- where the same is counted
  pub filters_same : (n m : Position A) → filters m ≡ filters n → ((p : List ℕ) (s : Slot) → tally p s m ≡ tally p s n) → HasFilters n → HasFilters m
  filters_same n m w same h p s some = subst (λ k. HasFilter k s) (sym w) (h p s (subst IsPositive (same p s) some))

  -- where both positions' counts add up
  pub filters_sum : (a b c : Position A) → filters c ≡ bit_or (filters a) (filters b)
      → ((p : List ℕ) (s : Slot) → tally p s c ≡ plus_count (tally p s a) (tally p s b)) → HasFilters a → HasFilters b → HasFilters c
  filters_sum a b c w adds g h p s some = subst (λ k. HasFilter k s) (sym w)
      (elim (either_positive (tally p s a) (tally p s b) (subst IsPositive (adds p s) some)) [
        | inl left ↦ has_left (filters a) (filters b) s (g p s left)
        | inr right ↦ has_right (filters a) (filters b) s (h p s right)
      ])
