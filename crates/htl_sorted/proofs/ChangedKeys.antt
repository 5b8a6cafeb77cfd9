-- Where all keys of a list are changed alike, entries are found as before, and the list stays sorted.
use Rattle.std.proofs.Common.{◌≡◌, List, [], ◌∷◌, map, Some, None, T, false, cond, refl, sym, ap, subst}
use Rattle.std.specs.Ordering.{is_lt, is_eq, eq_by_cmp}
use Rattle.std.specs.declared.cmp.Ordering.{Ordering}
use Rattle.std.specs.declared.cmp.Ordering.TheVariants.{Less}
use Rattle.std.specs.FinMap.Entries.{find, below_all}
use Rattle.htl_sorted.specs.Entries.{IsSorted, Each}
use Rattle.htl_lemmas.proofs.Tests.{both, both_left, both_right}

module _ {J K X : Type 0} (h : K → J) (S : J → J → Ordering) where
  -- a key that no changed key ties with
  pub find-map_other : (q : J) → ((k : K) → eq_by_cmp S q (h k) ≡ false) → (es : List (K × X))
      → find S q (map (λ e. (h e.0, e.1)) es) ≡ None
  find-map_other q apart [] = refl
  find-map_other q apart (e ∷ es) = rw (apart e.0) (find-map_other q apart es)

  -- a key below all changed keys
  pub below-map : (q : J) → ((k : K) → S q (h k) ≡ Less) → (es : List (K × X)) → T (below_all S q (map (λ e. (h e.0, e.1)) es))
  below-map q less [] = tt
  below-map q less (e ∷ es) = both _ _ (subst (λ r. T (is_lt r)) (sym (less e.0)) tt) (below-map q less es)

  module _ (R : K → K → Ordering) (same : (k j : K) → S (h k) (h j) ≡ R k j) where
    -- a key is found among keys that were changed alike as the unchanged key is among the unchanged
    pub find-map_key : (q : K) (es : List (K × X)) → find S (h q) (map (λ e. (h e.0, e.1)) es) ≡ find R q es
    find-map_key q [] = refl
    find-map_key q (e ∷ es) = rw (same q e.0) (ap (λ o. cond (is_eq (R q e.0)) (Some e.1) o) (find-map_key q es))

    below-map_key : (q : K) (es : List (K × X)) → T (below_all R q es) → T (below_all S (h q) (map (λ e. (h e.0, e.1)) es))
    below-map_key q [] b = tt
    below-map_key q (e ∷ es) b = both _ _ (subst (λ r. T (is_lt r)) (sym (same q e.0)) (both_left _ _ b))
        (below-map_key q es (both_right _ _ b))

    -- a list whose keys are changed alike, in a way that keeps their order, stays sorted
    pub sorted-map_key : (es : List (K × X)) → IsSorted R es → IsSorted S (map (λ e. (h e.0, e.1)) es)
    sorted-map_key [] s = tt
    sorted-map_key (e ∷ es) s = both _ _ (below-map_key e.0 es (both_left _ _ s)) (sorted-map_key es (both_right _ _ s))

  -- what holds of each value still does where only the keys are changed
  pub each-map_key : (P : X → Type 0) (es : List (K × X)) → Each P es → Each P (map (λ e. (h e.0, e.1)) es)
  each-map_key P [] all = tt
  each-map_key P (e ∷ es) all = (all.0, each-map_key P es all.1)
