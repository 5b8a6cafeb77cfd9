-- A position to which a count was added, there or further in, counts one more at one path and else the same.
use Rattle.std.proofs.Common.{◌≡◌, ℕ, ◌≢◌, ◌++◌, List, [], ◌∷◌, Option, Some, None, Result, Ok}
use Rattle.std.proofs.Common.{Err, IfOk, MatchResult, IsErr, unwrap_or, refl, sym, inl, inr, ◌∙◌, ap, subst, arith}
use Rattle.std.specs.Cmp.{tied_itself, nat_cmp_total}
use Rattle.std.specs.Ordering.{nat_cmp}
use Rattle.std.specs.FinMap.{nat_cmp-IsAntisymmetric}
use Rattle.std.specs.Int.Bits.{bit_or}
use Rattle.std.specs.FinMap.Entries.{find, put, is_sorted-put}
use Rattle.std.proofs.lemmas.Bool.{cases_eq}
use Rattle.std.proofs.lemmas.List.{append-nil}
use Rattle.htl_event.specs.declared.slot.Slot.{Slot}
use Rattle.htl_event.specs.declared.slot.Sign.{Sign}
use Rattle.htl_event.specs.declared.slot.Sign.TheVariants.{Plus, Minus}
use Rattle.htl_event.specs.declared.slot.Count.{Count}
use Rattle.htl_event.specs.Tallies.{zero_count, IsPositive}
use Rattle.htl_sorted.specs.Entries.{IsSorted, Each}
use Rattle.htl_sorted.proofs.Finds.{find_put_same, find_put_other, each_put, put_some, each_found}
use Rattle.htl_event.specs.SlotOrder.{slot_cmp}
use Rattle.htl_event.specs.OrderLaws.{slot_total, slot_same}
use Rattle.htl_tree.specs.declared.node.Node.{Node}
use Rattle.htl_tree.specs.Trees.{add_one}
use Rattle.htl_tree.specs.Filters.{filter_of, HasFiltersOf, HaveFilters}
use Rattle.htl_tree.specs.Nodes.{Position, frames, counts_of, children_of, filters_at, filters, top, tops, inside}
use Rattle.htl_tree.specs.Nodes.{tally, tally_of, counts, children, at_child, IsNonEmpty, HasFilters, IsNormal, IsNormalPosition}
use Rattle.htl_tree.specs.Nodes.{AtChild, NormalAt, AddsOne, counted, IsAdded, IsKept, IsBranch}
use Rattle.htl_tree.proofs.FilterBits.{filters_counted}
use Rattle.htl_tree.proofs.FiltersOfPositions.{has_left, counts_have_filters, filters_end, filters_on, filters_before, filters_counts}
use Rattle.htl_tree.proofs.Positions.{before, find_before, frames_before}

-- a position in normal form is so at itself
pub normal_here : {A : Type 0} (n : Position A) → IsNormal n → IsNormalPosition n
normal_here n h = h.everywhere []

-- the child that is found at a frame of a position in normal form is in normal form
pub normal_child : {A : Type 0} (n : Position A) → IsNormal n → (f : ℕ) (c : Position A) → find nat_cmp f (children n) ≡ Some c → IsNormal c
normal_child {A} n h f c e = record { everywhere = λ p. subst (λ o. AtChild (λ c. NormalAt p c) o) e (h.everywhere (f ∷ p)) }

-- one more is more than nothing
pub add_one_positive : (sign : Sign) (c : Count) → IsPositive (add_one sign c)
add_one_positive Plus c = omega arith
add_one_positive Minus c = omega arith

-- a node with a count somewhere is not empty
pub nonempty_from : {A : Type 0} (n : Position A) (p : List ℕ) (s : Slot) → IsPositive (tally p s n) → IsNonEmpty n
nonempty_from n [] s h o k = let none : tally [] s n ≡ zero_count = ap (λ es. unwrap_or (find slot_cmp s es) zero_count) o in
    let h' : IsPositive zero_count = subst IsPositive none h in omega (arith, h')
nonempty_from n (f ∷ p) s h o k = let none : tally (f ∷ p) s n ≡ zero_count = ap (λ es. at_child (λ c. tally p s c) (find nat_cmp f es))
    k in let h' : IsPositive zero_count = subst IsPositive none h in omega (arith, h')

module _ {A : Type 0} (n m : Position A) where
  -- the same children
  pub normal_counts : children m ≡ children n → IsNormal n → IsSorted slot_cmp (counts m) → Each IsPositive (counts m) → HaveFilters (filters m) (counts m)
      → HasFiltersOf (filters m) (filters n) → IsNormal m
  normal_counts k h sorted positive filtered more = record { everywhere = at }
    where
      at : (p : List ℕ) → NormalAt p m
      at [] = let here = normal_here n h in
          record {
            slots = sorted;
            positive = positive;
            filtered = filters_counts n m k filtered more here.filtered;
            frames = rw k here.frames;
            nonempty = rw k here.nonempty;
          }
      at (f ∷ p) = rw k (h.everywhere (f ∷ p))

  -- a position with one more in its own counts, and the slot's filter, is the old one with one added there
  pub added_here : (s : Slot) (sign : Sign) → IsNormal n → counts m ≡ counted s sign (counts n) → filters m ≡ bit_or (filters n) (filter_of s)
      → children m ≡ children n → IsAdded [] s sign n m
  added_here s sign h more new k =
      let here = normal_here n h in
      record {
        normal = normal_counts k h (rw more (is_sorted-put slot_cmp slot_total s _ (counts n) here.slots))
            (rw more (each_put slot_cmp IsPositive s _ (counts n) (add_one_positive sign _) here.positive))
            (rw (more, new) (filters_counted (filters n) s sign (counts n) (counts_have_filters n here)))
            (rw new (has_left (filters n) (filter_of s)));
        counts = record {
          here = rw (more, find_put_same slot_cmp slot_total s _ (counts n)) refl;
          elsewhere = elsewhere;
        };
      }
    where
      elsewhere : (p : List ℕ) (t : Slot) → (p ≡ [] → t ≢ s) → tally p t m ≡ tally p t n
      elsewhere [] t differs = rw (more, find_put_other slot_cmp slot_total slot_same t s _ (counts n) (differs refl)) refl
      elsewhere (f ∷ p) t differs = rw k refl

  -- a position with the counts, filters and children of another is in normal form and counts the same
  pub kept_counts : IsNormal n → counts m ≡ counts n → filters m ≡ filters n → children m ≡ children n → IsKept n m
  kept_counts h o w k =
      let here = normal_here n h in
      record {
        normal = normal_counts k h (rw o here.slots) (rw o here.positive) (rw (o, w) (counts_have_filters n here)) (λ s there. rw w there);
        counts = same;
        nonempty = λ some p q. some (sym o ∙ p) (sym k ∙ q);
      }
    where
      same : (p : List ℕ) (t : Slot) → tally p t m ≡ tally p t n
      same [] t = rw o refl
      same (f ∷ p) t = rw k refl

  module _ (f : ℕ) (c : Position A) (o : counts m ≡ counts n) (w : HasFilters c → HasFilters m)
      (k : children m ≡ put nat_cmp f c (children n)) (h : IsNormal n) where
    -- a position into whose children one in normal form was put, which isn't empty, is in normal form
    pub normal_with_child : IsNormal c → IsNonEmpty c → IsNormal m
    normal_with_child good some = record { everywhere = at }
      where
        at : (p : List ℕ) → NormalAt p m
        at [] = let here = normal_here n h in record {
          slots = rw o here.slots;
          positive = rw o here.positive;
          filtered = w (normal_here c good).filtered;
          frames = rw k (is_sorted-put nat_cmp nat_cmp_total f c (children n) here.frames);
          nonempty = rw k (each_put nat_cmp (λ c. IsNonEmpty c) f c (children n) some here.nonempty);
        }
        at (g ∷ p) = elim (cases_eq g f) [
          | inl same ↦ rw (k, same, find_put_same nat_cmp nat_cmp_total f c (children n)) (good.everywhere p)
          | inr other ↦ rw (k, find_put_other nat_cmp nat_cmp_total nat_cmp-IsAntisymmetric g f c (children n) other) (h.everywhere (g ∷ p))
        ]

    -- through the frame of the child that was put, the position counts what this child counts
    pub tally_child : (p : List ℕ) (t : Slot) → tally (f ∷ p) t m ≡ tally p t c
    tally_child p t = rw (k, find_put_same nat_cmp nat_cmp_total f c (children n)) refl

    -- through each frame but that of the child that was put, the position counts what it counted before
    pub tally_else : (g : ℕ) (p : List ℕ) (t : Slot) → g ≢ f → tally (g ∷ p) t m ≡ tally (g ∷ p) t n
    tally_else g p t other = rw (k, find_put_other nat_cmp nat_cmp_total nat_cmp-IsAntisymmetric g f c (children n) other) refl

    adds_child : (path : List ℕ) (s : Slot) (sign : Sign) → AddsOne path s sign
        (λ p t. at_child (λ c. tally p t c) (find nat_cmp f (children n))) (tally_of c) → AddsOne (f ∷ path) s sign (tally_of n) (tally_of m)
    adds_child path s sign adds = record { here = tally_child path s ∙ adds.here; elsewhere = elsewhere }
      where
        elsewhere : (p : List ℕ) (t : Slot) → (p ≡ f ∷ path → t ≢ s) → tally p t m ≡ tally p t n
        elsewhere [] t differs = rw o refl
        elsewhere (g ∷ p) t differs = elim (cases_eq g f) [
          | inl same ↦ rw same (tally_child p t ∙ adds.elsewhere p t (λ e. differs (λ i. same i ∷ e i)))
          | inr other ↦ tally_else g p t other
        ]

    -- a child that was there
    module _ (old : Position A) (found : find nat_cmp f (children n) ≡ Some old) where
      -- one added further in, at a path from the child, is one added at the path with the child's frame before it
      pub added_below : (path : List ℕ) (s : Slot) (sign : Sign) → IsAdded path s sign old c → IsAdded (f ∷ path) s sign n m
      added_below path s sign added = record {
        normal = normal_with_child added.normal (nonempty_from c path s (rw added.counts.here (add_one_positive sign _)));
        counts = adds_child path s sign (rw found added.counts);
      }

      pub kept_below : IsKept old c → IsNonEmpty old → IsKept n m
      kept_below kept some = record {
        normal = normal_with_child kept.normal (kept.nonempty some);
        counts = same;
        nonempty = λ _ _ no. put_some nat_cmp f c (children n) (sym k ∙ no);
      }
        where
          same : (p : List ℕ) (t : Slot) → tally p t m ≡ tally p t n
          same [] t = rw o refl
          same (g ∷ p) t = elim (cases_eq g f) [
            | inl is ↦ rw is (tally_child p t ∙ kept.counts p t ∙ rw found refl)
            | inr other ↦ tally_else g p t other
          ]

    -- a child that is new
    pub added_branch : (path : List ℕ) (s : Slot) (sign : Sign) → find nat_cmp f (children n) ≡ None → IsBranch path s sign c
        → IsAdded (f ∷ path) s sign n m
    added_branch path s sign none new = record {
      normal = normal_with_child new.normal (nonempty_from c path s (rw new.counts.here (add_one_positive sign _)));
      counts = adds_child path s sign (rw none new.counts);
    }

-- what holds of a result still holds where each case implies a weaker one
pub match_result : {X E : Type 0} {P P' : X → Type 0} {Q Q' : E → Type 0} (r : Result X E) → MatchResult r P Q → ((x : X) → P x → P' x)
    → ((e : E) → Q e → Q' e) → MatchResult r P' Q'
match_result (Ok x) h f g = f x h
match_result (Err e) h f g = g e h

-- a child whose frame is found is not empty
pub nonempty_child : {A : Type 0} (n : Position A) → IsNormal n → (f : ℕ) (c : Position A) → find nat_cmp f (children n) ≡ Some c → IsNonEmpty c
nonempty_child n h f c found = each_found nat_cmp (λ c. IsNonEmpty c) f c (children n) (normal_here n h).nonempty found

-- a count that was added below a child, or refused
pub stepped : {A : Type 0} (n m : Position A) → IsNormal n → (f : ℕ) (old new : Position A) → find nat_cmp f (children n) ≡ Some old
    → counts m ≡ counts n → (HasFilters new → HasFilters m) → children m ≡ put nat_cmp f new (children n) → (path : List ℕ) (s : Slot) (sign : Sign)
    → {X E : Type 0} (r : Result X E) → MatchResult r (λ _. IsAdded path s sign old new) (λ _. IsKept old new)
    → MatchResult r (λ _. IsAdded (f ∷ path) s sign n m) (λ _. IsKept n m)
stepped n m h f old new found o w k path s sign r result = match_result r result
    (λ x added. added_below n m f new o w k h old found path s sign added)
    (λ x kept. kept_below n m f new o w k h old found kept (nonempty_child n h f old found))

-- where a result is an error, and Q holds, Q holds of the error
pub refused : {X E : Type 0} (P : X → Type 0) {Q : Type 0} (r : Result X E) → IsErr r → Q → MatchResult r P (λ _. Q)
refused P (Ok x) e q = cc
refused P (Err x) e q = q

-- the node at the end of a branch
pub branch_end : {A : Type 0} (m : Position A) (s : Slot) (sign : Sign) → counts m ≡ (s, add_one sign zero_count) ∷ []
    → HaveFilters (filters m) (counts m) → children m ≡ [] → IsBranch [] s sign m
branch_end {A} m s sign o filtered k = record {
  normal = record { everywhere = at };
  counts = record { here = rw (o, tied_itself slot_total s) refl; elsewhere = elsewhere };
}
  where
    at : (p : List ℕ) → NormalAt p m
    at [] = record {
      slots = rw o tt;
      positive = rw o (add_one_positive sign zero_count, tt);
      filtered = filters_end m filtered k;
      frames = rw k tt;
      nonempty = rw k tt;
    }
    at (f ∷ p) = rw k tt

    elsewhere : (p : List ℕ) (t : Slot) → (p ≡ [] → t ≢ s) → tally p t m ≡ zero_count
    elsewhere [] t differs = rw o (ap (λ (c : Option Count). unwrap_or c zero_count)
        (find_put_other slot_cmp slot_total slot_same t s (add_one sign zero_count) [] (differs refl)))
    elsewhere (f ∷ p) t differs = rw k refl

-- a node above it
pub branch_on : {A : Type 0} (m c : Position A) (f : ℕ) (path : List ℕ) (s : Slot) (sign : Sign) → counts m ≡ [] → children m ≡ (f, c) ∷ []
    → HasFiltersOf (filters m) (filters c) → IsBranch path s sign c → IsBranch (f ∷ path) s sign m
branch_on m c f path s sign o k w child = record {
  normal = record { everywhere = at };
  counts = record { here = here path s ∙ child.counts.here; elsewhere = elsewhere };
}
  where
    at : (p : List ℕ) → NormalAt p m
    at [] = record {
      slots = rw o tt;
      positive = rw o tt;
      filtered = filters_on m c f o k w (normal_here c child.normal).filtered;
      frames = rw k tt;
      nonempty =
          rw k (nonempty_from c path s (rw child.counts.here (add_one_positive sign zero_count)), tt);
    }
    at (g ∷ p) = elim (cases_eq g f) [
      | inl same ↦ rw (k, same, tied_itself nat_cmp_total f) (child.normal.everywhere p)
      | inr other ↦ rw (k, find_put_other nat_cmp nat_cmp_total nat_cmp-IsAntisymmetric g f c [] other) tt
    ]

    here : (p : List ℕ) (t : Slot) → tally (f ∷ p) t m ≡ tally p t c
    here p t = rw (k, tied_itself nat_cmp_total f) refl

    elsewhere : (p : List ℕ) (t : Slot) → (p ≡ f ∷ path → t ≢ s) → tally p t m ≡ zero_count
    elsewhere [] t differs = rw o refl
    elsewhere (g ∷ p) t differs = elim (cases_eq g f) [
      | inl same ↦ rw same (here p t ∙ child.counts.elsewhere p t (λ e. differs (λ i. same i ∷ e i)))
      | inr other ↦ rw k (ap (λ x. at_child (λ c. tally p t c) x)
          (find_put_other nat_cmp nat_cmp_total nat_cmp-IsAntisymmetric g f c [] other))
    ]

-- ---- frames before a position

-- the only position after a frame is put there at that frame
pub put_before : {A : Type 0} (f : ℕ) (c k : Position A) → children (before f k) ≡ put nat_cmp f k (children (before f c))
put_before f c k = rw (tied_itself nat_cmp_total f) refl

module _ {A : Type 0} where
  -- where a position with one frame before it is in normal form, the position is
  pub normal_after : (f : ℕ) (c : Position A) → IsNormal (before f c) → IsNormal c
  normal_after f c h = normal_child (before f c) h f c (find_before f c)

  normal_along : (fs : List ℕ) (c : Position A) → IsNormal (frames_before fs c) → IsNormal c
  normal_along [] c h = h
  normal_along (f ∷ fs) c h = normal_along fs c (normal_after f (frames_before fs c) h)

  kept_along : (fs : List ℕ) (c k : Position A) → IsNormal (frames_before fs c) → IsKept c k
      → IsKept (frames_before fs c) (frames_before fs k)
  kept_along [] c k h kept = kept
  kept_along (f ∷ fs) c k h kept =
      let old = frames_before fs c in
      let new = frames_before fs k in
      kept_below (before f old) (before f new) f new refl (filters_before f new)
      (put_before f old new) h old (find_before f old)
      (kept_along fs c k (normal_after f old h) kept) (nonempty_child (before f old) h f old (find_before f old))

  -- what is normal at frames before a node is normal at the node
  pub normal_inside : (fs : List ℕ) (n : Node A) → IsNormal (fs, n) → IsNormal (inside n)
  normal_inside [] n h = h
  normal_inside (f ∷ fs) n h = normal_inside fs n (normal_after f (fs, n) h)

  -- what was kept at a node was so at frames before it
  pub kept_before : (fs : List ℕ) (n m : Node A) → IsNormal (fs, n) → IsKept (inside n) (inside m) → IsKept (fs, n) (fs, m)
  kept_before fs n m h kept = subst (λ l. IsKept (l, n) (l, m)) (append-nil fs)
      (kept_along fs (inside n) (inside m) (subst (λ l. IsNormal (l, n)) (sym (append-nil fs)) h) kept)

  branch_before : (fs : List ℕ) (m : Node A) (path : List ℕ) (s : Slot) (sign : Sign) → IsBranch path s sign (inside m)
      → IsBranch (fs ++ path) s sign (fs, m)
  branch_before [] m path s sign new = new
  branch_before (f ∷ fs) m path s sign new = branch_on (f ∷ fs, m) (fs, m) f (fs ++ path) s sign refl refl (λ t is. is)
      (branch_before fs m path s sign new)

  -- a node that counts one slot once at its own place counts it at the end of its frames, seen from their top
  pub branch_top : (m : Node A) (s : Slot) (sign : Sign) → IsBranch [] s sign (inside m) → IsBranch (frames m) s sign (top m)
  branch_top m s sign new = subst (λ l. IsBranch l s sign (top m)) (append-nil (frames m)) (branch_before (frames m) m [] s sign new)

-- ---- a node that was split

-- the rest of its frames lead to a node of its own, which has all that was inside
pub parted : {A : Type 0} (n upper lower : Node A) (fs gs : List ℕ) (f : ℕ) → IsNormal (top n) → frames n ≡ fs ++ f ∷ gs
    → frames upper ≡ fs → counts_of upper ≡ [] → children_of upper ≡ (f, lower) ∷ [] → filters_at upper ≡ filters_at n → frames lower ≡ gs
    → counts_of lower ≡ counts_of n → children_of lower ≡ children_of n → filters_at lower ≡ filters_at n → IsKept (top n) (top upper)
parted {A} n upper lower fs gs f h all first none only as_filtered rest same_counts same_children filtered =
    subst (λ l. IsKept (l, n) (top upper)) (sym all) (subst (λ l. IsKept (fs ++ f ∷ gs, n) (l, upper)) (append-nil fs ∙ sym first)
    (kept_along fs (f ∷ gs, n) (inside upper) normal below))
  where
    normal : IsNormal (fs ++ f ∷ gs, n)
    normal = subst (λ l. IsNormal (l, n)) all h

    here : IsNormal (f ∷ gs, n)
    here = normal_along fs (f ∷ gs, n) normal

    moved : IsKept (gs, n) (gs, lower)
    moved = kept_before gs n lower (normal_after f (gs, n) here)
        (kept_counts (inside n) (inside lower) (normal_inside (frames n) n h) same_counts filtered (ap tops same_children))

    further : children (inside upper) ≡ (f, (gs, lower)) ∷ []
    further = ap tops only ∙ ap (λ l. (f, (l, lower)) ∷ []) rest

    below : IsKept (f ∷ gs, n) (inside upper)
    below = kept_below (f ∷ gs, n) (inside upper) f (gs, lower) none
        (λ there. filters_on (inside upper) (gs, lower) f none further (λ s is. rw (as_filtered, sym filtered) is) there)
        (further ∙ put_before f (gs, n) (gs, lower)) here (gs, n) (find_before f (gs, n)) moved
        (nonempty_child (f ∷ gs, n) here f (gs, n) (find_before f (gs, n)))

-- what holds of a node by its parts
pub if_parts : {A E : Type 0} (P : Node A → Type 0) (fs : List ℕ) (es : List (Slot × Count)) (r : Result (Node A) E)
    → IfOk r (λ n. frames n ≡ fs) → IfOk r (λ n. counts_of n ≡ es) → IfOk r (λ n. children_of n ≡ [])
    → IfOk r (λ n. HaveFilters (filters_at n) (counts_of n))
    → ((n : Node A) → frames n ≡ fs → counts_of n ≡ es → children_of n ≡ [] → HaveFilters (filters_at n) (counts_of n) → P n) → IfOk r P
if_parts P fs es (Ok n) f c k w known = known n f c k w
if_parts P fs es (Err e) f c k w known = tt
