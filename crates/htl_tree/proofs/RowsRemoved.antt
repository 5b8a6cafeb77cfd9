-- A position from which rows were taken out, there or further in, counts these less at one path and else the same.
use Rattle.std.proofs.Common.{◌≡◌, ℕ, ◌+◌, ◌-◌, ◌<◌, ◌≤◌, ◌≢◌, ◌==◌, List, [], ◌∷◌, ◌++◌, length, take, reverse, filter, Some, None}
use Rattle.std.proofs.Common.{Bool, true, false, not, cond, nat_eq, refl, sym, inl, inr, ◌∙◌, ap, subst, arith, length-append}
use Rattle.std.specs.Cmp.{nat_cmp_total, unsigned_Decides}
use Rattle.std.specs.Cmp.Lexicographic.{pointwise, pointwise_decides}
use Rattle.std.specs.Ordering.{nat_cmp, eq_by_cmp}
use Rattle.std.specs.FinMap.{nat_cmp-IsAntisymmetric}
use Rattle.std.specs.FinMap.Entries.{find, put, where_key, is_sorted-put, is_sorted-where_key, find-where_key}
use Rattle.std.proofs.Math.Seq.{take-append_seam}
use Rattle.std.proofs.lemmas.Bool.{cases_eq}
use Rattle.std.proofs.lemmas.List.{length-reverse, reverse-reverse, reverse-append}
use Rattle.htl_event.specs.declared.slot.Slot.{Slot}
use Rattle.htl_event.specs.declared.slot.Count.{Count}
use Rattle.htl_event.specs.Tallies.{zero_count, plus_count, IsPositive}
use Rattle.htl_sorted.specs.Entries.{IsSorted, Each}
use Rattle.htl_sorted.proofs.Finds.{find_put_same, find_put_other, each_put, each_found, each_from_found}
use Rattle.htl_tree.specs.declared.node.Node.{Node}
use Rattle.htl_tree.specs.declared.row.Row.{Row}
use Rattle.htl_tree.specs.Filters.{HasFilter}
use Rattle.htl_tree.specs.Nodes.{Position, frames, counts_of, children_of, top, inside, tops, tally, tally_of, counts, filters, children, count_in}
use Rattle.htl_tree.specs.Nodes.{at_child, AtChild, NormalAt, HasFilters, IsNonEmpty, IsNormal, IsKept}
use Rattle.htl_tree.specs.Rows.{entries_of, slot_sum, AddsRows}
use Rattle.htl_tree.specs.Removed.{IsAtMost, Lost, IsLess}
use Rattle.htl_tree.proofs.CountAdded.{normal_here}
use Rattle.htl_tree.proofs.FilterBits.{not_zero}
use Rattle.htl_tree.proofs.FiltersOfPositions.{filters_before}
use Rattle.htl_tree.proofs.Positions.{before, tally_before}
use Rattle.htl_tree.proofs.RowsAdded.{some_slot}
use Rattle.htl_tree.proofs.Tops.{top_of}

-- what is counted before rows are added is counted after, too
pub still_positive : (path : List ℕ) (rows : List Row) (old new : List ℕ → Slot → Count) → AddsRows path rows old new
    → (p : List ℕ) (s : Slot) → IsPositive (old p s) → IsPositive (new p s)
still_positive path rows old new adds p s some = (elim (pointwise nat_eq p path) as (λ b. pointwise nat_eq p path ≡ b → IsPositive (new p s)) [
  | true ↦ λ e.
      let is : p ≡ path = (pointwise_decides unsigned_Decides p path).0 e in
      let was : IsPositive (old path s) = subst (λ q. IsPositive (old q s)) is some in
      let sum : IsPositive (plus_count (old path s) (slot_sum s rows)) = omega (arith, was) in
      subst IsPositive (sym (ap (λ q. new q s) is ∙ adds.here s)) sum
  | false ↦ λ e.
      let other : p ≢ path = λ is. let never : false ≡ true = sym e ∙ (pointwise_decides unsigned_Decides p path).1 is in
      absurd (cc) in
      subst IsPositive (sym (adds.elsewhere p s other)) some
]) refl

module _ {A : Type 0} (n m : Position A) (rows : List Row) (h : IsNormal n) (w : filters m ≡ filters n) where
  -- filters of more than what is counted will do
  fewer_filters : (path : List ℕ) → AddsRows path rows (tally_of m) (tally_of n) → HasFilters m
  fewer_filters path adds p s some = subst (λ k. HasFilter k s) (sym w)
      ((normal_here n h).filtered p s (still_positive path rows (tally_of m) (tally_of n) adds p s some))

  -- ---- rows that were counted here

  module _ (k : children m ≡ children n) (lost : Lost rows (counts n) (counts m)) (positive : Each IsPositive (counts m)) where
    adds_here : AddsRows [] rows (tally_of m) (tally_of n)
    adds_here = record { here = lost.counts; elsewhere = elsewhere }
      where
        elsewhere : (p : List ℕ) (t : Slot) → p ≢ [] → tally p t n ≡ tally p t m
        elsewhere [] t differs = absurd (differs refl)
        elsewhere (f ∷ p) t differs = rw k refl

    -- a position whose own counts lost rows has these rows less
    pub removed_here : IsNormal m × AddsRows [] rows (tally_of m) (tally_of n)
    removed_here = (record { everywhere = at }, adds_here)
      where
        at : (p : List ℕ) → NormalAt p m
        at [] = let here = normal_here n h in record {
          slots = lost.sorted;
          positive = positive;
          filtered = fewer_filters [] adds_here;
          frames = rw k here.frames;
          nonempty = rw k here.nonempty;
        }
        at (f ∷ p) = rw k (h.everywhere (f ∷ p))

  -- ---- rows that were counted further in

  module _ (o : counts m ≡ counts n) (f : ℕ) (old : Position A) (found : find nat_cmp f (children n) ≡ Some old) (path : List ℕ)
      (sorted : IsSorted nat_cmp (children m)) (nonempty : Each (λ c. IsNonEmpty c) (children m))
      (others : (g : ℕ) → g ≢ f → find nat_cmp g (children m) ≡ find nat_cmp g (children n))
      (normal : (p : List ℕ) → AtChild (λ c. NormalAt p c) (find nat_cmp f (children m)))
      (adds : AddsRows path rows (λ p s. at_child (λ c. tally p s c) (find nat_cmp f (children m))) (tally_of old)) where
    adds_further : AddsRows (f ∷ path) rows (tally_of m) (tally_of n)
    adds_further = record { here = λ s. ap (at_child (λ c. tally path s c)) found ∙ adds.here s; elsewhere = elsewhere }
      where
        elsewhere : (p : List ℕ) (t : Slot) → p ≢ f ∷ path → tally p t n ≡ tally p t m
        elsewhere [] t differs = ap (λ es. count_in es t) (sym o)
        elsewhere (g ∷ p) t differs = elim (cases_eq g f) [
          | inl same ↦ rw same (ap (at_child (λ c. tally p t c)) found ∙ adds.elsewhere p t (λ e. differs (λ i. same i ∷ e i)))
          | inr other ↦ ap (at_child (λ c. tally p t c)) (sym (others g other))
        ]

    removed_further : IsNormal m × AddsRows (f ∷ path) rows (tally_of m) (tally_of n)
    removed_further = (record { everywhere = at }, adds_further)
      where
        at : (p : List ℕ) → NormalAt p m
        at [] = let here = normal_here n h in record {
          slots = rw o here.slots;
          positive = rw o here.positive;
          filtered = fewer_filters (f ∷ path) adds_further;
          frames = sorted;
          nonempty = nonempty;
        }
        at (g ∷ p) = elim (cases_eq g f) [
          | inl same ↦ rw same (normal p)
          | inr other ↦ subst (λ q. AtChild (λ c. NormalAt p c) q) (sym (others g other)) (h.everywhere (g ∷ p))
        ]

  module _ (o : counts m ≡ counts n) (f : ℕ) (old c : Position A) (found : find nat_cmp f (children n) ≡ Some old) (path : List ℕ)
      (adds : AddsRows path rows (tally_of c) (tally_of old)) where
    -- a child that rows were taken out of, and something is left of
    pub removed_below : children m ≡ put nat_cmp f c (children n) → IsNormal c → IsNonEmpty c
        → IsNormal m × AddsRows (f ∷ path) rows (tally_of m) (tally_of n)
    removed_below k good some =
        let here = normal_here n h in
        let there : find nat_cmp f (children m) ≡ Some c = ap (find nat_cmp f) k ∙ find_put_same nat_cmp nat_cmp_total f c (children n) in
        removed_further o f old found path (rw k (is_sorted-put nat_cmp nat_cmp_total f c (children n) here.frames))
        (rw k (each_put nat_cmp (λ c. IsNonEmpty c) f c (children n) some here.nonempty))
        (λ g other. ap (find nat_cmp g) k ∙ find_put_other nat_cmp nat_cmp_total nat_cmp-IsAntisymmetric g f c (children n) other)
        (λ p. subst (λ q. AtChild (λ c. NormalAt p c) q) (sym there) (good.everywhere p))
        (subst (λ q. AddsRows path rows (λ p s. at_child (λ c. tally p s c) q) (tally_of old)) (sym there) adds)

    abbrev other_frame : ℕ → Bool
    other_frame g = not (g == f)

    module _ (k : children m ≡ where_key nat_cmp other_frame (put nat_cmp f c (children n))) where
      find_dropped : (g : ℕ) → find nat_cmp g (children m) ≡ cond (other_frame g) (find nat_cmp g (put nat_cmp f c (children n))) None
      find_dropped g = ap (find nat_cmp g) k
          ∙ find-where_key nat_cmp other_frame g (λ x e. ap other_frame (sym (nat_cmp-IsAntisymmetric g x e))) (put nat_cmp f c (children n))

      gone : find nat_cmp f (children m) ≡ None
      gone = find_dropped f
          ∙ ap (λ b. cond (not b) (find nat_cmp f (put nat_cmp f c (children n))) None) ((unsigned_Decides f f).1 refl)

      differs : (g : ℕ) → g ≢ f → (g == f) ≡ false
      differs g other = (elim (g == f) as (λ b. (g == f) ≡ b → b ≡ false) [
        | true ↦ λ e. absurd (other ((unsigned_Decides g f).0 e))
        | false ↦ λ e. refl
      ]) refl

      others : (g : ℕ) → g ≢ f → find nat_cmp g (children m) ≡ find nat_cmp g (children n)
      others g other = find_dropped g
          ∙ ap (λ b. cond (not b) (find nat_cmp g (put nat_cmp f c (children n))) None) (differs g other)
          ∙ find_put_other nat_cmp nat_cmp_total nat_cmp-IsAntisymmetric g f c (children n) other

      sorted : IsSorted nat_cmp (children m)
      sorted = rw k (is_sorted-where_key nat_cmp other_frame (put nat_cmp f c (children n))
          (is_sorted-put nat_cmp nat_cmp_total f c (children n) (normal_here n h).frames))

      left_nonempty : (g : ℕ) (d : Position A) → find nat_cmp g (children m) ≡ Some d → IsNonEmpty d
      left_nonempty g d is = elim (cases_eq g f) [
        | inl same ↦ absurd (let none : Some d ≡ None = sym is ∙ ap (λ q. find nat_cmp q (children m)) same ∙ gone in cc)
        | inr other ↦ each_found nat_cmp (λ c. IsNonEmpty c) g d (children n) (normal_here n h).nonempty (sym (others g other) ∙ is)
      ]

      -- a child that nothing is left of is dropped
      pub removed_child : ((p : List ℕ) (s : Slot) → tally p s c ≡ zero_count) → IsNormal m × AddsRows (f ∷ path) rows (tally_of m) (tally_of n)
      removed_child none = removed_further o f old found path sorted
          (each_from_found nat_cmp nat_cmp_total (λ c. IsNonEmpty c) (children m) sorted left_nonempty) others
          (λ p. subst (λ q. AtChild (λ c. NormalAt p c) q) (sym gone) tt)
          (subst (λ q. AddsRows path rows (λ p s. at_child (λ c. tally p s c) q) (tally_of old)) (sym gone) record {
            here = λ s. adds.here s ∙ ap (λ d. plus_count d (slot_sum s rows)) (none path s);
            elsewhere = λ p s other. adds.elsewhere p s other ∙ none p s;
          })

-- ---- a list of children without one

tops_filter : {A : Type 0} (f : ℕ) (ks : List (ℕ × Node A)) → tops (filter (λ k. not (k.0 == f)) ks) ≡ where_key nat_cmp (λ g. not (g == f)) (tops ks)
tops_filter f [] = refl
tops_filter f (k ∷ ks) = elim (k.0 == f) as (λ b. tops (cond (not b) (k ∷ filter (λ k. not (k.0 == f)) ks) (filter (λ k. not (k.0 == f)) ks))
    ≡ cond (not b) (top_of k ∷ where_key nat_cmp (λ g. not (g == f)) (tops ks)) (where_key nat_cmp (λ g. not (g == f)) (tops ks))) [
      | true ↦ tops_filter f ks
      | false ↦ ap (λ l. top_of k ∷ l) (tops_filter f ks)
    ]

-- a child that was put among the positions further in, and then dropped
pub dropped : {A : Type 0} (n mid m : Node A) (f : ℕ) (c : Position A) → children (inside mid) ≡ put nat_cmp f c (children (inside n))
    → children_of m ≡ filter (λ k. not (k.0 == f)) (children_of mid)
    → children (inside m) ≡ where_key nat_cmp (λ g. not (g == f)) (put nat_cmp f c (children (inside n)))
dropped n mid m f c is new = ap tops new ∙ tops_filter f (children_of mid) ∙ ap (where_key nat_cmp (λ g. not (g == f))) is

-- ---- frames before a node

module _ {A : Type 0} where
  normal_before : (f : ℕ) (c : Position A) → IsNormal c → IsNonEmpty c → IsNormal (before f c)
  normal_before f c h some = record { everywhere = at }
    where
      at : (p : List ℕ) → NormalAt p (before f c)
      at [] = record {
        slots = tt;
        positive = tt;
        filtered = filters_before f c (normal_here c h).filtered;
        frames = tt;
        nonempty = (some, tt);
      }
      at (g ∷ p) = elim (eq_by_cmp nat_cmp g f) as (λ b. AtChild (λ k. NormalAt p k) (cond b (Some c) None)) [
        | true ↦ h.everywhere p
        | false ↦ tt
      ]

  nonempty_along : (fs : List ℕ) (n : Node A) → IsNonEmpty (inside n) → IsNonEmpty (fs, n)
  nonempty_along [] n some = some
  nonempty_along (f ∷ fs) n some = λ o k. cc

  -- a node that isn't empty inside is normal and not empty where frames lead to it
  normal_along : (fs : List ℕ) (n : Node A) → IsNormal (inside n) → IsNonEmpty (inside n) → IsNormal (fs, n)
  normal_along [] n h some = h
  normal_along (f ∷ fs) n h some = normal_before f (fs, n) (normal_along fs n h some) (nonempty_along fs n some)

  pub normal_top : (n : Node A) → IsNormal (inside n) → IsNonEmpty (inside n) → IsNormal (top n) × IsNonEmpty (top n)
  normal_top n h some = (normal_along (frames n) n h some, nonempty_along (frames n) n some)

  nothing_along : (n : Node A) → counts_of n ≡ [] → children_of n ≡ [] → (fs p : List ℕ) (s : Slot) → tally p s (fs, n) ≡ zero_count
  nothing_along n o k [] [] s = rw o refl
  nothing_along n o k [] (g ∷ p) s = rw k refl
  nothing_along n o k (f ∷ fs) [] s = refl
  nothing_along n o k (f ∷ fs) (g ∷ p) s = elim (eq_by_cmp nat_cmp g f)
      as (λ b. at_child (λ c. tally p s c) (cond b (Some (fs, n)) None) ≡ zero_count) [
        | true ↦ nothing_along n o k fs p s
        | false ↦ refl
      ]

  -- an empty node counts nothing
  pub nothing_top : (n : Node A) → (counts_of n ≡ []) × (children_of n ≡ []) → (p : List ℕ) (s : Slot) → tally p s (top n) ≡ zero_count
  nothing_top n none p s = nothing_along n none.0 none.1 (frames n) p s

  -- a path on which something is counted begins with the frames of the node
  along_frames : (fs : List ℕ) (n : Node A) (p : List ℕ) (s : Slot) → IsPositive (tally p s (fs, n)) → (q : List ℕ) × (p ≡ fs ++ q)
  along_frames [] n p s some = (p, refl)
  along_frames (f ∷ fs) n [] s some = absurd (not_zero some)
  along_frames (f ∷ fs) n (g ∷ p) s some = elim (cases_eq g f) [
    | inl same ↦
        let there : IsPositive (tally p s (fs, n)) =
        subst IsPositive (ap (λ k. tally (k ∷ p) s (f ∷ fs, n)) same ∙ tally_before f (fs, n) p s) some in
        let rest = along_frames fs n p s there in
        (rest.0, λ i. same i ∷ rest.1 i)
    | inr other ↦ absurd (not_zero (subst IsPositive (ap (at_child (λ c. tally p s c))
        (find_put_other nat_cmp nat_cmp_total nat_cmp-IsAntisymmetric g f (fs, n) [] other)) some))
  ]

  adds_before : (rows : List Row) (f : ℕ) (fs : List ℕ) (n m : Node A) (path : List ℕ)
      → AddsRows path rows (tally_of (fs, m)) (tally_of (fs, n)) → AddsRows (f ∷ path) rows (tally_of (f ∷ fs, m)) (tally_of (f ∷ fs, n))
  adds_before rows f fs n m path adds = record {
    here = λ s. tally_before f (fs, n) path s ∙ adds.here s
        ∙ ap (λ d. plus_count d (slot_sum s rows)) (sym (tally_before f (fs, m) path s));
    elsewhere = elsewhere;
  }
    where
      elsewhere : (p : List ℕ) (t : Slot) → p ≢ f ∷ path → tally p t (f ∷ fs, n) ≡ tally p t (f ∷ fs, m)
      elsewhere [] t differs = refl
      elsewhere (g ∷ p) t differs = elim (cases_eq g f) [
        | inl same ↦ rw same (tally_before f (fs, n) p t ∙ adds.elsewhere p t (λ e. differs (λ i. same i ∷ e i))
            ∙ sym (tally_before f (fs, m) p t))
        | inr other ↦ ap (at_child (λ c. tally p t c)) (find_put_other nat_cmp nat_cmp_total nat_cmp-IsAntisymmetric g f (fs, n) [] other)
            ∙ sym (ap (at_child (λ c. tally p t c)) (find_put_other nat_cmp nat_cmp_total nat_cmp-IsAntisymmetric g f (fs, m) [] other))
      ]

  adds_along : (rows : List Row) (fs : List ℕ) (n m : Node A) (path : List ℕ) → AddsRows path rows (tally_of (inside m)) (tally_of (inside n))
      → AddsRows (fs ++ path) rows (tally_of (fs, m)) (tally_of (fs, n))
  adds_along rows [] n m path adds = adds
  adds_along rows (f ∷ fs) n m path adds = adds_before rows f fs n m (fs ++ path) (adds_along rows fs n m path adds)

  -- rows that were taken out inside a node were taken out of the node
  pub less_before : (rows : List Row) (n m : Node A) → frames m ≡ frames n → (path rest : List ℕ) → path ≡ frames n ++ rest
      → IsNormal (inside m) × AddsRows rest rows (tally_of (inside m)) (tally_of (inside n)) → IsLess path rows n m
  less_before rows n m same path rest is removed = record {
    normal = removed.0;
    counts = subst (λ p. AddsRows p rows (tally_of (top m)) (tally_of (top n))) (sym is)
        (subst (λ l. AddsRows (frames n ++ rest) rows (tally_of (l, m)) (tally_of (top n))) (sym same)
        (adds_along rows (frames n) n m rest removed.1));
  }

-- ---- the stack that leads into a node

-- the part of a stack that is left behind its outermost frames
cut : (stack fs q : List ℕ) → reverse stack ≡ fs ++ q
    → (length fs ≤ length stack) × (reverse stack ≡ fs ++ reverse (take (length stack - length fs) stack))
cut stack fs q is = (omega (arith, lengths), is ∙ ap (λ l. fs ++ l) (sym rest))
  where
    parts : stack ≡ reverse q ++ reverse fs
    parts = sym (reverse-reverse stack) ∙ ap reverse is ∙ reverse-append fs q

    lengths : length stack ≡ length q + length fs
    lengths = ap length parts ∙ length-append (reverse q) (reverse fs)
        ∙ ap (λ k. k + length (reverse fs)) (length-reverse q) ∙ ap (λ k. length q + k) (length-reverse fs)

    count : length stack - length fs ≡ length (reverse q)
    count = let back = length-reverse q in let all = lengths in omega (arith, all, back)

    rest : reverse (take (length stack - length fs) stack) ≡ q
    rest = ap (λ k. reverse (take k stack)) count ∙ ap (λ l. reverse (take (length (reverse q)) l)) parts
        ∙ ap reverse (take-append_seam (reverse q) (reverse fs)) ∙ reverse-reverse q

-- a node all of whose frames lead along the stack
pub record IsOnWay {A : Type 0} (n : Node A) (stack : List ℕ) : Type 0 where
  pub slot : Slot
  pub counted : IsPositive (tally (reverse stack) slot (top n))
  pub kept : IsKept (top n) (top n)
  pub within : length (frames n) ≤ length stack
  pub rest : (len : ℕ) → len ≡ length (frames n) → reverse stack ≡ frames n ++ reverse (take (length stack - len) stack)

-- a node that counts rows at the end of the stack is on the way there
pub on_way : {A : Type 0} (n : Node A) → IsNormal (top n) → (stack : List ℕ) (rows : List Row) → 0 < length rows → Each IsPositive (entries_of rows)
    → ((s : Slot) → IsAtMost (slot_sum s rows) (tally (reverse stack) s (top n))) → IsOnWay n stack
on_way n h stack rows some positive counted =
    let one = some_slot rows some positive in
    let more = one.1 in
    let all = counted one.0 in
    let plus = all.plus in
    let minus = all.minus in
    let there : IsPositive (tally (reverse stack) one.0 (top n)) = omega (arith, more, plus, minus) in
    let along = along_frames (frames n) n (reverse stack) one.0 there in
    let into = cut stack (frames n) along.0 along.1 in
    record {
      slot = one.0;
      counted = there;
      kept = record { normal = h; counts = λ p s. refl; nonempty = λ has. has };
      within = into.0;
      rest = λ len is. into.1 ∙ ap (λ k. frames n ++ reverse (take (length stack - k) stack)) (sym is);
    }
