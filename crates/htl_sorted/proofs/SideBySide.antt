-- Two lists in the order of their keys stand side by side as one list, and one pass makes another list of them.
use Rattle.std.proofs.Common.{◌≡◌, ℕ, ◌+◌, ◌<◌, ◌≤◌, List, [], ◌∷◌, ◌++◌, length, drop, get_or, map, Option, Some}
use Rattle.std.proofs.Common.{None, T, true, false, cond, append_assoc, append-nil, arith, refl, sym, ◌∙◌, ap, subst, inl, inr}
use Rattle.std.specs.Ordering.{is_lt, is_eq, eq_by_cmp}
use Rattle.std.specs.declared.cmp.Ordering.{Ordering}
use Rattle.std.specs.declared.cmp.Ordering.TheVariants.{Less, Equal, Greater}
use Rattle.std.specs.Cmp.{IsTotalOrder, alike_right}
use Rattle.std.specs.FinMap.Entries.{find, below_all, by_order}
use Rattle.std.proofs.lemmas.Bool.{cases_lt}
use Rattle.std.proofs.lemmas.List.{drop_more, drop_all}
use Rattle.htl_sorted.specs.Entries.{IsSorted}
use Rattle.htl_sorted.specs.Made.{Made}
use Rattle.htl_lemmas.proofs.Tests.{both, both_left, both_right}
use Rattle.htl_sorted.proofs.Places.{turn}
use Rattle.htl_sorted.proofs.Finds.{find_below_all, below_lower, below_tied}

module _ {K X Y : Type 0} (R : K → K → Ordering) where
  abbrev pub join_into : K × X → (List (K × Y) → List (K × (Option X × Option Y))) → List (K × Y) → List (K × (Option X × Option Y))
  join_into e more [] = (e.0, (Some e.1, None)) ∷ more []
  join_into e more (f ∷ fs) = by_order (R e.0 f.0) ((e.0, (Some e.1, None)) ∷ more (f ∷ fs)) ((e.0, (Some e.1, Some f.1)) ∷ more fs)
      ((f.0, (None, Some f.1)) ∷ join_into e more fs)

  -- each key of either list, with what each has there
  abbrev pub join : List (K × X) → List (K × Y) → List (K × (Option X × Option Y))
  join [] fs = map (λ f. (f.0, (None, Some f.1))) fs
  join (e ∷ es) fs = join_into e (λ gs. join es gs) fs

-- what either side has
abbrev pub pair : {X Y : Type 0} → Option X → Option Y → Option (Option X × Option Y)
pair None None = None
pair None (Some y) = Some (None, Some y)
pair (Some x) p = Some (Some x, p)

-- there is a value exactly where there is one to make it of
abbrev pub MadeAt : {J X : Type 0} → (J → X → Type 0) → Option J → Option X → Type 0
MadeAt P None None = Unit {0}
MadeAt P None (Some x) = ⊥
MadeAt P (Some j) None = ⊥
MadeAt P (Some j) (Some x) = P j x

module _ {K J X : Type 0} (R : K → K → Ordering) (P : J → X → Type 0) where
  -- at each key the made list has a value that P allows for what the first list has there
  pub find_made : (q : K) (js : List (K × J)) (os : List (K × X)) → Made P js os → MadeAt P (find R q js) (find R q os)
  find_made q [] [] m = tt
  find_made q [] (o ∷ os) m = absurd m
  find_made q (j ∷ js) [] m = absurd m
  find_made q (j ∷ js) (o ∷ os) m =
      rw m.0 (elim (eq_by_cmp R q o.0) as (λ b. MadeAt P (cond b (Some j.1) (find R q js)) (cond b (Some o.1) (find R q os))) [
        | true ↦ m.1
        | false ↦ find_made q js os m.2
      ])

  below_made : (k : K) (js : List (K × J)) (os : List (K × X)) → Made P js os → T (below_all R k js) → T (below_all R k os)
  below_made k [] [] m h = tt
  below_made k [] (o ∷ os) m h = absurd m
  below_made k (j ∷ js) [] m h = absurd m
  below_made k (j ∷ js) (o ∷ os) m h =
      both _ _ (subst (λ q. T (is_lt (R k q))) m.0 (both_left _ _ h)) (below_made k js os m.2 (both_right _ _ h))

  -- the made list has the keys of the first, so it is sorted where that is
  pub sorted_made : (js : List (K × J)) (os : List (K × X)) → Made P js os → IsSorted R js → IsSorted R os
  sorted_made [] [] m h = tt
  sorted_made [] (o ∷ os) m h = absurd m
  sorted_made (j ∷ js) [] m h = absurd m
  sorted_made (j ∷ js) (o ∷ os) m h = both _ _ (below_made o.0 js os m.2 (subst (λ q. T (below_all R q js)) m.0 (both_left _ _ h)))
      (sorted_made js os m.2 (both_right _ _ h))

module _ {K Y : Type 0} (X : Type 0) (R : K → K → Ordering) where
  below_right : (k : K) (fs : List (K × Y)) → T (below_all R k fs) → T (below_all R k (join {X = X} R [] fs))
  below_right k [] h = tt
  below_right k (f ∷ fs) h = both _ _ (both_left _ _ h) (below_right k fs (both_right _ _ h))

  sorted_right : (fs : List (K × Y)) → IsSorted R fs → IsSorted R (join {X = X} R [] fs)
  sorted_right [] h = tt
  sorted_right (f ∷ fs) h = both _ _ (below_right f.0 fs (both_left _ _ h)) (sorted_right fs (both_right _ _ h))

  find_right : (q : K) (fs : List (K × Y)) → find R q (join {X = X} R [] fs) ≡ pair None (find R q fs)
  find_right q [] = refl
  find_right q (f ∷ fs) = elim (eq_by_cmp R q f.0)
      as (λ b. cond b (Some (None, Some f.1)) (find R q (join {X = X} R [] fs)) ≡ pair None (cond b (Some f.1) (find R q fs))) [
        | true ↦ refl
        | false ↦ find_right q fs
      ]

module _ {K X Y : Type 0} (R : K → K → Ordering) where
  below_into : (k : K) (e : K × X) (more : List (K × Y) → List (K × (Option X × Option Y))) → T (is_lt (R k e.0))
      → ((gs : List (K × Y)) → T (below_all R k gs) → T (below_all R k (more gs))) → (fs : List (K × Y)) → T (below_all R k fs)
      → T (below_all R k (join_into R e more fs))
  below_into k e more g below [] h = both _ _ g (below [] tt)
  below_into k e more g below (f ∷ fs) h =
      elim (R e.0 f.0)
      as (λ r. T (below_all R k (by_order r ((e.0, (Some e.1, None)) ∷ more (f ∷ fs)) ((e.0, (Some e.1, Some f.1)) ∷ more fs)
      ((f.0, (None, Some f.1)) ∷ join_into R e more fs)))) [
        | Less ↦ both _ _ g (below (f ∷ fs) h)
        | Equal ↦ both _ _ g (below fs (both_right _ _ h))
        | Greater ↦ both _ _ (both_left _ _ h) (below_into k e more g below fs (both_right _ _ h))
      ]

  below_join : (k : K) (es : List (K × X)) (fs : List (K × Y)) → T (below_all R k es) → T (below_all R k fs)
      → T (below_all R k (join R es fs))
  below_join k [] fs g h = below_right X R k fs h
  below_join k (e ∷ es) fs g h = below_into k e (λ gs. join R es gs) (both_left _ _ g)
      (λ gs b. below_join k es gs (both_right _ _ g) b) fs h

  module _ (o : IsTotalOrder R) where
    sorted_into : (e : K × X) (es : List (K × X)) → T (below_all R e.0 es)
        → ((gs : List (K × Y)) → IsSorted R gs → IsSorted R (join R es gs)) → (fs : List (K × Y)) → IsSorted R fs
        → IsSorted R (join_into R e (λ gs. join R es gs) fs)
    sorted_into e es g more [] h = both _ _ (below_join e.0 es [] g tt) (more [] tt)
    sorted_into e es g more (f ∷ fs) h =
        elim (R e.0 f.0) as (λ r. R e.0 f.0 ≡ r
        → IsSorted R (by_order r ((e.0, (Some e.1, None)) ∷ join R es (f ∷ fs)) ((e.0, (Some e.1, Some f.1)) ∷ join R es fs)
        ((f.0, (None, Some f.1)) ∷ join_into R e (λ gs. join R es gs) fs))) [
          | Less ↦ λ lt. both _ _ (below_join e.0 es (f ∷ fs) g
              (both _ _ (subst (λ r. T (is_lt r)) (sym lt) tt) (below_lower R o e.0 f.0 fs lt (both_left _ _ h)))) (more (f ∷ fs) h)
          | Equal ↦ λ tied. both _ _ (below_join e.0 es fs g (below_tied R o e.0 f.0 fs tied (both_left _ _ h)))
              (more fs (both_right _ _ h))
          | Greater ↦ λ gt.
              let lt : R f.0 e.0 ≡ Less = turn o e.0 f.0 Greater gt in
              both _ _
              (below_into f.0 e (λ gs. join R es gs) (subst (λ r. T (is_lt r)) (sym lt) tt)
              (λ gs b. below_join f.0 es gs (below_lower R o f.0 e.0 es lt g) b) fs (both_left _ _ h))
              (sorted_into e es g more fs (both_right _ _ h))
        ] refl

    -- two sorted lists side by side are a sorted list
    pub sorted_join : (es : List (K × X)) (fs : List (K × Y)) → IsSorted R es → IsSorted R fs → IsSorted R (join R es fs)
    sorted_join [] fs g h = sorted_right X R fs h
    sorted_join (e ∷ es) fs g h = sorted_into e es (both_left _ _ g) (λ gs s. sorted_join es gs (both_right _ _ g) s) fs h

    find_into : (q : K) (e : K × X) (es : List (K × X)) → T (below_all R e.0 es)
        → ((gs : List (K × Y)) → IsSorted R gs → find R q (join R es gs) ≡ pair (find R q es) (find R q gs)) → (fs : List (K × Y))
        → IsSorted R fs → find R q (join_into R e (λ gs. join R es gs) fs) ≡ pair (find R q (e ∷ es)) (find R q fs)
    find_into q e es g more [] h = elim (eq_by_cmp R q e.0)
        as (λ b. cond b (Some (Some e.1, None)) (find R q (join {Y = Y} R es [])) ≡ pair (cond b (Some e.1) (find R q es)) None) [
          | true ↦ refl
          | false ↦ more [] tt
        ]
    find_into q e es g more (f ∷ fs) h =
        elim (R e.0 f.0) as (λ r. R e.0 f.0 ≡ r
        → find R q (by_order r ((e.0, (Some e.1, None)) ∷ join R es (f ∷ fs)) ((e.0, (Some e.1, Some f.1)) ∷ join R es fs)
        ((f.0, (None, Some f.1)) ∷ join_into R e (λ gs. join R es gs) fs)) ≡ pair (find R q (e ∷ es)) (find R q (f ∷ fs))) [
          | Less ↦ λ lt. elim (R q e.0) as (λ r. R q e.0 ≡ r → cond (is_eq r) (Some (Some e.1, None)) (find R q (join R es (f ∷ fs)))
              ≡ pair (cond (is_eq r) (Some e.1) (find R q es)) (find R q (f ∷ fs))) [
                | Less ↦ λ _. more (f ∷ fs) h
                | Equal ↦ λ tied. ap (λ p. Some (Some e.1, p))
                    (sym (find_below_all R o q f fs (o.congr q e.0 f.0 tied ∙ lt) (both_left _ _ h)))
                | Greater ↦ λ _. more (f ∷ fs) h
              ] refl
          | Equal ↦ λ tied. rw (sym (alike_right o e.0 f.0 q tied))
              (elim (eq_by_cmp R q e.0) as (λ b. cond b (Some (Some e.1, Some f.1)) (find R q (join R es fs))
              ≡ pair (cond b (Some e.1) (find R q es)) (cond b (Some f.1) (find R q fs))) [
                | true ↦ refl
                | false ↦ more fs (both_right _ _ h)
              ])
          | Greater ↦ λ gt. elim (R q f.0) as (λ r. R q f.0 ≡ r → cond (is_eq r) (Some (None, Some f.1))
              (find R q (join_into R e (λ gs. join R es gs) fs)) ≡ pair (find R q (e ∷ es)) (cond (is_eq r) (Some f.1) (find R q fs))) [
                | Less ↦ λ _. find_into q e es g more fs (both_right _ _ h)
                | Equal ↦ λ tied. ap (λ p. pair p (Some f.1))
                    (sym (find_below_all R o q e es (o.congr q f.0 e.0 tied ∙ turn o e.0 f.0 Greater gt) g))
                | Greater ↦ λ _. find_into q e es g more fs (both_right _ _ h)
              ] refl
        ] refl

    -- what either list has at a key
    pub find_join : (q : K) (es : List (K × X)) (fs : List (K × Y)) → IsSorted R es → IsSorted R fs
        → find R q (join R es fs) ≡ pair (find R q es) (find R q fs)
    find_join q [] fs g h = find_right X R q fs
    find_join q (e ∷ es) fs g h = find_into q e es (both_left _ _ g) (λ gs s. find_join q es gs (both_right _ _ g) s) fs h

-- What is left of two lists, once out has been made of what came before.
pub record Carries {K X Y Z : Type 0} (R : K → K → Ordering) (P : Option X × Option Y → Z → Type 0) (es : List (K × X))
    (fs : List (K × Y)) (i j : ℕ) (out : List (K × Z)) : Type 0 where
  pub i_in : i ≤ length es
  pub j_in : j ≤ length fs
  pub rest : (ts : List (K × Z)) → Made P (join R (drop i es) (drop j fs)) ts → Made P (join R es fs) (out ++ ts)

module _ {K X Y Z : Type 0} (R : K → K → Ordering) (P : Option X × Option Y → Z → Type 0) (es : List (K × X)) (fs : List (K × Y)) where
  carry : (i j i' j' : ℕ) (out new : List (K × Z)) (k : K) (c : Option X × Option Y) (v : Z) → Carries R P es fs i j out
      → i' ≤ length es → j' ≤ length fs → join R (drop i es) (drop j fs) ≡ (k, c) ∷ join R (drop i' es) (drop j' fs) → P c v
      → new ≡ out ++ (k, v) ∷ [] → Carries R P es fs i' j' new
  carry i j i' j' out new k c v h i_in j_in e p is = record {
    i_in = i_in;
    j_in = j_in;
    rest = λ ts m. rw (is, append_assoc out ((k, v) ∷ []) ts) (h.rest ((k, v) ∷ ts) (rw e (refl, p, m)));
  }

  module _ (i j : ℕ) (out new : List (K × Z)) (h : Carries R P es fs i j out) (d : K × X) (c : K × Y) where
    heads : i < length es → j < length fs → (join R (drop i es) (drop j fs))
        ≡ join R (get_or es i d ∷ drop (i + 1) es) (get_or fs j c ∷ drop (j + 1) fs)
    heads lt lu = rw (drop_more es i d lt, drop_more fs j c lu) refl

    -- where the left list's next key is the lesser, a value made of its entry alone follows
    pub carry_less : i < length es → j < length fs → (v : Z) → R (get_or es i d).0 (get_or fs j c).0 ≡ Less
        → P (Some (get_or es i d).1, None) v → new ≡ out ++ ((get_or es i d).0, v) ∷ [] → Carries R P es fs (i + 1) j new
    carry_less lt lu v e p is = carry i j (i + 1) j out new _ _ v h (omega arith) (omega arith)
        (heads lt lu ∙ rw (e, drop_more fs j c lu) refl) p is

    -- where the right list's next key is the lesser, a value made of its entry alone follows
    pub carry_greater : i < length es → j < length fs → (v : Z) → R (get_or es i d).0 (get_or fs j c).0 ≡ Greater
        → P (None, Some (get_or fs j c).1) v → new ≡ out ++ ((get_or fs j c).0, v) ∷ [] → Carries R P es fs i (j + 1) new
    carry_greater lt lu v e p is = carry i j i (j + 1) out new _ _ v h (omega arith) (omega arith)
        (heads lt lu ∙ rw (e, drop_more es i d lt) refl) p is

    -- where both lists have the same next key, a value made of both entries follows
    pub carry_equal : i < length es → j < length fs → (v : Z) → R (get_or es i d).0 (get_or fs j c).0 ≡ Equal
        → P (Some (get_or es i d).1, Some (get_or fs j c).1) v → new ≡ out ++ ((get_or es i d).0, v) ∷ []
        → Carries R P es fs (i + 1) (j + 1) new
    carry_equal lt lu v e p is = carry i j (i + 1) (j + 1) out new _ _ v h (omega arith) (omega arith) (heads lt lu ∙ rw e refl) p is

  left_alone : (xs : List (K × X)) → join {Y = Y} R xs [] ≡ map (λ e. (e.0, (Some e.1, None))) xs
  left_alone [] = refl
  left_alone (e ∷ xs) = ap (λ l. (e.0, (Some e.1, None)) ∷ l) (left_alone xs)

  -- one list is at its end, and what is left of the other follows
  pub carries_end : (i j : ℕ) (out lefts rights : List (K × Z)) → Carries R P es fs i j out → (i < length es → length fs ≤ j)
      → Made P (map (λ e. (e.0, (Some e.1, None))) (drop i es)) lefts → Made P (map (λ f. (f.0, (None, Some f.1))) (drop j fs)) rights
      → Made P (join R es fs) ((out ++ lefts) ++ rights)
  carries_end i j out lefts rights h one left right = elim (cases_lt i (length es)) [
    | inl more ↦
        let none : drop j fs ≡ [] = drop_all j fs (one more) in
        let nothing : rights ≡ [] = made_nothing (drop j fs) none rights right in
        rw (nothing, append-nil (out ++ lefts)) (h.rest lefts (rw (none, left_alone (drop i es)) left))
    | inr past ↦
        let none : drop i es ≡ [] = drop_all i es past in
        let nothing : lefts ≡ [] = made_nothing_left (drop i es) none lefts left in
        rw (nothing, append-nil out) (h.rest rights (rw none right))
  ]
    where
      empty : (zs : List (K × Z)) → Made P [] zs → zs ≡ []
      empty [] m = refl
      empty (z ∷ zs) m = absurd m

      made_nothing : (ys : List (K × Y)) → ys ≡ [] → (zs : List (K × Z)) → Made P (map (λ f. (f.0, (None, Some f.1))) ys) zs → zs ≡ []
      made_nothing ys e zs m = empty zs (subst (λ ys. Made P (map (λ f. (f.0, (None, Some f.1))) ys) zs) e m)

      made_nothing_left : (xs : List (K × X)) → xs ≡ [] → (zs : List (K × Z)) → Made P (map (λ f. (f.0, (Some f.1, None))) xs) zs → zs ≡ []
      made_nothing_left xs e zs m = empty zs (subst (λ xs. Made P (map (λ f. (f.0, (Some f.1, None))) xs) zs) e m)
