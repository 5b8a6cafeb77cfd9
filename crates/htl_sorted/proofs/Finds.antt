-- In a list of entries in the order of their keys, a key is found in one place, and an edit at a key changes what is found there alone.
-- What holds of all that is found holds of all entries, and what is found in either of two lists is found in both together.
use Rattle.std.proofs.Common.{◌≡◌, ℕ, ◌+◌, List, [], ◌∷◌, ◌++◌, Some, None, T, true, false, cond, unwrap_or, ◌≢◌, refl, sym, ◌∙◌, ap, subst, arith}
use Rattle.std.specs.Ordering.{is_lt, is_eq, eq_by_cmp}
use Rattle.std.specs.List.{sum_by, AllByRecursion}
use Rattle.std.specs.declared.cmp.Ordering.TheVariants.{Less, Equal, Greater}
use Rattle.std.specs.Cmp.{IsTotalOrder, tied_itself}
use Rattle.std.specs.FinMap.Entries.{find, put, below_all, by_order, find-put}
use Rattle.std.specs.declared.cmp.Ordering.{Ordering}
use Rattle.std.proofs.lemmas.List.Sums.{sum_by-cons}
use Rattle.htl_sorted.specs.Entries.{IsSorted, Each}
use Rattle.htl_lemmas.proofs.Tests.{both, both_left, both_right, less}

module _ {K X : Type 0} (R : K → K → Ordering) where
  -- a list into which an entry was put isn't empty
  pub put_some : (k : K) (v : X) (es : List (K × X)) → put R k v es ≢ []
  put_some k v [] e = cc
  put_some k v (e ∷ es) is = (elim (R k e.0) as (λ r. by_order r ((k, v) ∷ e ∷ es) ((e.0, v) ∷ es) (e ∷ put R k v es) ≡ [] → ⊥) [
    | Less ↦ λ q. cc
    | Equal ↦ λ q. cc
    | Greater ↦ λ q. cc
  ]) is

  -- P still holds of each value once a value with P was put at a key
  pub each_put : (P : X → Type 0) (k : K) (v : X) (es : List (K × X)) → P v → Each P es → Each P (put R k v es)
  each_put P k v [] p h = (p, tt)
  each_put P k v (e ∷ es) p h = elim (R k e.0) as (λ r. Each P (by_order r ((k, v) ∷ e ∷ es) ((e.0, v) ∷ es) (e ∷ put R k v es))) [
    | Less ↦ (p, h)
    | Equal ↦ (p, h.1)
    | Greater ↦ (h.0, each_put P k v es p h.1)
  ]

  -- where P holds of each value, it holds of the one that is found at a key
  pub each_found : (P : X → Type 0) (k : K) (v : X) (es : List (K × X)) → Each P es → find R k es ≡ Some v → P v
  each_found P k v [] h e = cc
  each_found P k v (e ∷ es) h is = (elim (eq_by_cmp R k e.0) as (λ b. cond b (Some e.1) (find R k es) ≡ Some v → P v) [
    | true ↦ λ q. subst P (cc) h.0
    | false ↦ λ q. each_found P k v es h.1 q
  ]) is

  -- a key that the second list lacks is found in both together as it is in the first
  pub find-append_left : (q : K) (xs ys : List (K × X)) → find R q ys ≡ None → find R q (xs ++ ys) ≡ find R q xs
  find-append_left q [] ys none = none
  find-append_left q (x ∷ xs) ys none = ap (λ o. cond (eq_by_cmp R q x.0) (Some x.1) o) (find-append_left q xs ys none)

  -- a key that the first list lacks is found in both together as it is in the second
  pub find-append_right : (q : K) (xs ys : List (K × X)) → find R q xs ≡ None → find R q (xs ++ ys) ≡ find R q ys
  find-append_right q [] ys none = refl
  find-append_right q (x ∷ xs) ys none =
      (elim (eq_by_cmp R q x.0) as (λ b. cond b (Some x.1) (find R q xs) ≡ None → cond b (Some x.1) (find R q (xs ++ ys)) ≡ find R q ys) [
        | true ↦ λ no. let never : Some x.1 ≡ None = no in absurd (cc)
        | false ↦ λ rest. find-append_right q xs ys rest
      ]) none

  -- a key below all of two lists is below all of both together
  pub below_append : (k : K) (xs ys : List (K × X)) → T (below_all R k xs) → T (below_all R k ys) → T (below_all R k (xs ++ ys))
  below_append k [] ys g h = h
  below_append k (x ∷ xs) ys g h = both _ _ (both_left _ _ g) (below_append k xs ys (both_right _ _ g) h)

  -- the keys of the first list are below all of the second
  abbrev pub AllBelow : List (K × X) → List (K × X) → Type 0
  AllBelow [] ys = Unit {0}
  AllBelow (x ∷ xs) ys = T (below_all R x.0 ys) × AllBelow xs ys

  -- two sorted lists, the first of which is below the second, are sorted together
  pub sorted_append : (xs ys : List (K × X)) → IsSorted R xs → IsSorted R ys → AllBelow xs ys → IsSorted R (xs ++ ys)
  sorted_append [] ys g h all = h
  sorted_append (x ∷ xs) ys g h all =
      both _ _ (below_append x.0 xs ys (both_left _ _ g) all.0) (sorted_append xs ys (both_right _ _ g) h all.1)

  module _ (o : IsTotalOrder R) where
    -- what was put at a key is found there
    pub find_put_same : (k : K) (v : X) (es : List (K × X)) → find R k (put R k v es) ≡ Some v
    find_put_same k v es = find-put R o k k v es ∙ ap (λ r. cond (is_eq r) (Some v) (find R k es)) (tied_itself o k)

    -- a put at one key leaves what is found at each other key
    pub find_put_other : ((x y : K) → R x y ≡ Equal → x ≡ y) → (q k : K) (v : X) (es : List (K × X)) → q ≢ k
        → find R q (put R k v es) ≡ find R q es
    find_put_other same q k v es other = find-put R o q k v es
        ∙ (elim (R q k) as (λ r. R q k ≡ r → cond (is_eq r) (Some v) (find R q es) ≡ find R q es) [
          | Less ↦ λ e. refl
          | Equal ↦ λ e. absurd (other (same q k e))
          | Greater ↦ λ e. refl
        ] refl)

    -- at the key of the first entry its value is found
    pub find_first : (e : K × X) (es : List (K × X)) → find R e.0 (e ∷ es) ≡ Some e.1
    find_first e es = ap (λ r. cond (is_eq r) (Some e.1) (find R e.0 es)) (tied_itself o e.0)

    -- what is below a key is below what that key is below
    pub below_lower : (k q : K) (es : List (K × X)) → R k q ≡ Less → T (below_all R q es) → T (below_all R k es)
    below_lower k q [] lt h = tt
    below_lower k q (e ∷ es) lt h = both _ _ (subst (λ r. T (is_lt r)) (sym (o.trans k q e.0 lt (less _ (both_left _ _ h)))) tt)
        (below_lower k q es lt (both_right _ _ h))

    -- a key that ties with one below all entries is below all of them, too
    pub below_tied : (k q : K) (es : List (K × X)) → R k q ≡ Equal → T (below_all R q es) → T (below_all R k es)
    below_tied k q [] tied h = tt
    below_tied k q (e ∷ es) tied h = both _ _ (subst (λ r. T (is_lt r)) (sym (o.congr k q e.0 tied)) (both_left _ _ h))
        (below_tied k q es tied (both_right _ _ h))

    -- a key below all isn't there
    pub find_below : (k : K) (es : List (K × X)) → T (below_all R k es) → find R k es ≡ None
    find_below k [] h = refl
    find_below k (e ∷ es) h = ap (λ r. cond (is_eq r) (Some e.1) (find R k es)) (less _ (both_left _ _ h))
        ∙ find_below k es (both_right _ _ h)

    -- a key below the first entry's isn't found, where the first entry's is below all others
    pub find_below_all : (k : K) (f : K × X) (fs : List (K × X)) → R k f.0 ≡ Less → T (below_all R f.0 fs) → find R k (f ∷ fs) ≡ None
    find_below_all k f fs lt h = find_below k (f ∷ fs) (both _ _ (subst (λ r. T (is_lt r)) (sym lt) tt) (below_lower k f.0 fs lt h))

    -- at a key other than the first entry's, what is found is what the tail has
    pub find_skip : ((x y : K) → R x y ≡ Equal → x ≡ y) → (q : K) (e : K × X) (es : List (K × X)) → q ≢ e.0
        → find R q (e ∷ es) ≡ find R q es
    find_skip same q e es other = (elim (R q e.0) as (λ r. R q e.0 ≡ r → cond (is_eq r) (Some e.1) (find R q es) ≡ find R q es) [
      | Less ↦ λ e. refl
      | Equal ↦ λ c. absurd (other (same q e.0 c))
      | Greater ↦ λ e. refl
    ] refl)

    -- what is found after the first entry is found in the whole
    pub found_behind : (e : K × X) (es : List (K × X)) → IsSorted R (e ∷ es) → (k : K) (v : X) → find R k es ≡ Some v
        → find R k (e ∷ es) ≡ Some v
    found_behind e es s k v found =
        (elim (R k e.0) as (λ r. R k e.0 ≡ r → cond (is_eq r) (Some e.1) (find R k es) ≡ Some v) [
          | Less ↦ λ c. found
          | Equal ↦ λ c. absurd (let none : find R k es ≡ None = find_below k es (below_tied k e.0 es c (both_left _ _ s)) in
              let never : None ≡ Some v = sym none ∙ found in cc)
          | Greater ↦ λ c. found
        ]) refl

    -- what holds of each entry that is found holds of each entry
    pub all_from_found : (P : K → X → Type 0) (es : List (K × X)) → IsSorted R es → ((k : K) (v : X) → find R k es ≡ Some v → P k v)
        → AllByRecursion (λ (e : K × X). P e.0 e.1) es
    all_from_found P [] s h = tt
    all_from_found P (e ∷ es) s h =
        (h e.0 e.1 (find_first e es), all_from_found P es (both_right _ _ s) (λ k v found. h k v (found_behind e es s k v found)))

    -- what holds of each value that is found holds of each value
    pub each_from_found : (P : X → Type 0) (es : List (K × X)) → IsSorted R es → ((k : K) (v : X) → find R k es ≡ Some v → P v) → Each P es
    each_from_found P [] s h = tt
    each_from_found P (e ∷ es) s h = (
      h e.0 e.1 (find_first e es),
      each_from_found P es (both_right _ _ s) (λ k v found. h k v (found_behind e es s k v found)),
    )

    -- how a sum over the entries changes where one is put
    pub sum_by-put : (proper : (x y : K) → R x y ≡ Equal → x ≡ y) (weight : K → X → ℕ) (zero : X) → ((k : K) → weight k zero ≡ 0)
        → (k : K) (v : X) (es : List (K × X)) → IsSorted R es → sum_by (λ e. weight e.0 e.1) (put R k v es) + weight k
        (unwrap_or (find R k es) zero) ≡ sum_by (λ e. weight e.0 e.1) es + weight k v
    sum_by-put proper weight zero none k v [] s = rw (sum_by-cons (λ (x : K × X). weight x.0 x.1) (k, v) [], none k) (omega arith)
    sum_by-put proper weight zero none k v (e ∷ es) s =
        let old : sum_by (λ x. weight x.0 x.1) (e ∷ es) ≡ weight e.0 e.1 + sum_by (λ x. weight x.0 x.1) es =
        sum_by-cons (λ (x : K × X). weight x.0 x.1) e es in
        (elim (R k e.0) as (λ r. R k e.0 ≡ r
        → sum_by (λ e. weight e.0 e.1) (by_order r ((k, v) ∷ e ∷ es) ((e.0, v) ∷ es) (e ∷ put R k v es)) + weight k
        (unwrap_or (cond (is_eq r) (Some e.1) (find R k es)) zero) ≡ sum_by (λ e. weight e.0 e.1) (e ∷ es) + weight k v) [
          | Less ↦ λ c.
              let absent : find R k es ≡ None = find_below k es (below_lower k e.0 es c (both_left _ _ s)) in
              let first = sum_by-cons (λ (x : K × X). weight x.0 x.1) (k, v) (e ∷ es) in
              let nothing = none k in
              rw absent (omega (arith, first, nothing))
          | Equal ↦ λ c.
              let same : k ≡ e.0 = proper k e.0 c in
              let new = sum_by-cons (λ (x : K × X). weight x.0 x.1) (e.0, v) es in
              let same_old : weight k e.1 ≡ weight e.0 e.1 = ap (λ q. weight q e.1) same in
              let same_new : weight k v ≡ weight e.0 v = ap (λ q. weight q v) same in
              omega (arith, new, old, same_old, same_new)
          | Greater ↦ λ c.
              let new = sum_by-cons (λ (x : K × X). weight x.0 x.1) e (put R k v es) in
              let rest = sum_by-put proper weight zero none k v es (both_right _ _ s) in
              omega (arith, new, old, rest)
        ] refl)

    -- what holds of each key that is there
    pub all_keys_from_found : (P : K → Type 0) (es : List (K × X)) → IsSorted R es → ((k : K) (v : X) → find R k es ≡ Some v → P k)
        → AllByRecursion (λ e. P e.0) es
    all_keys_from_found P [] s h = tt
    all_keys_from_found P (e ∷ es) s h = (
      h e.0 e.1 (find_first e es),
      all_keys_from_found P es (both_right _ _ s) (λ k v found. h k v (found_behind e es s k v found)),
    )

    -- P still holds of each key once an entry with such a key was put
    pub all_keys_put : (P : K → Type 0) (k : K) (v : X) (es : List (K × X)) → P k → AllByRecursion (λ e. P e.0) es
        → AllByRecursion (λ e. P e.0) (put R k v es)
    all_keys_put P k v [] p h = (p, tt)
    all_keys_put P k v (e ∷ es) p h =
        elim (R k e.0) as (λ r. AllByRecursion (λ e. P e.0) (by_order r ((k, v) ∷ e ∷ es) ((e.0, v) ∷ es) (e ∷ put R k v es))) [
          | Less ↦ (p, h)
          | Equal ↦ h
          | Greater ↦ (h.0, all_keys_put P k v es p h.1)
        ]

    -- where P holds of each key, it holds of a key that is found
    pub key_found : ((x y : K) → R x y ≡ Equal → x ≡ y) → (P : K → Type 0) (k : K) (v : X) (es : List (K × X))
        → AllByRecursion (λ e. P e.0) es → find R k es ≡ Some v → P k
    key_found proper P k v [] h e = cc
    key_found proper P k v (e ∷ es) h found =
        (elim (R k e.0) as (λ r. R k e.0 ≡ r → cond (is_eq r) (Some e.1) (find R k es) ≡ Some v → P k) [
          | Less ↦ λ c is. key_found proper P k v es h.1 is
          | Equal ↦ λ c is. subst P (sym (proper k e.0 c)) h.0
          | Greater ↦ λ c is. key_found proper P k v es h.1 is
        ]) refl found
