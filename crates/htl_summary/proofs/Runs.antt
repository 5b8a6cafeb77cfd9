-- The first run of a list that is sorted by a key, in which each has the key of the next, has all that have its key.
use Rattle.std.proofs.Common.{◌≡◌, ◌≢◌, ℕ, zero, suc, ◌+◌, ◌-◌, ◌<◌, ◌≤◌, Bool, true, false, List, ◌++◌, length, get_or}
use Rattle.std.proofs.Common.{refl, sym, ap, subst, ◌∙◌, arith, inl, inr}
use Rattle.std.specs.Prelude.{Contains}
use Rattle.std.specs.Bool.{Decides}
use Rattle.std.specs.List.{IsChunkByPrefix}
use Rattle.std.specs.List.Sorted.{IsSortedByKey}
use Rattle.std.specs.Ordering.{is_lt}
use Rattle.std.specs.Cmp.{IsTotalOrder}
use Rattle.std.specs.declared.cmp.Ordering.{Ordering}
use Rattle.std.specs.declared.cmp.Ordering.TheVariants.{Less, Equal, Greater}
use Rattle.std.proofs.lemmas.Bool.{both_ways}
use Rattle.std.proofs.lemmas.List.{length-append, get_or-append-add, get_or_default}
use Rattle.std.proofs.lemmas.List.Elements.{Contains-append_right, Contains-append_cases}
use Rattle.std.proofs.Math.ListN.{get_or-append}
use Rattle.std.proofs.lemmas.List.Sorted.{ranks_by, sorted_far}
use Rattle.htl_sorted.proofs.Places.{turn}

module _ {X K : Type 0} (key : X → K) {cmp : K → K → Ordering} (o : IsTotalOrder cmp) (proper : (x y : K) → cmp x y ≡ Equal → x ≡ y)
    (same : K → K → Bool) (decides : (x y : K) → Decides (same x y) (x ≡ y)) where
  -- the two have one key
  abbrev have_one : X → X → Bool
  have_one x y = same (key x) (key y)

  -- keys of which neither is lower are equal
  neither_lower : (s t : K) → is_lt (cmp s t) ≡ false → is_lt (cmp t s) ≡ false → s ≡ t
  neither_lower s t not nor = by (cmp s t) refl
    where
      by : (r : Ordering) → cmp s t ≡ r → s ≡ t
      by Less e = absurd (both_ways (is_lt (cmp s t)) not (ap is_lt e))
      by Equal e = proper s t e
      by Greater e = absurd (both_ways (is_lt (cmp t s)) nor (ap is_lt (turn o s t Greater e)))

  module _ (rest run after : List X) (sorted : IsSortedByKey key cmp rest) (is : rest ≡ run ++ after) (some : 0 < length run)
      (prefix : IsChunkByPrefix have_one rest (length run)) where
    abbrev key_at : ℕ → X → K
    key_at i d = key (get_or rest i d)

    long : length rest ≡ length run + length after
    long = ap length is ∙ length-append run after

    -- each of the run has the key of the first
    key_is : (i : ℕ) (d : X) → i < length run → key_at i d ≡ key_at 0 d
    key_is zero d lt = refl
    key_is (suc i) d lt =
        let next : i + 1 ≡ suc i = omega arith in
        let passes : have_one (get_or rest i d) (get_or rest (suc i) d) ≡ true = subst (λ j. have_one (get_or rest i d) (get_or rest j d) ≡ true)
        next (prefix.0 i d (omega (arith, lt))) in
        sym ((decides (key_at i d) (key_at (suc i) d)).0 passes) ∙ key_is i d (omega (arith, lt))

    lowest : (i j : ℕ) (d : X) → i ≤ j → j < length rest → is_lt (cmp (key_at j d) (key_at i d)) ≡ false
    lowest i j d le lt =
        sorted_far (λ x y. is_lt (cmp (key x) (key y))) (ranks_by o key) rest sorted i j d le lt

    -- and each that follows has another
    key_differs : (j : ℕ) (d : X) → length run ≤ j → j < length rest → key_at j d ≢ key_at 0 d
    key_differs j d le lt e =
        let n = length run in
        let border = prefix.1 (omega (arith, le, lt)) d in
        let last : key_at (n - 1) d ≡ key_at 0 d = key_is (n - 1) d (omega (arith, some)) in
        let below = lowest 0 n d (omega arith) (omega (arith, le, lt)) in
        let above : is_lt (cmp (key_at 0 d) (key_at n d)) ≡ false = subst (λ s. is_lt (cmp s (key_at n d)) ≡ false) e (lowest n j d le lt) in
        let at : key_at n d ≡ key_at 0 d = neither_lower (key_at n d) (key_at 0 d) below above in
        both_ways (have_one (get_or rest (n - 1) d) (get_or rest n d)) border
        ((decides (key_at (n - 1) d) (key_at n d)).1 (last ∙ sym at))

    in_run : (i : ℕ) (d : X) → i < length run → get_or rest i d ≡ get_or run i d
    in_run i d lt = ap (λ l. get_or l i d) is ∙ get_or-append run after d i lt

    in_after : (i : ℕ) (d : X) → get_or rest (length run + i) d ≡ get_or after i d
    in_after i d = ap (λ l. get_or l (length run + i) d) is ∙ get_or-append-add run after i d

    pub run_same : (d x : X) → Contains run x → key x ≡ key (get_or run 0 d)
    run_same d x (i, lt, at) =
        ap key (sym at ∙ get_or_default run i x d lt ∙ sym (in_run i d lt)) ∙ key_is i d lt ∙ ap key (in_run 0 d some)

    pub after_differs : (d x : X) → Contains after x → key x ≢ key (get_or run 0 d)
    after_differs d x (i, lt, at) e =
        let within : length run + i < length rest = omega (arith, lt, long) in
        let here : key x ≡ key_at (length run + i) d = ap key (sym at ∙ get_or_default after i x d lt ∙ sym (in_after i d)) in
        key_differs (length run + i) d (omega arith) within (sym here ∙ e ∙ ap key (sym (in_run 0 d some)))

    pub after_sorted : IsSortedByKey key cmp after
    after_sorted k d low high =
        let more : length run + k + 1 ≡ length run + (k + 1) = omega arith in
        let up : is_lt (cmp (key_at (length run + (k + 1)) d) (key_at (length run + k) d)) ≡ false =
        subst (λ j. is_lt (cmp (key_at j d) (key_at (length run + k) d)) ≡ false) more
        (sorted (length run + k) d (omega arith) (omega (arith, high, long))) in
        subst (λ y. is_lt (cmp (key y) (key (get_or after k d))) ≡ false) (in_after (k + 1) d)
        (subst (λ y. is_lt (cmp (key_at (length run + (k + 1)) d) (key y)) ≡ false) (in_after k d) up)

    first_in : (d : X) → Contains rest (get_or run 0 d)
    first_in d =
        let first = get_or run 0 d in
        (0, omega (arith, some, long), in_run 0 first some ∙ get_or_default run 0 first d some)

    module _ (passed : List X) (differ : (x y : X) → Contains passed x → Contains rest y → key x ≢ key y) where
      pub before_differs : (d x : X) → Contains passed x → key x ≢ key (get_or run 0 d)
      before_differs d x h = differ x (get_or run 0 d) h (first_in d)

      pub still_differ : (d x y : X) → Contains (passed ++ run) x → Contains after y → key x ≢ key y
      still_differ d x y h there e = elim (Contains-append_cases passed run x h) [
        | inl old ↦ differ x y old (subst (λ l. Contains l y) (sym is) (Contains-append_right run after y there)) e
        | inr new ↦ after_differs d y there (sym e ∙ run_same d x new)
      ]
