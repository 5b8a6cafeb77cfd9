-- Two lists of rows become one in one pass, in which each key has the values of both, joined.
use Rattle.std.proofs.Common.{◌≡◌, ℕ, ◌+◌, ◌-◌, ◌<◌, ◌≤◌, List, [], ◌∷◌, ◌++◌, length, drop, take}
use Rattle.std.proofs.Common.{get_or, set, map, Option, Some, None, arith, refl, sym, ◌∙◌, ap, subst}
use Rattle.std.specs.declared.cmp.Ordering.{Ordering}
use Rattle.std.specs.declared.cmp.Ordering.TheVariants.{Less, Equal, Greater}
use Rattle.std.specs.Cmp.{IsTotalOrder, tied_itself}
use Rattle.std.specs.List.{insert}
use Rattle.std.specs.FinMap.Entries.{find, put}
use Rattle.std.proofs.lemmas.List.{get_or-map, map_push, map-append, map-set, drop-map, take-map, length-map, get_or_default}
use Rattle.htl_lemmas.proofs.Lists.{rest_is}
use Rattle.htl_sorted.specs.Entries.{IsSorted, IsPlace, IsGap, entries, joined_at}
use Rattle.htl_sorted.specs.Made.{Made}
use Rattle.htl_sorted.proofs.Places.{place}
use Rattle.htl_sorted.proofs.SideBySide.{join, pair, MadeAt, find_made, sorted_made, sorted_join}
use Rattle.htl_sorted.proofs.SideBySide.{find_join, Carries, carry_less, carry_greater, carry_equal, carries_end}

-- what is left of both lists, put after what is made
pub rests_behind : {X : Type 0} (made left right one both : List X) (i j : ℕ) → one ≡ made ++ take (length left - i) (drop i left)
    → both ≡ one ++ take (length right - j) (drop j right) → both ≡ (made ++ drop i left) ++ drop j right
rests_behind made left right one both i j first second =
    second ∙ ap (λ l. one ++ l) (rest_is right j) ∙ ap (λ l. l ++ drop j right) (first ∙ ap (λ l. made ++ l) (rest_is left i))

-- the value that two sides make
abbrev pub Makes : {X : Type 0} → (X → X → X) → Option X × Option X → X → Type 0
Makes f sides v = joined_at f sides.0 sides.1 ≡ Some v

made_value : {X : Type 0} (f : X → X → X) (a b c : Option X) → MadeAt (Makes f) (pair a b) c → c ≡ joined_at f a b
made_value f None None None m = refl
made_value f None None (Some z) m = absurd m
made_value f None (Some y) None m = absurd m
made_value f None (Some y) (Some z) m = sym m
made_value f (Some x) None None m = absurd m
made_value f (Some x) None (Some z) m = sym m
made_value f (Some x) (Some y) None m = absurd m
made_value f (Some x) (Some y) (Some z) m = sym m

module _ {Row K X : Type 0} (key : Row → K) (value : Row → X) where
  abbrev pub entry : Row → K × X
  entry row = (key row, value row)

  pub entry_at : (rows : List Row) (i : ℕ) (x : Row) (d : K × X) → i < length rows → x ≡ get_or rows i x
      → get_or (entries key value rows) i d ≡ entry x
  entry_at rows i x d lt is = get_or-map entry rows i x d lt ∙ ap entry (sym is)

  entries-insert : (rows : List Row) (i : ℕ) (z : Row) → entries key value (insert rows i z) ≡ insert (entries key value rows) i (entry z)
  entries-insert rows i z = map-append entry (take i rows) (z ∷ drop i rows) ∙ ap (λ l. l ++ entry z ∷ entries key value (drop i rows))
      (sym (take-map entry i rows)) ∙ ap (λ l. take i (entries key value rows) ++ entry z ∷ l) (sym (drop-map entry i rows))

  module _ (R : K → K → Ordering) (rows : List Row) (k : K) (i : ℕ) where
    -- the row at the place of a key
    pub placed_row : IsPlace R (entries key value rows) k i → (x : Row) → x ≡ get_or rows i x
        → find R k (entries key value rows) ≡ Some (value x)
    placed_row place x is =
        let lt : i < length rows = omega (arith, place.in_range, length-map rows entry) in
        place.value (entry x) ∙ ap (λ (e : K × X). Some e.1) (entry_at rows i x (entry x) lt is)

    -- a row in the place of another that has its key
    pub set_row : IsPlace R (entries key value rows) k i → (x z : Row) → x ≡ get_or rows i x → key z ≡ key x
        → entries key value (set rows i z) ≡ put R k (value z) (entries key value rows)
    set_row place x z is same =
        let lt : i < length rows = omega (arith, place.in_range, length-map rows entry) in
        map-set entry rows i z ∙ ap (λ j. set (entries key value rows) i (j, value z))
        (same ∙ sym (ap (λ (e : K × X). e.0) (entry_at rows i x (entry x) lt is))) ∙ sym (place.puts (entry x) (value z))

    -- a new row in its gap
    pub insert_row : IsGap R (entries key value rows) k i → (z : Row) → key z ≡ k
        → entries key value (insert rows i z) ≡ put R k (value z) (entries key value rows)
    insert_row gap z same = entries-insert rows i z ∙ ap (λ j. insert (entries key value rows) i (j, value z)) same
        ∙ sym (gap.puts (value z))

  module _ {R : K → K → Ordering} (o : IsTotalOrder R) where
    -- what is found at the key of a row
    pub row_found : (rows : List Row) → IsSorted R (entries key value rows) → (i : ℕ) (x : Row) → i < length rows → x ≡ get_or rows i x
        → find R (key x) (entries key value rows) ≡ Some (value x)
    row_found rows s i x lt is =
        let tied : (d : Row) → R (key (get_or rows i d)) (key x) ≡ Equal =
        λ d. ap (λ y. R (key y) (key x)) (get_or_default rows i d x lt ∙ sym is) ∙ tied_itself o (key x) in
        (place key value o (key x) rows s i lt tied).value (entry x) ∙ ap (λ (e : K × X). Some e.1) (entry_at rows i x (entry x) lt is)

  module _ (R : K → K → Ordering) (f : X → X → X) (left right : List Row) where
    -- the rows made so far, of the first i rows of the one list and the first j rows of the other
    abbrev pub IsMadeOf : ℕ → ℕ → List Row → Type 0
    IsMadeOf i j out = Carries R (Makes f) (entries key value left) (entries key value right) i j (entries key value out)

    module _ (i j : ℕ) (out new : List Row) (h : IsMadeOf i j out) (x y z : Row) (lt : i < length left) (lu : j < length right)
        (is_x : x ≡ get_or left i x) (is_y : y ≡ get_or right j y) (is : new ≡ out ++ z ∷ []) where
      as_entries : entries key value new ≡ entries key value out ++ entry z ∷ []
      as_entries = ap (entries key value) is ∙ map_push entry out z

      in_left : i < length (entries key value left)
      in_left = omega (arith, length-map left entry)

      in_right : j < length (entries key value right)
      in_right = omega (arith, length-map right entry)

      at_left : get_or (entries key value left) i (entry x) ≡ entry x
      at_left = entry_at left i x (entry x) lt is_x

      at_right : get_or (entries key value right) j (entry y) ≡ entry y
      at_right = entry_at right j y (entry y) lu is_y

      compared : (r : Ordering) → R (key x) (key y) ≡ r
          → R (get_or (entries key value left) i (entry x)).0 (get_or (entries key value right) j (entry y)).0 ≡ r
      compared r e = ap (λ (a : K × X). R a.0 (get_or (entries key value right) j (entry y)).0) at_left
          ∙ ap (λ (b : K × X). R (key x) b.0) at_right ∙ e

      -- where the left list's next key is the lesser, its row follows what was made so far
      pub made_less : R (key x) (key y) ≡ Less → z ≡ x → IsMadeOf (i + 1) j new
      made_less e same = carry_less R (Makes f) _ _ i j _ _ h (entry x) (entry y) in_left in_right (value z) (compared Less e)
          (ap (λ (a : K × X). Some a.1) at_left ∙ ap (λ a. Some (value a)) (sym same))
          (as_entries ∙ ap (λ a. entries key value out ++ (a, value z) ∷ []) (ap key same ∙ sym (ap (λ (a : K × X). a.0) at_left)))

      -- where the right list's next key is the lesser, its row follows what was made so far
      pub made_greater : R (key x) (key y) ≡ Greater → z ≡ y → IsMadeOf i (j + 1) new
      made_greater e same = carry_greater R (Makes f) _ _ i j _ _ h (entry x) (entry y) in_left in_right (value z) (compared Greater e)
          (ap (λ (a : K × X). Some a.1) at_right ∙ ap (λ a. Some (value a)) (sym same))
          (as_entries ∙ ap (λ a. entries key value out ++ (a, value z) ∷ []) (ap key same ∙ sym (ap (λ (a : K × X). a.0) at_right)))

      -- where both lists have the same next key, one row with that key and both values joined follows what was made so far
      pub made_equal : R (key x) (key y) ≡ Equal → key z ≡ key x → value z ≡ f (value x) (value y) → IsMadeOf (i + 1) (j + 1) new
      made_equal e same_key same_value = carry_equal R (Makes f) _ _ i j _ _ h (entry x) (entry y) in_left in_right (value z)
          (compared Equal e)
          (ap (λ (a : K × X). Some (f a.1 (get_or (entries key value right) j (entry y)).1)) at_left
          ∙ ap (λ (b : K × X). Some (f (value x) b.1)) at_right ∙ ap (λ v. Some v) (sym same_value))
          (as_entries ∙ ap (λ a. entries key value out ++ (a, value z) ∷ []) (same_key ∙ sym (ap (λ (a : K × X). a.0) at_left)))

    lefts_made : (rows : List Row) → Made (Makes f) (map (λ e. (e.0, (Some e.1, None))) (entries key value rows)) (entries key value rows)
    lefts_made [] = tt
    lefts_made (x ∷ rows) = (refl, refl, lefts_made rows)

    rights_made : (rows : List Row) → Made (Makes f) (map (λ e. (e.0, (None, Some e.1))) (entries key value rows)) (entries key value rows)
    rights_made [] = tt
    rights_made (x ∷ rows) = (refl, refl, rights_made rows)

    -- all that is left of either list follows, where one is at its end
    all_made : (i j : ℕ) (out new : List Row) → IsMadeOf i j out → (i < length left → length right ≤ j) → new ≡ (out ++ drop i left)
        ++ drop j right → Made (Makes f) (join R (entries key value left) (entries key value right)) (entries key value new)
    all_made i j out new h one is =
        let ended : i < length (entries key value left) → length (entries key value right) ≤ j =
        λ lt. let le = one (omega (arith, length-map left entry)) in omega (arith, length-map right entry) in
        let whole : entries key value new
        ≡ (entries key value out ++ entries key value (drop i left)) ++ entries key value (drop j right) =
        ap (entries key value) is ∙ map-append entry (out ++ drop i left) (drop j right)
        ∙ ap (λ l. l ++ entries key value (drop j right)) (map-append entry out (drop i left)) in
        rw whole (carries_end R (Makes f) _ _ i j _ _ _ h ended
        (rw (drop-map entry i left) (lefts_made (drop i left)))
        (rw (drop-map entry j right) (rights_made (drop j right))))

    module _ (o : IsTotalOrder R) (sorted_left : IsSorted R (entries key value left))
        (sorted_right : IsSorted R (entries key value right)) where
      -- once one list is at its end, the rows made with the rest of the other after them are in the order of their keys
      pub merged_sorted : (i j : ℕ) (out new : List Row) → IsMadeOf i j out → (i < length left → length right ≤ j)
          → new ≡ (out ++ drop i left) ++ drop j right → IsSorted R (entries key value new)
      merged_sorted i j out new h one is =
          sorted_made R (Makes f) _ _ (all_made i j out new h one is) (sorted_join R o _ _ sorted_left sorted_right)

      -- once one list is at its end, a key has in these rows what both lists have there, joined
      pub merged_value : (i j : ℕ) (out new : List Row) → IsMadeOf i j out → (i < length left → length right ≤ j)
          → new ≡ (out ++ drop i left) ++ drop j right → (k : K)
          → find R k (entries key value new) ≡ joined_at f (find R k (entries key value left)) (find R k (entries key value right))
      merged_value i j out new h one is k =
          made_value f (find R k (entries key value left)) (find R k (entries key value right)) _
          (subst (λ a. MadeAt (Makes f) a (find R k (entries key value new))) (find_join R o k _ _ sorted_left sorted_right)
          (find_made R (Makes f) k _ _ (all_made i j out new h one is)))
