-- What the rows of two tables make on their way to become one stays where the last row of either, or one made of both, is put in place.
use Rattle.std.proofs.Common.{◌≡◌, ℕ, List, [], ◌∷◌, ◌++◌, Option, Some, None, cond, append_assoc, refl, sym, ap}
use Rattle.std.proofs.Common.{◌∙◌, subst, inl, inr, true, false, nat_lt}
use Rattle.std.specs.Option.{option_or}
use Rattle.std.specs.Ordering.{is_eq, eq_by_cmp}
use Rattle.std.specs.declared.cmp.Ordering.TheVariants.{Greater}
use Rattle.std.specs.FinMap.Entries.{find}
use Rattle.std.proofs.lemmas.Bool.{cases_Bool}
use Rattle.std.specs.Cmp.{tied_itself}
use Rattle.htl_event.specs.Events.{Event}
use Rattle.htl_event.specs.Handles.{later}
use Rattle.htl_sorted.proofs.Places.{turn}
use Rattle.htl_sorted.proofs.Finds.{find_below}
use Rattle.htl_lemmas.proofs.Tests.{both_left, both_right, equal}
use Rattle.htl_tables.specs.Keys.{key_cmp, key_of, keyed, ByKey}
use Rattle.htl_tables.specs.KeyLaws.{key_cmp-equal}
use Rattle.htl_tables.specs.Latest.{later_of}
use Rattle.htl_tables.specs.Placing.{Make}
use Rattle.htl_tables.proofs.KeyOrder.{key_total}
use Rattle.htl_tables.proofs.Tables.{joined-later}
use Rattle.htl_tables.proofs.SortedRows.{Sorted, IsBelow, below_behind, none_before, find_last}
use Rattle.htl_tables.proofs.SortedRows.{sorted_before, sorted_behind, sorted_insert, sorted_changed}

-- what rows have at a key
abbrev at : ℕ × ℕ → List Event → Option Event
at k rows = find key_cmp k (keyed rows)

-- what the rows in place, and else the rows in front and those that are left, have at a key
abbrev made_at : ℕ × ℕ → List Event → List Event → List Event → Option Event
made_at k front left placed = option_or (at k placed) (later (at k front) (at k left))

-- what is made at each key stays where a row is put in place that was made at its own key, and all rows have the same at each other key
step : (z : Event) (front left front' left' placed : List Event)
    → ((k : ℕ × ℕ) → eq_by_cmp key_cmp k (key_of z) ≡ false → at k front ≡ at k front')
    → ((k : ℕ × ℕ) → eq_by_cmp key_cmp k (key_of z) ≡ false → at k left ≡ at k left')
    → IsBelow (key_of z) placed → later (at (key_of z) front) (at (key_of z) left) ≡ Some z
    → (k : ℕ × ℕ) → made_at k front left placed ≡ made_at k front' left' (z ∷ placed)
step z front left front' left' placed fronts lefts below here k = elim (cases_Bool (eq_by_cmp key_cmp k (key_of z))) [
  | inl t ↦
      let same : k ≡ key_of z = key_cmp-equal k (key_of z) (equal _ t) in
      let none : at k placed ≡ None = ap (λ j. at j placed) same ∙ find_below key_cmp key_total (key_of z) (keyed placed) below in
      let old : made_at k front left placed ≡ Some z =
      ap (λ o. option_or o (later (at k front) (at k left))) none ∙ ap (λ j. later (at j front) (at j left)) same ∙ here in
      let new : made_at k front' left' (z ∷ placed) ≡ Some z =
      ap (λ b. option_or (cond b (Some z) (at k placed)) (later (at k front') (at k left'))) t in
      old ∙ sym new
  | inr f ↦
      let new : made_at k front' left' (z ∷ placed) ≡ made_at k front' left' placed =
      ap (λ b. option_or (cond b (Some z) (at k placed)) (later (at k front') (at k left'))) f in
      ap (λ o. option_or (at k placed) (later o (at k left))) (fronts k f)
      ∙ ap (λ o. option_or (at k placed) (later (at k front') o)) (lefts k f) ∙ sym new
]

-- without the last row, rows have the same at each key but its own
without_last : (xs : List Event) (x : Event) (ys : List Event) → Sorted ((xs ++ x ∷ []) ++ ys) → (k : ℕ × ℕ)
    → eq_by_cmp key_cmp k (key_of x) ≡ false → at k (xs ++ x ∷ []) ≡ at k xs
without_last xs x ys h k other =
    find_last k xs x (none_before xs x [] (sorted_before (xs ++ x ∷ []) ys h)) ∙ ap (λ b. cond b (Some x) (at k xs)) other

-- at the key of the last row, rows have this row
with_last : (xs : List Event) (x : Event) (ys : List Event) → Sorted ((xs ++ x ∷ []) ++ ys) → at (key_of x) (xs ++ x ∷ []) ≡ Some x
with_last xs x ys h =
    find_last (key_of x) xs x (none_before xs x [] (sorted_before (xs ++ x ∷ []) ys h))
    ∙ ap (λ r. cond (is_eq r) (Some x) (at (key_of x) xs)) (tied_itself key_total (key_of x))

-- the last row is below the rows behind
pub last_below : (xs : List Event) (x : Event) (ys : List Event) → Sorted ((xs ++ x ∷ []) ++ ys) → IsBelow (key_of x) ys
last_below xs x ys h = both_left _ _ (sorted_behind xs (x ∷ ys) (subst Sorted (append_assoc xs (x ∷ []) ys) h))

module _ (target : ℕ → ℕ → Option Event) (front left placed : List Event) (x e : Event) where
  -- the last older row is put in place where its key is above that of the last newer row
  pub make_moved : Make target (front ++ x ∷ []) (left ++ e ∷ []) placed → key_cmp (key_of x) (key_of e) ≡ Greater
      → Make target front (left ++ e ∷ []) (x ∷ placed)
  make_moved h gt =
      let lt : ByKey e x = turn key_total (key_of x) (key_of e) Greater gt in
      let below : IsBelow (key_of x) placed = last_below front x placed h.older in
      let newer : Sorted ((left ++ e ∷ []) ++ x ∷ placed) = subst Sorted (sym (append_assoc left (e ∷ []) (x ∷ placed)))
      (sorted_insert left e x placed (subst Sorted (append_assoc left (e ∷ []) placed) h.newer) lt below) in
      let none : at (key_of x) (left ++ e ∷ []) ≡ None = none_before (left ++ e ∷ []) x placed newer in
      record {
        older = subst Sorted (append_assoc front (x ∷ []) placed) h.older;
        newer = newer;
        value = λ process base. h.value process base
            ∙ step x (front ++ x ∷ []) (left ++ e ∷ []) front (left ++ e ∷ []) placed (without_last front x placed h.older)
            (λ k other. refl) below
            (ap (λ o. later o (at (key_of x) (left ++ e ∷ []))) (with_last front x placed h.older) ∙ ap (λ o. later (Some x) o) none)
            (process, base);
      }

  -- last rows with one key are put in place as the later of both
  pub make_met : Make target (front ++ x ∷ []) (left ++ e ∷ []) placed → key_of x ≡ key_of e
      → Make target front left (later_of x e ∷ placed)
  make_met h same =
      let z = later_of x e in
      let key : key_of x ≡ key_of (later_of x e) = later_key x e same in
      let key_e : key_of e ≡ key_of (later_of x e) = sym same ∙ key in
      let older : Sorted (front ++ x ∷ placed) = subst Sorted (append_assoc front (x ∷ []) placed) h.older in
      let newer : Sorted (left ++ e ∷ placed) = subst Sorted (append_assoc left (e ∷ []) placed) h.newer in
      let left_has : at (key_of z) (front ++ x ∷ []) ≡ Some x =
      ap (λ k. at k (front ++ x ∷ [])) (sym key) ∙ with_last front x placed h.older in
      let right_has : at (key_of z) (left ++ e ∷ []) ≡ Some e =
      ap (λ k. at k (left ++ e ∷ [])) (sym key_e) ∙ with_last left e placed h.newer in
      record {
        older = sorted_changed front x z placed key older;
        newer = sorted_changed left e z placed key_e newer;
        value = λ process base. h.value process base
            ∙ step z (front ++ x ∷ []) (left ++ e ∷ []) front left placed
            (λ k other. without_last front x placed h.older k (ap (λ j. eq_by_cmp key_cmp k j) key ∙ other))
            (λ k other. without_last left e placed h.newer k (ap (λ j. eq_by_cmp key_cmp k j) key_e ∙ other))
            (subst (λ k. IsBelow k placed) key (last_below front x placed h.older))
            (ap (λ o. later o (at (key_of z) (left ++ e ∷ []))) left_has ∙ ap (λ o. later (Some x) o) right_has
            ∙ sym (joined-later (Some x) (Some e)))
            (process, base);
      }
    where
      later_key : (x e : Event) → key_of x ≡ key_of e → key_of x ≡ key_of (later_of x e)
      later_key x e same = elim (nat_lt x.sequence e.sequence) as (λ b. key_of x ≡ key_of (cond b e x)) [
        | true ↦ same
        | false ↦ refl
      ]

module _ (target : ℕ → ℕ → Option Event) (front left placed : List Event) (e : Event) where
  -- the last newer row is put in place where it comes behind all older rows in front
  pub make_put : Make target front (left ++ e ∷ []) placed → Sorted (front ++ e ∷ placed) → Make target front left (e ∷ placed)
  make_put h older =
      record {
        older = older;
        newer = subst Sorted (append_assoc left (e ∷ []) placed) h.newer;
        value = λ process base. h.value process base
            ∙ step e front (left ++ e ∷ []) front left placed (λ k other. refl)
            (without_last left e placed h.newer) (last_below left e placed h.newer)
            (ap (λ o. later o (at (key_of e) (left ++ e ∷ []))) (none_before front e placed older) ∙ with_last left e placed h.newer)
            (process, base);
      }

-- ---- all rows together

or_nothing : (o : Option Event) → o ≡ option_or o None
or_nothing None = refl
or_nothing (Some y) = refl

-- rows in order have what the last of them have at a key, or else what the first have
pub found_together : (k : ℕ × ℕ) (xs ys : List Event) → Sorted (xs ++ ys) → at k (xs ++ ys) ≡ option_or (at k ys) (at k xs)
found_together k [] ys h = or_nothing (at k ys)
found_together k (x ∷ xs) ys h = elim (cases_Bool (eq_by_cmp key_cmp k (key_of x))) [
  | inl t ↦
      let same : k ≡ key_of x = key_cmp-equal k (key_of x) (equal _ t) in
      let none : at k ys ≡ None = ap (λ j. at j ys) same
      ∙ find_below key_cmp key_total (key_of x) (keyed ys) (below_behind (key_of x) xs ys (both_left _ _ h)) in
      rw (t, none) refl
  | inr f ↦ rw f (found_together k xs ys (both_right _ _ h))
]
