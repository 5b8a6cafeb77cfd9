-- A sort key that is offered to others is added, put in the place of a later one, or met by one of them.
use Rattle.std.proofs.Common.{◌≡◌, ℕ, true, false, ◌<◌, List, length, get_or, set}
use Rattle.std.proofs.Common.{refl, sym, ap, ◌∙◌, inl, inr, ◌⊎◌, arith, subst, Contains}
use Rattle.std.specs.Ordering.{is_lt}
use Rattle.std.proofs.lemmas.Bool.{cases_eq}
use Rattle.std.proofs.lemmas.Option.{slice_get_within, get_or_from_slice_get}
use Rattle.std.proofs.lemmas.List.{get_or_default, get_or-set_same, get_or-set_other, length-set}
use Rattle.htl_tables.specs.declared.sort_key.SortKey.{SortKey}
use Rattle.htl_tables.specs.SortKeys.{sort_key_cmp, IsPlaceOf, Offers}
use Rattle.htl_tables.proofs.SortKeyOrder.{no_later-same, no_later-trans, less_no_later}

-- ---- at the place of one of its handle

module _ (keys : List SortKey) (k : SortKey) (place : ℕ) (kept : SortKey) (of : IsPlaceOf keys k place)
    (is : kept ≡ get_or keys place kept) where
  lt : place < length keys
  lt = slice_get_within keys place of.key of.at

  same : of.key ≡ kept
  same = sym (get_or_from_slice_get keys place of.key kept of.at) ∙ sym is

  process : kept.process ≡ k.process
  process = ap (λ (u : SortKey). u.process) (sym same) ∙ of.process

  base : kept.base ≡ k.base
  base = ap (λ (u : SortKey). u.base) (sym same) ∙ of.base

  -- it comes no later than the offered one
  pub offered_kept : is_lt (sort_key_cmp k kept) ≡ false → Offers k keys keys
  offered_kept order = record {
    each = λ u h. inl h;
    met = λ u m. m;
    own = record { key = kept; here = (place, lt, sym is); process = process; base = base; order = order };
  }

  there : Contains (set keys place k) k
  there = (place, omega (arith, lt, length-set keys place k), get_or-set_same keys place k k lt)

  from_set : (u : SortKey) → Contains (set keys place k) u → Contains keys u ⊎ (k ≡ u)
  from_set u (j, within, at) =
      elim (cases_eq j place) [
        | inl e ↦ inr (sym (ap (λ (n : ℕ). get_or (set keys place k) n u) e ∙ get_or-set_same keys place k u lt) ∙ at)
        | inr ne ↦ inl (j, omega (arith, within, length-set keys place k), sym (get_or-set_other keys place j k u ne) ∙ at)
      ]

  into_set : (u : SortKey) → Contains keys u → Contains (set keys place k) u ⊎ (kept ≡ u)
  into_set u (j, within, at) =
      elim (cases_eq j place) [
        | inl e ↦ inr (is ∙ get_or_default keys place kept u lt ∙ ap (λ (n : ℕ). get_or keys n u) (sym e) ∙ at)
        | inr ne ↦ inl (j, omega (arith, within, length-set keys place k), get_or-set_other keys place j k u ne ∙ at)
      ]

  -- it comes later
  pub offered_set : is_lt (sort_key_cmp k kept) ≡ true → Offers k keys (set keys place k)
  offered_set order = record {
    each = from_set;
    met = λ u m. elim (into_set m.key m.here) [
      | inl still ↦ record { key = m.key; here = still; process = m.process; base = m.base; order = m.order }
      | inr e ↦ record {
        key = k;
        here = there;
        process = sym process ∙ ap (λ (x : SortKey). x.process) e ∙ m.process;
        base = sym base ∙ ap (λ (x : SortKey). x.base) e ∙ m.base;
        order = no_later-trans u kept k (subst (λ (x : SortKey). is_lt (sort_key_cmp u x) ≡ false) (sym e) m.order)
            (less_no_later k kept order);
      }
    ];
    own = record { key = k; here = there; process = refl; base = refl; order = no_later-same k };
  }
