-- Of segments in order that are among later ones, the first is the next of these, or none of them is.
use Rattle.std.proofs.Common.{◌≡◌, ◌++◌, ◌∷◌, ◌∙◌, ℕ, ◌+◌, ◌<◌, [], List, ap, drop, get_or, inl, inr, length, map, subst, sym, take}
use Rattle.std.specs.Prelude.{Contains}
use Rattle.std.proofs.lemmas.List.{drop_more, map-append, take_more}
use Rattle.htl_event.proofs.Members.{Contains-cases, Contains-here, Contains-there, at_member}
use Rattle.htl_segment.specs.Content.{Content}
use Rattle.htl_segment.specs.Rising.{IsKeyBefore}
use Rattle.htl_segment.specs.Traces.{AreInOrder, IsBefore}
use Rattle.htl_case.specs.Faults.{key_of}
use Rattle.htl_case.proofs.KeyOrder.{before_before, in_order_differ, not_itself}
use Rattle.htl_evidence.specs.Columns.{AreAmong, AreColumnsOf, HaveColumns, handle_bytes, object_bytes, process_bytes}
use Rattle.htl_evidence.specs.declared.columns.Columns.{Columns}

-- a segment after another in order has another key
after_differs : (t : Content) (ts : List Content) → AreInOrder (t ∷ ts) → (s : Content) → Contains ts s → key_of s ≡ key_of t → ⊥
after_differs t ts ordered s h same =
    not_itself (key_of t) (subst (λ (k : ℕ × ℕ). IsKeyBefore (key_of t) k) same (at_member (IsBefore t) ts s ordered.0 h))

-- two first segments of one key are one
pub first_is : (s t : Content) (ss ts : List Content) → AreAmong (s ∷ ss) (t ∷ ts) → key_of s ≡ key_of t → t ≡ s
first_is s t ss ts among same =
    elim (Contains-cases t ts s (among.among s (Contains-here s ss))) [
      | inl is ↦ is
      | inr there ↦ absurd (after_differs t ts among.later_in_order s there same)
    ]

-- the others are among the others
pub first_taken : (s t : Content) (ss ts : List Content) → AreAmong (s ∷ ss) (t ∷ ts) → key_of s ≡ key_of t → AreAmong ss ts
first_taken s t ss ts among same =
    let is = first_is s t ss ts among same in
    record {
      in_order = among.in_order.1;
      later_in_order = among.later_in_order.1;
      among = λ u h. elim (Contains-cases t ts u (among.among u (Contains-there s ss u h))) [
        | inl here ↦ absurd (in_order_differ s ss among.in_order u h (sym is ∙ here))
        | inr there ↦ there
      ];
    }

-- where the keys of the first ones differ, the earlier ones are among the others
pub first_skipped : (s t : Content) (ss ts : List Content) → AreAmong (s ∷ ss) (t ∷ ts) → (key_of s ≡ key_of t → ⊥) → AreAmong (s ∷ ss) ts
first_skipped s t ss ts among other = record {
  in_order = among.in_order;
  later_in_order = among.later_in_order.1;
  among = λ u h. elim (Contains-cases t ts u (among.among u h)) [
    | inl here ↦ absurd (elim (Contains-cases s ss u h) [
      | inl first ↦ other (ap key_of (first ∙ sym here))
      | inr later ↦ elim (Contains-cases t ts s (among.among s (Contains-here s ss))) [
        | inl is ↦ other (ap key_of (sym is))
        | inr there ↦
            let up = at_member (IsBefore s) ss u among.in_order.0 later in
            let below = at_member (IsBefore t) ts s among.later_in_order.0 there in
            not_itself (key_of t) (subst (λ (x : Content). IsKeyBefore (key_of t) (key_of x)) (sym here)
            (before_before (key_of t) (key_of s) (key_of u) below up))
      ]
    ])
    | inr there ↦ there
  ];
}

-- the columns of one more segment come last
pub columns_more : (ss : List Content) (i : ℕ) (s : Content) (all : List Columns) (columns : Columns) → i < length ss → s ≡ get_or ss i s
    → HaveColumns (take i ss) all → AreColumnsOf s.events columns → HaveColumns (take (i + 1) ss) (all ++ columns ∷ [])
columns_more ss i s all columns lt is have of =
    let next : take (i + 1) ss ≡ take i ss ++ s ∷ [] = take_more ss i s lt ∙ ap (λ (x : Content). take i ss ++ x ∷ []) (sym is) in
    subst (λ (ts : List Content). HaveColumns ts (all ++ columns ∷ [])) (sym next) (record {
      processes =
          map-append (λ (c : Columns). c.processes.items) all (columns ∷ [])
          ∙ ap (λ (xs : List (List ℕ)). xs ++ columns.processes.items ∷ []) have.processes
          ∙ ap (λ (x : List ℕ). map (λ (t : Content). process_bytes t.events) (take i ss) ++ x ∷ []) of.processes
          ∙ sym (map-append (λ (t : Content). process_bytes t.events) (take i ss) (s ∷ []));
      objects =
          map-append (λ (c : Columns). c.objects.items) all (columns ∷ [])
          ∙ ap (λ (xs : List (List ℕ)). xs ++ columns.objects.items ∷ []) have.objects
          ∙ ap (λ (x : List ℕ). map (λ (t : Content). object_bytes t.events) (take i ss) ++ x ∷ []) of.objects
          ∙ sym (map-append (λ (t : Content). object_bytes t.events) (take i ss) (s ∷ []));
      handles =
          map-append (λ (c : Columns). c.handles.items) all (columns ∷ [])
          ∙ ap (λ (xs : List (List ℕ)). xs ++ columns.handles.items ∷ []) have.handles
          ∙ ap (λ (x : List ℕ). map (λ (t : Content). handle_bytes t.events) (take i ss) ++ x ∷ []) of.handles
          ∙ sym (map-append (λ (t : Content). handle_bytes t.events) (take i ss) (s ∷ []));
    })

-- the segments that are left begin with the next one
pub left_from : (ss : List Content) (i : ℕ) (s : Content) → i < length ss → s ≡ get_or ss i s → drop i ss ≡ s ∷ drop (i + 1) ss
left_from ss i s lt is = drop_more ss i s lt ∙ ap (λ (x : Content). x ∷ drop (i + 1) ss) (sym is)

-- ---- the first of the earlier segments, where it is the next one

-- the first columns are those of the first segment
first_columns : (s : Content) (ss : List Content) (c : Columns) (cs : List Columns) → HaveColumns (s ∷ ss) (c ∷ cs) → AreColumnsOf s.events c
first_columns s ss c cs have = record { processes = cc have.processes; objects = cc have.objects; handles = cc have.handles }

module _ (earlier ss : List Content) (s : Content) (is : earlier ≡ s ∷ ss) (t : Content) (ts : List Content) (among : AreAmong earlier (t ∷ ts)) where
  -- its columns are those of the next one, where they have one key
  pub taken_columns : (all cs : List Columns) (c : Columns) → all ≡ c ∷ cs → HaveColumns earlier all → key_of s ≡ key_of t
      → AreColumnsOf t.events c
  taken_columns all cs c next have same =
      subst (λ (u : Content). AreColumnsOf u.events c) (sym (first_is s t ss ts (subst (λ (us : List Content). AreAmong us (t ∷ ts)) is among) same))
      (first_columns s ss c cs
      (subst (HaveColumns (s ∷ ss)) next (subst (λ (us : List Content). HaveColumns us all) is have)))

  -- and the others are among the others
  pub taken_among : key_of s ≡ key_of t → AreAmong ss ts
  taken_among same = first_taken s t ss ts (subst (λ (us : List Content). AreAmong us (t ∷ ts)) is among) same

  -- where they have two keys, all are among the others
  pub skipped_among : (key_of s ≡ key_of t → ⊥) → AreAmong earlier ts
  skipped_among other =
      subst (λ (us : List Content). AreAmong us ts) (sym is)
      (first_skipped s t ss ts (subst (λ (us : List Content). AreAmong us (t ∷ ts)) is among) other)
