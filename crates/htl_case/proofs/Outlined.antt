-- Outlines are of one trace exactly where all have the first one's id and count, and in key order repeats stand side by side.
use Rattle.std.proofs.Common.{◌≡◌, ℕ, ◌+◌, ◌<◌, ◌≤◌, Bool, true, false, eqb, cond, List, [], ◌∷◌, length, get_or, drop}
use Rattle.std.proofs.Common.{refl, sym, ap, ◌∙◌, subst, inl, inr, arith}
use Rattle.std.specs.Prelude.{Contains}
use Rattle.std.specs.List.{list_all}
use Rattle.std.proofs.lemmas.Bool.{and_parts, and_from, eqb-true, eq-eqb, both_ways}
use Rattle.std.proofs.lemmas.List.{drop_more}
use Rattle.std.proofs.lemmas.List.Sums.{sum_by-cons}
use Rattle.htl_event.specs.Members.{IsRising}
use Rattle.htl_event.proofs.Members.{Contains-here, Contains-there, Contains-cases, at_member, each_member}
use Rattle.htl_segment.specs.declared.outline.Outline.{Outline}
use Rattle.htl_segment.specs.Rising.{IsKeyBefore}
use Rattle.htl_case.specs.Ordered.{AreSortedBy}
use Rattle.htl_case.specs.Outlined.{outline_key, IsOutlineBefore, has_key, times_key, is_of, AreOfOne}
use Rattle.htl_case.proofs.KeyOrder.{cases_key}

-- ---- outlines of one trace

every : (p : Outline → Bool) (os : List Outline) → list_all p os ≡ true → (o : Outline) → Contains os o → p o ≡ true
every p [] all o h = absurd (omega (arith, h.1))
every p (x ∷ xs) all o h =
    let both = and_parts (p x) (list_all p xs) all in
    elim (Contains-cases x xs o h) [
      | inl is ↦ ap p (sym is) ∙ both.0
      | inr there ↦ every p xs both.1 o there
    ]

each : (p : Outline → Bool) (os : List Outline) → ((o : Outline) → Contains os o → p o ≡ true) → list_all p os ≡ true
each p [] all = refl
each p (o ∷ os) all = and_from (p o) (list_all p os) (all o (Contains-here o os)) (each p os (λ x h. all x (Contains-there o os x h)))

-- outlines that all have the first one's trace id and processor count are of one trace
pub of_one : (os : List Outline) (first : Outline) → Contains os first → list_all (is_of first.trace_id first.processors) os ≡ true
    → AreOfOne os first.processors
of_one os first h all = record {
  some = λ none. (let in_none = subst (λ (l : List Outline). Contains l first) none h in absurd (omega (arith, in_none.1)));
  trace_id = first.trace_id;
  trace = λ o k. eqb-true o.trace_id first.trace_id (parts o k).0;
  count = λ o k. eqb-true o.processors first.processors (parts o k).1;
}
  where
    parts : (o : Outline) → Contains os o → (eqb o.trace_id first.trace_id ≡ true) × (eqb o.processors first.processors ≡ true)
    parts o k = and_parts (eqb o.trace_id first.trace_id) (eqb o.processors first.processors)
        (every (is_of first.trace_id first.processors) os all o k)

-- outlines of which one has another trace id or processor count are of no one trace
pub not_of_one : (os : List Outline) (first : Outline) → Contains os first
    → list_all (is_of first.trace_id first.processors) os ≡ false → (processors : ℕ) → AreOfOne os processors → ⊥
not_of_one os first h none processors of =
    both_ways (list_all (is_of first.trace_id first.processors) os) none (each (is_of first.trace_id first.processors) os (λ o k.
    and_from (eqb o.trace_id first.trace_id) (eqb o.processors first.processors)
    (eq-eqb o.trace_id first.trace_id (of.trace o k ∙ sym (of.trace first h)))
    (eq-eqb o.processors first.processors (of.count o k ∙ sym (of.count first h)))))

-- ---- keys that come twice

-- an outline adds one to how often its key comes, and nothing to how often another does
pub times_key-cons : (key : ℕ × ℕ) (o : Outline) (os : List Outline)
    → times_key key (o ∷ os) ≡ cond (has_key key o) 1 0 + times_key key os
times_key-cons key o os = sum_by-cons (λ (x : Outline). cond (has_key key x) 1 0) o os

-- Of outlines in the order of their keys, what was gone through: where the keys of those that are left rise, all do, and a key
-- comes no more often among those left.
pub record AreGone (outlines left : List Outline) : Type 0 where
  pub sorted : AreSortedBy outline_key left
  pub rising : IsRising IsOutlineBefore left → IsRising IsOutlineBefore outlines
  pub inside : (key : ℕ × ℕ) → times_key key left ≤ times_key key outlines

-- the next one has another key, so all that follow have a higher one
one_gone : (outlines : List Outline) (o p : Outline) (os : List Outline) → (outline_key p ≡ outline_key o → ⊥)
    → AreGone outlines (o ∷ p ∷ os) → AreGone outlines (p ∷ os)
one_gone outlines o p os other gone = record {
  sorted = gone.sorted.1;
  rising = λ up. gone.rising (each_member (IsOutlineBefore o) (p ∷ os) after, up);
  inside = λ key. omega (arith, gone.inside key, times_key-cons key o (p ∷ os));
}
  where
    not_lower : (x : Outline) → Contains (p ∷ os) x → IsOutlineBefore x o → ⊥
    not_lower x h = at_member (λ y. IsKeyBefore (outline_key y) (outline_key o) → ⊥) (p ∷ os) x gone.sorted.0 h

    after : (x : Outline) → Contains (p ∷ os) x → IsOutlineBefore o x
    after x h =
        elim (cases_key (outline_key o) (outline_key x)) [
          | inl before ↦ before
          | inr (inr lower) ↦ absurd (not_lower x h lower)
          | inr (inl same) ↦ elim (Contains-cases p os x h) [
            | inl is ↦ absurd (other (ap outline_key is ∙ sym same))
            | inr there ↦ elim (cases_key (outline_key p) (outline_key o)) [
              | inl lower ↦ absurd (not_lower p (Contains-here p os) lower)
              | inr (inl equal) ↦ absurd (other equal)
              | inr (inr higher) ↦ absurd (at_member (λ y. IsKeyBefore (outline_key y) (outline_key p) → ⊥) os x gone.sorted.1.0 there
                  (subst (λ (k : ℕ × ℕ). IsKeyBefore k (outline_key p)) same higher))
            ]
          ]
        ]

-- the same at the place that a loop has come to
pub gone_more : (outlines rest : List Outline) (i : ℕ) (last next d : Outline) → i < length rest → next ≡ get_or rest i d
    → (outline_key next ≡ outline_key last → ⊥) → AreGone outlines (last ∷ drop i rest) → AreGone outlines (next ∷ drop (i + 1) rest)
gone_more outlines rest i last next d lt is other gone =
    one_gone outlines last next (drop (i + 1) rest) other
    (subst (λ (left : List Outline). AreGone outlines (last ∷ left))
    (drop_more rest i d lt ∙ ap (λ (x : Outline). x ∷ drop (i + 1) rest) (sym is)) gone)
