-- The first place whose value isn't that of place 0 is what a search finds.
use Rattle.std.proofs.Common.{◌≡◌, ℕ, ◌<◌, Bool, not, ltb, List, length, get_or, Some, None}
use Rattle.std.proofs.Common.{sym, ap, ◌∙◌, inl, inr, arith}
use Rattle.std.specs.Prelude.{Contains, position, slice_get, cond, ◌==◌}
use Rattle.std.specs.List.{position_or_len}
use Rattle.std.proofs.lemmas.Bool.{not-true, not-false, eqb-true, eqb-false, cases_Bool, ltb-false}
use Rattle.std.proofs.lemmas.Option.{same_Some, none-some, slice_get-get_or, get_or_from_slice_get}
use Rattle.std.proofs.lemmas.List.Quantifiers.{position-Some}
use Rattle.std.proofs.lemmas.List.Sums.{fails_before_first}
use Rattle.htl_segment.specs.Content.{Content}
use Rattle.htl_event.specs.Members.{IsLeastSuch}
use Rattle.htl_case.specs.Faults.{Differs}

module _ (value : Content → ℕ) (v : ℕ) where
  abbrev other : Content → Bool
  other s = not (value s == v)

  -- the place that the search finds is the least with another value than place 0
  pub first_other : (ss : List Content) (first : Content) (place : ℕ) → slice_get ss 0 ≡ Some first → value first ≡ v
      → position other ss ≡ Some place → IsLeastSuch ◌<◌ (Differs value ss) place
  first_other ss first place at is found =
      let here = position-Some other ss place first found in
      record {
        holds = record {
          first = first;
          at_first = at;
          other = get_or ss place first;
          at_place = slice_get-get_or ss place first here.0;
          differ = λ same. eqb-false _ _ (not-true _ here.1) (same ∙ is);
        };
        least = λ earlier lt d.
            let same : get_or ss earlier first ≡ d.other = get_or_from_slice_get ss earlier d.other first d.at_place in
            let as_first : first ≡ d.first = same_Some first d.first (sym at ∙ d.at_first) in
            d.differ (ap value (sym same) ∙ eqb-true _ _ (not-false _ (here.2 earlier lt)) ∙ sym is ∙ ap value as_first);
      }

  -- where none is found, no segment has another value
  pub none_other : (ss : List Content) → position other ss ≡ None → (s : Content) → Contains ss s → value s ≡ v
  none_other ss none s h =
      elim (cases_Bool (ltb (position_or_len other ss) (length ss))) [
        | inl found ↦
            let some : position other ss ≡ Some (position_or_len other ss) = ap
            (λ (b : Bool). cond b (Some (position_or_len other ss)) None) found in
            absurd (none-some (position_or_len other ss) (sym none ∙ some))
        | inr past ↦
            let le = ltb-false (position_or_len other ss) (length ss) past in
            let fails = fails_before_first other ss h.0 s (omega (arith, le, h.1)) in
            ap value (sym h.2) ∙ eqb-true _ _ (not-false _ fails)
      ]
