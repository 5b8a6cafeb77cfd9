-- What is complete with some cut ends stays so with more segments, together with other cut ends with which these are complete.
use Rattle.std.proofs.Common.{◌≡◌, ◌<◌, ◌∙◌, ℕ, List, ◌++◌, ap, sym, subst, inl, inr}
use Rattle.std.specs.Prelude.{Contains, Option, Some}
use Rattle.std.proofs.lemmas.List.Elements.{All-append, All-contains, All-from_recursion, Contains-append_cases, Contains-append_right}
use Rattle.htl_event.proofs.Members.{Contains-from_map, Contains-map, at_member, each_member, some_member}
use Rattle.htl_reading.specs.declared.outcome.SegmentName.{SegmentName}
use Rattle.htl_segment.specs.Content.{Content}
use Rattle.htl_segment.specs.Traces.{HasKey, Trace}
use Rattle.htl_case.specs.Cases.{IsCase, IsCaseOf}
use Rattle.htl_inputs.specs.declared.cuts.CutEnd.{CutEnd}
use Rattle.htl_inputs.proofs.CutLaws.{HaveNames, name_at}
use Rattle.htl_main.specs.Completeness.{IsComplete, IsKnown, MissesUpTo, name_of}

-- the case of a case's segments and others is of its trace
one_id : (T after : Trace) (more : List Content) (first : Content) → Contains T.segments first → IsCaseOf (more ++ T.segments) after
    → IsCase T → (after.id ≡ T.id) × (after.processors ≡ T.processors)
one_id T after more first there then t =
    let here = (then.members first).1 (Contains-append_right more T.segments first there) in
    let new = at_member (λ s. (s.trace_id ≡ after.id) × (s.processors ≡ after.processors)) after.segments first then.is_case.trace.same here in
    let old = at_member (λ s. (s.trace_id ≡ T.id) × (s.processors ≡ T.processors)) T.segments first t.trace.same there in
    (sym new.0 ∙ old.0, sym new.1 ∙ old.1)

-- the names of keys are the same
same_name : (T U : Trace) (p n : ℕ) → (T.id ≡ U.id) × (T.processors ≡ U.processors) → name_of T p n ≡ name_of U p n
same_name T U p n ids =
    ap (λ (id : ℕ). record { trace_id = id; processors = T.processors; processor = p; number = n }) ids.0
    ∙ ap (λ (k : ℕ). record { trace_id = U.id; processors = k; processor = p; number = n }) ids.1

module _ (T after : Trace) (more : List Content) (then : IsCaseOf (more ++ T.segments) after) (ids : (after.id ≡ T.id) × (after.processors ≡ T.processors))
  where
    key_too : (p n : ℕ) → HasKey T p n → HasKey after p n
    key_too p n key = (key.0, (then.members key.0).1 (Contains-append_right more T.segments key.0 key.1), key.2, key.3)

    -- what is missed later was missed before
    missed_before : (cut : CutEnd) (p : ℕ) → MissesUpTo after cut p → MissesUpTo T cut p
    missed_before cut p up = (
      subst (λ (n : ℕ). p < n) ids.1 up.0,
      up.1,
      up.2,
      up.3 ∙ ap (λ (name : SegmentName). Some name) (same_name after T p up.1 ids),
      up.4,
      λ key. up.5 (key_too p up.2 key),
    )

    known_later : (cut : CutEnd) → IsKnown T cut → IsKnown after cut
    known_later cut known =
        (known.0, known.1, known.2 ∙ ap (λ (name : SegmentName). Some name) (sym (same_name after T known.0 known.1 ids)))

-- a cut end of the one list has the name of one of the other
of_name : (cuts moved : List CutEnd) (cut : CutEnd) → HaveNames cuts moved → Contains moved cut
    → (other : CutEnd) × Contains cuts other × (other.name ≡ cut.name)
of_name cuts moved cut same there =
    Contains-from_map name_at cuts cut.name
    (subst (λ (names : List (Option SegmentName)). Contains names cut.name) (sym same) (Contains-map name_at moved cut there))

-- Of a case and some cut ends nothing is missing, and of that case with more segments and other cut ends nothing either. So with all cut
-- ends nothing is missing of it.
pub complete_both : (segments more : List Content) (T after : Trace) (old new moved : List CutEnd) → HaveNames new moved → IsCaseOf segments T
    → IsCaseOf (more ++ T.segments) after → IsComplete T old → IsComplete after new → IsComplete after (old ++ moved)
complete_both segments more T after old new moved same case then before now =
    let first = some_member T.segments case.is_case.some in
    let ids = one_id T after more first.0 first.1 then case.is_case in
    record {
      whole = λ p misses. elim misses [
        | inl gap ↦ now.whole p (inl gap)
        | inr at ↦ elim (Contains-append_cases old moved at.0 at.1) [
          | inl earlier ↦ before.whole p (inr (at.0, earlier, missed_before T after more then ids at.0 p at.2))
          | inr later ↦
              let other = of_name new moved at.0 same later in
              let up = at.2 in
              now.whole p (inr (other.0, other.1, (up.0, up.1, up.2, other.2 ∙ up.3, up.4, up.5)))
        ]
      ];
      known = All-append (IsKnown after) old moved
          (All-from_recursion (IsKnown after) old (each_member (IsKnown after) old (λ cut h.
          known_later T after more then ids cut (All-contains (IsKnown T) old cut before.known h))))
          (All-from_recursion (IsKnown after) moved (each_member (IsKnown after) moved (λ cut h.
          let other = of_name new moved cut same h in
          let known = All-contains (IsKnown after) new other.0 now.known other.1 in
          (known.0, known.1, sym other.2 ∙ known.2))));
    }
