-- After each step a state has taken exactly the segments that reached it, and it answers about their events alone.
use Rattle.std.proofs.Common.{◌≡◌, ℕ, Bool, true, List, [], ◌∷◌, ◌++◌, refl, sym, ap, ◌∙◌, subst, inl, inr, ◌⊎◌}
use Rattle.std.specs.Prelude.{Contains, ◌↔◌, filter}
use Rattle.std.proofs.lemmas.List.Elements.{Contains-append_cases, Contains-append_left, Contains-append_right}
use Rattle.htl_event.proofs.Members.{Contains-here, Contains-there, Contains-cases, Contains-nil, at_member, each_member, filter-pass}
use Rattle.htl_event.proofs.Members.{all_append}
use Rattle.htl_segment.specs.Content.{Content, Fits}
use Rattle.htl_segment.specs.Traces.{Trace, key_is_in, all_events}
use Rattle.htl_analyst.specs.States.{State}
use Rattle.htl_analyst.specs.Keys.{HasTaken, keys}
use Rattle.htl_analyst.specs.Right.{IsCollection, IsRight}
use Rattle.htl_analyst.specs.Refusals.{TakeAccepted}
use Rattle.htl_analyst.specs.declared.fault.Took.{Took}
use Rattle.htl_analyst.specs.declared.fault.Took.TheVariants.{New, Repeat}
use Rattle.htl_analyst.specs.Steps.{new_state, taken_as}
use Rattle.htl_analyst.specs.TakenEvents.{taken_events}
use Rattle.htl_analyst.specs.TakenAll.{HasKeyOf, HasTakenAll, IsFirstOf}
use Rattle.htl_analyst.proofs.Firsts.{first_at_end, still_first}
use Rattle.htl_analyst.proofs.KeyEvents.{taken_keys}

-- ---- the steps

-- a new analyst has taken no segment
pub new_has_taken_none : (id count : ℕ) (a : State) → a ≡ new_state id count → ((p n : ℕ) → HasTaken a p n → ⊥)
    → ((T : Trace) → IsCollection T → T.id ≡ id → T.processors ≡ count → IsRight a T) → HasTakenAll [] a
new_has_taken_none id count a is none right = record {
  ids = tt;
  fit = tt;
  keys = λ p n. (λ h. absurd (none p n h), λ k. absurd (Contains-nil k.0 k.1));
  right = λ T collection same_id same_count of.
      right T collection (same_id ∙ ap (λ (x : State). x.trace_id) is) (same_count ∙ ap (λ (x : State). x.processors) is);
}

-- a repeat and a new segment are of the old state's trace id and processor count
taken_ids : (took : Took) (a : State) (s : Content) → ((taken_as took a s).trace_id ≡ a.trace_id)
    × ((taken_as took a s).processors ≡ a.processors)
taken_ids New a s = (refl, refl)
taken_ids Repeat a s = (refl, refl)

-- a key of the list with a segment more is one of the list, or the segment's
key_more : (segments : List Content) (s : Content) (p n : ℕ)
    → HasKeyOf (segments ++ s ∷ []) p n ↔ (HasKeyOf segments p n ⊎ ((p ≡ s.processor) × (n ≡ s.number)))
key_more segments s p n = (
  (λ k. elim (Contains-append_cases segments (s ∷ []) k.0 k.1) [
    | inl before ↦ inl (k.0, before, k.2, k.3)
    | inr last ↦ elim (Contains-cases s [] k.0 last) [
      | inl same ↦ inr (sym k.2 ∙ ap (λ (x : Content). x.processor) (sym same), sym k.3 ∙ ap (λ (x : Content). x.number) (sym same))
      | inr none ↦ absurd (Contains-nil k.0 none)
    ]
  ]),
  (λ h. elim h [
    | inl k ↦ (k.0, Contains-append_left segments (s ∷ []) k.0 k.1, k.2, k.3)
    | inr same ↦ (s, Contains-append_right segments (s ∷ []) s (Contains-here s []), sym same.0, sym same.1)
  ]),
)

abbrev AreIdsOf : State → Content → Type 0
AreIdsOf a s = (s.trace_id ≡ a.trace_id) × (s.processors ≡ a.processors)

-- a state that took a segment is right about a collection of the first segments of all keys
next_right : (segments : List Content) (s : Content) (took : Took) (a b : State) (T : Trace) → b ≡ taken_as took a s
    → ((took ≡ New) ↔ (HasTaken a s.processor s.number → ⊥)) → ((p n : ℕ) → HasTaken a p n ↔ HasKeyOf segments p n)
    → (IsRight a T → Contains T.segments s → IsRight b T)
    → ((t : Content) → IsFirstOf (segments ++ s ∷ []) t → Contains T.segments t) → IsRight a T → IsRight b T
next_right segments s Repeat a b T is new keys right each before = subst (λ (x : State). IsRight x T) (sym is) before
next_right segments s New a b T is new keys right each before =
    right before (each s (first_at_end segments s (λ key. new.0 refl ((keys s.processor s.number).1 key))))

-- a take that is Ok adds its segment, whether it is new or a repeat
pub take_has_taken_one_more : (segments : List Content) (s : Content) (took : Took) (a b : State) → HasTakenAll segments a → Fits s
    → b ≡ taken_as took a s → TakeAccepted a s → ((took ≡ New) ↔ (HasTaken a s.processor s.number → ⊥))
    → ((p n : ℕ) → HasTaken b p n ↔ (HasTaken a p n ⊎ ((p ≡ s.processor) × (n ≡ s.number))))
    → ((T : Trace) → IsRight a T → Contains T.segments s → IsRight b T) → HasTakenAll (segments ++ s ∷ []) b
take_has_taken_one_more segments s took a b old fits is accepted new more right =
    let same = taken_ids took a s in
    let id : b.trace_id ≡ a.trace_id = ap (λ (x : State). x.trace_id) is ∙ same.0 in
    let count : b.processors ≡ a.processors = ap (λ (x : State). x.processors) is ∙ same.1 in
    record {
      ids = all_append (AreIdsOf b) segments (s ∷ [])
          (each_member (AreIdsOf b) segments
          (λ t h. (let e = at_member (AreIdsOf a) segments t old.ids h in (e.0 ∙ sym id, e.1 ∙ sym count))))
          ((accepted.of_state.trace_id ∙ sym id, accepted.of_state.processors ∙ sym count), tt);
      fit = all_append Fits segments (s ∷ []) old.fit (fits, tt);
      keys = λ p n.
          let now = more p n in
          let was = old.keys p n in
          let list = key_more segments s p n in (
            (λ h. elim (now.0 h) [ inl before ↦ list.1 (inl (was.0 before)) | inr here ↦ list.1 (inr here) ]),
            (λ k. elim (list.0 k) [ inl before ↦ now.1 (inl (was.1 before)) | inr here ↦ now.1 (inr here) ]),
          );
      right = λ T collection same_id same_count each.
          next_right segments s took a b T is new old.keys (right T) each
          (old.right T collection (same_id ∙ id) (same_count ∙ count) (λ t first. each t (still_first segments (s ∷ []) t first)));
    }

-- a compaction takes nothing and loses nothing, whether it is Ok or Err
pub compact_has_taken_the_same : (segments : List Content) (a b : State) → HasTakenAll segments a
    → (b.trace_id ≡ a.trace_id) × (b.processors ≡ a.processors) → ((p n : ℕ) → HasTaken b p n ↔ HasTaken a p n)
    → ((T : Trace) → IsRight a T → IsRight b T) → HasTakenAll segments b
compact_has_taken_the_same segments a b old same now right = record {
  ids = each_member (AreIdsOf b) segments
      (λ t h. (let e = at_member (AreIdsOf a) segments t old.ids h in (e.0 ∙ sym same.0, e.1 ∙ sym same.1)));
  fit = old.fit;
  keys = λ p n. (let k = now p n in let was = old.keys p n in (λ h. was.0 (k.0 h), λ h. k.1 (was.1 h)));
  right = λ T collection same_id same_count each.
      right T (old.right T collection (same_id ∙ same.0) (same_count ∙ same.1) each);
}

-- ---- the events

-- a test that every segment passes leaves none out
filter_all : (S : ℕ → ℕ → Bool) (ss : List Content) → ((s : Content) → Contains ss s → key_is_in S s ≡ true)
    → filter (key_is_in S) ss ≡ ss
filter_all S [] each = refl
filter_all S (s ∷ ss) each =
    filter-pass (key_is_in S) s ss (each s (Contains-here s ss))
    ∙ ap (λ (ts : List Content). s ∷ ts) (filter_all S ss (λ t h. each t (Contains-there s ss t h)))

-- where each segment of the trace was taken, the taken events are all of the trace's
pub all_were_taken : (segments : List Content) (T : Trace) (a : State) → HasTakenAll segments a
    → ((s : Content) → Contains T.segments s → Contains segments s) → taken_events T a ≡ all_events T.segments
all_were_taken segments T a taken of =
    ap all_events (filter_all (keys a) T.segments (λ s h.
    taken_keys a s.processor s.number ((taken.keys s.processor s.number).1 (s, of s h, refl, refl))))
