-- An analyst that took a list of segments is right about the first of each key, and takes the next one or finds it unfit.
use Rattle.std.proofs.Common.{◌≡◌, ◌≢◌, ℕ, ◌+◌, ◌<◌, ◌≤◌, Bool, true, false, List, [], ◌++◌, length, length-set, refl, sym, ap, ◌∙◌, subst}
use Rattle.std.proofs.Common.{inl, inr, ◌⊎◌, arith, Some, None, Option, eq-eqb, eqb, eqb-true, ltb, ltb-true}
use Rattle.std.specs.Prelude.{Contains, ◌↔◌, ◌||◌, is_some, map}
use Rattle.std.proofs.lemmas.Bool.{and_from, and_parts, cases_eq, cases_lt, lt-ltb}
use Rattle.std.proofs.lemmas.List.{get_or_past}
use Rattle.htl_event.specs.Events.{Event}
use Rattle.htl_event.proofs.Members.{Contains-from_map, Contains-map, Contains-nil}
use Rattle.htl_event.proofs.Members.{at_member, each_member, some_member}
use Rattle.htl_segment.specs.Content.{Content, Fits}
use Rattle.htl_segment.specs.Keys.{run_below}
use Rattle.htl_segment.specs.Traces.{Trace, HasKey}
use Rattle.htl_segment.proofs.Spans.{above}
use Rattle.htl_segment.proofs.Traces.{members_agree}
use Rattle.htl_taken.specs.Numbers.{Numbers, front_at, numbers_at, with_loose}
use Rattle.htl_taken.proofs.NumberSets.{numbers_at-set_same}
use Rattle.htl_analyst.specs.Keys.{HasTaken, number_taken}
use Rattle.htl_analyst.specs.Refusals.{HoldsOther, IsOfState, TakeAccepted}
use Rattle.htl_analyst.specs.Right.{IsCollection, IsOwned, IsRight, IsState}
use Rattle.htl_analyst.specs.States.{Part, State, folded_at, held_at, no_part}
use Rattle.htl_analyst.specs.TakenAll.{HasKeyOf, HasTakenAll, IsFirstOf}
use Rattle.htl_analyst.proofs.Firsts.{first_of_key, is_member}
use Rattle.htl_analyst.proofs.Held.{collection_of, number, one_segment}
use Rattle.htl_analyst.proofs.TakenAll.{all_were_taken, take_has_taken_one_more}
use Rattle.htl_analyst.proofs.Updates.{place-set_other}
use Rattle.htl_analyst.specs.Steps.{taken_as}
use Rattle.htl_analyst.specs.declared.fault.Took.{Took}
use Rattle.htl_analyst.specs.declared.fault.Took.TheVariants.{New, Repeat}
use Rattle.htl_case.specs.Faults.{key_of}
use Rattle.htl_main.specs.Folders.{FallsIn, IsFirstToFall, IsNewTo, Keeps, TookNext}
use Rattle.htl_main.specs.Folding.{Accepts, AreFolded, AreOfTraceOf, AreRising, Fall, FallsAt, IsCaseOfFirsts, IsCollectionOf, IsUnbroken}
use Rattle.htl_main.specs.Folding.{IsUnfit}
use Rattle.htl_case.specs.declared.fault.CaseFault.TheVariants as cases
use Rattle.htl_command.specs.Needs.{needs_events}
use Rattle.htl_question.specs.Questions.{is_of_events}
use Rattle.htl_command.specs.declared.question.Job.{Job}
use Rattle.htl_command.specs.declared.question.Moment.{Moment}
use Rattle.htl_main.proofs.Collections.{firsts_of}
use Rattle.htl_evidence.specs.Told.{HasFolded}
use Rattle.htl_evidence.proofs.TellLaws.{taken_all}

abbrev AreIdsOf : State → Content → Type 0
AreIdsOf a s = (s.trace_id ≡ a.trace_id) × (s.processors ≡ a.processors)

-- ---- a collection of the first segments

module _ (segments : List Content) (a : State) (T : Trace) (took : HasTakenAll segments a) (some : segments ≢ [])
    (collection : IsCollection T) (each : (s : Content) → IsFirstOf segments s → Contains T.segments s) where
  some_first : (s : Content) × IsFirstOf segments s
  some_first =
      let one = some_member segments some in
      let first = first_of_key segments (one.0).processor (one.0).number (one.0, one.1, refl, refl) in
      (first.0, first.1)

  -- it has the analyst's trace id and processor count
  pub same_ids : (T.id ≡ a.trace_id) × (T.processors ≡ a.processors)
  same_ids =
      let one = some_first in
      let ids = at_member (AreIdsOf a) segments one.0 took.ids (is_member segments one.0 one.1) in
      let same = at_member (λ s. (s.trace_id ≡ T.id) × (s.processors ≡ T.processors)) T.segments one.0 collection.same (each one.0 one.1) in
      (sym same.0 ∙ ids.0, sym same.1 ∙ ids.1)

  -- the analyst is right about it
  pub is_right : IsRight a T
  is_right = took.right T collection same_ids.0 same_ids.1 each

  -- the segment of a taken key is the first of the list that has it
  pub in_list : (s : Content) → Contains T.segments s → HasTaken a s.processor s.number → IsFirstOf segments s
  in_list s has taken =
      let first = first_of_key segments s.processor s.number ((took.keys s.processor s.number).0 taken) in
      subst (IsFirstOf segments)
      (one_segment T.segments collection.in_order first.0 s (each first.0 first.1) has first.2 first.3) first.1

-- ---- the collection of just these

module _ (segments : List Content) (a : State) (T : Trace) (took : HasTakenAll segments a) (some : segments ≢ [])
    (all : IsCollectionOf segments T) where
  pub right_of_all : IsRight a T
  right_of_all = is_right segments a T took some all.collection (λ s h. (all.members s).1 h)

  -- they were taken
  pub all_keys : (p n : ℕ) → HasTaken a p n ↔ HasKey T p n
  all_keys p n = (
    λ taken. (let first = first_of_key segments p n ((took.keys p n).0 taken) in (first.0, (all.members first.0).1 first.1, first.2, first.3)),
    λ has. (took.keys p n).1 (has.0, is_member segments has.0 ((all.members has.0).0 has.1), has.2, has.3),
  )

  -- each once
  pub all_counted : number_taken a ≡ length T.segments
  all_counted = taken_all a T right_of_all all_keys

-- a case of first segments is a collection of them
pub all_of_case : (segments : List Content) (T : Trace) → IsCaseOfFirsts segments T → IsCollectionOf segments T
all_of_case segments T case = record { collection = collection_of T case.is_case.trace; members = case.members }

-- ---- what is known of their collection

-- what was folded of segments is folded of their collection
pub folded_all : (segments : List Content) (a : State) (T : Trace) → AreFolded (Some a) segments → IsCollectionOf segments T → HasFolded a T
folded_all segments a T folded all = record {
  right = right_of_all segments a T folded.taken.1 folded.taken.0 all;
  keys = all_keys segments a T folded.taken.1 folded.taken.0 all;
  events = all_were_taken segments T a folded.taken.1 (λ s h. is_member segments s ((all.members s).0 h));
  far = folded.far;
}

-- ---- the next segment

module _ (segments : List Content) (a : State) (T : Trace) (took : HasTakenAll segments a) (some : segments ≢ [])
    (all : IsCollectionOf segments T) where
  right : IsRight a T
  right = right_of_all segments a T took some all

  -- a segment of the list is of one of the analyst's processors
  of_processor : (t : Content) → IsFirstOf segments t → t.processor < a.processors
  of_processor t first =
      let fits = at_member Fits segments t took.fit (is_member segments t first) in
      let ids = at_member (AreIdsOf a) segments t took.ids (is_member segments t first) in
      let below = fits.processor in
      let same = ids.1 in
      omega (arith, below, same)

  -- what is held of a processor are first segments of the list
  pub held_in_list : (p : ℕ) (h : Content) → p < a.processors → Contains (held_at a.parts p) h
      → (h.processor ≡ p) × IsFirstOf segments h
  held_in_list p h within has =
      let part = right.state.each p within in
      let owned = at_member (IsOwned a.trace_id a.processors p) (held_at a.parts p) h part.owned has in
      let there = at_member (Contains T.segments) (held_at a.parts p) h (right.each p within).held has in
      let numbered = subst (λ (ns : List ℕ). Contains ns h.number) part.numbers (Contains-mapped h has) in
      let taken : HasTaken a h.processor h.number = subst (λ (q : ℕ). HasTaken a q h.number) (sym owned.processor) (inr numbered) in
      (owned.processor, in_list segments a T took some all.collection (λ s first. (all.members s).1 first) h there taken)
    where
      Contains-mapped : (h : Content) → Contains (held_at a.parts p) h → Contains (map number (held_at a.parts p)) h.number
      Contains-mapped h has = Contains-map number (held_at a.parts p) h has

  -- what isn't below a front is held
  pub low_or_held : (t : Content) → IsFirstOf segments t → (t.number < front_at a.taken t.processor) ⊎ Contains (held_at a.parts t.processor) t
  low_or_held t first =
      let p = t.processor in
      let within = of_processor t first in
      let part = right.state.each p within in
      elim ((took.keys p t.number).1 (t, is_member segments t first, refl, refl)) [
        | inl below ↦ inl below
        | inr loose ↦
            let found = Contains-from_map number (held_at a.parts p) t.number
            (subst (λ (ns : List ℕ). Contains ns t.number) (sym part.numbers) loose) in
            let h = held_in_list p found.0 within found.1 in
            inr (subst (Contains (held_at a.parts p))
            (one_segment T.segments all.collection.in_order found.0 t ((all.members found.0).1 h.1) ((all.members t).1 first) h.0 found.2)
            found.1)
      ]

  -- nor what is not in an unbroken run
  pub held_of : (t : Content) → IsFirstOf segments t → (IsUnbroken segments t → ⊥) → Contains (held_at a.parts t.processor) t
  held_of t first broken =
      elim (low_or_held t first) [
        | inl below ↦ absurd (broken (λ n le. (took.keys t.processor n).0 (inl (omega (arith, below, le)))))
        | inr held ↦ held
      ]

  -- an event below a front of a processor is at most the last that was folded
  pub at_most_last : (t : Content) (f : Event) → IsFirstOf segments t → t.number < front_at a.taken t.processor → Contains t.events f
      → f.sequence ≤ (folded_at a.parts t.processor).last_sequence
  at_most_last t f first below in_t =
      let p = t.processor in
      let front = front_at a.taken p in
      let run : run_below p front t.processor t.number ≡ true =
      and_from (eqb t.processor p) (ltb t.number front) (eq-eqb t.processor p refl) (lt-ltb t.number front below) in
      let there = (members_agree (run_below p front) T.segments f).1 (t, (all.members t).1 first, run, in_t) in
      (right.each p (of_processor t first)).folded.last.bound f there

  -- where that isn't 0, it is the sequence of an event of a segment of the list below the front
  pub last_is_of : (p : ℕ) → p < a.processors → 0 < (folded_at a.parts p).last_sequence
      → (t : Content) × IsFirstOf segments t × (t.processor ≡ p) × (t.number < front_at a.taken p)
      × (f : Event) × Contains t.events f × (f.sequence ≡ (folded_at a.parts p).last_sequence)
  last_is_of p within above =
      elim ((right.each p within).folded.last.reached) [
        | inl none ↦ absurd (omega (arith, none, above))
        | inr found ↦
            let front = front_at a.taken p in
            let at = (members_agree (run_below p front) T.segments found.0).0 found.1 in
            let key = and_parts (eqb (at.0).processor p) (ltb (at.0).number front) at.2 in
            let own : (at.0).processor ≡ p = eqb-true (at.0).processor p key.0 in
            let low : (at.0).number < front = ltb-true (at.0).number front key.1 in
            (at.0, (all.members at.0).0 at.1, own, low, found.0, at.3, found.2)
      ]

-- what an analyst took is of the trace of each segment of its trace
are_of_trace : (segments : List Content) (a : State) (s : Content) → HasTakenAll segments a → s.trace_id ≡ a.trace_id
    → s.processors ≡ a.processors → AreOfTraceOf segments s
are_of_trace segments a s took id count = each_member (λ t. (t.trace_id ≡ s.trace_id) × (t.processors ≡ s.processors)) segments
    (λ t has. (let ids = at_member (AreIdsOf a) segments t took.ids has in (ids.0 ∙ sym id, ids.1 ∙ sym count)))

-- what a new segment makes fall beside all that was taken, and beside what the analyst holds and has folded
module _ (segments : List Content) (a : State) (s : Content) (took : HasTakenAll segments a) (some : segments ≢ []) (new : IsNewTo a s) where
  -- is the same
  pub falls_in_state : (n : ℕ) → FallsAt segments s n → FallsIn a s n
  falls_in_state n falls =
      let all = firsts_of segments a took in
      let t = falls.0 in
      let place = low_or_held segments a all.0 took some all.1 t falls.1 in
      elim falls.2 [
        | inl low ↦
            let fall = low.0 in
            elim place [
              | inl below ↦
                  let last = at_most_last segments a all.0 took some all.1 t fall.earlier falls.1 below fall.has_earlier in
                  let falling = fall.falling in
                  let at = ap (λ (q : ℕ). (folded_at a.parts q).last_sequence) fall.processor in
                  inl (low.1, fall.event, fall.has_event, omega (arith, last, falling, at))
              | inr held ↦ inr (t, subst (λ (q : ℕ). Contains (held_at a.parts q) t) fall.processor held, inl low)
            ]
        | inr high ↦
            let fall = high.0 in
            elim place [
              | inl below ↦
                  let over = fall.number in
                  let at = ap (front_at a.taken) fall.processor in
                  absurd (new.new (inl (omega (arith, over, below, at))))
              | inr held ↦ inr (t, subst (λ (q : ℕ). Contains (held_at a.parts q) t) (sym fall.processor) held, inr high)
            ]
      ]

  pub falls_in_list : Fits s → (n : ℕ) → FallsIn a s n → FallsAt segments s n
  falls_in_list fits n falls =
      let all = firsts_of segments a took in
      let own = fits.processor in
      let count = new.processors in
      let within : s.processor < a.processors = omega (arith, own, count) in
      elim falls [
        | inl self ↦
            let e = self.1 in
            let low = self.3 in
            let high = above s.version 0 s.events fits.events e self.2 in
            let last = last_is_of segments a all.0 took some all.1 s.processor within (omega (arith, high, low)) in
            let under = last.3 in
            let is = last.6 in
            let behind : (last.0).number < s.number =
            elim (cases_lt (last.0).number s.number) [
              | inl lt ↦ lt
              | inr le ↦ absurd (new.new (inl (omega (arith, le, under))))
            ] in (
              last.0,
              last.1,
              inl (
                record {
                  processor = last.2;
                  number = behind;
                  event = e;
                  earlier = last.4;
                  has_event = self.2;
                  has_earlier = last.5;
                  falling = omega (arith, low, is);
                },
                self.0,
              ),
            )
        | inr held ↦ (
          held.0,
          (held_in_list segments a all.0 took some all.1 s.processor held.0 within held.1).1,
          held.2,
        )
      ]

-- Where the segments rise, those that the analyst holds do.
pub held_rise : (segments : List Content) (a : State) (p : ℕ) → HasTakenAll segments a → segments ≢ [] → AreRising segments
    → (h k : Content) → Contains (held_at a.parts p) h → Contains (held_at a.parts p) k → Fall h k → ⊥
held_rise segments a p took some rising h k in_h in_k =
    let all = firsts_of segments a took in
    elim (cases_lt p a.processors) [
      | inl within ↦ rising h k (held_in_list segments a all.0 took some all.1 p h within in_h).1
          (held_in_list segments a all.0 took some all.1 p k within in_k).1
      | inr past ↦
          let is = right_of_all segments a all.0 took some all.1 in
          let long = is.state.parts in
          let none : held_at a.parts p ≡ [] = ap (λ (k : Part). k.held) (get_or_past a.parts p no_part (omega (arith, past, long))) in
          absurd (Contains-nil h (subst (λ (hs : List Content). Contains hs h) none in_h))
    ]

-- a segment that the analyst takes, and that makes none fall, is accepted after those before
module _ (before earlier : List Content) (a : State) (s : Content) (some : before ++ earlier ≢ []) (took : HasTakenAll (before ++ earlier) a)
    (accepted : TakeAccepted a s) (rising : IsFirstToFall a s None) where
  content_agrees : (t : Content) → IsFirstOf (before ++ earlier) t → key_of t ≡ key_of s → (IsUnbroken (before ++ earlier) t → ⊥)
      → t ≢ s → ⊥
  content_agrees t is_first same broken other =
      let all = firsts_of (before ++ earlier) a took in
      let same_p : t.processor ≡ s.processor = ap (λ (k : ℕ × ℕ). k.0) same in
      accepted.agrees (record {
        held = t;
        here = subst (λ (p : ℕ). Contains (held_at a.parts p) t) same_p (held_of (before ++ earlier) a all.0 took some all.1 t is_first broken);
        number = ap (λ (k : ℕ × ℕ). k.1) same;
        other = other;
      })

  none_falls : (HasKeyOf (before ++ earlier) s.processor s.number → ⊥) → (n : ℕ) → FallsAt (before ++ earlier) s n → ⊥
  none_falls new n falls =
      let fresh : IsNewTo a s = record {
        trace_id = accepted.of_state.trace_id;
        processors = accepted.of_state.processors;
        new = λ taken. new ((took.keys s.processor s.number).0 taken);
      } in
      rising fresh n (falls_in_state (before ++ earlier) a s took some fresh n falls)

  pub accepts_next : Accepts before earlier s
  accepts_next = record {
    trace = are_of_trace (before ++ earlier) a s took accepted.of_state.trace_id accepted.of_state.processors;
    content = content_agrees;
    rises = λ new t first. (
      λ fall. none_falls new s.number (t, first, inl (fall, refl)),
      λ fall. none_falls new t.number (t, first, inr (fall, refl)),
    );
  }

-- ---- a segment that is not taken

module _ (segments : List Content) (a : State) (s : Content) (took : HasTakenAll segments a) (some : segments ≢ []) where
  -- a new one that makes a segment fall
  pub falls : (n : ℕ) → Fits s → IsFirstToFall a s (Some n) → IsUnfit segments s (cases.Falling s.processor n)
  falls n fits fallen =
      let new = fallen.0 in
      record {
        processor = refl;
        trace = are_of_trace segments a s took new.trace_id new.processors;
        new = λ there. new.new ((took.keys s.processor s.number).1 there);
        falls = record {
          holds = falls_in_list segments a s took some new fits n fallen.1.holds;
          least = λ m lt at. fallen.1.least m lt (falls_in_state segments a s took some new m at);
        };
      }

  -- another content is held
  pub conflicts : IsOfState a s → (other : HoldsOther a s) → s.processor < a.processors
      → IsUnfit segments s (cases.TwoContents s.processor s.number)
  conflicts its other within =
      let all = firsts_of segments a took in
      let h = held_in_list segments a all.0 took some all.1 s.processor other.held within other.here in (
        refl,
        are_of_trace segments a s took its.trace_id its.processors,
        other.held,
        h.1,
        same_pair other.held s h.0 other.number,
        other.other,
      )
    where
      same_pair : (t u : Content) → t.processor ≡ u.processor → t.number ≡ u.number → key_of t ≡ key_of u
      same_pair t u p n = cc

  -- a segment with another trace id is unfit
  pub of_other_trace : s.trace_id ≢ a.trace_id → (place : ℕ) → IsUnfit segments s (cases.OtherTrace place)
  of_other_trace differ place = (
    some,
    each_member (λ t. t.trace_id ≢ s.trace_id) segments
        (λ t has same. differ (sym same ∙ (at_member (AreIdsOf a) segments t took.ids has).0)),
  )

  -- a segment of the trace with another processor count is unfit
  pub of_other_count : s.trace_id ≡ a.trace_id → s.processors ≢ a.processors → (place : ℕ)
      → IsUnfit segments s (cases.OtherProcessors place)
  of_other_count same differ place = (
    some,
    each_member (λ t. (t.trace_id ≡ s.trace_id) × (t.processors ≢ s.processors)) segments
        (λ t has. (let ids = at_member (AreIdsOf a) segments t took.ids has in
        (ids.0 ∙ sym same, λ equal. differ (sym equal ∙ ids.1)))),
  )

-- ---- a segment that is taken

-- as many places are left
places_after : (took : Took) (a b : State) (s : Content) → b ≡ taken_as took a s → length b.taken ≡ length a.taken
places_after Repeat a b s is = ap (λ (x : State). length x.taken) is
places_after New a b s is =
    ap (λ (x : State). length x.taken) is
    ∙ length-set a.taken s.processor (with_loose (numbers_at a.taken s.processor) s.number)

processors_after : (took : Took) (a b : State) (s : Content) → b ≡ taken_as took a s → b.processors ≡ a.processors
processors_after Repeat a b s is = ap (λ (x : State). x.processors) is
processors_after New a b s is = ap (λ (x : State). x.processors) is

-- no front moves
front_after : (took : Took) (a b : State) (s : Content) (p : ℕ) → s.processor < length a.taken → b ≡ taken_as took a s
    → front_at b.taken p ≡ front_at a.taken p
front_after Repeat a b s p within is = ap (λ (x : State). front_at x.taken p) is
front_after New a b s p within is =
    let q = with_loose (numbers_at a.taken s.processor) s.number in
    ap (λ (x : State). front_at x.taken p) is
    ∙ elim (cases_eq p s.processor) [
      | inl same ↦ rw same (ap (λ (x : Numbers). x.front) (numbers_at-set_same a.taken s.processor q within))
      | inr other ↦ ap (λ (x : Numbers). x.front) (place-set_other a.taken s.processor p q other)
    ]

number_after : (took : Took) (a b : State) (s : Content) → b ≡ taken_as took a s
    → (took ≡ New → number_taken b ≡ number_taken a + 1) → number_taken a ≤ number_taken b
number_after Repeat a b s is more = (let same = ap number_taken is in omega (arith, same))
number_after New a b s is more = (let one = more refl in omega (arith, one))

-- taking one segment lets no front fall and loses no key
pub keeps_one : (a b : State) (s : Content) (took : Took) → IsState b → Fits s → b ≡ taken_as took a s → TakeAccepted a s
    → (took ≡ New → number_taken b ≡ number_taken a + 1) → Keeps a b
keeps_one a b s took state fits is accepted more = record {
  fronts = λ p.
      (let own = fits.processor in
      let count = accepted.of_state.processors in
      let places = state.places in
      let long = places_after took a b s is in
      let processors = processors_after took a b s is in
      let within : s.processor < length a.taken = omega (arith, own, count, places, long, processors) in
      let same = front_after took a b s p within is in
      omega (arith, same));
  number = number_after took a b s is more;
}

-- a state that stays as it is lets no front fall and loses no key
pub keeps_same : (a b : State) → b ≡ a → Keeps a b
keeps_same a b is = record {
  fronts = λ p. (let same = ap (λ (x : State). front_at x.taken p) is in omega (arith, same));
  number = (let same = ap number_taken is in omega (arith, same));
}

-- an analyst that took segments, and one more that doesn't fall, took all of them
pub takes_one : (segments : List Content) (a b : State) (s : Content) (took : Took) → HasTakenAll segments a → Fits s
    → b ≡ taken_as took a s → TakeAccepted a s → ((took ≡ New) ↔ (HasTaken a s.processor s.number → ⊥)) → IsFirstToFall a s None
    → ((p n : ℕ) → HasTaken b p n ↔ (HasTaken a p n ⊎ ((p ≡ s.processor) × (n ≡ s.number))))
    → ((T : Trace) → IsRight a T → Contains T.segments s → IsRight b T) → TookNext segments s a b
takes_one segments a b s took before fits is accepted new rising keys right = record {
  accepted = accepted;
  rising = rising;
  kept = take_has_taken_one_more segments s took a b before fits is accepted new keys right;
}

-- ---- answers

-- a question that needs no events is asked of all of them
pub all_count : (job : Job) → needs_events job ≡ false → (is_of_events job.question ≡ false) × (job.until ≡ None)
all_count job none = (
  fst_or (is_of_events job.question) (is_some job.until) none,
  no_moment job.until (snd_or (is_of_events job.question) (is_some job.until) none),
)
  where
    fst_or : (x y : Bool) → (x || y) ≡ false → x ≡ false
    fst_or false y is = refl
    fst_or true y is = is

    snd_or : (x y : Bool) → (x || y) ≡ false → y ≡ false
    snd_or false y is = is
    snd_or true y is = absurd (cc is)

    no_moment : (until : Option Moment) → is_some until ≡ false → until ≡ None
    no_moment None is = refl
    no_moment (Some moment) is = absurd (cc is)
