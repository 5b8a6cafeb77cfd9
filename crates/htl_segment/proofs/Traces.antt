-- The events of a set of keys, over segments in order, follow from those of other sets: of a union, of a longer run.
use Rattle.std.proofs.Common.{◌≡◌, ℕ, ◌+◌, ◌<◌, ◌≤◌, Bool, true, false, ltb, eqb, ◌&&◌, List, [], ◌∷◌, ◌++◌, refl, sym, ap, ◌∙◌, subst}
use Rattle.std.proofs.Common.{arith, inl, inr, ◌⊎◌, append_assoc, append-nil}
use Rattle.std.specs.Prelude.{Contains, ◌↔◌, ◌≢◌, filter, count_by}
use Rattle.std.specs.List.{AllByRecursion}
use Rattle.std.proofs.lemmas.Bool.{cases_Bool, and_from, and_left, and_right, eq-eqb, ne_eqb, lt-ltb, le-ltb, or_left, or_right, or_from}
use Rattle.std.proofs.lemmas.Bool.{or_cases}
use Rattle.std.proofs.lemmas.List.Elements.{Contains-append_cases, Contains-append_left, Contains-append_right}
use Rattle.htl_event.specs.declared.kind.Kind.TheVariants.{Snapshot, Exited}
use Rattle.htl_event.specs.Events.{Event}
use Rattle.htl_event.specs.declared.slot.Sign.{Sign}
use Rattle.htl_event.specs.declared.slot.Sign.TheVariants.{Plus, Minus}
use Rattle.htl_event.specs.Slots.{is_counted}
use Rattle.htl_event.specs.Tallies.{times}
use Rattle.htl_event.specs.Handles.{HaveOwnSequences, IsOf}
use Rattle.htl_event.proofs.Members.{Contains-cases, Contains-nil, at_member, each_member, filter-pass, filter-skip, Contains-filter}
use Rattle.htl_event.proofs.Members.{Contains-from_filter, Contains-flat_map, Contains-from_flat_map}
use Rattle.htl_event.proofs.Counts.{count_by-append}
use Rattle.htl_event.proofs.Unions.{LatestIs-later, IsGreatestSequence-max, union_where}
use Rattle.htl_segment.specs.Content.{Content}
use Rattle.htl_segment.specs.Keys.{run_below, united, AreApart}
use Rattle.htl_segment.specs.Traces.{AreInOrder, IsBefore, IsEventOf, key_is_in, all_events, events_of}
use Rattle.htl_segment.specs.TraceLaws.{RunsGrow, MembersAgree, ApartCountsAddUp, LaterOfBothSets, SequencesStayApart}

abbrev events_in : Content → List Event
events_in s = s.events

pub events_of-pass : (S : ℕ → ℕ → Bool) (s : Content) (ss : List Content) → key_is_in S s ≡ true
    → events_of S (s ∷ ss) ≡ s.events ++ events_of S ss
events_of-pass S s ss e = ap all_events (filter-pass (key_is_in S) s ss e)

-- a segment whose key isn't in the set adds none of its events
pub events_of-skip : (S : ℕ → ℕ → Bool) (s : Content) (ss : List Content) → key_is_in S s ≡ false → events_of S (s ∷ ss) ≡ events_of S ss
events_of-skip S s ss e = ap all_events (filter-skip (key_is_in S) s ss e)

-- segments in order that pass a test are in order
pub filter_in_order : (passes : Content → Bool) (ss : List Content) → AreInOrder ss → AreInOrder (filter passes ss)
filter_in_order passes [] ordered = tt
filter_in_order passes (s ∷ ss) ordered =
    elim (cases_Bool (passes s)) [
      | inl t ↦
          rw t (
            each_member (IsBefore s) (filter passes ss)
                (λ x h. at_member (IsBefore s) ss x ordered.0 (Contains-from_filter passes ss x h).0),
            filter_in_order passes ss ordered.1,
          )
      | inr f ↦ rw f (filter_in_order passes ss ordered.1)
    ]

-- ---- members

-- the list of the events of a key set and their set have the same members
pub members_agree : MembersAgree
members_agree S ss e = (
  (λ h. let r = Contains-from_flat_map events_in (filter (key_is_in S) ss) e h in let k = Contains-from_filter (key_is_in S) ss r.0 r.1 in
      (r.0, k.0, k.1, r.2)),
  (λ (s, h, k, m). Contains-flat_map events_in (filter (key_is_in S) ss) s e (Contains-filter (key_is_in S) ss s h k) m),
)

-- an event of either set is one of the union
pub members_united : (S R : ℕ → ℕ → Bool) (ss : List Content) (e : Event)
    → IsEventOf (united S R) ss e ↔ (IsEventOf S ss e ⊎ IsEventOf R ss e)
members_united S R ss e = (
  (λ (s, h, k, m). elim (or_cases (key_is_in S s) (key_is_in R s) k) [ inl in_s ↦ inl (s, h, in_s, m) | inr in_r ↦ inr (s, h, in_r, m) ]),
  (λ h. elim h [
    | inl l ↦ (l.0, l.1, or_left (key_is_in S l.0) (key_is_in R l.0) l.2, l.3)
    | inr r ↦ (r.0, r.1, or_right (key_is_in S r.0) (key_is_in R r.0) r.2, r.3)
  ]),
)

-- the same keys, the same events
pub events_of-agree : (S R : ℕ → ℕ → Bool) (ss : List Content) → AllByRecursion (λ s. key_is_in S s ≡ key_is_in R s) ss
    → events_of S ss ≡ events_of R ss
events_of-agree S R [] all = refl
events_of-agree S R (s ∷ ss) all =
    elim (cases_Bool (key_is_in R s)) [
      | inl holds ↦ events_of-pass S s ss (all.0 ∙ holds) ∙ ap (λ es. s.events ++ es) (events_of-agree S R ss all.1)
          ∙ sym (events_of-pass R s ss holds)
      | inr fails ↦ events_of-skip S s ss (all.0 ∙ fails) ∙ events_of-agree S R ss all.1 ∙ sym (events_of-skip R s ss fails)
    ]

-- ---- counts

count_by-united : (p : Event → Bool) (S R : ℕ → ℕ → Bool) (ss : List Content) → AreApart S R
    → count_by p (events_of (united S R) ss) ≡ count_by p (events_of S ss) + count_by p (events_of R ss)
count_by-united p S R [] apart = refl
count_by-united p S R (s ∷ ss) apart =
    let ih : count_by p (events_of (united S R) ss) ≡ count_by p (events_of S ss) + count_by p (events_of R ss) =
    count_by-united p S R ss apart in
    let plus : (es : List Event) → count_by p (s.events ++ es) ≡ count_by p s.events + count_by p es =
    λ es. count_by-append p s.events es in
    elim (cases_Bool (key_is_in S s)) [
      | inl in_s ↦ elim (cases_Bool (key_is_in R s)) [
        | inl in_r ↦ absurd (apart s.processor s.number in_s in_r)
        | inr not_r ↦
            rw (
              events_of-pass (united S R) s ss (or_left (key_is_in S s) (key_is_in R s) in_s),
              events_of-pass S s ss in_s,
              events_of-skip R s ss not_r,
            )
            (omega (arith, ih, plus (events_of (united S R) ss), plus (events_of S ss)))
      ]
      | inr not_s ↦ elim (cases_Bool (key_is_in R s)) [
        | inl in_r ↦
            rw (
              events_of-pass (united S R) s ss (or_right (key_is_in S s) (key_is_in R s) in_r),
              events_of-skip S s ss not_s,
              events_of-pass R s ss in_r,
            )
            (omega (arith, ih, plus (events_of (united S R) ss), plus (events_of R ss)))
        | inr not_r ↦
            rw (
              events_of-skip (united S R) s ss (or_from (key_is_in S s) (key_is_in R s) not_s not_r),
              events_of-skip S s ss not_s,
              events_of-skip R s ss not_r,
            ) ih
      ]
    ]

-- counts over two key sets that have no key in common add up
pub apart_counts_add_up : ApartCountsAddUp
apart_counts_add_up S R ss apart passes slot =
    let side : (sign : Sign) → times passes (events_of (united S R) ss) slot sign ≡ times passes (events_of S ss) slot sign + times passes
    (events_of R ss) slot sign = (λ sign. count_by-united (λ e. is_counted slot sign e && passes e) S R ss apart) in
    rw (side Plus, side Minus) refl

-- ---- one segment more at the end of a processor's run

events_of-none : (S : ℕ → ℕ → Bool) (ss : List Content) → AllByRecursion (λ s. key_is_in S s ≡ false) ss → events_of S ss ≡ []
events_of-none S [] all = refl
events_of-none S (s ∷ ss) all = events_of-skip S s ss all.0 ∙ events_of-none S ss all.1

in_run : (p front : ℕ) (s : Content) → s.processor ≡ p → s.number < front → key_is_in (run_below p front) s ≡ true
in_run p front s e lt = and_from (eqb s.processor p) (ltb s.number front) (eq-eqb s.processor p e) (lt-ltb s.number front lt)

above_run : (p front : ℕ) (s : Content) → front ≤ s.number → key_is_in (run_below p front) s ≡ false
above_run p front s le = and_right (eqb s.processor p) (ltb s.number front) (le-ltb s.number front le)

off_run : (p front : ℕ) (s : Content) → (s.processor ≡ p → ⊥) → key_is_in (run_below p front) s ≡ false
off_run p front s ne = and_left (eqb s.processor p) (ltb s.number front) (ne_eqb s.processor p ne)

-- what comes after a segment is above each run that ends with it
after : (front : ℕ) (s t : Content) → front ≤ s.number + 1 → IsBefore s t → key_is_in (run_below s.processor front) t ≡ false
after front s t le (inl lt) = off_run s.processor front t (λ e. omega arith)
after front s t le (inr same) = above_run s.processor front t (omega (arith, same.1))

all_after : (front : ℕ) (s : Content) (ts : List Content) → front ≤ s.number + 1 → AllByRecursion (IsBefore s) ts
    → AllByRecursion (λ t. key_is_in (run_below s.processor front) t ≡ false) ts
all_after front s [] le h = tt
all_after front s (t ∷ ts) le h = (after front s t le h.0, all_after front s ts le h.1)

none_after : (front : ℕ) (s : Content) (ts : List Content) → front ≤ s.number + 1 → AllByRecursion (IsBefore s) ts
    → events_of (run_below s.processor front) ts ≡ []
none_after front s ts le all = events_of-none (run_below s.processor front) ts (all_after front s ts le all)

-- the events of a processor's run up to a segment are those below it, and then the segment's
pub runs_grow : RunsGrow
runs_grow [] s ordered h = absurd (Contains-nil s h)
runs_grow (t ∷ ts) s ordered h =
    elim (Contains-cases t ts s h) [
      | inl is ↦ subst (λ (z : Content). events_of (run_below z.processor (z.number + 1)) (t ∷ ts) ≡ events_of
          (run_below z.processor z.number) (t ∷ ts) ++ z.events) is (here t ts ordered)
      | inr there ↦
          let ih = runs_grow ts s ordered.1 there in
          elim (at_member (IsBefore t) ts s ordered.0 there) [
            | inl lower ↦
                let ne : t.processor ≡ s.processor → ⊥ = λ e. omega arith in
                events_of-skip (run_below s.processor (s.number + 1)) t ts (off_run s.processor (s.number + 1) t ne) ∙ ih
                ∙ ap (λ es. es ++ s.events)
                (sym (events_of-skip (run_below s.processor s.number) t ts (off_run s.processor s.number t ne)))
            | inr same ↦
                events_of-pass (run_below s.processor (s.number + 1)) t ts
                (in_run s.processor (s.number + 1) t same.0 (omega (arith, same.1)))
                ∙ ap (λ es. t.events ++ es) ih
                ∙ sym (append_assoc t.events (events_of (run_below s.processor s.number) ts) s.events)
                ∙ ap (λ es. es ++ s.events) (sym
                (events_of-pass (run_below s.processor s.number) t ts (in_run s.processor s.number t same.0 same.1)))
          ]
    ]
  where
    here : (t : Content) (ts : List Content) → AreInOrder (t ∷ ts)
        → events_of (run_below t.processor (t.number + 1)) (t ∷ ts) ≡ events_of (run_below t.processor t.number) (t ∷ ts) ++ t.events
    here t ts ordered =
        rw (
          events_of-pass (run_below t.processor (t.number + 1)) t ts (in_run t.processor (t.number + 1) t refl (omega arith)),
          events_of-skip (run_below t.processor t.number) t ts (above_run t.processor t.number t (omega arith)),
          none_after (t.number + 1) t ts (omega arith) ordered.0,
          none_after t.number t ts (omega arith) ordered.0,
        ) (append-nil t.events)

-- ---- the later of both

-- over two key sets, the latest event is the later and the greatest sequence the greater of theirs
pub later_of_both_sets : (S R : ℕ → ℕ → Bool) (ss : List Content) → LaterOfBothSets S R ss
later_of_both_sets S R ss =
    let both = members_united S R ss in
    record {
      latest = LatestIs-later (IsEventOf S ss) (IsEventOf R ss) (IsEventOf (united S R) ss) both;
      greatest = IsGreatestSequence-max (IsEventOf S ss) (IsEventOf R ss) (IsEventOf (united S R) ss) both;
      mark = λ process. IsGreatestSequence-max _ _ _
          (union_where (IsEventOf S ss) (IsEventOf R ss) (IsEventOf (united S R) ss) (IsOf Snapshot process) both);
      last_exit = λ process. IsGreatestSequence-max _ _ _
          (union_where (IsEventOf S ss) (IsEventOf R ss) (IsEventOf (united S R) ss) (IsOf Exited process) both);
    }

-- ---- sequences of their own

own_tail : (xs ys : List Event) → HaveOwnSequences (xs ++ ys) → HaveOwnSequences ys
own_tail [] ys own = own
own_tail (x ∷ xs) ys own = own_tail xs ys own.1

in_whole : (xs ys zs : List Event) → ((e : Event) → Contains zs e → Contains ys e) → (z : Event) → Contains (xs ++ zs) z
    → Contains (xs ++ ys) z
in_whole xs ys zs part z h =
    elim (Contains-append_cases xs zs z h) [
      | inl front ↦ Contains-append_left xs ys z front
      | inr back ↦ Contains-append_right xs ys z (part z back)
    ]

-- where the second part is left with some of its events
own_part : (xs ys zs : List Event) → ((e : Event) → Contains zs e → Contains ys e) → HaveOwnSequences zs → HaveOwnSequences (xs ++ ys)
    → HaveOwnSequences (xs ++ zs)
own_part [] ys zs part own whole = own
own_part (x ∷ xs) ys zs part own whole = (
  each_member (λ z. x.sequence ≢ z.sequence) (xs ++ zs)
      (λ z h. at_member (λ w. x.sequence ≢ w.sequence) (xs ++ ys) z whole.0 (in_whole xs ys zs part z h)),
  own_part xs ys zs part own whole.1,
)

among_all : (S : ℕ → ℕ → Bool) (ss : List Content) (e : Event) → Contains (events_of S ss) e → Contains (all_events ss) e
among_all S ss e h =
    let r = (members_agree S ss e).0 h in Contains-flat_map events_in ss r.0 e r.1 r.3

-- the events of each set of a trace's keys have sequences of their own
pub sequences_stay_apart : SequencesStayApart
sequences_stay_apart T is S = go T.segments is.sequences
  where
    go : (ss : List Content) → HaveOwnSequences (all_events ss) → HaveOwnSequences (events_of S ss)
    go [] own = tt
    go (s ∷ ss) own =
        let more = go ss (own_tail s.events (all_events ss) own) in
        elim (cases_Bool (key_is_in S s)) [
          | inl holds ↦ rw (events_of-pass S s ss holds) (own_part s.events (all_events ss) (events_of S ss) (among_all S ss) more own)
          | inr fails ↦ rw (events_of-skip S s ss fails) more
        ]
