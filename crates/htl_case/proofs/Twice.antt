-- A sequence comes twice among segments in order exactly where two segments have an event of it.
use Rattle.std.proofs.Common.{◌≡◌, ◌≢◌, ℕ, ◌+◌, ◌<◌, ◌≤◌, List, [], ◌∷◌, map, Option, None, Some, All}
use Rattle.std.proofs.Common.{IsPermutation, refl, sym, ap, ◌∙◌, subst, inl, inr, arith}
use Rattle.std.specs.Prelude.{Contains, MatchOption}
use Rattle.std.specs.List.{AllByRecursion}
use Rattle.std.proofs.lemmas.Bool.{cases_eq, cases_lt}
use Rattle.std.proofs.lemmas.List.{map-append}
use Rattle.std.proofs.lemmas.List.Elements.{recursion_from_All}
use Rattle.htl_event.specs.Events.{Event}
use Rattle.htl_event.specs.Handles.{HaveOwnSequences}
use Rattle.htl_event.proofs.Counts.{count_by-append}
use Rattle.htl_event.proofs.Members.{Contains-here, Contains-there, Contains-cases, Contains-nil, Contains-map}
use Rattle.htl_event.proofs.Members.{Contains-from_map, Contains-flat_map, Contains-from_flat_map, at_member, each_member}
use Rattle.htl_segment.specs.declared.version.Version.{Version}
use Rattle.htl_segment.specs.Content.{Content, EventsFit, Fits}
use Rattle.htl_segment.specs.Traces.{AreInOrder, all_events}
use Rattle.htl_event.specs.Members.{IsLeastSuch}
use Rattle.htl_case.specs.Faults.{ComesTwice}
use Rattle.htl_segment.specs.Repeated.{sequence_of, times}
use Rattle.htl_case.proofs.KeyOrder.{in_order_differ}
use Rattle.htl_segment.proofs.Times.{times-cons, times_same, times_other, some_times, some_there, times-IsPermutation}

-- ---- events of a sequence

abbrev pub HasEventAt : List Event → ℕ → Type 0
HasEventAt es x = (e : Event) × Contains es e × (e.sequence ≡ x)

pub event_there : (x : ℕ) (es : List Event) → 1 ≤ times x (map sequence_of es) → HasEventAt es x
event_there x es some = Contains-from_map sequence_of es x (some_there x (map sequence_of es) some)

pub event_counts : (x : ℕ) (es : List Event) → HasEventAt es x → 1 ≤ times x (map sequence_of es)
event_counts x es (e, h, is) = some_times x (map sequence_of es)
    (subst (λ (y : ℕ). Contains (map sequence_of es) y) is (Contains-map sequence_of es e h))

-- sequences that rise come once each
none_up_to : (version : Version) (last : ℕ) (es : List Event) (x : ℕ) → EventsFit version last es → x ≤ last
    → times x (map sequence_of es) ≡ 0
none_up_to version last [] x fit le = refl
none_up_to version last (e ∷ es) x fit le =
    let up = fit.1 in
    times_other x e.sequence (map sequence_of es) (λ same. omega (arith, up, same, le)) ∙ none_up_to version e.sequence es x fit.2
    (omega (arith, up, le))

once : (version : Version) (last : ℕ) (es : List Event) (x : ℕ) → EventsFit version last es → times x (map sequence_of es) ≤ 1
once version last [] x fit = omega arith
once version last (e ∷ es) x fit =
    elim (cases_eq e.sequence x) [
      | inl same ↦
          let none = none_up_to version e.sequence es x fit.2 (omega (arith, same)) in
          omega (arith, times_same x e.sequence (map sequence_of es) same, none)
      | inr other ↦ omega (arith, times_other x e.sequence (map sequence_of es) other, once version e.sequence es x fit.2)
    ]

-- ---- events of all segments

times_in_all : (x : ℕ) (s : Content) (ss : List Content)
    → times x (map sequence_of (all_events (s ∷ ss))) ≡ times x (map sequence_of s.events) + times x (map sequence_of (all_events ss))
times_in_all x s ss =
    ap (times x) (map-append sequence_of s.events (all_events ss)) ∙ count_by-append _ (map sequence_of s.events)
    (map sequence_of (all_events ss))

counted_in : (x : ℕ) (ss : List Content) (t : Content) → Contains ss t → HasEventAt t.events x
    → 1 ≤ times x (map sequence_of (all_events ss))
counted_in x ss t h (e, k, is) = event_counts x (all_events ss) (e, Contains-flat_map (λ (s : Content). s.events) ss t e h k, is)

more_twice : (s : Content) (ss : List Content) (x : ℕ) → ComesTwice ss x → ComesTwice (s ∷ ss) x
more_twice s ss x two = record {
  one = two.one;
  other = two.other;
  has_one = Contains-there s ss two.one two.has_one;
  has_other = Contains-there s ss two.other two.has_other;
  differ = two.differ;
  in_one = two.in_one;
  in_other = two.in_other;
}

-- a sequence that comes twice among segments in order is in two of them
pub two_segments : (ss : List Content) (x : ℕ) → AreInOrder ss → AllByRecursion Fits ss → 2 ≤ times x (map sequence_of (all_events ss))
    → ComesTwice ss x
two_segments [] x ordered fit two = absurd (omega (arith, two))
two_segments (s ∷ ss) x ordered fit two =
    let total = times_in_all x s ss in
    let own = once s.version 0 s.events x fit.0.events in
    elim (cases_lt 0 (times x (map sequence_of s.events))) [
      | inl here ↦
          let later = event_there x (all_events ss) (omega (arith, two, total, own)) in
          let from = Contains-from_flat_map (λ (t : Content). t.events) ss later.0 later.1 in
          record {
            one = s;
            other = from.0;
            has_one = Contains-here s ss;
            has_other = Contains-there s ss from.0 from.1;
            differ = in_order_differ s ss ordered from.0 from.1;
            in_one = event_there x s.events (omega (arith, here));
            in_other = (later.0, from.2, later.2);
          }
      | inr none ↦ more_twice s ss x (two_segments ss x ordered.1 fit.1 (omega (arith, two, total, none)))
    ]

counted_twice : (ss : List Content) (x : ℕ) (s t : Content) → Contains ss s → Contains ss t → (s ≡ t → ⊥) → HasEventAt s.events x
    → HasEventAt t.events x
    → 2 ≤ times x (map sequence_of (all_events ss))
counted_twice [] x s t h k differ in_s in_t = absurd (Contains-nil s h)
counted_twice (u ∷ us) x s t h k differ in_s in_t =
    let total = times_in_all x u us in
    elim (Contains-cases u us s h) [
      | inl s_is ↦ elim (Contains-cases u us t k) [
        | inl t_is ↦ absurd (differ (sym s_is ∙ t_is))
        | inr t_there ↦
            let here = event_counts x u.events (subst (λ (z : Content). HasEventAt z.events x) (sym s_is) in_s) in
            omega (arith, total, here, counted_in x us t t_there in_t)
      ]
      | inr s_there ↦ elim (Contains-cases u us t k) [
        | inl t_is ↦
            let here = event_counts x u.events (subst (λ (z : Content). HasEventAt z.events x) (sym t_is) in_t) in
            omega (arith, total, here, counted_in x us s s_there in_s)
        | inr t_there ↦ omega (arith, total, counted_twice us x s t s_there t_there differ in_s in_t)
      ]
    ]

-- a sequence that two segments have comes twice
pub twice_counted : (ss : List Content) (x : ℕ) → ComesTwice ss x → 2 ≤ times x (map sequence_of (all_events ss))
twice_counted ss x two = counted_twice ss x two.one two.other two.has_one two.has_other two.differ two.in_one two.in_other

-- ---- sequences of their own

-- events whose sequences come once each have sequences of their own
pub own_from_times : (es : List Event) → ((x : ℕ) → times x (map sequence_of es) ≤ 1) → HaveOwnSequences es
own_from_times [] all = tt
own_from_times (e ∷ es) all = (
  each_member (λ (y : Event). e.sequence ≢ y.sequence) es (λ y h same.
      omega (
        arith,
        all e.sequence,
        times_same e.sequence e.sequence (map sequence_of es) refl,
        event_counts e.sequence es
            (y, h, sym same),
      )),
  own_from_times es (λ x. omega (arith, all x, times-cons x e.sequence (map sequence_of es))),
)

-- each sequence comes once at most among events with sequences of their own
pub times_from_own : (es : List Event) → HaveOwnSequences es → (x : ℕ) → times x (map sequence_of es) ≤ 1
times_from_own [] own x = omega arith
times_from_own (e ∷ es) own x =
    elim (cases_eq e.sequence x) [
      | inl same ↦ elim (cases_lt 0 (times x (map sequence_of es))) [
        | inl some ↦
            let again = event_there x es (omega (arith, some)) in
            absurd (at_member (λ (y : Event). e.sequence ≢ y.sequence) es again.0 own.0 again.1 (same ∙ sym again.2))
        | inr none ↦ omega (arith, none, times_same x e.sequence (map sequence_of es) same)
      ]
      | inr other ↦ omega (arith, times_other x e.sequence (map sequence_of es) other, times_from_own es own.1 x)
    ]

-- ---- sorted sequences, as the code looks at them

-- where each sequence comes once at most, none comes twice and events have sequences of their own
pub none_twice : (ss : List Content) → ((x : ℕ) → times x (map sequence_of (all_events ss)) ≤ 1)
    → ((x : ℕ) → ComesTwice ss x → ⊥) × HaveOwnSequences (all_events ss)
none_twice ss once = (λ x two. (let n = twice_counted ss x two in omega (arith, n, once x)), own_from_times (all_events ss) once)

-- what the sorted sequences tell, the least that comes twice or that none does, is so of the segments
pub told_twice : (ss : List Content) (sequences sorted : List ℕ) (r : Option ℕ) → AreInOrder ss → All Fits ss
    → sequences ≡ map sequence_of (all_events ss) → IsPermutation sequences sorted
    → MatchOption r ((x : ℕ) → times x sorted ≤ 1) (IsLeastSuch ◌<◌ (λ x. 2 ≤ times x sorted))
    → MatchOption r (((x : ℕ) → ComesTwice ss x → ⊥) × HaveOwnSequences (all_events ss)) (IsLeastSuch ◌<◌ (ComesTwice ss))
told_twice ss sequences sorted r ordered fit is moved told = elim r as (λ (o : Option ℕ).
    MatchOption o ((x : ℕ) → times x sorted ≤ 1) (IsLeastSuch ◌<◌ (λ x. 2 ≤ times x sorted))
    → MatchOption o (((x : ℕ) → ComesTwice ss x → ⊥) × HaveOwnSequences (all_events ss)) (IsLeastSuch ◌<◌ (ComesTwice ss))) [
      | None ↦ λ once. none_twice ss (λ x. omega (arith, same x, once x))
      | Some y ↦ λ least. record {
        holds = two_segments ss y ordered (recursion_from_All Fits ss fit) (omega (arith, same y, least.holds));
        least = λ x lt two. (let n = twice_counted ss x two in least.least x lt (omega (arith, n, same x)));
      }
    ] told
  where
    same : (x : ℕ) → times x sorted ≡ times x (map sequence_of (all_events ss))
    same x = times-IsPermutation x sequences sorted moved ∙ ap (times x) is
