-- The events of the taken keys are those of the parts.
use Rattle.std.proofs.Common.{◌≡◌, ℕ, suc, ◌+◌, ◌*◌, ◌^◌, ◌<◌, ◌≤◌, List, [], ◌∷◌, ◌++◌, length, map, sym, ap, ◌∙◌, subst}
use Rattle.std.proofs.Common.{arith, Option, Some, None, true, not, eqb, ◌&&◌, inl, inr, Bor}
use Rattle.std.specs.Prelude.{Contains}
use Rattle.std.proofs.lemmas.Bool.{false≢true, and_parts, eq-eqb}
use Rattle.htl_event.specs.Events.{Event}
use Rattle.htl_event.specs.declared.kind.Kind.{Kind}
use Rattle.htl_event.specs.declared.kind.Kind.TheVariants.{Opened, Closed, BadRef, Snapshot, Ref, Deref, Exited}
use Rattle.htl_event.specs.Slots.{base_of}
use Rattle.htl_event.specs.Handles.{OpensOrCloses, opens_or_closes, LatestIs, HaveOwnSequences}
use Rattle.htl_event.proofs.Members.{at_member, Contains-nil, Contains-cases}
use Rattle.htl_segment.specs.declared.version.Version.{Version}
use Rattle.htl_segment.specs.Content.{Fits, EventFits, EventsFit, fields_fit, is_no_tag}
use Rattle.htl_segment.specs.Traces.{Trace, IsTrace, events_of, all_events}
use Rattle.htl_segment.proofs.Traces.{members_agree, sequences_stay_apart}
use Rattle.std.specs.Prelude.{IsNone}
use Rattle.std.specs.Option.{option_copied}
use Rattle.std.proofs.lemmas.List.Sums.{sum_by-cons}
use Rattle.htl_taken.specs.declared.TheConstants.{MAX_FRONT}
use Rattle.htl_taken.proofs.Rising.{length-Rises}
use Rattle.htl_taken.specs.Numbers.{Numbers, numbers_at, front_at}
use Rattle.htl_answers.specs.Parts.{IsFoldOf, AreEventsOf, size_of, size_of_all}
use Rattle.htl_analyst.specs.States.{Part, part_at, State}
use Rattle.htl_analyst.specs.Keys.{keys}
use Rattle.htl_analyst.specs.Right.{IsPart, IsState, IsRight, run_events}
use Rattle.htl_analyst.specs.TakenEvents.{taken_events, contents_of}
use Rattle.htl_analyst.proofs.Held.{length-numbers}
use Rattle.htl_analyst.proofs.Folds.{events_few}
use Rattle.htl_analyst.proofs.KeyEvents.{from_on, events_from, events_past, events_all}

-- the parts from p on
are_events_from : (T : Trace) (a : State) → IsRight a T → (p : ℕ) (ks : List Part)
    → ((i : ℕ) → i < length ks → part_at ks i ≡ part_at a.parts (p + i)) → p + length ks ≡ a.processors
    → AreEventsOf (map contents_of ks) (events_of (from_on p (keys a)) T.segments)
are_events_from T a right p [] same len = events_past T a right p (omega (arith, len))
are_events_from T a right p (k ∷ ks) same len =
    let lt : p < a.processors = omega (arith, len) in
    let zero_is : p + 0 ≡ p = omega arith in
    let here : k ≡ part_at a.parts p = same 0 (omega arith) ∙ ap (λ (n : ℕ). part_at a.parts n) zero_is in
    let folded = (right.each p lt).folded.fold in
    let fold : IsFoldOf (contents_of (part_at a.parts p)) (run_events T p (front_at a.taken p)) =
    record { tree = folded.tree; tables = folded.tables } in
    let others = are_events_from T a right (p + 1) ks
    (λ i in_ks. (let e : p + suc i ≡ (p + 1) + i = omega arith in same (suc i) (omega (arith, in_ks))
    ∙ ap (λ (n : ℕ). part_at a.parts n) e)) (omega (arith, len)) in (
      run_events T p (front_at a.taken p),
      events_of (from_on (p + 1) (keys a)) T.segments,
      subst (λ (l : Part). IsFoldOf (contents_of l) (run_events T p (front_at a.taken p))) (sym here) fold,
      others,
      events_from T a right p lt
          ∙ ap (λ (l : Part). run_events T p (front_at a.taken p) ++
          (all_events l.held ++ events_of (from_on (p + 1) (keys a)) T.segments)) (sym here),
    )

pub are_events : (T : Trace) (a : State) → IsRight a T → AreEventsOf (map contents_of a.parts) (taken_events T a)
are_events T a right =
    subst (AreEventsOf (map contents_of a.parts)) (events_all T a)
    (are_events_from T a right 0 a.parts (λ i lt. (let e : i ≡ 0 + i = omega arith in ap (λ (n : ℕ). part_at a.parts n) e))
    (let e = right.state.parts in omega (arith, e)))

-- the parts that are read, of a state b that is a, have these events
pub are_events_read : (T : Trace) (b a : State) (ks : List Part) → ks ≡ b.parts → b ≡ a → IsRight a T
    → AreEventsOf (map contents_of ks) (taken_events T a)
are_events_read T b a ks read same right =
    subst (λ (ls : List Part). AreEventsOf (map contents_of ls) (taken_events T a)) (sym (read ∙ ap (λ (x : State). x.parts) same))
    (are_events T a right)

-- the events of the taken keys of a trace have sequences of their own
pub own_sequences : (T : Trace) (a : State) → IsTrace T → HaveOwnSequences (taken_events T a)
own_sequences T a trace = sequences_stay_apart T trace (keys a)

-- ---- base handle 0

event_fits : (v : Version) (last : ℕ) (es : List Event) → EventsFit v last es → (e : Event) → Contains es e → EventFits v e
event_fits v last [] fit e h = absurd (Contains-nil e h)
event_fits v last (x ∷ xs) fit e h =
    elim (Contains-cases x xs e h) [ inl is ↦ subst (EventFits v) is fit.0 | inr there ↦ event_fits v x.sequence xs fit.2 e there ]

base_0_fits_not : (handle object : ℕ) (tag : List ℕ) → (not (eqb (base_of handle) 0) && eqb object 0 && is_no_tag tag) ≡ true
    → base_of handle ≡ 0 → ⊥
base_0_fits_not handle object tag fit e =
    let one = and_parts (not (eqb (base_of handle) 0) && eqb object 0) (is_no_tag tag) fit in
    let two = and_parts (not (eqb (base_of handle) 0)) (eqb object 0) one.0 in
    false≢true (sym (ap not (eq-eqb (base_of handle) 0 e)) ∙ two.0)

kinds_open_no_base_0 : (k : Kind) (handle object : ℕ) (tag : List ℕ) → opens_or_closes k ≡ true → fields_fit k handle object tag ≡ true
    → base_of handle ≡ 0 → ⊥
kinds_open_no_base_0 Opened handle object tag opens fit e = base_0_fits_not handle object tag fit e
kinds_open_no_base_0 Closed handle object tag opens fit e = base_0_fits_not handle object tag fit e
kinds_open_no_base_0 BadRef handle object tag opens fit e = absurd (false≢true opens)
kinds_open_no_base_0 Snapshot handle object tag opens fit e = absurd (false≢true opens)
kinds_open_no_base_0 Ref handle object tag opens fit e = absurd (false≢true opens)
kinds_open_no_base_0 Deref handle object tag opens fit e = absurd (false≢true opens)
kinds_open_no_base_0 Exited handle object tag opens fit e = absurd (false≢true opens)

-- no segment opens or closes a handle of base 0
no_event_of_base_0 : (T : Trace) (a : State) → IsRight a T → (process : ℕ) (e : Event) → Contains (taken_events T a) e
    → OpensOrCloses process 0 e → ⊥
no_event_of_base_0 T a right process e h of_zero =
    let r = (members_agree (keys a) T.segments e).0 h in
    let fits = at_member Fits T.segments r.0 right.collection.fit r.1 in
    let fit = event_fits (r.0).version 0 (r.0).events fits.events e r.3 in
    kinds_open_no_base_0 e.kind e.handle e.object e.tag of_zero.kind fit.fields of_zero.handle

-- no event of the taken keys opens or closes base handle 0, so none is its latest
pub latest_of_base_0 : (T : Trace) (a : State) → IsRight a T → (process handle : ℕ) (r : Option (Bor Event)) → base_of handle ≡ 0 → IsNone r
    → LatestIs (Contains (taken_events T a)) process (base_of handle) (option_copied r)
latest_of_base_0 T a right process handle None zero_is none =
    λ x h k. no_event_of_base_0 T a right process x h (subst (λ (b : ℕ). OpensOrCloses process b x) zero_is k)
latest_of_base_0 T a right process handle (Some y) zero_is none = absurd (false≢true (sym none))

-- ---- counts fit 64 bits

part_size_few : (id count p : ℕ) (q : Numbers) (k : Part) → IsPart id count p q k → size_of (contents_of k) ≤ 17592186040320
part_size_few id count p q k is =
    let few = events_few id count p k.held is.owned in
    let long = length-Rises q.front MAX_FRONT q.loose is.proper.rises in
    let same = ap length is.numbers in
    let len = length-numbers k.held in
    let old = is.bounded.counts in
    omega (arith, few, long, same, len, old)

sizes_few : (ks : List Part) → ((i : ℕ) → i < length ks → size_of (contents_of (part_at ks i)) ≤ 17592186040320)
    → size_of_all (map contents_of ks) ≤ 17592186040320 * length ks
sizes_few [] each = omega arith
sizes_few (k ∷ ks) each =
    let here : size_of (contents_of k) ≤ 17592186040320 = each 0 (omega arith) in
    let more = sizes_few ks (λ i lt. each (suc i) (omega (arith, lt))) in
    let both = sum_by-cons size_of (contents_of k) (map contents_of ks) in
    omega (arith, here, more, both)

pub sizes_fit : (a : State) → IsState a → size_of_all (map contents_of a.parts) < 2 ^ 64
sizes_fit a is =
    let all =
    sizes_few a.parts (λ i lt. (let e = is.parts in let within : i < a.processors =
    omega (arith, e, lt) in part_size_few a.trace_id a.processors i (numbers_at a.taken i) (part_at a.parts i) (is.each i within))) in
    let few = is.few in
    let e = is.parts in
    omega (arith, all, few, e)

-- so do the counts of the parts that are read
pub sizes_fit_read : (b : State) (ks : List Part) → ks ≡ b.parts → IsState b → size_of_all (map contents_of ks) < 2 ^ 64
sizes_fit_read b ks read is = rw read (sizes_fit b is)
