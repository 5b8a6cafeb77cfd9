-- Parts without a fault make what the format can encode, and what it can encode has parts without a fault.
use Rattle.std.proofs.Common.{◌≡◌, ℕ, suc, ◌+◌, ◌^◌, ◌<◌, ◌≤◌, false, not, ◌||◌, eqb, nat_lt, nat_le, List, [], ◌∷◌, length, get_or, drop}
use Rattle.std.proofs.Common.{All, Option, Some, None, refl, sym, ap, ◌∙◌, add-one, arith, drop-cons}
use Rattle.std.proofs.Math.ListN.{drop_of_length-le}
use Rattle.std.proofs.lemmas.Bool.{ltb-false, leb-false, le-ltb, lt-leb, eqb-false, ne_eqb, or_parts, not-false, or_from, not_from_true}
use Rattle.std.proofs.lemmas.List.Elements.{All-head, All-tail}
use Rattle.htl_event.specs.Events.{Event}
use Rattle.htl_event.specs.Ranges.{InRange}
use Rattle.htl_segment.specs.declared.version.Version.{Version}
use Rattle.htl_segment.specs.declared.fault.Fault.{Fault}
use Rattle.htl_segment.specs.declared.fault.Fault.TheVariants as faults
use Rattle.htl_segment.specs.Versions.{limits_of}
use Rattle.htl_segment.specs.Content.{Content, kind_code, fields_fit, EventFits, EventsFit, Fits}
use Rattle.htl_segment.specs.Building.{event_fault, events_fault, build_fault}
use Rattle.htl_segment.proofs.PassedTests.{passed, both_passed}

event_fits : (v : Version) (i last : ℕ) (e : Event) → InRange e → event_fault v i last e ≡ None → EventFits v e × (last < e.sequence)
unfolding event_fault
event_fits v i last e in_range none =
    let t1 = passed (nat_le e.sequence last) (faults.Sequence i) _ none in
    let t2 = passed (nat_lt (limits_of v).kinds (kind_code e.kind)) (faults.Kind i) _ t1.1 in
    let t3 = passed (nat_lt (limits_of v).frames (length e.stack)) (faults.Frames i) _ t2.1 in
    let t4 = passed (not (fields_fit e.kind e.handle e.object e.tag)) (faults.Field i) None t3.1 in
    (record { in_range = in_range; kind = ltb-false _ _ t2.0; depth = ltb-false _ _ t3.0; fields = not-false _ t4.0 }, leb-false _ _ t1.0)

event_passes : (v : Version) (i last : ℕ) (e : Event) → EventFits v e → last < e.sequence → event_fault v i last e ≡ None
unfolding event_fault
event_passes v i last e fits above =
    let t1 : nat_le e.sequence last ≡ false = lt-leb _ _ above in
    let t2 : nat_lt (limits_of v).kinds (kind_code e.kind) ≡ false = le-ltb _ _ fits.kind in
    let t3 : nat_lt (limits_of v).frames (length e.stack) ≡ false = le-ltb _ _ fits.depth in
    let t4 : not (fields_fit e.kind e.handle e.object e.tag) ≡ false = not_from_true _ fits.fields in
    rw (t1, t2, t3, t4) refl

events_fit : (v : Version) (es : List Event) (i last : ℕ) → All InRange es → events_fault v i last es ≡ None → EventsFit v last es
unfolding events_fault
events_fit v [] i last in_range none = tt
events_fit v (e ∷ es) i last in_range none =
    let parts = both_passed (event_fault v i last e) (events_fault v (i + 1) e.sequence es) none in
    let first = event_fits v i last e (All-head InRange e es in_range) parts.0 in
    (first.0, first.1, events_fit v es (i + 1) e.sequence (All-tail InRange e es in_range) parts.1)

events_pass : (v : Version) (es : List Event) (i last : ℕ) → EventsFit v last es → events_fault v i last es ≡ None
unfolding events_fault
events_pass v [] i last fits = refl
events_pass v (e ∷ es) i last fits =
    rw (event_passes v i last e fits.0 fits.1) (events_pass v es (i + 1) e.sequence fits.2)

-- parts without a fault fit the format
pub parts_fit : (s : Content) → s.trace_id < 2 ^ 64 → All InRange s.events → build_fault s ≡ None → Fits s
unfolding build_fault
parts_fit s trace_id in_range none =
    let t1 = passed (eqb s.processors 0 || nat_lt (limits_of s.version).processors s.processors) faults.Processors _ none in
    let t2 = passed (nat_le s.processors s.processor) faults.Processor _ t1.1 in
    let t3 = passed (nat_lt 0xFFFFFFFE s.number) faults.Number _ t2.1 in
    let t4 = passed (nat_lt 4096 (length s.events)) faults.Count _ t3.1 in
    let some : s.processors ≡ 0 → ⊥ = eqb-false _ _ (or_parts _ _ t1.0).0 in
    record {
      trace_id = trace_id;
      processors = (omega arith, ltb-false _ _ (or_parts _ _ t1.0).1);
      processor = leb-false _ _ t2.0;
      number = ltb-false _ _ t3.0;
      count = ltb-false _ _ t4.0;
      events = events_fit s.version s.events 0 0 in_range t4.1;
    }

-- a segment that fits has parts without a fault
pub parts_pass : (s : Content) → Fits s → build_fault s ≡ None
unfolding build_fault
parts_pass s fits =
    let some : s.processors ≡ 0 → ⊥ = λ z. omega (arith, fits.processors.0) in
    let t1 : (eqb s.processors 0 || nat_lt (limits_of s.version).processors s.processors) ≡ false =
    or_from _ _ (ne_eqb s.processors 0 some) (le-ltb (limits_of s.version).processors s.processors fits.processors.1) in
    let t2 : nat_le s.processors s.processor ≡ false = lt-leb _ _ fits.processor in
    let t3 : nat_lt 0xFFFFFFFE s.number ≡ false = le-ltb _ _ fits.number in
    let t4 : nat_lt 4096 (length s.events) ≡ false = le-ltb _ _ fits.count in
    rw (t1, t2, t3, t4) (events_pass s.version s.events 0 0 fits.events)

-- ---- a loop that tests one event after the other

drop-here : (i : ℕ) (es : List Event) (e : Event) → i < length es → e ≡ get_or es i e
    → drop i es ≡ e ∷ drop (i + 1) es
drop-here i es e lt here = rw add-one (drop-cons es i e lt ∙ ap (λ (x : Event). x ∷ drop (suc i) es) (sym here))

-- an event without a fault leaves the fault to the events after it
pub goes_on : (v : Version) (i last : ℕ) (es : List Event) (e : Event) (total : Option Fault) → i < length es → e ≡ get_or es i e
    → event_fault v i last e ≡ None
    → events_fault v i last (drop i es) ≡ total → events_fault v (i + 1) e.sequence (drop (i + 1) es) ≡ total
unfolding events_fault
goes_on v i last es e total lt here none so_far =
    let next = drop-here i es e lt here in
    let one : events_fault v i last (drop i es) ≡ events_fault v (i + 1) e.sequence (drop (i + 1) es) = rw (next, none) refl in
    sym one ∙ so_far

-- the first event with a fault has the fault of all
pub stops : (v : Version) (i last : ℕ) (es : List Event) (e : Event) (total : Option Fault) (fault : Fault) → i < length es
    → e ≡ get_or es i e → event_fault v i last e ≡ Some fault
    → events_fault v i last (drop i es) ≡ total → total ≡ Some fault
unfolding events_fault
stops v i last es e total fault lt here some so_far =
    let next = drop-here i es e lt here in
    let one : events_fault v i last (drop i es) ≡ Some fault = rw (next, some) refl in
    sym so_far ∙ one

-- after the last event there is no fault
pub is_done : (v : Version) (i last : ℕ) (es : List Event) (total : Option Fault) → length es ≤ i
    → events_fault v i last (drop i es) ≡ total → total ≡ None
unfolding events_fault
is_done v i last es total le so_far =
    let nothing : drop i es ≡ [] = drop_of_length-le es le in
    let one : events_fault v i last (drop i es) ≡ None = rw nothing refl in
    sym so_far ∙ one
