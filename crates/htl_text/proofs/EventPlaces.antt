-- A fault that is about an event is about one of its segment, so a line has that event.
use Rattle.std.proofs.Common.{◌≡◌, ◌≤◌, ◌<◌, ◌+◌, ℕ, zero, suc, Bool, true, false, List, [], ◌∷◌, ◌++◌, length, refl, arith, ap, subst, ◌∙◌}
use Rattle.std.specs.Prelude.{◌||◌, ◌==◌, Option, Some, None, Ok, Err, if◌then◌else◌, map, nat_eq, nat_le, nat_lt, not, slice_get}
use Rattle.std.specs.List.{flat_map}
use Rattle.std.proofs.lemmas.Bool.{eqb-true, false≢true, and_parts}
use Rattle.htl_event.specs.Events.{Event}
use Rattle.htl_segment.specs.Building.{build_fault, event_fault, events_fault}
use Rattle.htl_segment.specs.Content.{Content, fields_fit, kind_code}
use Rattle.htl_segment.specs.Faults.{or_else}
use Rattle.htl_segment.specs.Reading.{version_of}
use Rattle.htl_segment.specs.Versions.{limits_of}
use Rattle.htl_segment.specs.declared.fault.Fault.{Fault}
use Rattle.htl_segment.specs.declared.fault.Fault.TheVariants as faults
use Rattle.htl_segment.specs.declared.version.Version.{Version}
use Rattle.htl_text.specs.declared.fault.FormFault.TheVariants.{Words as no_form}
use Rattle.htl_text.specs.declared.fault.LineFault.TheVariants.{Segment}
use Rattle.htl_text.specs.declared.item.Item.TheVariants as item
use Rattle.htl_text.specs.Items.{Draft, event_items, without_stack}
use Rattle.htl_text.specs.Encoded.{HasEvent, IsSegmentFault, Write, content_of, draft_fault, event_line, fault_in, record_of}
use Rattle.htl_text.specs.Lines.{form_of, is_skipped, item_in, text_lines, words_of}
use Rattle.htl_text.proofs.Complete.{first_of, none_of, rest_of}
use Rattle.htl_text.proofs.EventLines.{at_event, at_frame, at_none, before_segment, past_event, place_in}
use Rattle.htl_text.proofs.Writing.{kept_nil}

-- a fault of a draft, where it is about an event, is about one of its events

same_place : (f g : Fault) (i p : ℕ) → Some f ≡ Some g → record_of f ≡ Some i → record_of g ≡ Some p → p ≡ i
same_place f g i p e here there = cc

-- of the event at place i
event_place : (v : Version) (i last : ℕ) (e : Event) (f : Fault) (p : ℕ) → event_fault v i last e ≡ Some f → record_of f ≡ Some p → p ≡ i
unfolding event_fault
event_place v i last e f p =
    by_parts (nat_le e.sequence last) (nat_lt (limits_of v).kinds (kind_code e.kind)) (nat_lt (limits_of v).frames (length e.stack))
    (not (fields_fit e.kind e.handle e.object e.tag))
  where
    by_parts : (a b c d : Bool)
        → (if a then Some (faults.Sequence i) else if b then Some (faults.Kind i) else if c then Some (faults.Frames i)
        else if d then Some (faults.Field i) else None) ≡ Some f → record_of f ≡ Some p → p ≡ i
    by_parts true b c d is about = same_place (faults.Sequence i) f i p is refl about
    by_parts false true c d is about = same_place (faults.Kind i) f i p is refl about
    by_parts false false true d is about = same_place (faults.Frames i) f i p is refl about
    by_parts false false false true is about = same_place (faults.Field i) f i p is refl about
    by_parts false false false false is about = cc

events_place : (v : Version) (i last : ℕ) (es : List Event) (f : Fault) (p : ℕ) → events_fault v i last es ≡ Some f → record_of f ≡ Some p
    → p < i + length es
unfolding events_fault
events_place v i last [] f p is about = cc
events_place v i last (e ∷ es) f p is about =
    by_first (event_fault v i last e) refl is (events_place v (i + 1) e.sequence es f p)
  where
    by_first : (o : Option Fault) → event_fault v i last e ≡ o → or_else o (events_fault v (i + 1) e.sequence es) ≡ Some f
        → (events_fault v (i + 1) e.sequence es ≡ Some f → record_of f ≡ Some p → p < i + 1 + length es) → p < i + length (e ∷ es)
    by_first (Some g) found is more =
        let here : p ≡ i = event_place v i last e f p (found ∙ is) about in omega arith
    by_first None found is more = let later = more is about in omega arith

about_none : (f g : Fault) (p : ℕ) → Some g ≡ Some f → record_of g ≡ None → record_of f ≡ Some p → ⊥
about_none f g p e none about = cc

content_place : (s : Content) (f : Fault) (p : ℕ) → build_fault s ≡ Some f → record_of f ≡ Some p → p < length s.events
unfolding build_fault
content_place s f p =
    by_parts (s.processors == 0 || nat_lt (limits_of s.version).processors s.processors) (nat_le s.processors s.processor)
    (nat_lt 0xFFFFFFFE s.number) (nat_lt 4096 (length s.events))
  where
    by_parts : (a b c d : Bool)
        → (if a then Some faults.Processors else if b then Some faults.Processor else if c then Some faults.Number
        else if d then Some faults.Count else events_fault s.version 0 0 s.events) ≡ Some f → record_of f ≡ Some p → p < length s.events
    by_parts true b c d is about = absurd (about_none f faults.Processors p is refl about)
    by_parts false true c d is about = absurd (about_none f faults.Processor p is refl about)
    by_parts false false true d is about = absurd (about_none f faults.Number p is refl about)
    by_parts false false false true is about = absurd (about_none f faults.Count p is refl about)
    by_parts false false false false is about = let low = events_place s.version 0 0 s.events f p is about in omega arith

draft_place : (d : Draft) (f : Fault) (p : ℕ) → draft_fault d ≡ Some f → record_of f ≡ Some p → p < length d.events
draft_place d f p = by_version (version_of d.head.version)
  where
    by_version : (v : Option Version) → fault_in v d ≡ Some f → record_of f ≡ Some p → p < length d.events
    by_version None is about = absurd (about_none f faults.Version p is refl about)
    by_version (Some v) is about = content_place (content_of v d) f p is about

-- a line that is skipped has no form

remark : (bs : List ℕ) (ws : List (List ℕ)) → item_in ((35 ∷ bs) ∷ ws) ≡ Err no_form
unfolding item_in form_of
remark bs ws = refl

nothing : item_in [] ≡ Err no_form
unfolding item_in form_of
nothing = refl

passed_none : (ws : List (List ℕ)) → is_skipped ws ≡ true → item_in ws ≡ Err no_form
unfolding is_skipped
passed_none [] e = nothing
passed_none ([] ∷ ws) e = absurd (false≢true e)
passed_none ((b ∷ bs) ∷ ws) e = let same : 35 ≡ b = eqb-true 35 b (and_parts (nat_eq 35 b) true e).0 in rw (← same) (remark bs ws)

-- The lines have the event at a place among these, in the line after so many others.
record Finds (segment n place : ℕ) (es : List Event) (ls : List (List ℕ)) : Type 0 where
  others : ℕ
  line : List ℕ
  event : Event
  found : place_in segment n place ls ≡ Some (n + others + 1)
  there : slice_get ls others ≡ Some line
  is_event : slice_get es place ≡ Some event
  says : item_in (words_of line) ≡ Ok (item.Event (without_stack event))

-- where they follow one line more
later : (segment n place place' : ℕ) (es es' : List Event) (l : List ℕ) (ls : List (List ℕ))
    → place_in segment n place (l ∷ ls) ≡ place_in segment (n + 1) place' ls → slice_get es place ≡ slice_get es' place'
    → Finds segment (n + 1) place' es' ls → Finds segment n place es (l ∷ ls)
later segment n place place' es es' l ls step same f =
    let number : n + 1 + f.others + 1 ≡ n + suc f.others + 1 = omega arith in
    record {
      others = suc f.others;
      line = f.line;
      event = f.event;
      found = step ∙ (f.found ∙ ap Some number);
      there = f.there;
      is_event = same ∙ f.is_event;
      says = f.says;
    }

-- the lines of events, and of frames before them, have each of the events

abbrev LinesFind : ℕ → ℕ → List (List ℕ) → List (List ℕ) → Type 0
LinesFind segment n ls more = (fs : List ℕ) (es : List Event) (place : ℕ) → Write ls (map item.Frame fs ++ flat_map event_items es) → place < length es
    → Finds segment n place es (ls ++ more)

line_finds : (segment n : ℕ) (l : List ℕ) (ls more : List (List ℕ)) → segment < n + 1 → LinesFind segment (n + 1) ls more
    → (b : Bool) → is_skipped (words_of l) ≡ b → LinesFind segment n (l ∷ ls) more
line_finds segment n l ls more high next true e fs es place h low =
    later segment n place place es es l (ls ++ more) (at_none segment n place l (ls ++ more) no_form high (passed_none (words_of l) e)) refl
    (next fs es place (rest_of l ls (map item.Frame fs ++ flat_map event_items es) e h) low)
line_finds segment n l ls more high next false e (f ∷ fs) es place h low =
    let one = first_of l ls (item.Frame f) (map item.Frame fs ++ flat_map event_items es) e h in
    later segment n place place es es l (ls ++ more) (at_frame segment n place l (ls ++ more) f high one.found) refl (next fs es place one.rest low)
line_finds segment n l ls more high next false e [] [] place h low = absurd (none_of l ls e h)
line_finds segment n l ls more high next false e [] (g ∷ es) zero h low =
    let one = first_of l ls (item.Event (without_stack g)) (map item.Frame g.stack ++ flat_map event_items es) e h in
    let number : n + 1 ≡ n + 0 + 1 = omega arith in
    record {
      others = 0;
      line = l;
      event = g;
      found = at_event segment n zero l (ls ++ more) (without_stack g) high one.found refl ∙ ap Some number;
      there = refl;
      is_event = refl;
      says = one.found;
    }
line_finds segment n l ls more high next false e [] (g ∷ es) (suc place) h low =
    let one = first_of l ls (item.Event (without_stack g)) (map item.Frame g.stack ++ flat_map event_items es) e h in
    later segment n (suc place) place (g ∷ es) es l (ls ++ more)
    (past_event segment n (suc place) place l (ls ++ more) (without_stack g) high one.found (omega arith)) refl
    (next g.stack es place one.rest (omega arith))

lines_find : (segment n : ℕ) (ls more : List (List ℕ)) → segment < n + 1 → LinesFind segment n ls more
lines_find segment n [] more high [] [] place h low = absurd (omega arith)
lines_find segment n [] more high [] (g ∷ es) place h low = let none = rw kept_nil at h in cc
lines_find segment n [] more high (f ∷ fs) es place h low = let none = rw kept_nil at h in cc
lines_find segment n (l ∷ ls) more high fs es place h low =
    line_finds segment n l ls more high (lines_find segment (n + 1) ls more (omega arith)) (is_skipped (words_of l)) refl fs es place h low

-- the lines up to the segment's own have none of its events
lines_before : (segment n place : ℕ) (es : List Event) (ls more : List (List ℕ)) → n + length ls ≤ segment
    → Finds segment (n + length ls) place es more → Finds segment n place es (ls ++ more)
lines_before segment n place es [] more low f = let same : n + 0 ≡ n = omega arith in subst (λ k. Finds segment k place es more) same f
lines_before segment n place es (l ∷ ls) more low f =
    let same : n + length (l ∷ ls) ≡ n + 1 + length ls = omega arith in
    later segment n place place es es l (ls ++ more) (before_segment segment n place l (ls ++ more) (omega arith)) refl
    (lines_before segment (n + 1) place es ls more (omega arith) (subst (λ k. Finds segment k place es more) same f))

segment_finds : (lines : List (List ℕ)) (line place : ℕ) (fault : Fault) (h : IsSegmentFault lines line fault) → record_of fault ≡ Some place
    → Finds line 0 place h.draft.events lines
segment_finds lines line place fault h about =
    let low = draft_place h.draft fault place h.fault_is about in
    let one = first_of h.first h.body (item.Segment h.draft.head) (flat_map event_items h.draft.events) h.begun h.drafted in
    let n : ℕ = 0 + length h.before in
    let found = lines_find line (n + 1) h.body h.later (omega (arith, h.line_is)) [] h.draft.events place one.rest low in
    let all = lines_before line 0 place h.draft.events h.before (h.first ∷ h.body ++ h.later) (omega (arith, h.line_is))
    (later line n place place h.draft.events h.draft.events h.first (h.body ++ h.later)
    (before_segment line n place h.first (h.body ++ h.later) (omega (arith, h.line_is))) refl found) in
    rw h.cut all

-- the event that a segment's fault is about stands in the line that is told for it
pub its_event : (text : List ℕ) (line place : ℕ) (fault : Fault) (h : IsSegmentFault (text_lines text) line fault) → record_of fault ≡ Some place
    → HasEvent (text_lines text) (slice_get h.draft.events place) (event_line text line (Segment fault))
its_event text line place fault h about =
    let f = segment_finds (text_lines text) line place fault h about in
    rw (about, f.found, f.is_event) (f.others, f.line, omega arith, f.there, f.says)
