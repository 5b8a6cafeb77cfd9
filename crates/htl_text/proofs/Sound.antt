-- What reading comes to is what the lines encode, or their first fault.
use Rattle.std.proofs.Common.{◌≡◌, ◌≤◌, ◌<◌, ◌+◌, ◌^◌, ℕ, zero, suc, Bool, true, false, List, [], ◌∷◌, ◌++◌, length, refl, arith, ap, sym, ◌∙◌, length-append}
use Rattle.std.specs.Prelude.{Option, Some, None, Result, Ok, Err, All, IfOk, map, if◌then◌else◌}
use Rattle.std.specs.List.{AllByRecursion}
use Rattle.std.proofs.lemmas.List.{append_assoc, append-nil}
use Rattle.std.proofs.lemmas.List.Elements.{All-cons, All-push}
use Rattle.htl_event.specs.Events.{Event, with_stack}
use Rattle.htl_event.specs.Ranges.{InRange}
use Rattle.htl_segment.specs.Building.{build_fault}
use Rattle.htl_segment.specs.Content.{Content, Fits}
use Rattle.htl_segment.specs.Reading.{version_of}
use Rattle.htl_segment.specs.Versions.{version_number}
use Rattle.htl_segment.proofs.BuildingLaws.{parts_fit}
use Rattle.htl_segment.specs.declared.fault.Fault.{Fault}
use Rattle.htl_segment.specs.declared.version.Version.{Version}
use Rattle.htl_segment.specs.declared.version.Version.TheVariants.{V1, V2}
use Rattle.htl_text.specs.declared.item.Head.{Head}
use Rattle.htl_text.specs.declared.item.Item.{Item}
use Rattle.htl_text.specs.declared.item.Item.TheVariants as item
use Rattle.htl_text.specs.declared.fault.FormFault.{FormFault}
use Rattle.htl_text.specs.declared.fault.LineFault.{LineFault}
use Rattle.htl_text.specs.declared.fault.LineFault.TheVariants.{Form, Order}
use Rattle.htl_text.specs.Items.{Draft, LoneEvent, draft_items, draft_of, segments_items}
use Rattle.htl_text.specs.Lines.{words_of, is_skipped, item_in}
use Rattle.htl_text.specs.Encoded.{draft, draft_fault, content_of, Write, kept, Written, written_items, WrittenFits, IsBad, LinesEncode, LinesFault}
use Rattle.htl_text.specs.Encoded.{IsLineFault, IsSegmentFault, ends_before}
use Rattle.htl_text.proofs.Holding.{Open, opened, all_of, draft_in, contents, checked, ended, renewed, framed, with_frame_in, item_read, form_read}
use Rattle.htl_text.proofs.Holding.{words_read, goes_on, lines_read}
use Rattle.htl_text.proofs.ItemRanges.{PartsInRange, ItemInRange, item_on}
use Rattle.htl_text.proofs.Overfull.{shallow_draft}
use Rattle.htl_text.proofs.Writing.{write_append, write_passed, write_more, write_one, kept_one, kept_nil, draft_event, draft_frame, segments_more}

-- the ranges of an event, whatever the depth of its stack
pub record WholeInRange (e : Event) : Type 0 where
  parts : PartsInRange e
  stack : AllByRecursion (λ a. a < 2 ^ 64) e.stack

abbrev pub EventsInRange : List Event → Type 0
EventsInRange es = AllByRecursion WholeInRange es

events_push : (es : List Event) (e : Event) → EventsInRange es → WholeInRange e → EventsInRange (es ++ e ∷ [])
events_push [] e h one = (one, tt)
events_push (f ∷ es) e h one = (h.0, events_push es e h.1 one)

stack_push : (stack : List ℕ) (a : ℕ) → AllByRecursion (λ a. a < 2 ^ 64) stack → a < 2 ^ 64 → AllByRecursion (λ a. a < 2 ^ 64) (stack ++ a ∷ [])
stack_push [] a h low = (low, tt)
stack_push (b ∷ bs) a h low = (h.0, stack_push bs a h.1 low)

in_range : (es : List Event) → EventsInRange es → AllByRecursion (λ e. length e.stack ≤ 64) es → All InRange es
in_range [] h low = λ k d l. absurd (omega arith)
in_range (e ∷ es) h low =
    let parts = h.0.parts in
    All-cons InRange e es (record {
      sequence = parts.sequence;
      process = parts.process;
      thread = parts.thread;
      handle = parts.handle;
      object = parts.object;
      tag_len = parts.tag.0;
      tag = parts.tag.1;
      depth = low.0;
      stack = h.0.stack;
    }) (in_range es h.1 low.1)

-- the events of a draft, the last one apart
abbrev pub EventsAre : Option (List Event × Event) → Type 0
EventsAre None = Unit {0}
EventsAre (Some events) = EventsInRange events.0 × WholeInRange events.1

all_in_range : (events : Option (List Event × Event)) → EventsAre events → EventsInRange (all_of events)
all_in_range None h = tt
all_in_range (Some events) h = events_push events.0 events.1 h.0 h.1

-- the lines before are those of segments, and then of the draft that is being read
pub record StandsIn (before : List (List ℕ)) (n : ℕ) (o : Open) : Type 0 where
  earlier : List (List ℕ)
  first : List ℕ
  body : List (List ℕ)
  cut : before ≡ earlier ++ first ∷ body
  size : length before ≡ n
  line : o.line ≡ length earlier + 1
  fits : All Fits o.done
  written : Write earlier (segments_items o.done)
  begun : is_skipped (words_of first) ≡ false
  drafted : Write (first ∷ body) (draft_items (draft_in o))
  trace_id : o.head.trace_id < 2 ^ 64
  events : EventsAre o.events

abbrev pub StandsAt : List (List ℕ) → ℕ → Option Open → Type 0
StandsAt before n None = (length before ≡ n) × Write before []
StandsAt before n (Some o) = StandsIn before n o

abbrev written_of : Option Open → Written
written_of None = None
written_of (Some o) = Some (o.done, draft_in o)

size_of : (before : List (List ℕ)) (n : ℕ) (o : Option Open) → StandsAt before n o → length before ≡ n
size_of before n None h = h.0
size_of before n (Some o) h = h.size

writes : (before : List (List ℕ)) (n : ℕ) (o : Option Open) → StandsAt before n o → Write before (written_items (written_of o))
writes before n None h = h.1
writes before n (Some o) h =
    rw h.cut (write_append h.earlier (h.first ∷ h.body) (segments_items o.done) (draft_items (draft_in o)) h.written h.drafted)

fits_of : (before : List (List ℕ)) (n : ℕ) (o : Option Open) → StandsAt before n o → WrittenFits (written_of o)
fits_of before n None h = tt
fits_of before n (Some o) h = h.fits

-- a draft without a fault is a segment that fits
number_of_version : (n : ℕ) (v : Version) → version_of n ≡ Some v → version_number v ≡ n
number_of_version zero v h = cc
number_of_version (suc zero) V1 h = refl
number_of_version (suc zero) V2 h = cc
number_of_version (suc (suc zero)) V1 h = cc
number_of_version (suc (suc zero)) V2 h = refl
number_of_version (suc (suc (suc n))) v h = cc

same_draft : (v : Version) (d : Draft) → version_of d.head.version ≡ Some v → draft_of (content_of v d) ≡ d
same_draft v d is = rw (number_of_version d.head.version v is) refl

record Closed (before : List (List ℕ)) (o : Open) (segments : List Content) : Type 0 where
  written : Write before (segments_items segments)
  fits : All Fits segments

closing : (before : List (List ℕ)) (n : ℕ) (o : Open) → StandsIn before n o → draft_fault (draft_in o) ≡ None
    → Closed before o (o.done ++ contents (version_of o.head.version) (draft_in o))
closing before n o h none = by_version (version_of o.head.version) refl
  where
    by_version : (v : Option Version) → version_of o.head.version ≡ v
        → Closed before o (o.done ++ contents (version_of o.head.version) (draft_in o))
    by_version None is = let bad = rw is at none in cc
    by_version (Some v) is =
        let clean : build_fault (content_of v (draft_in o)) ≡ None = rw is at none in
        let s : Content = content_of v (draft_in o) in
        let fit : Fits s = parts_fit s h.trace_id (in_range (all_of o.events) (all_in_range o.events h.events) (shallow_draft v (draft_in o) clean)) clean in
        let items : segments_items o.done ++ draft_items (draft_in o) ≡ segments_items (o.done ++ s ∷ []) =
        sym (segments_more o.done s ∙ ap (λ d. segments_items o.done ++ draft_items d) (same_draft v (draft_in o) is)) in
        rw is (record {
          written = rw (h.cut, ← items) (write_append h.earlier (h.first ∷ h.body) (segments_items o.done) (draft_items (draft_in o)) h.written h.drafted);
          fits = All-push Fits o.done s h.fits fit;
        })

-- what a line does, as facts of the lines before it and with it
abbrev Advances : List (List ℕ) → List ℕ → List (List ℕ) → ℕ → Result (Option Open) (ℕ × LineFault) → Type 0
Advances before l ls n (Ok o) = StandsAt (before ++ l ∷ []) (n + 1) o
Advances before l ls n (Err fault) = LinesFault (before ++ l ∷ ls) fault.0 fault.1

longer : (before : List (List ℕ)) (l : List ℕ) (n : ℕ) → length before ≡ n → length (before ++ l ∷ []) ≡ n + 1
longer before l n e = let all = length-append before (l ∷ []) in rw (all, e) refl

longer_cut : (before earlier body : List (List ℕ)) (first l : List ℕ) → before ≡ earlier ++ first ∷ body
    → before ++ l ∷ [] ≡ earlier ++ (first ∷ (body ++ l ∷ []))
longer_cut before earlier body first l e = ap (λ x. x ++ l ∷ []) e ∙ append_assoc earlier (first ∷ body) (l ∷ [])

passes : (before : List (List ℕ)) (l : List ℕ) (n : ℕ) (o : Option Open) → StandsAt before n o → is_skipped (words_of l) ≡ true
    → StandsAt (before ++ l ∷ []) (n + 1) o
passes before l n None h e = (longer before l n h.0, write_passed before l [] h.1 e)
passes before l n (Some o) h e = record {
  earlier = h.earlier;
  first = h.first;
  body = h.body ++ l ∷ [];
  cut = longer_cut before h.earlier h.body h.first l h.cut;
  size = longer before l n h.size;
  line = h.line;
  fits = h.fits;
  written = h.written;
  begun = h.begun;
  drafted = write_passed (h.first ∷ h.body) l (draft_items (draft_in o)) h.drafted e;
  trace_id = h.trace_id;
  events = h.events;
}

-- a header begins a draft
begins : (before : List (List ℕ)) (l : List ℕ) (n : ℕ) (head : Head) (done : List Content) → length before ≡ n → Write before (segments_items done)
    → All Fits done → is_skipped (words_of l) ≡ false → item_in (words_of l) ≡ Ok (item.Segment head) → head.trace_id < 2 ^ 64
    → StandsIn (before ++ l ∷ []) (n + 1) (opened done (n + 1) head None)
begins before l n head done size written fits e found low = record {
  earlier = before;
  first = l;
  body = [];
  cut = refl;
  size = longer before l n size;
  line = ap (λ k. k + 1) (sym size);
  fits = fits;
  written = written;
  begun = e;
  drafted = write_one l (item.Segment head) e found;
  trace_id = low;
  events = tt;
}

-- an event or a frame goes to the draft
grows : (before : List (List ℕ)) (l : List ℕ) (n : ℕ) (o : Open) (events : Option (List Event × Event)) (i : Item) → StandsIn before n o
    → is_skipped (words_of l) ≡ false → item_in (words_of l) ≡ Ok i
    → draft_items (draft o.head (all_of events)) ≡ draft_items (draft_in o) ++ i ∷ [] → EventsAre events
    → StandsIn (before ++ l ∷ []) (n + 1) (opened o.done o.line o.head events)
grows before l n o events i h e found items ranges = record {
  earlier = h.earlier;
  first = h.first;
  body = h.body ++ l ∷ [];
  cut = longer_cut before h.earlier h.body h.first l h.cut;
  size = longer before l n h.size;
  line = h.line;
  fits = h.fits;
  written = h.written;
  begun = h.begun;
  drafted = write_more (h.first ∷ h.body) l (draft_items (draft_in o)) i h.drafted e found ∙ ap (map Ok) (sym items);
  trace_id = h.trace_id;
  events = ranges;
}

-- the draft that ends here has a fault
breaks : (before : List (List ℕ)) (n : ℕ) (o : Open) (later : List (List ℕ)) (f : Fault) → StandsIn before n o
    → draft_fault (draft_in o) ≡ Some f → ends_before (kept later) ≡ true → IsSegmentFault (before ++ later) o.line f
breaks before n o later f h is end = record {
  before = h.earlier;
  first = h.first;
  body = h.body;
  later = later;
  cut = ap (λ x. x ++ later) h.cut ∙ append_assoc h.earlier (h.first ∷ h.body) later;
  line_is = h.line;
  segments = o.done;
  fits = h.fits;
  written = h.written;
  begun = h.begun;
  draft = draft_in o;
  drafted = h.drafted;
  ended = end;
  fault_is = is;
}

-- the next line has a fault
line_fails : (before : List (List ℕ)) (l : List ℕ) (ls : List (List ℕ)) (n : ℕ) (o : Option Open) (fault : LineFault) → StandsAt before n o
    → is_skipped (words_of l) ≡ false → IsBad (written_of o) (words_of l) fault → IsLineFault (before ++ l ∷ ls) (n + 1) fault
line_fails before l ls n o fault h e bad = record {
  before = before;
  bad = l;
  later = ls;
  cut = refl;
  line_is = ap (λ k. k + 1) (sym (size_of before n o h));
  so_far = written_of o;
  fits = fits_of before n o h;
  written = writes before n o h;
  read = e;
  is_bad = bad;
}

next_begins : (l : List ℕ) (ls : List (List ℕ)) (head : Head) → is_skipped (words_of l) ≡ false
    → item_in (words_of l) ≡ Ok (item.Segment head) → ends_before (kept (l ∷ ls)) ≡ true
next_begins l ls head e found = rw (kept_one l ls e, found) refl

header_advances : (before : List (List ℕ)) (l : List ℕ) (ls : List (List ℕ)) (n : ℕ) (o : Option Open) (head : Head) → StandsAt before n o
    → is_skipped (words_of l) ≡ false → item_in (words_of l) ≡ Ok (item.Segment head) → head.trace_id < 2 ^ 64
    → Advances before l ls n (renewed (n + 1) head (ended o))
header_advances before l ls n None head h e found low = begins before l n head [] h.0 h.1 (λ k d l. absurd (omega arith)) e found low
header_advances before l ls n (Some o) head h e found low = by_fault (draft_fault (draft_in o)) refl
  where
    by_fault : (f : Option Fault) → draft_fault (draft_in o) ≡ f
        → Advances before l ls n (renewed (n + 1) head (checked o.done o.line (draft_in o) f))
    by_fault (Some f) is = breaks before n o (l ∷ ls) f h is (next_begins l ls head e found)
    by_fault None is =
        let closed = closing before n o h is in
        begins before l n head (o.done ++ contents (version_of o.head.version) (draft_in o)) h.size closed.written closed.fits e found low

event_advances : (before : List (List ℕ)) (l : List ℕ) (ls : List (List ℕ)) (n : ℕ) (o : Option Open) (e : LoneEvent) → StandsAt before n o
    → is_skipped (words_of l) ≡ false → item_in (words_of l) ≡ Ok (item.Event e) → PartsInRange e
    → Advances before l ls n (item_read (n + 1) (item.Event e) o)
event_advances before l ls n None e h seen found low = line_fails before l ls n None Order h seen (item.Event e, found, refl)
event_advances before l ls n (Some o) e h seen found low =
    grows before l n o (Some (all_of o.events, with_stack [] e)) (item.Event e) h seen found (draft_event o.head (all_of o.events) e) (
      all_in_range o.events h.events,
      record {
        parts = record {
          sequence = low.sequence;
          process = low.process;
          thread = low.thread;
          handle = low.handle;
          object = low.object;
          tag = low.tag;
        };
        stack = tt;
      },
    )

frame_advances : (before : List (List ℕ)) (l : List ℕ) (ls : List (List ℕ)) (n : ℕ) (o : Option Open) (address : ℕ) → StandsAt before n o
    → is_skipped (words_of l) ≡ false → item_in (words_of l) ≡ Ok (item.Frame address) → address < 2 ^ 64
    → Advances before l ls n (item_read (n + 1) (item.Frame address) o)
frame_advances before l ls n None address h seen found low = line_fails before l ls n None Order h seen (item.Frame address, found, refl)
frame_advances before l ls n (Some o) address h seen found low = by_events o.events refl
  where
    by_events : (events : Option (List Event × Event)) → o.events ≡ events
        → Advances before l ls n (with_frame_in (n + 1) address o events)
    by_events None is = line_fails before l ls n (Some o) Order h seen (item.Frame address, found, rw is refl)
    by_events (Some events) is =
        let ranges : EventsAre (Some events) = rw is at h.events in
        grows before l n o (Some (events.0, framed address events.1)) (item.Frame address) h seen found
        (rw is (draft_frame o.head events.0 events.1 address)) (
          ranges.0,
          record {
            parts = record {
              sequence = ranges.1.parts.sequence;
              process = ranges.1.parts.process;
              thread = ranges.1.parts.thread;
              handle = ranges.1.parts.handle;
              object = ranges.1.parts.object;
              tag = ranges.1.parts.tag;
            };
            stack = stack_push events.1.stack address ranges.1.stack low;
          },
        )

advances : (before : List (List ℕ)) (l : List ℕ) (ls : List (List ℕ)) (n : ℕ) (o : Option Open) → StandsAt before n o
    → Advances before l ls n (words_read (n + 1) (words_of l) o)
advances before l ls n o h = by_case (is_skipped (words_of l)) refl
  where
    by_item : (i : Item) → is_skipped (words_of l) ≡ false → item_in (words_of l) ≡ Ok i → ItemInRange i
        → Advances before l ls n (item_read (n + 1) i o)
    by_item (item.Segment head) e found low = header_advances before l ls n o head h e found low
    by_item (item.Event event) e found low = event_advances before l ls n o event h e found low
    by_item (item.Frame address) e found low = frame_advances before l ls n o address h e found low

    by_form : (r : Result Item FormFault) → is_skipped (words_of l) ≡ false → item_in (words_of l) ≡ r → IfOk r ItemInRange
        → Advances before l ls n (form_read (n + 1) r o)
    by_form (Err fault) e found low = line_fails before l ls n o (Form fault) h e found
    by_form (Ok i) e found low = by_item i e found low

    by_case : (b : Bool) → is_skipped (words_of l) ≡ b
        → Advances before l ls n (if b then Ok o else form_read (n + 1) (item_in (words_of l)) o)
    by_case true e = passes before l n o h e
    by_case false e = by_form (item_in (words_of l)) e refl (item_on (words_of l))

-- what the lines come to
abbrev pub Concludes : List (List ℕ) → Result (List Content) (ℕ × LineFault) → Type 0
Concludes lines (Ok segments) = LinesEncode lines segments
Concludes lines (Err fault) = LinesFault lines fault.0 fault.1

concludes : (before : List (List ℕ)) (n : ℕ) (o : Option Open) → StandsAt before n o → Concludes before (ended o)
concludes before n None h = record { written = h.1; fits = λ k d l. absurd (omega arith) }
concludes before n (Some o) h = by_fault (draft_fault (draft_in o)) refl
  where
    by_fault : (f : Option Fault) → draft_fault (draft_in o) ≡ f → Concludes before (checked o.done o.line (draft_in o) f)
    by_fault (Some f) is = rw (← append-nil before) (breaks before n o [] f h is (rw kept_nil refl))
    by_fault None is = let closed = closing before n o h is in record { written = closed.written; fits = closed.fits }

-- where the lines before stand for what is being read, all lines encode what reading comes to, or have its fault as their first
pub sound : (ls before : List (List ℕ)) (n : ℕ) (o : Option Open) → StandsAt before n o → Concludes (before ++ ls) (lines_read n ls o)
unfolding lines_read
sound [] before n o h = rw (append-nil before) (concludes before n o h)
sound (l ∷ ls) before n o h = by_step (words_read (n + 1) (words_of l) o) (advances before l ls n o h) (sound ls (before ++ l ∷ []) (n + 1))
  where
    by_step : (r : Result (Option Open) (ℕ × LineFault)) → Advances before l ls n r
        → ((o : Option Open) → StandsAt (before ++ l ∷ []) (n + 1) o → Concludes ((before ++ l ∷ []) ++ ls) (lines_read (n + 1) ls o))
        → Concludes (before ++ l ∷ ls) (goes_on r (lines_read (n + 1) ls))
    by_step (Ok o) step more = rw (← append_assoc before (l ∷ []) ls) (more o step)
    by_step (Err fault) step more = step
