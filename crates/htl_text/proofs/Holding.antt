-- What is held while a text is read goes the same way as reading with whole stacks.
use Rattle.std.proofs.Common.{◌≡◌, ◌≤◌, ◌<◌, ◌+◌, ℕ, Bool, true, false, List, [], ◌∷◌, ◌++◌, length, refl, arith, ap, sym, ◌∙◌, add-zero, zero-add}
use Rattle.std.proofs.Common.{length-append}
use Rattle.std.specs.Prelude.{Option, Some, None, Result, Ok, Err, map, nat_lt, unwrap_or, if◌then◌else◌}
use Rattle.std.proofs.lemmas.Bool.{ltb-true, ltb-false}
use Rattle.std.proofs.lemmas.Bool.Decides.{nat_tests}
use Rattle.std.proofs.lemmas.Grind.{flat_map-append}
use Rattle.std.proofs.lemmas.List.{map-append, length-take-le, take_all, take-append-le, append-nil}
use Rattle.htl_event.specs.Events.{Event, with_stack}
use Rattle.htl_segment.specs.Bundles.{bundle}
use Rattle.htl_segment.specs.Content.{Content}
use Rattle.htl_segment.specs.Encoding.{encoding}
use Rattle.htl_segment.specs.Reading.{version_of}
use Rattle.htl_segment.specs.declared.fault.Fault.{Fault}
use Rattle.htl_segment.specs.declared.version.Version.{Version}
use Rattle.htl_text.specs.declared.item.Head.{Head}
use Rattle.htl_text.specs.declared.item.Item.{Item}
use Rattle.htl_text.specs.declared.item.Item.TheVariants as item
use Rattle.htl_text.specs.declared.fault.FormFault.{FormFault}
use Rattle.htl_text.specs.declared.fault.LineFault.{LineFault}
use Rattle.htl_text.specs.declared.fault.LineFault.TheVariants.{Form, Order, Segment}
use Rattle.htl_text.specs.Items.{Draft, LoneEvent}
use Rattle.htl_text.specs.Lines.{words_of, is_skipped, item_in}
use Rattle.htl_text.specs.Encoded.{draft, draft_fault, content_of}
use Rattle.htl_text.specs.Steps.{DraftLines, Progress, draft_lines, progress, nothing_read, begun, with_event, with_frame_of, settled}
use Rattle.htl_text.specs.Steps.{draft_lines_fault, bytes_or_fault, closed}
use Rattle.htl_text.specs.Steps.{reopened, after_frame_of, after_item, after_form, after_words, go_on, read}
use Rattle.htl_text.proofs.Overfull.{cut, is_deep, first_deep, length_cut, overfull_draft, whole_draft}

-- The segments that are ended, and the draft that is being read: the line at which it begins, its header, and its
-- events, the last one apart.
pub record Open : Type 0 where
  pub done : List Content
  pub line : ℕ
  pub head : Head
  pub events : Option (List Event × Event)

-- the reading of a segment, begun at a line, behind segments that are ended
abbrev pub opened : List Content → ℕ → Head → Option (List Event × Event) → Open
opened done line head events = record { done = done; line = line; head = head; events = events }

-- all events of a draft, with the last one that stands apart
abbrev pub all_of : Option (List Event × Event) → List Event
all_of None = []
all_of (Some events) = events.0 ++ events.1 ∷ []

-- the draft of the segment that is being read
abbrev pub draft_in : Open → Draft
draft_in o = draft o.head (all_of o.events)

-- the segment of a draft, if its version is one
abbrev pub contents : Option Version → Draft → List Content
contents None d = []
contents (Some v) d = content_of v d ∷ []

-- the segments with that of a draft behind them, or the draft's fault at its line
abbrev pub checked : List Content → ℕ → Draft → Option Fault → Result (List Content) (ℕ × LineFault)
checked done line d None = Ok (done ++ contents (version_of d.head.version) d)
checked done line d (Some fault) = Err (line, Segment fault)

-- all segments, once the one that is being read is ended
abbrev pub ended : Option Open → Result (List Content) (ℕ × LineFault)
ended None = Ok []
ended (Some o) = checked o.done o.line (draft_in o) (draft_fault (draft_in o))

-- what a header begins behind the segments that are ended, or the fault that ended them
abbrev pub renewed : ℕ → Head → Result (List Content) (ℕ × LineFault) → Result (Option Open) (ℕ × LineFault)
renewed line head (Ok done) = Ok (Some (opened done line head None))
renewed line head (Err fault) = Err fault

-- the event with one frame more
abbrev pub framed : ℕ → Event → Event
framed address e = record e { stack = e.stack ++ address ∷ [] }

-- the reading with one frame more of the last event, or a misplaced line where there is none
abbrev pub with_frame_in : ℕ → ℕ → Open → Option (List Event × Event) → Result (Option Open) (ℕ × LineFault)
with_frame_in line address o None = Err (line, Order)
with_frame_in line address o (Some events) = Ok (Some (opened o.done o.line o.head (Some (events.0, framed address events.1))))

-- what an item on a line does
abbrev pub item_read : ℕ → Item → Option Open → Result (Option Open) (ℕ × LineFault)
item_read line (item.Segment head) o = renewed line head (ended o)
item_read line (item.Event e) None = Err (line, Order)
item_read line (item.Event e) (Some o) = Ok (Some (opened o.done o.line o.head (Some (all_of o.events, with_stack [] e))))
item_read line (item.Frame address) None = Err (line, Order)
item_read line (item.Frame address) (Some o) = with_frame_in line address o o.events

-- what a line with an item or a faulty form does
abbrev pub form_read : ℕ → Result Item FormFault → Option Open → Result (Option Open) (ℕ × LineFault)
form_read line (Err fault) o = Err (line, Form fault)
form_read line (Ok i) o = item_read line i o

-- what a line of these words does, which changes nothing where it is skipped
abbrev pub words_read : ℕ → List (List ℕ) → Option Open → Result (Option Open) (ℕ × LineFault)
words_read line ws o = if is_skipped ws then Ok o else form_read line (item_in ws) o

-- reading goes on behind a line without a fault, and ends with its fault
abbrev pub goes_on : Result (Option Open) (ℕ × LineFault) → (Option Open → Result (List Content) (ℕ × LineFault)) → Result (List Content) (ℕ × LineFault)
goes_on (Ok o) next = next o
goes_on (Err fault) next = Err fault

-- what the lines come to that follow n others
unfoldable pub lines_read : ℕ → List (List ℕ) → Option Open → Result (List Content) (ℕ × LineFault)
lines_read n [] o = ended o
lines_read n (l ∷ ls) o = goes_on (words_read (n + 1) (words_of l) o) (lines_read (n + 1) ls)

-- what is held of it
abbrev hold : ℕ → Head → Option (List Event × Event) → DraftLines
hold line head None = begun line head
hold line head (Some events) = draft_lines line head (map cut events.0) (Some (cut events.1)) (first_deep 0 (events.0 ++ events.1 ∷ []))

abbrev pub holding : Option Open → Progress
holding None = nothing_read
holding (Some o) = progress (bundle o.done) (Some (hold o.line o.head o.events))

-- the bytes of the segments that were read, or the fault
abbrev pub bytes_in : Result (List Content) (ℕ × LineFault) → Result (List ℕ) (ℕ × LineFault)
bytes_in (Ok segments) = Ok (bundle segments)
bytes_in (Err fault) = Err fault

abbrev pub held_in : Result (Option Open) (ℕ × LineFault) → Result Progress (ℕ × LineFault)
held_in (Ok o) = Ok (holding o)
held_in (Err fault) = Err fault

-- a settled draft
settles : (line : ℕ) (head : Head) (events : Option (List Event × Event))
    → settled (hold line head events) ≡ draft_lines line head (map cut (all_of events)) None (first_deep 0 (all_of events))
settles line head None = refl
settles line head (Some events) = rw (map-append cut events.0 (events.1 ∷ [])) refl

bundle_one : (done : List Content) (s : Content) → bundle (done ++ s ∷ []) ≡ bundle done ++ encoding s
bundle_one done s = flat_map-append encoding done (s ∷ []) ∙ ap (λ x. bundle done ++ x) (append-nil (encoding s))

checked_bytes : (done : List Content) (line : ℕ) (head : Head) (es : List Event) (fault : Option Fault) → draft_fault (draft head es) ≡ fault
    → bytes_or_fault (bundle done) (draft_lines line head (map cut es) None (first_deep 0 es)) fault ≡ bytes_in (checked done line (draft head es) fault)
checked_bytes done line head es (Some f) is = refl
checked_bytes done line head es None is = by_version (version_of head.version) refl
  where
    by_version : (o : Option Version) → version_of head.version ≡ o
        → bytes_or_fault (bundle done) (draft_lines line head (map cut es) None (first_deep 0 es)) None ≡ bytes_in (checked done line (draft head es) None)
    by_version None v = let h = rw v at is in cc
    by_version (Some v) is_v =
        let whole : map cut es ≡ es = whole_draft v (draft head es) (rw is_v at is) in
        rw (is_v, whole) (ap Ok (sym (bundle_one done (content_of v (draft head es)))))

closes : (o : Option Open) → closed (holding o) ≡ bytes_in (ended o)
unfolding closed
closes None = refl
closes (Some o) =
    ap (λ h. bytes_or_fault (bundle o.done) h (draft_lines_fault h)) (settles o.line o.head o.events)
    ∙ (ap (λ f. bytes_or_fault (bundle o.done) (draft_lines o.line o.head (map cut (all_of o.events)) None (first_deep 0 (all_of o.events))) f)
    (overfull_draft o.head (all_of o.events))
    ∙ checked_bytes o.done o.line o.head (all_of o.events) (draft_fault (draft_in o)) refl)

-- an event or a frame more
deep_after : Option ℕ → ℕ → Bool → Option ℕ
deep_after (Some i) n deep = Some i
deep_after None n deep = if deep then Some n else None

first_deep_more : (i : ℕ) (es : List Event) (e : Event)
    → first_deep i (es ++ e ∷ []) ≡ deep_after (first_deep i es) (i + length es) (is_deep e)
unfolding deep_after
first_deep_more i [] e = rw add-zero refl
first_deep_more i (f ∷ es) e = by_case (first_deep_more (i + 1) es e) (is_deep f) refl
  where
    by_case : first_deep (i + 1) (es ++ e ∷ []) ≡ deep_after (first_deep (i + 1) es) (i + 1 + length es) (is_deep e) → (b : Bool) → is_deep f ≡ b
        → first_deep i (f ∷ es ++ e ∷ []) ≡ deep_after (first_deep i (f ∷ es)) (i + length (f ∷ es)) (is_deep e)
    by_case more true deep = rw deep refl
    by_case more false deep = let same : i + 1 + length es ≡ i + length (f ∷ es) = omega arith in rw (deep, more, same) refl

-- an empty stack isn't deep
empty_shallow : (es : List Event) (e : LoneEvent) → first_deep 0 (es ++ with_stack [] e ∷ []) ≡ first_deep 0 es
unfolding deep_after
empty_shallow es e = first_deep_more 0 es (with_stack [] e) ∙ keeps (first_deep 0 es)
  where
    keeps : (o : Option ℕ) → deep_after o (0 + length es) false ≡ o
    keeps None = refl
    keeps (Some i) = refl

event_held : (line : ℕ) (head : Head) (events : Option (List Event × Event)) (e : LoneEvent)
    → with_event e (hold line head events) ≡ hold line head (Some (all_of events, with_stack [] e))
event_held line head None e = refl
event_held line head (Some events) e = rw (map-append cut events.0 (events.1 ∷ []), empty_shallow (events.0 ++ events.1 ∷ []) e) refl

still_shallow : (before : List Event) (e : Event) (address : ℕ) → length e.stack < 64
    → first_deep 0 (before ++ e ∷ []) ≡ first_deep 0 (before ++ framed address e ∷ [])
still_shallow before e address low =
    let none : is_deep e ≡ false = grind (arith, nat_tests) in
    let longer : length (e.stack ++ address ∷ []) ≡ length e.stack + 1 = length-append e.stack (address ∷ []) in
    let none_then : is_deep (framed address e) ≡ false = grind (arith, nat_tests) in
    first_deep_more 0 before e ∙ (rw (none, ← none_then) (sym (first_deep_more 0 before (framed address e))))

now_deep : (before : List Event) (e : Event) (address : ℕ) → 64 ≤ length e.stack
    → Some (unwrap_or (first_deep 0 (before ++ e ∷ [])) (length before)) ≡ first_deep 0 (before ++ framed address e ∷ [])
unfolding deep_after
now_deep before e address full =
    let longer : length (e.stack ++ address ∷ []) ≡ length e.stack + 1 = length-append e.stack (address ∷ []) in
    let deep : is_deep (framed address e) ≡ true = grind (arith, nat_tests) in
    ap (λ o. Some (unwrap_or o (length before))) (first_deep_more 0 before e) ∙ (known (first_deep 0 before) (is_deep e)
    ∙ (ap (deep_after (first_deep 0 before) (0 + length before)) (sym deep) ∙ sym (first_deep_more 0 before (framed address e))))
  where
    known : (o : Option ℕ) (d : Bool)
        → Some (unwrap_or (deep_after o (0 + length before) d) (length before)) ≡ deep_after o (0 + length before) true
    known (Some i) d = refl
    known None true = rw zero-add refl
    known None false = rw zero-add refl

frame_held : (line : ℕ) (head : Head) (before : List Event) (e : Event) (address : ℕ)
    → with_frame_of address (hold line head (Some (before, e))) (cut e) ≡ hold line head (Some (before, framed address e))
frame_held line head before e address = by_case (nat_lt (length e.stack) 64) refl
  where
    by_case : (b : Bool) → nat_lt (length e.stack) 64 ≡ b
        → with_frame_of address (hold line head (Some (before, e))) (cut e) ≡ hold line head (Some (before, framed address e))
    by_case true is =
        let low : length e.stack < 64 = ltb-true (length e.stack) 64 is in
        let whole = take_all 64 e.stack (omega arith) in
        let longer : length (e.stack ++ address ∷ []) ≡ length e.stack + 1 = length-append e.stack (address ∷ []) in
        let whole_then = take_all 64 (e.stack ++ address ∷ []) (omega arith) in
        rw (whole, is, whole_then, still_shallow before e address low) refl
    by_case false is =
        let full : 64 ≤ length e.stack = ltb-false (length e.stack) 64 is in
        let size = length-take-le 64 e.stack full in
        let same = take-append-le 64 e.stack (address ∷ []) full in
        rw (size, length_cut before, same, now_deep before e address full) refl

item_held : (line : ℕ) (i : Item) (o : Option Open) → after_item line i (holding o) ≡ held_in (item_read line i o)
item_held line (item.Segment head) o = rw (closes o) (renews (ended o))
  where
    renews : (r : Result (List Content) (ℕ × LineFault)) → reopened line head (bytes_in r) ≡ held_in (renewed line head r)
    renews (Ok done) = refl
    renews (Err fault) = refl
item_held line (item.Event e) None = refl
item_held line (item.Event e) (Some o) = ap (λ h. Ok (progress (bundle o.done) (Some h))) (event_held o.line o.head o.events e)
item_held line (item.Frame address) None = refl
item_held line (item.Frame address) (Some o) = by_events o.events
  where
    by_events : (events : Option (List Event × Event))
        → after_frame_of line address (bundle o.done) (hold o.line o.head events) (hold o.line o.head events).event
        ≡ held_in (with_frame_in line address o events)
    by_events None = refl
    by_events (Some events) = ap (λ h. Ok (progress (bundle o.done) (Some h))) (frame_held o.line o.head events.0 events.1 address)

words_held : (line : ℕ) (ws : List (List ℕ)) (o : Option Open) → after_words line ws (holding o) ≡ held_in (words_read line ws o)
unfolding after_words
words_held line ws o = by_case (is_skipped ws)
  where
    by_form : (r : Result Item FormFault) → after_form line r (holding o) ≡ held_in (form_read line r o)
    by_form (Err fault) = refl
    by_form (Ok i) = item_held line i o

    by_case : (b : Bool) → (if b then Ok (holding o) else after_form line (item_in ws) (holding o))
        ≡ held_in (if b then Ok o else form_read line (item_in ws) o)
    by_case true = refl
    by_case false = by_form (item_in ws)

-- what is read is what reading with whole stacks comes to
pub lines_held : (n : ℕ) (ls : List (List ℕ)) (o : Option Open) → read n ls (holding o) ≡ bytes_in (lines_read n ls o)
unfolding read lines_read
lines_held n [] o = closes o
lines_held n (l ∷ ls) o = rw (words_held (n + 1) (words_of l) o) (goes (lines_held (n + 1) ls) (words_read (n + 1) (words_of l) o))
  where
    goes : ((o : Option Open) → read (n + 1) ls (holding o) ≡ bytes_in (lines_read (n + 1) ls o)) → (r : Result (Option Open) (ℕ × LineFault))
        → go_on (held_in r) (read (n + 1) ls) ≡ bytes_in (goes_on r (lines_read (n + 1) ls))
    goes more (Ok o) = more o
    goes more (Err fault) = refl
