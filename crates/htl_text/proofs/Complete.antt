-- What lines encode is what reading them comes to, and else their first fault is.
use Rattle.std.proofs.Common.{◌≡◌, ◌+◌, ℕ, suc, Bool, true, false, List, [], ◌∷◌, ◌++◌, length, refl, arith, ap, sym, ◌∙◌, length-append, add-zero}
use Rattle.std.specs.Prelude.{Option, Some, None, Result, Ok, Err, All, map}
use Rattle.std.specs.List.{flat_map}
use Rattle.std.proofs.lemmas.Bool.{false≢true}
use Rattle.std.proofs.lemmas.List.{append_assoc, append-nil}
use Rattle.std.proofs.lemmas.List.Elements.{All-head, All-tail}
use Rattle.htl_event.specs.Events.{Event, with_stack}
use Rattle.htl_segment.specs.Content.{Content, Fits}
use Rattle.htl_segment.proofs.BuildingLaws.{parts_pass}
use Rattle.htl_segment.specs.declared.fault.Fault.{Fault}
use Rattle.htl_text.specs.declared.item.Head.{Head}
use Rattle.htl_text.specs.declared.item.Item.{Item}
use Rattle.htl_text.specs.declared.item.Item.TheVariants as item
use Rattle.htl_text.specs.declared.fault.FormFault.{FormFault}
use Rattle.htl_text.specs.declared.fault.LineFault.{LineFault}
use Rattle.htl_text.specs.declared.fault.LineFault.TheVariants.{Form, Order, Segment}
use Rattle.htl_text.specs.Items.{Draft, without_stack, event_items, draft_items, draft_of, segments_items}
use Rattle.htl_text.specs.Lines.{words_of, is_skipped, item_in}
use Rattle.htl_text.specs.Encoded.{draft, draft_fault, Write, kept, Written, written_items, WrittenFits, IsBad, LinesEncode, LinesFault, IsLineFault}
use Rattle.htl_text.specs.Encoded.{IsSegmentFault, ends_before, begins_segment, is_misplaced, is_none_yet}
use Rattle.htl_text.proofs.Holding.{Open, opened, all_of, draft_in, checked, ended, renewed, framed, with_frame_in, item_read, words_read, goes_on}
use Rattle.htl_text.proofs.Holding.{lines_read}
use Rattle.htl_text.proofs.Writing.{kept_one, kept_passed, kept_nil}
use Rattle.htl_segment.proofs.HeaderLaws.{version_of-version_number}

-- Reading these lines leads from one state to another, whatever follows.
abbrev Leads : List (List ℕ) → ℕ → Option Open → ℕ → Option Open → Type 0
Leads ls n o m p = (more : List (List ℕ)) → lines_read n (ls ++ more) o ≡ lines_read m more p

leads_step : (l : List ℕ) (ls : List (List ℕ)) (n m : ℕ) (o q p : Option Open) → words_read (n + 1) (words_of l) o ≡ Ok q
    → Leads ls (n + 1) q m p → Leads (l ∷ ls) n o m p
unfolding lines_read
leads_step l ls n m o q p step rest more = rw step (rest more)

leads_on : (a b : List (List ℕ)) (n m k : ℕ) (o q p : Option Open) → Leads a n o m q → Leads b m q k p → Leads (a ++ b) n o k p
leads_on a b n m k o q p first next more = rw (append_assoc a b more) (first (b ++ more) ∙ next more)

passed : (n : ℕ) (l : List ℕ) (o : Option Open) → is_skipped (words_of l) ≡ true → words_read n (words_of l) o ≡ Ok o
passed n l o e = rw e refl

taken : (n : ℕ) (l : List ℕ) (o : Option Open) (i : Item) → is_skipped (words_of l) ≡ false → item_in (words_of l) ≡ Ok i
    → words_read n (words_of l) o ≡ item_read n i o
taken n l o i e found = rw (e, found) refl

-- a line that isn't skipped has the first of the items
pub record First (l : List ℕ) (ls : List (List ℕ)) (i : Item) (is : List Item) : Type 0 where
  pub found : item_in (words_of l) ≡ Ok i
  pub rest : Write ls is

-- the first line, where it isn't skipped, has the first item, and the lines behind it have the others
pub first_of : (l : List ℕ) (ls : List (List ℕ)) (i : Item) (is : List Item) → is_skipped (words_of l) ≡ false → Write (l ∷ ls) (i ∷ is)
    → First l ls i is
first_of l ls i is e h =
    let both : item_in (words_of l) ∷ map item_in (kept ls) ≡ Ok i ∷ map Ok is = rw (kept_one l ls e) at h in
    record { found = cc; rest = cc }

-- a line that isn't skipped has an item
pub none_of : (l : List ℕ) (ls : List (List ℕ)) → is_skipped (words_of l) ≡ false → Write (l ∷ ls) [] → ⊥
none_of l ls e h = let both : item_in (words_of l) ∷ map item_in (kept ls) ≡ [] = rw (kept_one l ls e) at h in cc

-- behind a skipped line, the lines have all items
pub rest_of : (l : List ℕ) (ls : List (List ℕ)) (is : List Item) → is_skipped (words_of l) ≡ true → Write (l ∷ ls) is → Write ls is
rest_of l ls is e h = rw (kept_passed l ls e) at h

-- lines that say nothing
leads_nowhere : (ls : List (List ℕ)) (n : ℕ) (o : Option Open) → Write ls [] → Leads ls n o (n + length ls) o
leads_nowhere [] n o h = λ more. rw add-zero refl
leads_nowhere (l ∷ ls) n o h = by_case (is_skipped (words_of l)) refl (leads_nowhere ls (n + 1) o)
  where
    by_case : (b : Bool) → is_skipped (words_of l) ≡ b → (Write ls [] → Leads ls (n + 1) o (n + 1 + length ls) o)
        → Leads (l ∷ ls) n o (n + length (l ∷ ls)) o
    by_case true e more =
        let size : n + 1 + length ls ≡ n + length (l ∷ ls) = omega arith in
        rw (← size) (leads_step l ls n (n + 1 + length ls) o o o (passed (n + 1) l o e) (more (rest_of l ls [] e h)))
    by_case false e more = absurd (none_of l ls e h)

-- the events once these frames and these events have come
abbrev with_frames : Option (List Event × Event) → List ℕ → Option (List Event × Event)
with_frames None fs = None
with_frames (Some events) fs = Some (events.0, record events.1 { stack = events.1.stack ++ fs })

abbrev with_events : Option (List Event × Event) → List Event → Option (List Event × Event)
with_events events [] = events
with_events events (e ∷ es) = with_events (Some (all_of events, e)) es

all_with : (events : Option (List Event × Event)) (es : List Event) → all_of (with_events events es) ≡ all_of events ++ es
all_with events [] = sym (append-nil (all_of events))
all_with events (e ∷ es) = all_with (Some (all_of events, e)) es ∙ append_assoc (all_of events) (e ∷ []) es

-- frames come only after an event
abbrev MayFollow : Option (List Event × Event) → List ℕ → Type 0
MayFollow None [] = Unit {0}
MayFollow None (f ∷ fs) = ⊥
MayFollow (Some events) fs = Unit {0}

no_frames : (events : Option (List Event × Event)) → with_frames events [] ≡ events
no_frames None = refl
no_frames (Some events) = rw (append-nil events.1.stack) refl

abbrev EventsLead : List (List ℕ) → ℕ → List Content → ℕ → Head → Type 0
EventsLead ls n done line head = (events : Option (List Event × Event)) (fs : List ℕ) (es : List Event)
    → Write ls (map item.Frame fs ++ flat_map event_items es) → MayFollow events fs
    → Leads ls n (Some (opened done line head events)) (n + length ls) (Some (opened done line head (with_events (with_frames events fs) es)))

one_more_line : (n k : ℕ) → n + 1 + k ≡ n + suc k
one_more_line n k = omega arith

event_leads : (l : List ℕ) (ls : List (List ℕ)) (n : ℕ) (done : List Content) (line : ℕ) (head : Head)
    → EventsLead ls (n + 1) done line head → (b : Bool) → is_skipped (words_of l) ≡ b → EventsLead (l ∷ ls) n done line head
event_leads l ls n done line head more true e events fs es h may =
    rw (← one_more_line n (length ls)) (leads_step l ls n (n + 1 + length ls) (Some (opened done line head events))
    (Some (opened done line head events)) (Some (opened done line head (with_events (with_frames events fs) es)))
    (passed (n + 1) l (Some (opened done line head events)) e) (more events fs es (rest_of l ls (map item.Frame fs ++ flat_map event_items es) e h) may))
event_leads l ls n done line head more false e None (f ∷ fs) es h may = absurd may
event_leads l ls n done line head more false e (Some events) (f ∷ fs) es h may =
    let one = first_of l ls (item.Frame f) (map item.Frame fs ++ flat_map event_items es) e h in
    let grown : Option (List Event × Event) = Some (events.0, framed f events.1) in
    let same : with_frames grown fs ≡ with_frames (Some events) (f ∷ fs) = rw (append_assoc events.1.stack (f ∷ []) fs) refl in
    rw (← one_more_line n (length ls), ← same) (leads_step l ls n (n + 1 + length ls) (Some (opened done line head (Some events)))
    (Some (opened done line head grown)) (Some (opened done line head (with_events (with_frames grown fs) es)))
    (taken (n + 1) l (Some (opened done line head (Some events))) (item.Frame f) e one.found) (more grown fs es one.rest tt))
event_leads l ls n done line head more false e events [] [] h may = absurd (none_of l ls e h)
event_leads l ls n done line head more false e events [] (g ∷ es) h may =
    let one = first_of l ls (item.Event (without_stack g)) (map item.Frame g.stack ++ flat_map event_items es) e h in
    let grown : Option (List Event × Event) = Some (all_of events, with_stack [] (without_stack g)) in
    rw (← one_more_line n (length ls), no_frames events) (leads_step l ls n (n + 1 + length ls) (Some (opened done line head events))
    (Some (opened done line head grown)) (Some (opened done line head (with_events (with_frames grown g.stack) es)))
    (taken (n + 1) l (Some (opened done line head events)) (item.Event (without_stack g)) e one.found) (more grown g.stack es one.rest tt))

leads_events : (ls : List (List ℕ)) (n : ℕ) (done : List Content) (line : ℕ) (head : Head) → EventsLead ls n done line head
leads_events [] n done line head events [] [] h may = λ more. rw (add-zero, no_frames events) refl
leads_events [] n done line head events [] (g ∷ es) h may = let none = rw kept_nil at h in cc
leads_events [] n done line head events (f ∷ fs) es h may = let none = rw kept_nil at h in cc
leads_events (l ∷ ls) n done line head events fs es h may =
    event_leads l ls n done line head (leads_events ls (n + 1) done line head) (is_skipped (words_of l)) refl events fs es h may

-- the lines of a draft
record DraftLeads (ls : List (List ℕ)) (n : ℕ) (o : Option Open) (done : List Content) (d : Draft) : Type 0 where
  line : ℕ
  events : Option (List Event × Event)
  all : all_of events ≡ d.events
  leads : Leads ls n o (n + length ls) (Some (opened done line d.head events))

begun_draft : (first : List ℕ) (body : List (List ℕ)) (n : ℕ) (o : Option Open) (done : List Content) (d : Draft) → ended o ≡ Ok done
    → is_skipped (words_of first) ≡ false → Write (first ∷ body) (draft_items d)
    → Leads (first ∷ body) n o (n + length (first ∷ body)) (Some (opened done (n + 1) d.head (with_events None d.events)))
begun_draft first body n o done d closed e h =
    let one = first_of first body (item.Segment d.head) (flat_map event_items d.events) e h in
    let read : words_read (n + 1) (words_of first) o ≡ Ok (Some (opened done (n + 1) d.head None)) =
    taken (n + 1) first o (item.Segment d.head) e one.found ∙ ap (renewed (n + 1) d.head) closed in
    rw (← one_more_line n (length body)) (leads_step first body n (n + 1 + length body) o (Some (opened done (n + 1) d.head None))
    (Some (opened done (n + 1) d.head (with_events None d.events))) read
    (leads_events body (n + 1) done (n + 1) d.head None [] d.events one.rest tt))

leads_draft : (ls : List (List ℕ)) (n : ℕ) (o : Option Open) (done : List Content) (d : Draft) → ended o ≡ Ok done → Write ls (draft_items d)
    → DraftLeads ls n o done d
leads_draft [] n o done d closed h = let none = rw kept_nil at h in cc
leads_draft (l ∷ ls) n o done d closed h = by_case (leads_draft ls (n + 1) o done d closed) (is_skipped (words_of l)) refl
  where
    by_case : (Write ls (draft_items d) → DraftLeads ls (n + 1) o done d) → (b : Bool) → is_skipped (words_of l) ≡ b
        → DraftLeads (l ∷ ls) n o done d
    by_case more true e =
        let m = more (rest_of l ls (draft_items d) e h) in
        record {
          line = m.line;
          events = m.events;
          all = m.all;
          leads = rw (← one_more_line n (length ls)) (leads_step l ls n (n + 1 + length ls) o o (Some (opened done m.line d.head m.events))
              (passed (n + 1) l o e) m.leads);
        }
    by_case more false e = record {
      line = n + 1;
      events = with_events None d.events;
      all = all_with None d.events;
      leads = begun_draft l ls n o done d closed e h;
    }

-- lines are parted where their items are
record Parted (ls : List (List ℕ)) (xs ys : List Item) : Type 0 where
  front : List (List ℕ)
  back : List (List ℕ)
  cut : ls ≡ front ++ back
  first : Write front xs
  next : Write back ys

parted : (ls : List (List ℕ)) (xs ys : List Item) → Write ls (xs ++ ys) → Parted ls xs ys
parted ls [] ys h = record { front = []; back = ls; cut = refl; first = rw kept_nil refl; next = h }
parted [] (x ∷ xs) ys h = let none = rw kept_nil at h in cc
parted (l ∷ ls) (x ∷ xs) ys h = by_case (parted ls) (is_skipped (words_of l)) refl
  where
    by_case : ((xs ys : List Item) → Write ls (xs ++ ys) → Parted ls xs ys) → (b : Bool) → is_skipped (words_of l) ≡ b
        → Parted (l ∷ ls) (x ∷ xs) ys
    by_case more true e =
        let p = more (x ∷ xs) ys (rest_of l ls (x ∷ (xs ++ ys)) e h) in
        record { front = l ∷ p.front; back = p.back; cut = ap (λ k. l ∷ k) p.cut; first = rw (kept_passed l p.front e) p.first; next = p.next }
    by_case more false e =
        let one = first_of l ls x (xs ++ ys) e h in
        let p = more xs ys one.rest in
        let found = one.found in
        let rest = p.first in
        record {
          front = l ∷ p.front;
          back = p.back;
          cut = ap (λ k. l ∷ k) p.cut;
          first = rw (kept_one l p.front e, found) (ap (λ k. Ok x ∷ k) rest);
          next = p.next;
        }

-- segments that fit are ended without a fault
clean : (s : Content) → Fits s → draft_fault (draft_of s) ≡ None
clean s fits = rw (version_of-version_number s.version) (parts_pass s fits)

ends_well : (done : List Content) (line : ℕ) (s : Content) (events : Option (List Event × Event)) → all_of events ≡ s.events → Fits s
    → ended (Some (opened done line (draft_of s).head events)) ≡ Ok (done ++ s ∷ [])
ends_well done line s events all fits =
    let same : draft (draft_of s).head (all_of events) ≡ draft_of s = rw all refl in
    ap (λ d. checked done line d (draft_fault d)) same
    ∙ (ap (checked done line (draft_of s)) (clean s fits) ∙ rw (version_of-version_number s.version) refl)

record SegmentsLead (ls : List (List ℕ)) (n : ℕ) (o : Option Open) (done : List Content) : Type 0 where
  state : Option Open
  leads : Leads ls n o (n + length ls) state
  closed : ended state ≡ Ok done

added_up : (n : ℕ) (a b : List (List ℕ)) → n + length a + length b ≡ n + length (a ++ b)
added_up n a b = let all = length-append a b in omega arith

leads_as : (ls xs : List (List ℕ)) (n m : ℕ) (o p : Option Open) → ls ≡ xs → m ≡ n + length xs → Leads xs n o m p → Leads ls n o (n + length ls) p
leads_as ls xs n m o p e size h = rw (e, ← size) h

leads_segments : (ss : List Content) (ls : List (List ℕ)) (n : ℕ) (o : Option Open) (done : List Content) → ended o ≡ Ok done
    → Write ls (segments_items ss) → All Fits ss → SegmentsLead ls n o (done ++ ss)
leads_segments [] ls n o done closed h fits = record { state = o; leads = leads_nowhere ls n o h; closed = rw (append-nil done) closed }
leads_segments (s ∷ ss) ls n o done closed h fits =
    let p = parted ls (draft_items (draft_of s)) (segments_items ss) h in
    let d = leads_draft p.front n o done (draft_of s) closed p.first in
    let well = ends_well done d.line s d.events d.all (All-head Fits s ss fits) in
    let q = leads_segments ss p.back (n + length p.front) (Some (opened done d.line (draft_of s).head d.events)) (done ++ s ∷ []) well p.next
    (All-tail Fits s ss fits) in
    record {
      state = q.state;
      leads = leads_as ls (p.front ++ p.back) n (n + length p.front + length p.back) o q.state p.cut (added_up n p.front p.back)
          (leads_on p.front p.back n (n + length p.front) (n + length p.front + length p.back) o
          (Some (opened done d.line (draft_of s).head d.events)) q.state d.leads q.leads);
      closed = rw (← append_assoc done (s ∷ []) ss) q.closed;
    }

-- what lines encode is what they come to
pub encoded_is_read : (lines : List (List ℕ)) (ss : List Content) → LinesEncode lines ss → lines_read 0 lines None ≡ Ok ss
unfolding lines_read
encoded_is_read lines ss h =
    let q = leads_segments ss lines 0 None [] refl h.written h.fits in
    ap (λ ls. lines_read 0 ls None) (sym (append-nil lines)) ∙ (q.leads [] ∙ q.closed)

-- a draft with a fault breaks where it ends
breaks : (later : List (List ℕ)) (m : ℕ) (o : Open) (f : Fault) → ends_before (kept later) ≡ true → draft_fault (draft_in o) ≡ Some f
    → lines_read m later (Some o) ≡ Err (o.line, Segment f)
unfolding lines_read
breaks [] m o f end is = rw is refl
breaks (l ∷ ls) m o f end is = by_case (breaks ls (m + 1) o f) (is_skipped (words_of l)) refl
  where
    by_item : (r : Result Item FormFault) → begins_segment r ≡ true → item_in (words_of l) ≡ r → is_skipped (words_of l) ≡ false
        → lines_read m (l ∷ ls) (Some o) ≡ Err (o.line, Segment f)
    by_item (Err fault) begins found e = absurd (false≢true begins)
    by_item (Ok (item.Event event)) begins found e = absurd (false≢true begins)
    by_item (Ok (item.Frame address)) begins found e = absurd (false≢true begins)
    by_item (Ok (item.Segment head)) begins found e = rw (e, found, is) refl

    by_case : (ends_before (kept ls) ≡ true → draft_fault (draft_in o) ≡ Some f → lines_read (m + 1) ls (Some o) ≡ Err (o.line, Segment f))
        → (b : Bool) → is_skipped (words_of l) ≡ b → lines_read m (l ∷ ls) (Some o) ≡ Err (o.line, Segment f)
    by_case more true e = rw e (more (rw (kept_passed l ls e) at end) is)
    by_case more false e = by_item (item_in (words_of l)) (rw (kept_one l ls e) at end) refl e

segment_fault_is_read : (lines : List (List ℕ)) (line : ℕ) (f : Fault) → IsSegmentFault lines line f → lines_read 0 lines None ≡ Err (line, Segment f)
segment_fault_is_read lines line f h =
    let q = leads_segments h.segments h.before 0 None [] refl h.written h.fits in
    let n : ℕ = 0 + length h.before in
    let begun = begun_draft h.first h.body n q.state h.segments h.draft q.closed h.begun h.drafted in
    let o : Open = opened h.segments (n + 1) h.draft.head (with_events None h.draft.events) in
    let events : all_of (with_events None h.draft.events) ≡ h.draft.events = all_with None h.draft.events in
    let broken : draft_fault (draft_in o) ≡ Some f = ap (λ es. draft_fault (draft h.draft.head es)) events ∙ h.fault_is in
    let size : n + 1 ≡ line = omega (arith, h.line_is) in
    ap (λ ls. lines_read 0 ls None) h.cut ∙ (q.leads (h.first ∷ h.body ++ h.later)
    ∙ (begun h.later ∙ (breaks h.later (n + length (h.first ∷ h.body)) o f h.ended broken ∙ ap (λ k. Err (k, Segment f)) size)))

-- the state has what was written
abbrev IsOf : Written → Option Open → Type 0
IsOf None None = Unit {0}
IsOf None (Some o) = ⊥
IsOf (Some so_far) None = ⊥
IsOf (Some so_far) (Some o) = all_of o.events ≡ so_far.1.events

-- what lines write so far is what they lead to
record WrittenLead (before : List (List ℕ)) (written : Written) : Type 0 where
  state : Option Open
  leads : Leads before 0 None (0 + length before) state
  is : IsOf written state

written_leads : (before : List (List ℕ)) (written : Written) → WrittenFits written → Write before (written_items written) → WrittenLead before written
written_leads before None fits h = record { state = None; leads = leads_nowhere before 0 None h; is = tt }
written_leads before (Some so_far) fits h =
    let p = parted before (segments_items so_far.0) (draft_items so_far.1) h in
    let q = leads_segments so_far.0 p.front 0 None [] refl p.first fits in
    let d = leads_draft p.back (0 + length p.front) q.state so_far.0 so_far.1 q.closed p.next in
    let state : Option Open = Some (opened so_far.0 d.line so_far.1.head d.events) in
    record {
      state = state;
      leads = leads_as before (p.front ++ p.back) 0 (0 + length p.front + length p.back) None state p.cut (added_up 0 p.front p.back)
          (leads_on p.front p.back 0 (0 + length p.front) (0 + length p.front + length p.back) None q.state state q.leads d.leads);
      is = d.all;
    }

some_yet : (es : List Event) (e : Event) → is_none_yet (es ++ e ∷ []) ≡ false
some_yet [] e = refl
some_yet (f ∷ es) e = refl

misplaced_fails : (n : ℕ) (i : Item) (written : Written) (o : Option Open) → IsOf written o → is_misplaced written i ≡ true
    → item_read n i o ≡ Err (n, Order)
misplaced_fails n i None (Some o) is bad = absurd is
misplaced_fails n i (Some so_far) None is bad = absurd is
misplaced_fails n (item.Segment head) None None is bad = absurd (false≢true bad)
misplaced_fails n (item.Event e) None None is bad = refl
misplaced_fails n (item.Frame address) None None is bad = refl
misplaced_fails n (item.Segment head) (Some so_far) (Some o) is bad = absurd (false≢true bad)
misplaced_fails n (item.Event e) (Some so_far) (Some o) is bad = absurd (false≢true bad)
misplaced_fails n (item.Frame address) (Some so_far) (Some o) is bad = by_events o.events refl
  where
    by_events : (events : Option (List Event × Event)) → o.events ≡ events → with_frame_in n address o events ≡ Err (n, Order)
    by_events None e = refl
    by_events (Some events) e =
        let all : events.0 ++ events.1 ∷ [] ≡ so_far.1.events = rw e at is in
        absurd (false≢true (sym (some_yet events.0 events.1) ∙ (ap is_none_yet all ∙ bad)))

fails_there : (n : ℕ) (l : List ℕ) (written : Written) (o : Option Open) (fault : LineFault) → IsOf written o → is_skipped (words_of l) ≡ false
    → IsBad written (words_of l) fault → words_read n (words_of l) o ≡ Err (n, fault)
fails_there n l written o (Form fault) is e bad = rw (e, bad) refl
fails_there n l written o Order is e (i, found, misplaced) = rw (e, found) (misplaced_fails n i written o is misplaced)
fails_there n l written o (Segment fault) is e bad = absurd bad

line_fault_is_read : (lines : List (List ℕ)) (line : ℕ) (fault : LineFault) → IsLineFault lines line fault → lines_read 0 lines None ≡ Err (line, fault)
unfolding lines_read
line_fault_is_read lines line fault h =
    let w = written_leads h.before h.so_far h.fits h.written in
    let n : ℕ = 0 + length h.before in
    let fails = fails_there (n + 1) h.bad h.so_far w.state fault w.is h.read h.is_bad in
    let size : n + 1 ≡ line = omega (arith, h.line_is) in
    ap (λ ls. lines_read 0 ls None) h.cut ∙ (w.leads (h.bad ∷ h.later)
    ∙ (ap (λ r. goes_on r (lines_read (n + 1) h.later)) fails ∙ ap (λ k. Err (k, fault)) size))

-- the first fault is what the lines come to
pub fault_is_read : (lines : List (List ℕ)) (line : ℕ) (fault : LineFault) → LinesFault lines line fault → lines_read 0 lines None ≡ Err (line, fault)
fault_is_read lines line (Form fault) h = line_fault_is_read lines line (Form fault) h
fault_is_read lines line Order h = line_fault_is_read lines line Order h
fault_is_read lines line (Segment fault) h = segment_fault_is_read lines line fault h
