-- What is being read is a segment that the text begins with.
use Rattle.std.proofs.Common.{◌≡◌, ℕ, Bool, true, false, List, ◌∷◌, refl, ap, sym, ◌∙◌}
use Rattle.std.specs.Prelude.{◌||◌, Option, Some, None, Result, Ok, Err, IfErr, if◌then◌else◌}
use Rattle.std.specs.Option.{is_some}
use Rattle.std.proofs.Math.Bool.{or-false, or-true}
use Rattle.htl_event.specs.Events.{Event}
use Rattle.htl_text.specs.declared.fault.FormFault.{FormFault}
use Rattle.htl_text.specs.declared.fault.LineFault.{LineFault}
use Rattle.htl_text.specs.declared.fault.LineFault.TheVariants.{Form, Order}
use Rattle.htl_text.specs.declared.fault.TextFault.{TextFault}
use Rattle.htl_text.specs.declared.fault.TextFault.TheVariants as text
use Rattle.htl_text.specs.declared.item.Head.{Head}
use Rattle.htl_text.specs.declared.item.Item.{Item}
use Rattle.htl_text.specs.declared.item.Item.TheVariants as item
use Rattle.htl_text.specs.Encoded.{begins, begins_segment, is_header, kept}
use Rattle.htl_text.specs.Lines.{is_skipped, item_in, lines_of_text, words_of}
use Rattle.htl_text.specs.Steps.{DraftLines, Progress, after_event, after_form, after_frame, after_frame_of, after_item}
use Rattle.htl_text.specs.Steps.{after_words, begun, closed, progress, reopened, with_event}
use Rattle.htl_text.specs.Steps.{HasCause, NeedsSegment, with_frame_of}
use Rattle.htl_text.proofs.Writing.{kept_one, kept_passed}

-- a segment's lines are being read, or the first line that is left begins one
abbrev pub starts : Progress → List (List ℕ) → Bool
starts p lines = is_some p.draft || begins (kept lines)

abbrev Outcome : Type 0
Outcome = Result Progress (ℕ × LineFault)

same_progress : (r : Outcome) (p q : Progress) → r ≡ Ok p → r ≡ Ok q → p ≡ q
same_progress r p q h k = cc

no_progress : (r : Outcome) (fault : ℕ × LineFault) (q : Progress) → r ≡ Err fault → r ≡ Ok q → ⊥
no_progress r fault q h k = cc

read_on : (p q : Progress) (r : Outcome) → r ≡ Ok p → r ≡ Ok q → is_some p.draft ≡ true → is_some q.draft ≡ true
read_on p q r h k is = rw (← same_progress r p q h k) is

started_anew : (line : ℕ) (head : Head) (r : Result (List ℕ) (ℕ × LineFault)) (q : Progress) → reopened line head r ≡ Ok q
    → is_some q.draft ≡ true
started_anew line head (Ok bytes) q h = read_on (progress bytes (Some (begun line head))) q (reopened line head (Ok bytes)) refl h refl
started_anew line head (Err fault) q h = absurd (no_progress (reopened line head (Err fault)) fault q refl h)

started_frame : (line address : ℕ) (bytes : List ℕ) (d : DraftLines) (e : Option Event) (q : Progress)
    → after_frame_of line address bytes d e ≡ Ok q → is_some q.draft ≡ true
started_frame line address bytes d None q h = absurd (no_progress (after_frame_of line address bytes d None) (line, Order) q refl h)
started_frame line address bytes d (Some e) q h =
    read_on (progress bytes (Some (with_frame_of address d e))) q (after_frame_of line address bytes d (Some e)) refl h refl

-- After an item a segment's lines are being read: they were before, or it begins one.
abbrev Started : Option DraftLines → Item → Progress → Type 0
Started d i q = (is_some q.draft ≡ true) × ((is_some d || is_header i) ≡ true)

started : (line : ℕ) (i : Item) (bytes : List ℕ) (d : Option DraftLines) (q : Progress) → after_item line i (progress bytes d) ≡ Ok q → Started d i q
started line (item.Segment head) bytes d q h = (started_anew line head (closed (progress bytes d)) q h, or-true (is_some d))
started line (item.Event e) bytes None q h = absurd (no_progress (after_event line e bytes None) (line, Order) q refl h)
started line (item.Event e) bytes (Some d) q h =
    (read_on (progress bytes (Some (with_event e d))) q (after_event line e bytes (Some d)) refl h refl, refl)
started line (item.Frame address) bytes None q h = absurd (no_progress (after_frame line address bytes None) (line, Order) q refl h)
started line (item.Frame address) bytes (Some d) q h = (started_frame line address bytes d d.event q h, refl)

by_item : (line : ℕ) (r : Result Item FormFault) (p q : Progress) → after_form line r p ≡ Ok q
    → ((is_some p.draft || begins_segment r) ≡ true) × (is_some q.draft ≡ true)
by_item line (Err fault) p q h = absurd (no_progress (after_form line (Err fault) p) (line, Form fault) q refl h)
by_item line (Ok i) p q h = let is = started line i p.bytes p.draft q h in (is.1, is.0)

-- so a line changes nothing of that
pub starts_step : (line : ℕ) (l : List ℕ) (ls : List (List ℕ)) (p q : Progress) → after_words line (words_of l) p ≡ Ok q
    → starts p (l ∷ ls) ≡ starts q ls
unfolding after_words
starts_step line l ls p q h = by_passed (is_skipped (words_of l)) refl h
  where
    by_passed : (b : Bool) → is_skipped (words_of l) ≡ b → (if b then Ok p else after_form line (item_in (words_of l)) p) ≡ Ok q
        → starts p (l ∷ ls) ≡ starts q ls
    by_passed true e h = let same : p ≡ q = same_progress (Ok p) p q refl h in rw (kept_passed l ls e, same) refl
    by_passed false e h = let is = by_item line (item_in (words_of l)) p q h in rw (kept_one l ls e, is.0, is.1) refl

-- once a line of the rest was read, what is being read and the rest still tell whether the whole text begins a segment
pub starts_on : (whole rest later : List (List ℕ)) (line : List ℕ) (n : ℕ) (p q : Progress) → begins (kept whole) ≡ starts p rest
    → kept rest ≡ kept (line ∷ later) → after_words n (words_of line) p ≡ Ok q → begins (kept whole) ≡ starts q later
starts_on whole rest later line n p q start cut h =
    start ∙ (ap (λ k. is_some p.draft || begins k) cut ∙ starts_step n line later p q h)

-- a frame is taken only while a segment's lines are being read, and these go on
pub frame_on : (whole rest later : List (List ℕ)) (line address : ℕ) (p q : Progress) → begins (kept whole) ≡ starts p rest
    → after_frame line address p.bytes p.draft ≡ Ok q → begins (kept whole) ≡ starts q later
frame_on whole rest later line address p q start h =
    let is = started line (item.Frame address) p.bytes p.draft q h in
    let before : is_some p.draft ≡ true = sym (or-false (is_some p.draft)) ∙ is.1 in
    start ∙ rw (before, is.0) refl

-- so a refusal of memory is one of a text that begins with a segment
pub needs_segment : {A : Type 0} (bytes : List ℕ) (p : Progress) (rest : List (List ℕ)) (answer : Result A TextFault)
    → begins (kept (lines_of_text bytes)) ≡ starts p rest → IfErr answer (λ fault. HasCause p fault)
    → IfErr answer (λ fault. NeedsSegment bytes fault)
needs_segment bytes p rest (Ok a) start h = tt
needs_segment bytes p rest (Err (text.Line line fault)) start h = tt
needs_segment bytes p rest (Err text.NoMemory) start h = start ∙ ap (λ b. b || begins (kept rest)) h
