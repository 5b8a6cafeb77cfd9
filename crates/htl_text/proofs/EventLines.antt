-- The lines of a segment's events are found one by one, as each line leaves the same events or those behind its own.
use Rattle.std.proofs.Common.{◌≡◌, ◌<◌, ◌≤◌, ◌+◌, ℕ, suc, List, [], ◌∷◌, length, refl, ap, arith, ◌∙◌}
use Rattle.std.specs.Prelude.{Option, Some, None, Ok, Err, slice_get}
use Rattle.std.proofs.lemmas.Bool.{lt-ltb, le-ltb}
use Rattle.htl_text.specs.declared.fault.FormFault.{FormFault}
use Rattle.htl_text.specs.declared.item.Head.{Head}
use Rattle.htl_text.specs.declared.item.Item.TheVariants as item
use Rattle.htl_text.specs.Items.{LoneEvent}
use Rattle.htl_text.specs.Encoded.{event_lines}
use Rattle.htl_text.specs.Lines.{item_in, lines_of_text, words_of}
use Rattle.htl_text.proofs.FirstLine.{no_event_left}

-- the line of the event at a place
abbrev pub place_in : ℕ → ℕ → ℕ → List (List ℕ) → Option ℕ
place_in segment n place ls = slice_get (event_lines segment n ls) place

-- one line more
pub next_line : (segment m n place left : ℕ) (whole rest : List (List ℕ)) (l : List ℕ) (ls : List (List ℕ))
    → place_in segment m place whole ≡ place_in segment n left rest → event_lines segment n rest ≡ event_lines segment n (l ∷ ls)
    → place_in segment m place whole ≡ place_in segment n left (l ∷ ls)
next_line segment m n place left whole rest l ls so_far cut = so_far ∙ ap (λ xs. slice_get xs left) cut

-- and none
pub ended : (segment n left : ℕ) (rest : List ℕ) → length rest ≡ 0 → place_in segment n left (lines_of_text rest) ≡ None
ended segment n left [] none = ap (λ xs. slice_get xs left) (no_event_left segment n)
ended segment n left (b ∷ bs) none = cc

-- a line up to the segment's own has none of its events
pub before_segment : (segment n place : ℕ) (l : List ℕ) (ls : List (List ℕ)) → n + 1 ≤ segment
    → place_in segment n place (l ∷ ls) ≡ place_in segment (n + 1) place ls
unfolding event_lines
before_segment segment n place l ls low = rw (le-ltb segment (n + 1) low) refl

-- at the header of another segment, no event of the segment is left
pub at_header : (segment n place : ℕ) (l : List ℕ) (ls : List (List ℕ)) (head : Head) → segment < n + 1
    → item_in (words_of l) ≡ Ok (item.Segment head) → place_in segment n place (l ∷ ls) ≡ None
unfolding event_lines
at_header segment n place l ls head high is = rw (lt-ltb segment (n + 1) high, is) refl

-- a frame's line leaves the same events
pub at_frame : (segment n place : ℕ) (l : List ℕ) (ls : List (List ℕ)) (address : ℕ) → segment < n + 1
    → item_in (words_of l) ≡ Ok (item.Frame address) → place_in segment n place (l ∷ ls) ≡ place_in segment (n + 1) place ls
unfolding event_lines
at_frame segment n place l ls address high is = rw (lt-ltb segment (n + 1) high, is) refl

-- a line without an item leaves the same events
pub at_none : (segment n place : ℕ) (l : List ℕ) (ls : List (List ℕ)) (fault : FormFault) → segment < n + 1
    → item_in (words_of l) ≡ Err fault → place_in segment n place (l ∷ ls) ≡ place_in segment (n + 1) place ls
unfolding event_lines
at_none segment n place l ls fault high is = rw (lt-ltb segment (n + 1) high, is) refl

-- an event's line, where no event is to be passed, is the one that is sought
pub at_event : (segment n place : ℕ) (l : List ℕ) (ls : List (List ℕ)) (e : LoneEvent) → segment < n + 1
    → item_in (words_of l) ≡ Ok (item.Event e) → place ≡ 0 → place_in segment n place (l ∷ ls) ≡ Some (n + 1)
unfolding event_lines
at_event segment n place l ls e high is first = rw (lt-ltb segment (n + 1) high, is, first) refl

-- an event's line, where some are to be passed, leaves one fewer to be passed
pub past_event : (segment n place left : ℕ) (l : List ℕ) (ls : List (List ℕ)) (e : LoneEvent) → segment < n + 1
    → item_in (words_of l) ≡ Ok (item.Event e) → place ≡ left + 1 → place_in segment n place (l ∷ ls) ≡ place_in segment (n + 1) left ls
unfolding event_lines
past_event segment n place left l ls e high is later =
    let next : place ≡ suc left = later ∙ omega arith in rw (lt-ltb segment (n + 1) high, is, next) refl
