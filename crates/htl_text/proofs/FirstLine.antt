-- A text's lines are its first one, up to the first line feed, and those that follow it; an empty rest changes nothing.
use Rattle.std.proofs.Common.{◌≡◌, ◌+◌, ◌⊎◌, inl, inr, ℕ, Bool, true, false, List, [], ◌∷◌, length, take, drop, refl, sym, ◌∙◌, ap}
use Rattle.std.specs.Prelude.{Result, Ok, Err, if◌then◌else◌, nat_lt, position, unwrap_or}
use Rattle.std.specs.List.{slice_split}
use Rattle.std.proofs.lemmas.List.{nil_from_length}
use Rattle.std.specs.Str.Lines.{strip_carriage_return}
use Rattle.std.proofs.lemmas.List.Recursion.{is_position_or_len}
use Rattle.htl_text.specs.declared.fault.FormFault.{FormFault}
use Rattle.htl_text.specs.declared.fault.LineFault.{LineFault}
use Rattle.htl_text.specs.declared.item.Item.{Item}
use Rattle.htl_text.specs.Encoded.{event_lines, event_lines_from, kept}
use Rattle.htl_text.specs.Lines.{form_of, item_in, lines_of_text, words_of, is_skipped}
use Rattle.htl_text.specs.Steps.{Progress, closed, read, go_on, after_words, StartsWithLine}
use Rattle.htl_text.specs.Words.{is_feed, line_end}
use Rattle.htl_text.proofs.FirstWord.{one_more, position_or_length}

-- the place of the first line feed, or else the length of the text, is where its first line ends
pub line_end_found : (text : List ℕ) → unwrap_or (position is_feed text) (length text) ≡ line_end text
line_end_found text =
    position_or_length is_feed text ∙ sym (is_position_or_len line_end is_feed refl (λ x xs. rw (one_more (line_end xs)) refl) text)

-- the first part between line feeds, where nothing or a line feed and a rest follows
abbrev pub IsCut : List ℕ → Type 0
IsCut text = ((drop (line_end text) text ≡ []) × (slice_split is_feed text ≡ take (line_end text) text ∷ []))
    ⊎ ((y : ℕ) × (ys : List ℕ) × (drop (line_end text) text ≡ y ∷ ys)
    × (slice_split is_feed text ≡ take (line_end text) text ∷ slice_split is_feed ys))

is_cut : (text : List ℕ) → IsCut text
is_cut [] = inl (refl, refl)
is_cut (x ∷ xs) = by_case x xs (is_cut xs) (is_feed x) refl
  where
    by_case : (x : ℕ) (xs : List ℕ) → IsCut xs → (b : Bool) → is_feed x ≡ b → IsCut (x ∷ xs)
    by_case x xs more true e = inr (x, xs, rw e refl, rw e refl)
    by_case x xs (inl (rest, parts)) false e = inl (rw e rest, rw (e, parts) refl)
    by_case x xs (inr (y, ys, rest, parts)) false e = inr (y, ys, rw e rest, rw (e, parts) refl)

-- an empty line after all others changes nothing
read_empty : (n : ℕ) (p : Progress) → read n [] p ≡ read n (lines_of_text []) p
unfolding read lines_of_text words_of is_skipped after_words
read_empty n p = refl

go_on_so : (r : Result Progress (ℕ × LineFault)) (f g : Progress → Result (List ℕ) (ℕ × LineFault)) → ((p : Progress) → f p ≡ g p)
    → go_on r f ≡ go_on r g
go_on_so (Ok p) f g same = same p
go_on_so (Err e) f g same = refl

then_rest : (text : List ℕ) (y : ℕ) (ys : List ℕ) → IsCut text → drop (line_end text) text ≡ y ∷ ys
    → StartsWithLine text (strip_carriage_return (take (line_end text) text)) ys
unfolding read lines_of_text
then_rest text y ys (inl (none, parts)) is n p = cc
then_rest text y ys (inr (z, zs, rest, parts)) is n p = let e : zs ≡ ys = cc in rw (parts, e) refl

no_rest : (text : List ℕ) → IsCut text → drop (line_end text) text ≡ []
    → StartsWithLine text (strip_carriage_return (take (line_end text) text)) []
unfolding read lines_of_text
no_rest text (inr (z, zs, rest, parts)) is n p = cc
no_rest text (inl (none, parts)) is n p = rw parts (go_on_so _ (read (n + 1) []) (read (n + 1) (lines_of_text [])) (read_empty (n + 1)))

-- the first line, where a rest follows its line feed
pub line_then_rest : (text front back : List ℕ) (len y : ℕ) (ys line : List ℕ) → len ≡ line_end text → front ≡ take len text
    → back ≡ drop len text → back ≡ y ∷ ys → line ≡ strip_carriage_return front → StartsWithLine text line ys
line_then_rest text front back len y ys line e f b is l =
    rw (l, f, e) (then_rest text y ys (is_cut text) (ap (λ k. drop k text) (sym e) ∙ (sym b ∙ is)))

-- and where none follows
pub last_line : (text front back : List ℕ) (len : ℕ) (line : List ℕ) → len ≡ line_end text → front ≡ take len text
    → back ≡ drop len text → length back ≡ 0 → line ≡ strip_carriage_return front → StartsWithLine text line back
last_line text front back len line e f b none l =
    let empty = nil_from_length back none in
    rw (l, f, e, empty) (no_rest text (is_cut text) (ap (λ k. drop k text) (sym e) ∙ (sym b ∙ empty)))

-- the lines that aren't skipped, where a rest follows the first line feed, and where none follows

kept_then_rest : (text : List ℕ) (y : ℕ) (ys : List ℕ) → IsCut text → drop (line_end text) text ≡ y ∷ ys
    → kept (lines_of_text text) ≡ kept (strip_carriage_return (take (line_end text) text) ∷ lines_of_text ys)
unfolding lines_of_text
kept_then_rest text y ys (inl (none, parts)) is = cc
kept_then_rest text y ys (inr (z, zs, rest, parts)) is = let e : zs ≡ ys = cc in rw (parts, e) refl

kept_no_rest : (text : List ℕ) → IsCut text → drop (line_end text) text ≡ []
    → kept (lines_of_text text) ≡ kept (strip_carriage_return (take (line_end text) text) ∷ lines_of_text [])
unfolding lines_of_text kept words_of is_skipped
kept_no_rest text (inr (z, zs, rest, parts)) is = cc
kept_no_rest text (inl (none, parts)) is = rw parts refl

-- where a text has a line feed, its lines that aren't skipped are those of the first line and of the bytes behind the feed
pub kept_line_then_rest : (text front back : List ℕ) (len y : ℕ) (ys line : List ℕ) → len ≡ line_end text → front ≡ take len text
    → back ≡ drop len text → back ≡ y ∷ ys → line ≡ strip_carriage_return front → kept (lines_of_text text) ≡ kept (line ∷ lines_of_text ys)
kept_line_then_rest text front back len y ys line e f b is l =
    rw (l, f, e) (kept_then_rest text y ys (is_cut text) (ap (λ k. drop k text) (sym e) ∙ (sym b ∙ is)))

-- where a text has no line feed, its lines that aren't skipped are those of its only line
pub kept_last_line : (text front back : List ℕ) (len : ℕ) (line : List ℕ) → len ≡ line_end text → front ≡ take len text
    → back ≡ drop len text → length back ≡ 0 → line ≡ strip_carriage_return front → kept (lines_of_text text) ≡ kept (line ∷ lines_of_text back)
kept_last_line text front back len line e f b none l =
    let empty = nil_from_length back none in
    rw (l, f, e, empty) (kept_no_rest text (is_cut text) (ap (λ k. drop k text) (sym e) ∙ (sym b ∙ empty)))

-- the lines of events, where a rest follows the first line feed, and where none follows

-- an empty line has no event
pub no_event_left : (segment n : ℕ) → event_lines segment n (lines_of_text []) ≡ []
unfolding event_lines lines_of_text words_of item_in form_of
no_event_left segment n = by_case (nat_lt segment (n + 1))
  where
    by_case : (b : Bool) → (if b then event_lines segment (n + 1) [] else event_lines segment (n + 1) []) ≡ []
    by_case true = refl
    by_case false = refl

events_then_rest : (text : List ℕ) (y : ℕ) (ys : List ℕ) → IsCut text → drop (line_end text) text ≡ y ∷ ys → (segment n : ℕ)
    → event_lines segment n (lines_of_text text) ≡ event_lines segment n (strip_carriage_return (take (line_end text) text) ∷ lines_of_text ys)
unfolding lines_of_text
events_then_rest text y ys (inl (none, parts)) is segment n = cc
events_then_rest text y ys (inr (z, zs, rest, parts)) is segment n = let e : zs ≡ ys = cc in rw (parts, e) refl

events_by : (line : ℕ) (b : Bool) (i : Result Item FormFault) (xs ys zs ws : List ℕ) → xs ≡ zs → ys ≡ ws
    → (if b then event_lines_from line i xs else ys) ≡ (if b then event_lines_from line i zs else ws)
events_by line b i xs ys zs ws e f = rw (e, f) refl

no_line : (segment n : ℕ) → event_lines segment n [] ≡ []
unfolding event_lines
no_line segment n = refl

events_one : (segment n : ℕ) (l : List ℕ) → event_lines segment n (l ∷ []) ≡ event_lines segment n (l ∷ lines_of_text [])
unfolding event_lines
events_one segment n l =
    let same : event_lines segment (n + 1) [] ≡ event_lines segment (n + 1) (lines_of_text []) =
    no_line segment (n + 1) ∙ sym (no_event_left segment (n + 1)) in
    events_by (n + 1) (nat_lt segment (n + 1)) (item_in (words_of l)) _ _ _ _ same same

alone : (text : List ℕ) → slice_split is_feed text ≡ take (line_end text) text ∷ []
    → lines_of_text text ≡ strip_carriage_return (take (line_end text) text) ∷ []
unfolding lines_of_text
alone text parts = rw parts refl

events_no_rest : (text : List ℕ) → IsCut text → drop (line_end text) text ≡ [] → (segment n : ℕ)
    → event_lines segment n (lines_of_text text) ≡ event_lines segment n (strip_carriage_return (take (line_end text) text) ∷ lines_of_text [])
events_no_rest text (inr (z, zs, rest, parts)) is segment n = cc
events_no_rest text (inl (none, parts)) is segment n =
    ap (event_lines segment n) (alone text parts) ∙ events_one segment n (strip_carriage_return (take (line_end text) text))

-- where a text has a line feed, its lines of events are those of the first line and of the bytes behind the feed
pub events_line_then_rest : (text front back : List ℕ) (len y : ℕ) (ys line : List ℕ) → len ≡ line_end text → front ≡ take len text
    → back ≡ drop len text → back ≡ y ∷ ys → line ≡ strip_carriage_return front → (segment n : ℕ)
    → event_lines segment n (lines_of_text text) ≡ event_lines segment n (line ∷ lines_of_text ys)
events_line_then_rest text front back len y ys line e f b is l =
    rw (l, f, e) (events_then_rest text y ys (is_cut text) (ap (λ k. drop k text) (sym e) ∙ (sym b ∙ is)))

-- where a text has no line feed, its lines of events are those of its only line
pub events_last_line : (text front back : List ℕ) (len : ℕ) (line : List ℕ) → len ≡ line_end text → front ≡ take len text
    → back ≡ drop len text → length back ≡ 0 → line ≡ strip_carriage_return front → (segment n : ℕ)
    → event_lines segment n (lines_of_text text) ≡ event_lines segment n (line ∷ lines_of_text back)
events_last_line text front back len line e f b none l =
    let empty = nil_from_length back none in
    rw (l, f, e, empty) (events_no_rest text (is_cut text) (ap (λ k. drop k text) (sym e) ∙ (sym b ∙ empty)))

-- a text with no byte left is read
pub read_ended : (n : ℕ) (text : List ℕ) (p : Progress) → length text ≡ 0 → read n (lines_of_text text) p ≡ closed p
unfolding read
read_ended n [] p none = sym (read_empty n p)
read_ended n (x ∷ xs) p none = cc
