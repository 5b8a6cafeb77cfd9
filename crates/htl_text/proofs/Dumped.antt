-- The text of segments that the format can encode has the items of these segments: each line is read as its item.
use Rattle.std.proofs.Common.{◌≡◌, ◌≤◌, ◌<◌, ◌-◌, ◌^◌, ℕ, zero, suc, Bool, true, false, List, [], ◌∷◌, ◌++◌, length, get_or, refl, arith, ap, sym, ◌∙◌}
use Rattle.std.specs.Prelude.{◌==◌, ◌&&◌, All, Ok, Some, codes, not, map}
use Rattle.std.specs.List.{AllByRecursion, flat_map, list_all}
use Rattle.std.specs.Fmt.{decimal}
use Rattle.std.specs.Int.{from_be_bytes, to_be_bytes, w32}
use Rattle.std.proofs.lemmas.Bool.{eqb-true, eq-eqb, and_parts}
use Rattle.std.proofs.lemmas.List.{append_assoc, append-nil}
use Rattle.std.proofs.lemmas.List.Elements.{All-head, All-tail}
use Rattle.std.proofs.lemmas.Nat.{be_bytes_4}
use Rattle.htl_event.specs.Events.{Event}
use Rattle.htl_event.specs.Slots.{base_of}
use Rattle.htl_event.specs.declared.kind.Kind.{Kind}
use Rattle.htl_event.specs.declared.kind.Kind.TheVariants.{Opened, Closed, BadRef, Snapshot, Ref, Deref, Exited}
use Rattle.htl_numbers.specs.Written.{hex, padded}
use Rattle.htl_segment.specs.Content.{Content, EventFits, EventsFit, Fits, fields_fit, is_no_tag}
use Rattle.htl_segment.specs.declared.version.Version.{Version}
use Rattle.htl_segment.specs.declared.version.Version.TheVariants.{V1, V2}
use Rattle.htl_text.specs.declared.item.Head.{Head}
use Rattle.htl_text.specs.declared.item.Item.{Item}
use Rattle.htl_text.specs.declared.item.Item.TheVariants as item
use Rattle.htl_text.specs.Items.{LoneEvent, without_stack, event_items, draft_items, draft_of, head_of, segments_items}
use Rattle.htl_text.specs.Fields.{address_value, bare_value, handle_value, marked_value, no_tag, no_values, tag_value}
use Rattle.htl_text.specs.Lines.{event_form, form_of, item_by, item_in, is_skipped, lines_of_text, said_by, segment_form, values_in, without_mark, words_of}
use Rattle.htl_text.specs.declared.field.Field.TheVariants.{Version as version_field, Trace, Processors, Processor, Number}
use Rattle.htl_text.specs.declared.field.Field.TheVariants.{Handle, Object, Tag, Sequence, Process, Thread}
use Rattle.htl_text.specs.Encoded.{Encodes, Write}
use Rattle.htl_text.specs.Texts.{event_line, event_text, frame_line, handle_part, head_line, is_visible, line_feed, object_part, origin, place_part}
use Rattle.htl_event.specs.Words.{word_of}
use Rattle.htl_text.specs.Texts.{segment_text, subject, tag_text, version_part}
use Rattle.htl_text.proofs.DumpedLines.{AllShown, IsShown, continued, is_plain, plain_spaced, words_after_blank, words_spaced}
use Rattle.htl_text.proofs.Numerals.{hex_short, length_padded, marked_read, padded_writes}
use Rattle.htl_text.proofs.Writing.{write_none}
use Rattle.htl_text.proofs.DumpedFields.{Says, says_append, says_line, says_words, field_read, decimal_field, shown_decimal, shown_padded, shown_hex}
use Rattle.htl_text.proofs.DumpedFields.{address_read, frame_read, handle_read}
use Rattle.std.proofs.lemmas.Slice.Eq.{bytes_eq-Decides}

-- frames

frame_item : (a : ℕ) → a < 2 ^ 64 → item_in ((codes "0x" ++ padded 16 a) ∷ []) ≡ Ok (item.Frame a)
unfolding item_in form_of values_in bare_value
frame_item a low = rw (frame_read a low) refl

frame_is : (a : ℕ) → frame_line a ≡ 32 ∷ 32 ∷ ((codes "0x" ++ padded 16 a) ++ line_feed)
unfolding frame_line
frame_is a = refl

frame_words : (a : ℕ) → a < 2 ^ 64 → words_of (32 ∷ 32 ∷ (codes "0x" ++ padded 16 a)) ≡ (codes "0x" ++ padded 16 a) ∷ []
frame_words a low =
    let w : List ℕ = codes "0x" ++ padded 16 a in
    words_after_blank (32 ∷ w) ∙ (words_after_blank w ∙ (ap words_of (sym (append-nil w)) ∙ words_spaced w [] (refl, shown_padded 16 a low) tt))

frame_plain : (a : ℕ) → a < 2 ^ 64 → list_all is_plain (32 ∷ 32 ∷ (codes "0x" ++ padded 16 a)) ≡ true
frame_plain a low = rw (← append-nil (padded 16 a)) (plain_spaced (codes "0x" ++ padded 16 a) [] (refl, shown_padded 16 a low) tt)

not_passed : (a : ℕ) → is_skipped ((codes "0x" ++ padded 16 a) ∷ []) ≡ false
unfolding is_skipped
not_passed a = refl

says_frame : (a : ℕ) → a < 2 ^ 64 → Says (frame_line a) (item.Frame a ∷ [])
says_frame a low =
    rw (frame_is a) (says_line (32 ∷ 32 ∷ (codes "0x" ++ padded 16 a)) (item.Frame a) (frame_plain a low)
    (rw (frame_words a low) (not_passed a)) (rw (frame_words a low) (frame_item a low)))

says_frames : (stack : List ℕ) → AllByRecursion (λ a. a < 2 ^ 64) stack → Says (flat_map frame_line stack) (map item.Frame stack)
says_frames [] low = λ rest more h. h
says_frames (a ∷ stack) low =
    says_append (frame_line a) (flat_map frame_line stack) (item.Frame a ∷ []) (map item.Frame stack) (says_frame a low.0) (says_frames stack low.1)

-- tags

each_low : (bs : List ℕ) → AllByRecursion (λ b. b < 256) bs → (i : ℕ) → get_or bs i 0 < 256
each_low [] low i = omega arith
each_low (b ∷ bs) low zero = low.0
each_low (b ∷ bs) low (suc i) = each_low bs low.1 i

in_order_low : (tag : List ℕ) → length tag ≡ 4 → AllByRecursion (λ b. b < 256) tag → from_be_bytes w32 tag < 2 ^ 32
in_order_low tag four low =
    let bound = each_low tag low in omega (arith, bound 0, bound 1, bound 2, bound 3)

text_visible : (tag : List ℕ) → list_all is_visible tag ≡ true → tag_text tag ≡ tag
unfolding tag_text
text_visible tag e = rw e refl

text_in_digits : (tag : List ℕ) → list_all is_visible tag ≡ false → tag_text tag ≡ codes "0x" ++ padded 8 (from_be_bytes w32 tag)
unfolding tag_text
text_in_digits tag e = rw e refl

visible_read : (tag : List ℕ) → length tag ≡ 4 → list_all is_visible tag ≡ true → tag_value tag ≡ Some tag
unfolding tag_value
visible_read tag four e = rw (eq-eqb (length tag) 4 four, e) refl

digits_read : (n : ℕ) → n < 2 ^ 32 → tag_value (codes "0x" ++ padded 8 n) ≡ Some (to_be_bytes w32 n)
unfolding tag_value
digits_read n low =
    let eight : length (padded 8 n) ≡ 8 = length_padded 8 n (hex_short 7 n (omega arith)) in
    let ten : length (codes "0x" ++ padded 8 n) ≡ 10 = ap (λ k. suc (suc k)) eight in
    let value : marked_value (2 ^ 32 - 1) (codes "0x" ++ padded 8 n) ≡ Some n =
    marked_read (2 ^ 32 - 1) n (padded 8 n) (padded_writes 8 n (omega arith)) (omega (arith, eight)) (omega arith) in
    rw ten (rw value refl)

tag_read : (tag : List ℕ) → length tag ≡ 4 → AllByRecursion (λ b. b < 256) tag → tag_value (tag_text tag) ≡ Some tag
tag_read tag four low = by_case (list_all is_visible tag) refl
  where
    by_case : (b : Bool) → list_all is_visible tag ≡ b → tag_value (tag_text tag) ≡ Some tag
    by_case true e = rw (text_visible tag e) (visible_read tag four e)
    by_case false e =
        rw (text_in_digits tag e) (digits_read (from_be_bytes w32 tag) (in_order_low tag four low)
        ∙ ap Some (be_bytes_4 tag (from_be_bytes w32 tag) four (each_low tag low) refl))

shown_tag : (tag : List ℕ) → length tag ≡ 4 → AllByRecursion (λ b. b < 256) tag → list_all is_visible (tag_text tag) ≡ true
shown_tag tag four low = by_case (list_all is_visible tag) refl
  where
    by_case : (b : Bool) → list_all is_visible tag ≡ b → list_all is_visible (tag_text tag) ≡ true
    by_case true e = ap (list_all is_visible) (text_visible tag e) ∙ e
    by_case false e =
        ap (list_all is_visible) (text_in_digits tag e) ∙ shown_padded 8 (from_be_bytes w32 tag) (omega (arith, in_order_low tag four low))

-- events

-- the words of an event about a handle or an object, and of every event
abbrev origin_words : ℕ → ℕ → ℕ → List (List ℕ)
origin_words sequence process thread =
    (codes "seq=" ++ decimal sequence) ∷ (codes "process=" ++ decimal process) ∷ (codes "thread=" ++ decimal thread) ∷ []

abbrev handle_words : ℕ → List (List ℕ) → List (List ℕ)
handle_words handle ws = (codes "handle=" ++ (codes "0x" ++ hex handle)) ∷ ws

abbrev object_words : ℕ → List ℕ → List (List ℕ) → List (List ℕ)
object_words object tag ws = (codes "object=" ++ (codes "0x" ++ padded 16 object)) ∷ (codes "tag=" ++ tag_text tag) ∷ ws

abbrev lone : Kind → ℕ → ℕ → List ℕ → ℕ → ℕ → ℕ → LoneEvent
lone kind handle object tag sequence process thread = record {
  sequence = sequence;
  kind = kind;
  process = process;
  thread = thread;
  handle = handle;
  object = object;
  tag = tag;
  stack = tt;
}

module _ (sequence process thread : ℕ) (low_s : sequence < 2 ^ 64) (low_p : process < 2 ^ 32) (low_t : thread < 2 ^ 32) where
  shown_origin : AllShown (origin_words sequence process thread)
  shown_origin = ((refl, shown_decimal sequence low_s), ((refl, shown_decimal process (omega arith)), ((refl, shown_decimal thread (omega arith)), tt)))

  origin_read : (kind : Kind) (handle object : ℕ) (tag : List ℕ)
      → said_by (event_form kind).says (values_in (Sequence ∷ Process ∷ Thread ∷ []) (origin_words sequence process thread)
      (record no_values { handle = handle; object = object; tag = tag }))
      ≡ Ok (item.Event (lone kind handle object tag sequence process thread))
  unfolding values_in
  origin_read kind handle object tag =
      rw (decimal_field Sequence (2 ^ 64 - 1) sequence _ (omega arith) (omega arith))
      (rw (decimal_field Process (2 ^ 32 - 1) process _ (omega arith) (omega arith))
      (rw (decimal_field Thread (2 ^ 32 - 1) thread [] (omega arith) (omega arith))
      refl))

  handle_event_read : (kind : Kind) (handle : ℕ) → handle < 2 ^ 32
      → said_by (event_form kind).says (values_in (Handle ∷ Sequence ∷ Process ∷ Thread ∷ []) (handle_words handle (origin_words sequence process thread))
      no_values) ≡ Ok (item.Event (lone kind handle 0 no_tag sequence process thread))
  unfolding values_in
  handle_event_read kind handle low =
      rw (field_read Handle handle_value (codes "0x" ++ hex handle) (origin_words sequence process thread) handle (handle_read handle low))
      (origin_read kind handle 0 no_tag)

  object_event_read : (kind : Kind) (object : ℕ) (tag : List ℕ) → object < 2 ^ 64 → length tag ≡ 4 → AllByRecursion (λ b. b < 256) tag
      → said_by (event_form kind).says (values_in (Object ∷ Tag ∷ Sequence ∷ Process ∷ Thread ∷ [])
      (object_words object tag (origin_words sequence process thread)) no_values)
      ≡ Ok (item.Event (lone kind 0 object tag sequence process thread))
  unfolding values_in
  object_event_read kind object tag low four bytes =
      rw (field_read Object address_value (codes "0x" ++ padded 16 object) _ object (address_read object low))
      (rw (field_read Tag tag_value (tag_text tag) (origin_words sequence process thread) tag (tag_read tag four bytes))
      (origin_read kind 0 object tag))

  -- the texts of these words
  origin_text : origin sequence process thread ≡ continued (origin_words sequence process thread) line_feed
  unfolding origin
  origin_text = refl

  handle_text : (handle : ℕ) → handle_part handle ++ origin sequence process thread
      ≡ continued (handle_words handle (origin_words sequence process thread)) line_feed
  unfolding handle_part origin
  handle_text handle = refl

  object_text : (object : ℕ) (tag : List ℕ) → object_part object tag ++ origin sequence process thread
      ≡ continued (object_words object tag (origin_words sequence process thread)) line_feed
  unfolding object_part
  object_text object tag =
      ap (λ x. codes " object=0x" ++ x) (append_assoc (padded 16 object) (codes " tag=" ++ tag_text tag) (origin sequence process thread)
      ∙ ap (λ x. padded 16 object ++ (codes " tag=" ++ (tag_text tag ++ x))) origin_text)

-- a line is its words, and these have the item
record IsLineOf (line : List ℕ) (i : Item) : Type 0 where
  first : List ℕ
  others : List (List ℕ)
  text : line ≡ first ++ continued others line_feed
  first_shown : IsShown first
  others_shown : AllShown others
  here : is_skipped (first ∷ others) ≡ false
  says : item_in (first ∷ others) ≡ Ok i

says_line_of : (line : List ℕ) (i : Item) → IsLineOf line i → Says line (i ∷ [])
says_line_of line i h = rw h.text (says_words h.first h.others i h.first_shown h.others_shown h.here h.says)

-- the parts of what a kind asks of its fields
last_two : (a b c : Bool) → (a && b && c) ≡ true → (b ≡ true) × (c ≡ true)
last_two true b c h = and_parts b c h
last_two false b c h = cc

all_three : (a b c : Bool) → (a && b && c) ≡ true → (a ≡ true) × (b ≡ true) × (c ≡ true)
all_three true b c h = let parts = and_parts b c h in (refl, parts.0, parts.1)
all_three false b c h = cc

is_zero : (n : ℕ) → (n == 0) ≡ true → n ≡ 0
is_zero n h = eqb-true n 0 h

-- An event's fields, its numbers in range.
record InFields (handle object : ℕ) (tag : List ℕ) (sequence process thread : ℕ) : Type 0 where
  handle_low : handle < 2 ^ 32
  object_low : object < 2 ^ 64
  four : length tag ≡ 4
  bytes : AllByRecursion (λ b. b < 256) tag
  sequence_low : sequence < 2 ^ 64
  process_low : process < 2 ^ 32
  thread_low : thread < 2 ^ 32

abbrev EventLine : Kind → ℕ → ℕ → List ℕ → ℕ → ℕ → ℕ → Type 0
EventLine kind handle object tag sequence process thread =
    IsLineOf (word_of kind ++ (subject kind handle object tag ++ origin sequence process thread))
    (item.Event (lone kind handle object tag sequence process thread))

module _ (handle object : ℕ) (tag : List ℕ) (s p t : ℕ) (low : InFields handle object tag s p t) where
  shown_handle : IsShown (codes "handle=" ++ (codes "0x" ++ hex handle))
  shown_handle = (refl, shown_hex handle (omega (arith, low.handle_low)))

  shown_words : AllShown (origin_words s p t)
  shown_words = shown_origin s p t low.sequence_low low.process_low low.thread_low

  shown_object : AllShown (object_words object tag (origin_words s p t))
  shown_object = ((refl, shown_padded 16 object low.object_low), ((refl, shown_tag tag low.four low.bytes), shown_words))

  about_handle : (kind : Kind) → said_by (event_form kind).says (values_in (Handle ∷ Sequence ∷ Process ∷ Thread ∷ [])
      (handle_words handle (origin_words s p t)) no_values) ≡ Ok (item.Event (lone kind handle 0 no_tag s p t))
  about_handle kind = handle_event_read s p t low.sequence_low low.process_low low.thread_low kind handle low.handle_low

  about_object : (kind : Kind) → said_by (event_form kind).says (values_in (Object ∷ Tag ∷ Sequence ∷ Process ∷ Thread ∷ [])
      (object_words object tag (origin_words s p t)) no_values) ≡ Ok (item.Event (lone kind 0 object tag s p t))
  about_object kind = object_event_read s p t low.sequence_low low.process_low low.thread_low kind object tag low.object_low low.four low.bytes

  about_process : (kind : Kind) → said_by (event_form kind).says (values_in (Sequence ∷ Process ∷ Thread ∷ []) (origin_words s p t) no_values)
      ≡ Ok (item.Event (lone kind 0 0 no_tag s p t))
  about_process kind = origin_read s p t low.sequence_low low.process_low low.thread_low kind 0 0 no_tag

  opened_line : (object ≡ 0) × (tag ≡ no_tag) → EventLine Opened handle object tag s p t
  unfolding is_skipped item_in form_of
  opened_line none = record {
    first = codes "OPEN";
    others = handle_words handle (origin_words s p t);
    text = ap (λ x. codes "OPEN" ++ x) (handle_text s p t low.sequence_low low.process_low low.thread_low handle);
    first_shown = (refl, refl);
    others_shown = (shown_handle, shown_words);
    here = refl;
    says = rw (none.0, none.1) (about_handle Opened);
  }

  closed_line : (object ≡ 0) × (tag ≡ no_tag) → EventLine Closed handle object tag s p t
  unfolding is_skipped item_in form_of
  closed_line none = record {
    first = codes "CLOSE";
    others = handle_words handle (origin_words s p t);
    text = ap (λ x. codes "CLOSE" ++ x) (handle_text s p t low.sequence_low low.process_low low.thread_low handle);
    first_shown = (refl, refl);
    others_shown = (shown_handle, shown_words);
    here = refl;
    says = rw (none.0, none.1) (about_handle Closed);
  }

  bad_line : (object ≡ 0) × (tag ≡ no_tag) → EventLine BadRef handle object tag s p t
  unfolding is_skipped item_in form_of
  bad_line none = record {
    first = codes "BAD";
    others = codes "REF" ∷ handle_words handle (origin_words s p t);
    text = ap (λ x. codes "BAD REF" ++ x) (handle_text s p t low.sequence_low low.process_low low.thread_low handle);
    first_shown = (refl, refl);
    others_shown = ((refl, refl), (shown_handle, shown_words));
    here = refl;
    says = rw (none.0, none.1) (about_handle BadRef);
  }

  snapshot_line : (handle ≡ 0) × (object ≡ 0) × (tag ≡ no_tag) → EventLine Snapshot handle object tag s p t
  unfolding is_skipped item_in form_of
  snapshot_line none = record {
    first = codes "SNAPSHOT";
    others = origin_words s p t;
    text = ap (λ x. codes "SNAPSHOT" ++ x) (origin_text s p t low.sequence_low low.process_low low.thread_low);
    first_shown = (refl, refl);
    others_shown = shown_words;
    here = refl;
    says = rw (none.0, none.1, none.2) (about_process Snapshot);
  }

  exited_line : (handle ≡ 0) × (object ≡ 0) × (tag ≡ no_tag) → EventLine Exited handle object tag s p t
  unfolding is_skipped item_in form_of
  exited_line none = record {
    first = codes "EXIT";
    others = origin_words s p t;
    text = ap (λ x. codes "EXIT" ++ x) (origin_text s p t low.sequence_low low.process_low low.thread_low);
    first_shown = (refl, refl);
    others_shown = shown_words;
    here = refl;
    says = rw (none.0, none.1, none.2) (about_process Exited);
  }

  ref_line : handle ≡ 0 → EventLine Ref handle object tag s p t
  unfolding is_skipped item_in form_of
  ref_line none = record {
    first = codes "REF";
    others = object_words object tag (origin_words s p t);
    text = ap (λ x. codes "REF" ++ x) (object_text s p t low.sequence_low low.process_low low.thread_low object tag);
    first_shown = (refl, refl);
    others_shown = shown_object;
    here = refl;
    says = rw none (about_object Ref);
  }

  deref_line : handle ≡ 0 → EventLine Deref handle object tag s p t
  unfolding is_skipped item_in form_of
  deref_line none = record {
    first = codes "DEREF";
    others = object_words object tag (origin_words s p t);
    text = ap (λ x. codes "DEREF" ++ x) (object_text s p t low.sequence_low low.process_low low.thread_low object tag);
    first_shown = (refl, refl);
    others_shown = shown_object;
    here = refl;
    says = rw none (about_object Deref);
  }

  no_object : (object == 0) ≡ true → is_no_tag tag ≡ true → (object ≡ 0) × (tag ≡ no_tag)
  no_object o n = (is_zero object o, (bytes_eq-Decides tag no_tag).0 n)

  event_line_is : (kind : Kind) → fields_fit kind handle object tag ≡ true → EventLine kind handle object tag s p t
  event_line_is Opened fit =
      let parts = last_two (not (base_of handle == 0)) (object == 0) (is_no_tag tag) fit in opened_line (no_object parts.0 parts.1)
  event_line_is Closed fit =
      let parts = last_two (not (base_of handle == 0)) (object == 0) (is_no_tag tag) fit in closed_line (no_object parts.0 parts.1)
  event_line_is BadRef fit = let parts = and_parts (object == 0) (is_no_tag tag) fit in bad_line (no_object parts.0 parts.1)
  event_line_is Snapshot fit =
      let parts = all_three (handle == 0) (object == 0) (is_no_tag tag) fit in
      let none = no_object parts.1 parts.2 in
      snapshot_line (is_zero handle parts.0, none.0, none.1)
  event_line_is Exited fit =
      let parts = all_three (handle == 0) (object == 0) (is_no_tag tag) fit in
      let none = no_object parts.1 parts.2 in
      exited_line (is_zero handle parts.0, none.0, none.1)
  event_line_is Ref fit = ref_line (is_zero handle (and_parts (handle == 0) (not (object == 0)) fit).0)
  event_line_is Deref fit = deref_line (is_zero handle (and_parts (handle == 0) (not (object == 0)) fit).0)

says_event : (v : Version) (e : Event) → EventFits v e → Says (event_text e) (event_items e)
unfolding event_line
says_event v e h =
    let r = h.in_range in
    let low : InFields e.handle e.object e.tag e.sequence e.process e.thread = record {
      handle_low = r.handle;
      object_low = r.object;
      four = r.tag_len;
      bytes = r.tag;
      sequence_low = r.sequence;
      process_low = r.process;
      thread_low = r.thread;
    } in
    let line = event_line_is e.handle e.object e.tag e.sequence e.process e.thread low e.kind h.fields in
    says_append (event_line e) (flat_map frame_line e.stack) (item.Event (without_stack e) ∷ []) (map item.Frame e.stack)
    (says_line_of (event_line e) (item.Event (without_stack e)) line) (says_frames e.stack r.stack)

says_events : (v : Version) (last : ℕ) (es : List Event) → EventsFit v last es → Says (flat_map event_text es) (flat_map event_items es)
says_events v last [] h = λ rest more k. k
says_events v last (e ∷ es) h =
    says_append (event_text e) (flat_map event_text es) (event_items e) (flat_map event_items es) (says_event v e h.0)
    (says_events v e.sequence es h.2)

-- segments

head_text : (h : Head) → head_line h ≡ codes "segment" ++ continued ((codes "version=" ++ decimal h.version)
    ∷ (codes "trace=" ++ (codes "0x" ++ padded 16 h.trace_id)) ∷ (codes "processors=" ++ decimal h.processors)
    ∷ (codes "processor=" ++ decimal h.processor) ∷ (codes "number=" ++ decimal h.number) ∷ []) line_feed
unfolding head_line version_part place_part
head_text h =
    ap (λ x. codes "segment version=" ++ x)
    (append_assoc (decimal h.version) (codes " trace=0x") (padded 16 h.trace_id ++ place_part h.processors h.processor h.number))

record HeadLow (h : Head) : Type 0 where
  version : h.version ≤ 0xFFFF
  trace_id : h.trace_id < 2 ^ 64
  processors : h.processors ≤ 0xFFFF
  processor : h.processor ≤ 0xFFFF
  number : h.number ≤ 0xFFFFFFFF

head_read : (h : Head) → HeadLow h → item_by (Some (
  segment_form,
  (codes "version=" ++ decimal h.version)
      ∷ (codes "trace=" ++ (codes "0x" ++ padded 16 h.trace_id)) ∷ (codes "processors=" ++ decimal h.processors)
      ∷ (codes "processor=" ++ decimal h.processor) ∷ (codes "number=" ++ decimal h.number) ∷ [],
)) ≡ Ok (item.Segment h)
unfolding values_in
head_read h low =
    rw (decimal_field version_field 0xFFFF h.version _ low.version (omega arith))
    (rw (field_read Trace address_value (codes "0x" ++ padded 16 h.trace_id) _ h.trace_id (address_read h.trace_id low.trace_id))
    (rw (decimal_field Processors 0xFFFF h.processors _ low.processors (omega arith))
    (rw (decimal_field Processor 0xFFFF h.processor _ low.processor (omega arith))
    (rw (decimal_field Number 0xFFFFFFFF h.number [] low.number (omega arith))
    refl))))

head_line_is : (h : Head) → HeadLow h → IsLineOf (head_line h) (item.Segment h)
unfolding is_skipped item_in form_of
head_line_is h low = record {
  first = codes "segment";
  others = (codes "version=" ++ decimal h.version) ∷ (codes "trace=" ++ (codes "0x" ++ padded 16 h.trace_id))
      ∷ (codes "processors=" ++ decimal h.processors) ∷ (codes "processor=" ++ decimal h.processor) ∷ (codes "number=" ++ decimal h.number) ∷ [];
  text = head_text h;
  first_shown = (refl, refl);
  others_shown = (
    (refl, shown_decimal h.version (omega (arith, low.version))),
    (
      (refl, shown_padded 16 h.trace_id low.trace_id),
      (
        (refl, shown_decimal h.processors (omega (arith, low.processors))),
        (
          (refl, shown_decimal h.processor (omega (arith, low.processor))),
          ((refl, shown_decimal h.number (omega (arith, low.number))), tt),
        ),
      ),
    ),
  );
  here = refl;
  says = head_read h low;
}

head_low : (s : Content) → Fits s → HeadLow (head_of s)
head_low s h = by_version s.version refl
  where
    by_version : (v : Version) → s.version ≡ v → HeadLow (head_of s)
    by_version V1 e = record {
      version = rw e (omega arith);
      trace_id = h.trace_id;
      processors = let most = h.processors.1 in omega (arith, rw e at most);
      processor = let most = h.processors.1 in omega (arith, rw e at most, h.processor);
      number = omega (arith, h.number);
    }
    by_version V2 e = record {
      version = rw e (omega arith);
      trace_id = h.trace_id;
      processors = let most = h.processors.1 in omega (arith, rw e at most);
      processor = let most = h.processors.1 in omega (arith, rw e at most, h.processor);
      number = omega (arith, h.number);
    }

says_segment : (s : Content) → Fits s → Says (segment_text s) (draft_items (draft_of s))
says_segment s h =
    says_append (head_line (head_of s)) (flat_map event_text s.events) (item.Segment (head_of s) ∷ []) (flat_map event_items s.events)
    (says_line_of (head_line (head_of s)) (item.Segment (head_of s)) (head_line_is (head_of s) (head_low s h)))
    (says_events s.version 0 s.events h.events)

says_segments : (ss : List Content) → All Fits ss → Says (flat_map segment_text ss) (segments_items ss)
says_segments [] h = λ rest more k. k
says_segments (s ∷ ss) h =
    says_append (segment_text s) (flat_map segment_text ss) (draft_items (draft_of s)) (segments_items ss) (says_segment s (All-head Fits s ss h))
    (says_segments ss (All-tail Fits s ss h))

-- an empty text says nothing
empty_passed : is_skipped (words_of []) ≡ true
unfolding words_of is_skipped
empty_passed = refl

nothing_said : Write (lines_of_text []) []
unfolding lines_of_text
nothing_said = write_none [] empty_passed

-- no text of segments begins with a byte order mark
no_mark : (ss : List Content) → without_mark (flat_map segment_text ss) ≡ flat_map segment_text ss
unfolding without_mark head_line version_part
no_mark [] = refl
no_mark (s ∷ ss) = refl

-- the text of segments that fit encodes these segments
pub dumped_encodes : (ss : List Content) → All Fits ss → Encodes (flat_map segment_text ss) ss
dumped_encodes ss h = record {
  written =
      rw (no_mark ss, ← append-nil (flat_map segment_text ss), ← append-nil (segments_items ss)) (says_segments ss h [] [] nothing_said);
  fits = h;
}
