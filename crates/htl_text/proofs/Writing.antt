-- Lines that stand one after the other have the items of each, in order.
use Rattle.std.proofs.Common.{◌≡◌, ℕ, true, false, List, [], ◌∷◌, ◌++◌, refl, ap, sym, ◌∙◌}
use Rattle.std.specs.Prelude.{Ok, filter, map, not}
use Rattle.std.specs.List.{flat_map}
use Rattle.std.proofs.lemmas.Grind.{flat_map-append}
use Rattle.std.proofs.lemmas.List.{map-append, append_assoc, append-nil}
use Rattle.std.proofs.lemmas.List.Elements.{filter-append}
use Rattle.htl_event.specs.Events.{Event, with_stack}
use Rattle.htl_segment.specs.Content.{Content}
use Rattle.htl_text.specs.declared.item.Head.{Head}
use Rattle.htl_text.specs.declared.item.Item.{Item}
use Rattle.htl_text.specs.declared.item.Item.TheVariants as item
use Rattle.htl_text.specs.Items.{LoneEvent, without_stack, event_items, draft_items, draft_of, segments_items}
use Rattle.htl_text.specs.Lines.{words_of, is_skipped, item_in}
use Rattle.htl_text.specs.Encoded.{draft, kept, Write}
use Rattle.htl_text.proofs.Holding.{framed}

kept-append : (a b : List (List ℕ)) → kept (a ++ b) ≡ kept a ++ kept b
unfolding kept
kept-append a b =
    ap (filter (λ ws. not (is_skipped ws))) (map-append words_of a b)
    ∙ filter-append (λ ws. not (is_skipped ws)) (map words_of a) (map words_of b)

-- two lists of lines, one after the other, have the items of both
pub write_append : (a b : List (List ℕ)) (is js : List Item) → Write a is → Write b js → Write (a ++ b) (is ++ js)
write_append a b is js ha hb =
    ap (map item_in) (kept-append a b) ∙ (map-append item_in (kept a) (kept b) ∙ (rw (ha, hb) (sym (map-append Ok is js))))

-- a skipped line isn't among those that are kept
pub kept_passed : (l : List ℕ) (ls : List (List ℕ)) → is_skipped (words_of l) ≡ true → kept (l ∷ ls) ≡ kept ls
unfolding kept
kept_passed l ls e = rw e refl

-- a line that isn't skipped is kept, by its words
pub kept_one : (l : List ℕ) (ls : List (List ℕ)) → is_skipped (words_of l) ≡ false → kept (l ∷ ls) ≡ words_of l ∷ kept ls
unfolding kept
kept_one l ls e = rw e refl

-- of no lines none is kept
pub kept_nil : kept [] ≡ []
unfolding kept
kept_nil = refl

-- a skipped line alone has no items
pub write_none : (l : List ℕ) → is_skipped (words_of l) ≡ true → Write (l ∷ []) []
write_none l e = rw (kept_passed l [] e, kept_nil) refl

-- a line that isn't skipped has its item
pub write_one : (l : List ℕ) (i : Item) → is_skipped (words_of l) ≡ false → item_in (words_of l) ≡ Ok i → Write (l ∷ []) (i ∷ [])
write_one l i e is = rw (kept_one l [] e, kept_nil) (ap (λ o. o ∷ []) is)

-- a line that says nothing more
pub write_passed : (a : List (List ℕ)) (l : List ℕ) (is : List Item) → Write a is → is_skipped (words_of l) ≡ true → Write (a ++ l ∷ []) is
write_passed a l is h e = rw (← append-nil is) (write_append a (l ∷ []) is [] h (write_none l e))

-- a line more with its item
pub write_more : (a : List (List ℕ)) (l : List ℕ) (is : List Item) (i : Item) → Write a is → is_skipped (words_of l) ≡ false
    → item_in (words_of l) ≡ Ok i → Write (a ++ l ∷ []) (is ++ i ∷ [])
write_more a l is i h e found = write_append a (l ∷ []) is (i ∷ []) h (write_one l i e found)

-- the items of a draft with an event more, and of one with a frame more
pub draft_event : (head : Head) (es : List Event) (e : LoneEvent)
    → draft_items (draft head (es ++ with_stack [] e ∷ [])) ≡ draft_items (draft head es) ++ item.Event e ∷ []
draft_event head es e = ap (λ items. item.Segment head ∷ items) (flat_map-append event_items es (with_stack [] e ∷ []))

-- a draft whose last event gets a frame has one item more, the frame
pub draft_frame : (head : Head) (es : List Event) (e : Event) (address : ℕ)
    → draft_items (draft head (es ++ framed address e ∷ [])) ≡ draft_items (draft head (es ++ e ∷ [])) ++ item.Frame address ∷ []
draft_frame head es e address =
    let all : (f : Event) → flat_map event_items (es ++ f ∷ []) ≡ flat_map event_items es ++ event_items f =
    λ f. flat_map-append event_items es (f ∷ []) ∙ ap (λ x. flat_map event_items es ++ x) (append-nil (event_items f)) in
    let more : event_items (framed address e) ≡ event_items e ++ item.Frame address ∷ [] =
    ap (λ x. item.Event (without_stack e) ∷ x) (map-append item.Frame e.stack (address ∷ [])) in
    ap (λ items. item.Segment head ∷ items) (all (framed address e) ∙ (ap (λ x. flat_map event_items es ++ x) more
    ∙ (sym (append_assoc (flat_map event_items es) (event_items e) (item.Frame address ∷ []))
    ∙ ap (λ x. x ++ item.Frame address ∷ []) (sym (all e)))))

-- segments with one more have its items more
pub segments_more : (ss : List Content) (s : Content) → segments_items (ss ++ s ∷ []) ≡ segments_items ss ++ draft_items (draft_of s)
segments_more ss s =
    flat_map-append (λ t. draft_items (draft_of t)) ss (s ∷ []) ∙ ap (λ x. segments_items ss ++ x) (append-nil (draft_items (draft_of s)))
