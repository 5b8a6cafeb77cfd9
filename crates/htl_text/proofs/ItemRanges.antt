-- The numbers of an item that a line has fit their fields.
use Rattle.std.proofs.Common.{◌≡◌, ◌≤◌, ◌<◌, ◌^◌, ◌-◌, ℕ, Bool, true, false, List, [], ◌∷◌, length, refl, arith}
use Rattle.std.specs.Prelude.{Option, Some, None, Result, Ok, Err, IfOk, codes, if◌then◌else◌, nat_eq, nat_le, nat_lt, option_map, ◌&&◌, ◌==◌}
use Rattle.std.specs.List.{AllByRecursion, list_all, starts_with}
use Rattle.std.specs.Char.{is_digit}
use Rattle.std.specs.Int.{to_be_bytes, w32}
use Rattle.std.specs.Str.{bytes_eq}
use Rattle.std.specs.Str.Parse.{digits_value}
use Rattle.std.proofs.lemmas.Bool.{eqb-true, leb-true, and_parts}
use Rattle.htl_event.specs.declared.event.Event.{Event as EventWith}
use Rattle.htl_event.specs.declared.kind.Kind.{Kind}
use Rattle.htl_event.specs.declared.kind.Kind.TheVariants.{Opened, Closed, BadRef, Snapshot, Ref, Deref, Exited}
use Rattle.htl_numbers.specs.Numbers.{number_of, decimal_number, hexadecimal_number, without_0x}
use Rattle.htl_text.specs.Texts.{is_visible}
use Rattle.htl_text.specs.Fields.{Values, bare_value, first_text, first_value, frame_value, marked_value, no_tag, no_values}
use Rattle.htl_text.specs.Fields.{read_field, tag_value, value_of, with_value}
use Rattle.htl_text.specs.Lines.{Form, after, bad_form, ended, event_form, form_of, frame_form, item_by, item_in, said_by, segment_form, values_in}
use Rattle.htl_text.specs.declared.fault.FormFault.{FormFault}
use Rattle.htl_text.specs.declared.field.Field.{Field}
use Rattle.htl_text.specs.declared.field.Field.TheVariants.{Version, Trace, Processors, Processor, Number}
use Rattle.htl_text.specs.declared.field.Field.TheVariants.{Handle, Object, Tag, Sequence, Process, Thread, Frame}
use Rattle.htl_text.specs.declared.item.Item.{Item}
use Rattle.htl_text.specs.declared.item.Item.TheVariants as item

abbrev OnSome : {A : Type 0} → Option A → (A → Type 0) → Type 0
OnSome None P = Unit {0}
OnSome (Some a) P = P a

-- a tag's bytes
abbrev pub IsTag : List ℕ → Type 0
IsTag tag = (length tag ≡ 4) × AllByRecursion (λ b. b < 256) tag

-- of an event without its stack
pub record PartsInRange {S : Type 0} (e : EventWith S) : Type 0 where
  pub sequence : e.sequence < 2 ^ 64
  pub process : e.process < 2 ^ 32
  pub thread : e.thread < 2 ^ 32
  pub handle : e.handle < 2 ^ 32
  pub object : e.object < 2 ^ 64
  pub tag : IsTag e.tag

-- the numbers of the item fit their fields
abbrev pub ItemInRange : Item → Type 0
ItemInRange (item.Segment head) = head.trace_id < 2 ^ 64
ItemInRange (item.Event e) = PartsInRange e
ItemInRange (item.Frame address) = address < 2 ^ 64

if_on : {A : Type 0} (P : A → Type 0) (b : Bool) (x y : Option A) → OnSome x P → OnSome y P → OnSome (if b then x else y) P
if_on P true x y hx hy = hx
if_on P false x y hx hy = hy

-- the values that fit a field

guarded_on : (most v : ℕ) (a b c : Bool) → nat_le v most ≡ c → OnSome (if a && (b && c) then Some v else None) (λ n. n ≤ most)
guarded_on most v true true true e = leb-true v most e
guarded_on most v true true false e = tt
guarded_on most v true false c e = tt
guarded_on most v false b c e = tt

number_on : (radix most : ℕ) (text : List ℕ) → OnSome (number_of radix most text) (λ n. n ≤ most)
unfolding number_of
number_on radix most text =
    guarded_on most (digits_value radix text) (list_all (λ c. is_digit c radix) text) (nat_lt 0 (length text))
    (nat_le (digits_value radix text) most) refl

hexadecimal_on : (most : ℕ) (text : List ℕ) → OnSome (hexadecimal_number most text) (λ n. n ≤ most)
unfolding hexadecimal_number
hexadecimal_on most text =
    if_on (λ n. n ≤ most) (nat_le (length (without_0x text)) 16) (number_of 16 most (without_0x text)) None (number_on 16 most (without_0x text)) tt

marked_on : (most : ℕ) (text : List ℕ) → OnSome (marked_value most text) (λ n. n ≤ most)
unfolding marked_value
marked_on most text =
    if_on (λ n. n ≤ most) (starts_with nat_eq text (codes "0x")) (hexadecimal_number most text) None (hexadecimal_on most text) tt

visible_low : (b : ℕ) → is_visible b ≡ true → b < 256
visible_low b h = let last = and_parts (nat_le 0x21 b) (nat_le b 0x7E) h in let low : b ≤ 0x7E = leb-true b 0x7E last.1 in omega arith

visible_bytes : (tag : List ℕ) → list_all is_visible tag ≡ true → AllByRecursion (λ b. b < 256) tag
visible_bytes [] h = tt
visible_bytes (b ∷ bs) h = let split = and_parts (is_visible b) (list_all is_visible bs) h in (visible_low b split.0, visible_bytes bs split.1)

four_bytes : (n : ℕ) → IsTag (to_be_bytes w32 n)
four_bytes n = (refl, (omega arith, (omega arith, (omega arith, (omega arith, tt)))))

tag_on : (text : List ℕ) → OnSome (tag_value text) IsTag
unfolding tag_value
tag_on text = by_length (length text == 4) refl
  where
    by_visible : (b : Bool) → list_all is_visible text ≡ b → length text ≡ 4 → OnSome (if b then Some text else None) IsTag
    by_visible true e four = (four, visible_bytes text e)
    by_visible false e four = tt

    digits : (v : Option ℕ) → OnSome (option_map (to_be_bytes w32) v) IsTag
    digits None = tt
    digits (Some n) = four_bytes n

    by_length : (b : Bool) → (length text == 4) ≡ b
        → OnSome (if b then (if list_all is_visible text then Some text else None)
        else (if length text == 10 then option_map (to_be_bytes w32) (marked_value (2 ^ 32 - 1) text) else None)) IsTag
    by_length true e = by_visible (list_all is_visible text) refl (eqb-true (length text) 4 e)
    by_length false e = if_on IsTag (length text == 10) (option_map (to_be_bytes w32) (marked_value (2 ^ 32 - 1) text)) None
        (digits (marked_value (2 ^ 32 - 1) text)) tt

-- the values of fields: trace, handle, object, tag, sequence, process, thread and frame

abbrev InRange : Values → Type 0
InRange v = (v.trace < 2 ^ 64) × (v.handle < 2 ^ 32) × (v.object < 2 ^ 64) × IsTag v.tag
    × (v.sequence < 2 ^ 64) × (v.process < 2 ^ 32) × (v.thread < 2 ^ 32) × (v.frame < 2 ^ 64)

no_tag_is : IsTag no_tag
no_tag_is = (refl, (omega arith, (omega arith, (omega arith, (omega arith, tt)))))

none_in_range : InRange no_values
none_in_range = (omega arith, omega arith, omega arith, no_tag_is, omega arith, omega arith, omega arith, omega arith)

-- what was read of a field, as a fact of its value
abbrev Found : {A : Type 0} → (A → Type 0) → Option (A × List (List ℕ)) → Type 0
Found Q found = OnSome found (λ it. Q it.0)

first_on : {A : Type 0} (Q : A → Type 0) (ws : List (List ℕ)) (a : Option A) → OnSome a Q → Found Q (option_map (λ a. (a, ws)) a)
first_on Q ws None h = tt
first_on Q ws (Some a) h = h

text_on : {A : Type 0} (Q : A → Type 0) (value : List ℕ → Option A) (text : Option (List ℕ × List (List ℕ)))
    → ((t : List ℕ) → OnSome (value t) Q) → Found Q (value_of value text)
text_on Q value None so = tt
text_on Q value (Some found) so = first_on Q found.1 (value found.0) (so found.0)

value_on : {A : Type 0} (Q : A → Type 0) (f : Field) (value : List ℕ → Option A) (ws : List (List ℕ))
    → ((t : List ℕ) → OnSome (value t) Q) → Found Q (first_value f value ws)
unfolding first_value
value_on Q f value ws so = text_on Q value (first_text f ws) so

bare_on : {A : Type 0} (Q : A → Type 0) (value : List ℕ → Option A) (ws : List (List ℕ))
    → ((t : List ℕ) → OnSome (value t) Q) → Found Q (bare_value value ws)
unfolding bare_value
bare_on Q value [] so = tt
bare_on Q value (w ∷ ws) so = first_on Q ws (value w) (so w)

with_on : {A : Type 0} (Q : A → Type 0) (put : A → Values) (found : Option (A × List (List ℕ))) → Found Q found
    → ((a : A) → Q a → InRange (put a)) → Found InRange (with_value put found)
with_on Q put None h so = tt
with_on Q put (Some found) h so = so found.0 h

decimal_on : (f : Field) (most : ℕ) (put : ℕ → Values) (ws : List (List ℕ)) → ((n : ℕ) → n ≤ most → InRange (put n))
    → Found InRange (with_value put (first_value f (decimal_number most) ws))
decimal_on f most put ws so =
    with_on (λ n. n ≤ most) put (first_value f (decimal_number most) ws)
    (value_on (λ n. n ≤ most) f (decimal_number most) ws (number_on 10 most)) so

digits_on : (f : Field) (most : ℕ) (put : ℕ → Values) (ws : List (List ℕ)) → ((n : ℕ) → n ≤ most → InRange (put n))
    → Found InRange (with_value put (first_value f (hexadecimal_number most) ws))
digits_on f most put ws so =
    with_on (λ n. n ≤ most) put (first_value f (hexadecimal_number most) ws)
    (value_on (λ n. n ≤ most) f (hexadecimal_number most) ws (hexadecimal_on most)) so

read_on : (f : Field) (ws : List (List ℕ)) (v : Values) → InRange v → Found InRange (read_field f ws v)
read_on Version ws v h = decimal_on Version 0xFFFF _ ws (λ n low. h)
read_on Trace ws v h = digits_on Trace (2 ^ 64 - 1) _ ws (λ n low. (omega arith, h.1, h.2, h.3, h.4, h.5, h.6, h.7))
read_on Processors ws v h = decimal_on Processors 0xFFFF _ ws (λ n low. h)
read_on Processor ws v h = decimal_on Processor 0xFFFF _ ws (λ n low. h)
read_on Number ws v h = decimal_on Number 0xFFFFFFFF _ ws (λ n low. h)
read_on Handle ws v h = digits_on Handle (2 ^ 32 - 1) _ ws (λ n low. (h.0, omega arith, h.2, h.3, h.4, h.5, h.6, h.7))
read_on Object ws v h = digits_on Object (2 ^ 64 - 1) _ ws (λ n low. (h.0, h.1, omega arith, h.3, h.4, h.5, h.6, h.7))
read_on Tag ws v h =
    with_on IsTag _ (first_value Tag tag_value ws) (value_on IsTag Tag tag_value ws tag_on) (λ tag is. (h.0, h.1, h.2, is, h.4, h.5, h.6, h.7))
read_on Sequence ws v h = decimal_on Sequence (2 ^ 64 - 1) _ ws (λ n low. (h.0, h.1, h.2, h.3, omega arith, h.5, h.6, h.7))
read_on Process ws v h = decimal_on Process (2 ^ 32 - 1) _ ws (λ n low. (h.0, h.1, h.2, h.3, h.4, omega arith, h.6, h.7))
read_on Thread ws v h = decimal_on Thread (2 ^ 32 - 1) _ ws (λ n low. (h.0, h.1, h.2, h.3, h.4, h.5, omega arith, h.7))
read_on Frame ws v h =
    with_on (λ n. n ≤ 2 ^ 64 - 1) _ (bare_value frame_value ws) (bare_on (λ n. n ≤ 2 ^ 64 - 1) frame_value ws (marked_on (2 ^ 64 - 1)))
    (λ n low. (h.0, h.1, h.2, h.3, h.4, h.5, h.6, omega arith))

-- the fields of a form, one after the other

ended_on : (ws : List (List ℕ)) (v : Values) → InRange v → IfOk (ended ws v) InRange
ended_on [] v h = h
ended_on (w ∷ ws) v h = tt

after_on : (f : Field) (read : Option (Values × List (List ℕ))) (next : List (List ℕ) → Values → Result Values FormFault) → Found InRange read
    → ((ws : List (List ℕ)) (v : Values) → InRange v → IfOk (next ws v) InRange) → IfOk (after f read next) InRange
after_on f None next h more = tt
after_on f (Some read) next h more = more read.1 read.0 h

values_on : (fs : List Field) (ws : List (List ℕ)) (v : Values) → InRange v → IfOk (values_in fs ws v) InRange
unfolding values_in
values_on [] ws v h = ended_on ws v h
values_on (f ∷ fs) ws v h = after_on f (read_field f ws v) (values_in fs) (read_on f ws v h) (values_on fs)

-- the forms

abbrev SaysInRange : Form → Type 0
SaysInRange form = (v : Values) → InRange v → ItemInRange (form.says v)

segment_on : SaysInRange segment_form
segment_on v h = h.0

event_on : (kind : Kind) → SaysInRange (event_form kind)
event_on kind v h = record { sequence = h.4; process = h.5; thread = h.6; handle = h.1; object = h.2; tag = h.3 }

frame_on : SaysInRange frame_form
frame_on v h = h.7

abbrev FormInRange : Option (Form × List (List ℕ)) → Type 0
FormInRange found = OnSome found (λ it. SaysInRange it.0)

bad_on : (ws : List (List ℕ)) → FormInRange (bad_form ws)
bad_on [] = tt
bad_on (w ∷ ws) = if_on (λ it. SaysInRange it.0) (bytes_eq w (codes "REF")) _ _ (event_on BadRef) tt

form_on : (ws : List (List ℕ)) → FormInRange (form_of ws)
unfolding form_of
form_on [] = tt
form_on (w ∷ ws) =
    if_on (λ it. SaysInRange it.0) (bytes_eq w (codes "segment")) _ _ segment_on
    (if_on (λ it. SaysInRange it.0) (bytes_eq w (codes "OPEN")) _ _ (event_on Opened)
    (if_on (λ it. SaysInRange it.0) (bytes_eq w (codes "CLOSE")) _ _ (event_on Closed)
    (if_on (λ it. SaysInRange it.0) (bytes_eq w (codes "BAD")) _ _ (bad_on ws)
    (if_on (λ it. SaysInRange it.0) (bytes_eq w (codes "SNAPSHOT")) _ _ (event_on Snapshot)
    (if_on (λ it. SaysInRange it.0) (bytes_eq w (codes "EXIT")) _ _ (event_on Exited)
    (if_on (λ it. SaysInRange it.0) (bytes_eq w (codes "REF")) _ _ (event_on Ref)
    (if_on (λ it. SaysInRange it.0) (bytes_eq w (codes "DEREF")) _ _ (event_on Deref)
    (if_on (λ it. SaysInRange it.0) (starts_with nat_eq w (codes "0x")) _ _ frame_on tt))))))))

said_on : (form : Form) (values : Result Values FormFault) → SaysInRange form → IfOk values InRange → IfOk (said_by form.says values) ItemInRange
said_on form (Ok v) says h = says v h
said_on form (Err fault) says h = tt

by_on : (found : Option (Form × List (List ℕ))) → FormInRange found → IfOk (item_by found) ItemInRange
by_on None h = tt
by_on (Some found) h = said_on found.0 (values_in found.0.fields found.1 no_values) h (values_on found.0.fields found.1 no_values none_in_range)

-- where words have an item, its numbers fit their fields
pub item_on : (ws : List (List ℕ)) → IfOk (item_in ws) ItemInRange
unfolding item_in
item_on ws = by_on (form_of ws) (form_on ws)
