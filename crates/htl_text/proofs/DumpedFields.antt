-- A text has the items of its lines, whatever follows it, and a word with a key has the value behind it.
use Rattle.std.proofs.Common.{◌≡◌, ◌≤◌, ◌<◌, ◌-◌, ◌^◌, ℕ, true, false, List, [], ◌∷◌, ◌++◌, length, take, drop, refl, arith, ap, sym, ◌∙◌}
use Rattle.std.specs.Prelude.{Ok, Option, Some, codes, nat_eq}
use Rattle.std.specs.List.{list_all}
use Rattle.std.specs.Cmp.Lexicographic.{pointwise}
use Rattle.std.specs.Fmt.{decimal}
use Rattle.std.proofs.lemmas.Bool.{eq-eqb}
use Rattle.std.proofs.lemmas.List.{append_assoc}
use Rattle.htl_numbers.specs.Numbers.{decimal_number}
use Rattle.htl_numbers.specs.Written.{hex, padded}
use Rattle.htl_numbers.proofs.Digits.{number_read}
use Rattle.htl_text.specs.declared.item.Item.{Item}
use Rattle.htl_text.specs.Fields.{address_value, after_bytes, field_name, first_text, first_value, frame_value, handle_value}
use Rattle.htl_text.specs.Lines.{item_in, is_skipped, lines_of_text, words_of}
use Rattle.htl_text.specs.declared.field.Field.{Field}
use Rattle.htl_text.specs.Encoded.{Write}
use Rattle.htl_text.specs.Texts.{is_visible, line_feed}
use Rattle.htl_text.proofs.DumpedLines.{AllShown, IsShown, continued, continued_end, is_plain, line_first, plain_spaced, words_spaced}
use Rattle.htl_text.proofs.Numerals.{decimal_writes, hex_short, hex_writes, hexadecimal_read, length_padded, marked_read}
use Rattle.htl_text.proofs.Numerals.{padded_writes, visible_digits}
use Rattle.htl_text.proofs.Writing.{write_append, write_one}

-- texts and their items, whatever follows them

-- the text has these items, in front of those of whatever lines follow it
abbrev pub Says : List ℕ → List Item → Type 0
Says text items = (rest : List ℕ) (more : List Item) → Write (lines_of_text rest) more → Write (lines_of_text (text ++ rest)) (items ++ more)

-- two texts, one after the other, have the items of both
pub says_append : (a b : List ℕ) (is js : List Item) → Says a is → Says b js → Says (a ++ b) (is ++ js)
says_append a b is js ha hb rest more h =
    rw (append_assoc a b rest, append_assoc is js more) (ha (b ++ rest) (js ++ more) (hb rest more h))

-- a line that isn't skipped has its item as a text with a line feed
pub says_line : (t : List ℕ) (i : Item) → list_all is_plain t ≡ true → is_skipped (words_of t) ≡ false → item_in (words_of t) ≡ Ok i
    → Says (t ++ line_feed) (i ∷ [])
says_line t i plain here is rest more h =
    rw (append_assoc t line_feed rest, line_first t rest plain)
    (write_append (t ∷ []) (lines_of_text rest) (i ∷ []) more (write_one t i here is) h)

-- a line of words that have an item
pub says_words : (w : List ℕ) (ws : List (List ℕ)) (i : Item) → IsShown w → AllShown ws → is_skipped (w ∷ ws) ≡ false
    → item_in (w ∷ ws) ≡ Ok i → Says (w ++ continued ws line_feed) (i ∷ [])
says_words w ws i shown more here is =
    let words = words_spaced w ws shown more in
    let line : w ++ continued ws line_feed ≡ (w ++ continued ws []) ++ line_feed =
    ap (λ x. w ++ x) (continued_end ws line_feed) ∙ sym (append_assoc w (continued ws []) line_feed) in
    rw line (says_line (w ++ continued ws []) i (plain_spaced w ws shown more) (rw words here) (rw words is))

-- fields

same_bytes : (bs : List ℕ) → pointwise nat_eq bs bs ≡ true
same_bytes [] = refl
same_bytes (b ∷ bs) = rw (eq-eqb b b refl, same_bytes bs) refl

key_taken : (key text : List ℕ) → take (length key) (key ++ text) ≡ key
key_taken [] text = refl
key_taken (k ∷ ks) text = ap (λ x. k ∷ x) (key_taken ks text)

key_dropped : (key text : List ℕ) → drop (length key) (key ++ text) ≡ text
key_dropped [] text = refl
key_dropped (k ∷ ks) text = key_dropped ks text

key_read : (key text : List ℕ) → after_bytes key (key ++ text) ≡ Some text
unfolding after_bytes
key_read key text = rw (key_taken key text, same_bytes key, key_dropped key text) refl

-- a field and its value, as a word
abbrev pub spelled : Field → List ℕ → List ℕ
spelled f text = field_name f ++ (codes "=" ++ text)

text_read : (f : Field) (text : List ℕ) (ws : List (List ℕ)) → first_text f (spelled f text ∷ ws) ≡ Some (text, ws)
unfolding first_text
text_read f text ws = rw (key_read (field_name f) (codes "=" ++ text), key_read (codes "=") text) refl

-- a word with a field's name and a text has the value of that text
pub field_read : {A : Type 0} (f : Field) (value : List ℕ → Option A) (text : List ℕ) (ws : List (List ℕ)) (a : A) → value text ≡ Some a
    → first_value f value (spelled f text ∷ ws) ≡ Some (a, ws)
unfolding first_value
field_read f value text ws a is = rw (text_read f text ws, is) refl

-- a word with a field's name and the digits of a number within its bound has this number
pub decimal_field : (f : Field) (most n : ℕ) (ws : List (List ℕ)) → n ≤ most → most < 2 ^ 64
    → first_value f (decimal_number most) (spelled f (decimal n) ∷ ws) ≡ Some (n, ws)
decimal_field f most n ws low small =
    field_read f (decimal_number most) (decimal n) ws n (number_read 10 most n (decimal n) (decimal_writes n (omega arith)) low)

-- the decimal digits of a number of 64 bits can be seen
pub shown_decimal : (n : ℕ) → n < 2 ^ 64 → list_all is_visible (decimal n) ≡ true
shown_decimal n low = visible_digits 10 (decimal n) (omega arith) (decimal_writes n low).numeral.1

-- the hexadecimal digits of a number of 64 bits, with zeros before them, can be seen
pub shown_padded : (width n : ℕ) → n < 2 ^ 64 → list_all is_visible (padded width n) ≡ true
shown_padded width n low = visible_digits 16 (padded width n) (omega arith) (padded_writes width n low).numeral.1

-- the hexadecimal digits of a number of 64 bits can be seen
pub shown_hex : (n : ℕ) → n < 2 ^ 64 → list_all is_visible (hex n) ≡ true
shown_hex n low = visible_digits 16 (hex n) (omega arith) (hex_writes n low).numeral.1

-- an address of 64 bits, written as `0x` and 16 digits, is read again
pub address_read : (a : ℕ) → a < 2 ^ 64 → address_value (codes "0x" ++ padded 16 a) ≡ Some a
address_read a low =
    let few = length_padded 16 a (hex_short 15 a (omega arith)) in
    hexadecimal_read (2 ^ 64 - 1) a (padded 16 a) (padded_writes 16 a low) (omega (arith, few)) (omega arith)

-- a frame of 64 bits, written as `0x` and 16 digits, is read again
pub frame_read : (a : ℕ) → a < 2 ^ 64 → frame_value (codes "0x" ++ padded 16 a) ≡ Some a
frame_read a low =
    let few = length_padded 16 a (hex_short 15 a (omega arith)) in
    marked_read (2 ^ 64 - 1) a (padded 16 a) (padded_writes 16 a low) (omega (arith, few)) (omega arith)

-- a handle of 32 bits, written as `0x` and its digits, is read again
pub handle_read : (h : ℕ) → h < 2 ^ 32 → handle_value (codes "0x" ++ hex h) ≡ Some h
handle_read h low =
    let few = hex_short 7 h (omega arith) in
    hexadecimal_read (2 ^ 32 - 1) h (hex h) (hex_writes h (omega arith)) (omega (arith, few)) (omega arith)
