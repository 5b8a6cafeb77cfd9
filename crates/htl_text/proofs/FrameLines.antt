-- Two blanks, a frame's address and a line feed are the line of that frame.
use Rattle.std.proofs.Common.{◌≡◌, ◌^◌, ◌-◌, ℕ, Bool, true, false, List, [], ◌∷◌, ◌++◌, take, drop, length, refl, sym, ap, ◌∙◌, arith}
use Rattle.std.specs.Prelude.{Ok, Some, None, codes, if◌then◌else◌, nat_eq, nat_le}
use Rattle.std.specs.Char.{digit_value, is_digit}
use Rattle.std.specs.Cmp.Lexicographic.{pointwise}
use Rattle.std.specs.List.{list_all, starts_with}
use Rattle.std.specs.Str.Parse.{AllDigits, digits_value}
use Rattle.std.proofs.lemmas.Bool.{and_parts, ltb-true}
use Rattle.std.proofs.lemmas.List.{append-nil, take-append-drop}
use Rattle.std.proofs.lemmas.Option.{cond_some}
use Rattle.std.proofs.lemmas.Slice.Eq.{bytes_eq-Decides}
use Rattle.htl_numbers.specs.Numbers.{hexadecimal_number, number_of, without_0x}
use Rattle.htl_text.specs.declared.item.Item.TheVariants as item
use Rattle.htl_text.specs.Fields.{bare_value, frame_value, marked_value}
use Rattle.htl_text.specs.Lines.{form_of, is_skipped, item_in, values_in, words_of}
use Rattle.htl_text.specs.Steps.{StartsWithFrame, after_words, read}
use Rattle.htl_text.specs.Texts.{is_visible}
use Rattle.htl_text.proofs.DumpedLines.{line_first, plain_spaced, words_after_blank, words_spaced}
use Rattle.htl_text.proofs.Numerals.{visible_digits}

-- a list that begins with bytes is these and what is behind them
pub begun_with : (front xs rest : List ℕ) → pointwise nat_eq (take (length front) xs) front ≡ true → rest ≡ drop (length front) xs
    → xs ≡ front ++ rest
begun_with front xs rest same behind =
    sym (take-append-drop (length front) xs) ∙ rw ((bytes_eq-Decides (take (length front) xs) front).0 same, behind) refl

-- the digits of a number

all_digits : (ds : List ℕ) → list_all (λ c. is_digit c 16) ds ≡ true → AllDigits 16 ds
all_digits [] h = tt
all_digits (c ∷ cs) h =
    let parts = and_parts (is_digit c 16) (list_all (λ d. is_digit d 16) cs) h in
    (ltb-true (digit_value c) 16 parts.0, all_digits cs parts.1)

number_shown : (most a : ℕ) (ds : List ℕ) → number_of 16 most ds ≡ Some a → list_all is_visible ds ≡ true
unfolding number_of
number_shown most a ds h =
    let tests = cond_some _ (digits_value 16 ds) a h in
    visible_digits 16 ds (omega arith) (all_digits ds (and_parts (list_all (λ c. is_digit c 16) ds) _ tests.0).0)

-- an address is `0x` and digits
record IsAddress (word : List ℕ) : Type 0 where
  digits : List ℕ
  text : word ≡ codes "0x" ++ digits
  shown : list_all is_visible digits ≡ true

number_behind : (most a : ℕ) (ds : List ℕ) → hexadecimal_number most (codes "0x" ++ ds) ≡ Some a → list_all is_visible ds ≡ true
unfolding hexadecimal_number without_0x
number_behind most a ds h = by_case (nat_le (length ds) 16) h
  where
    by_case : (b : Bool) → (if b then number_of 16 most ds else None) ≡ Some a → list_all is_visible ds ≡ true
    by_case true h = number_shown most a ds h
    by_case false h = cc

address_is : (word : List ℕ) (a : ℕ) → frame_value word ≡ Some a → IsAddress word
unfolding marked_value
address_is word a h = by_case (starts_with nat_eq word (codes "0x")) refl h
  where
    by_case : (b : Bool) → starts_with nat_eq word (codes "0x") ≡ b
        → (if b then hexadecimal_number (2 ^ 64 - 1) word else None) ≡ Some a → IsAddress word
    by_case true e h =
        let front : codes "0x" ≡ take 2 word = (bytes_eq-Decides (codes "0x") (take 2 word)).0 e in
        let text : word ≡ codes "0x" ++ drop 2 word = sym (take-append-drop 2 word) ∙ ap (λ xs. xs ++ drop 2 word) (sym front) in
        record { digits = drop 2 word; text = text; shown = number_behind (2 ^ 64 - 1) a (drop 2 word) (rw text at h) }
    by_case false e h = cc

-- the line

address_item : (ds : List ℕ) (a : ℕ) → frame_value (codes "0x" ++ ds) ≡ Some a → item_in ((codes "0x" ++ ds) ∷ []) ≡ Ok (item.Frame a)
unfolding item_in form_of values_in bare_value
address_item ds a is = rw is refl

address_here : (ds : List ℕ) → is_skipped ((codes "0x" ++ ds) ∷ []) ≡ false
unfolding is_skipped
address_here ds = refl

address_first : (ds : List ℕ) (a : ℕ) (rest : List ℕ) → frame_value (codes "0x" ++ ds) ≡ Some a → list_all is_visible ds ≡ true
    → StartsWithFrame (32 ∷ 32 ∷ ((codes "0x" ++ ds) ++ 10 ∷ rest)) a rest
unfolding read after_words
address_first ds a rest is shown n p =
    let word : List ℕ = codes "0x" ++ ds in
    let words : words_of (32 ∷ 32 ∷ word) ≡ word ∷ [] =
    words_after_blank (32 ∷ word) ∙ (words_after_blank word ∙ (ap words_of (sym (append-nil word)) ∙ words_spaced word [] (refl, shown) tt)) in
    let plain = rw (append-nil ds) at (plain_spaced word [] (refl, shown) tt) in
    rw (line_first (32 ∷ 32 ∷ word) rest plain, words, address_here ds, address_item ds a is) refl

-- a text of two blanks, an address, a line feed and a rest begins with the line of the frame
pub frame_first : (text rest word : List ℕ) (a : ℕ) → text ≡ 32 ∷ 32 ∷ (word ++ 10 ∷ rest) → frame_value word ≡ Some a
    → StartsWithFrame text a rest
frame_first text rest word a is value =
    let address = address_is word a value in
    rw (is, address.text) (address_first address.digits a rest (rw address.text at value) address.shown)
