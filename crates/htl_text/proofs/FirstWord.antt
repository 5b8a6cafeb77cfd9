-- The words of a line are its first one, where it begins and ends, and those that follow it.
use Rattle.std.proofs.Common.{◌≡◌, ◌<◌, ◌≤◌, ◌+◌, ℕ, suc, Bool, true, false, List, [], ◌∷◌, length, take, drop, refl, arith, sym, ◌∙◌, ap}
use Rattle.std.specs.Prelude.{not, filter, nat_lt, position, unwrap_or, if◌then◌else◌}
use Rattle.std.specs.List.{position_or_len, slice_split}
use Rattle.std.proofs.lemmas.Bool.Decides.{nat_tests}
use Rattle.std.proofs.lemmas.List.Recursion.{is_position_or_len}
use Rattle.std.proofs.lemmas.List.Sums.{prefix_len-le-length}
use Rattle.htl_text.specs.Lines.{is_blank, is_word, words_of}
use Rattle.htl_text.specs.Words.{word_start, word_end}

-- the first part between blanks, and the words that follow
record FirstPart (line : List ℕ) : Type 0 where
  more : List (List ℕ)
  cut : slice_split is_blank line ≡ take (word_end line) line ∷ more
  words : filter is_word more ≡ words_of (drop (word_end line) line)

first_part : (line : List ℕ) → FirstPart line
unfolding words_of
first_part [] = record { more = []; cut = refl; words = refl }
first_part (x ∷ xs) = by_case x xs (first_part xs) (is_blank x) refl
  where
    by_case : (x : ℕ) (xs : List ℕ) → FirstPart xs → (b : Bool) → is_blank x ≡ b → FirstPart (x ∷ xs)
    by_case x xs f true e = record { more = slice_split is_blank xs; cut = rw e refl; words = rw e (rw e refl) }
    by_case x xs f false e = record { more = f.more; cut = rw (e, f.cut) refl; words = rw e f.words }

-- a word that stands first
word_taken : (x : ℕ) (xs : List ℕ) → is_blank x ≡ false
    → words_of (x ∷ xs) ≡ take (word_end (x ∷ xs)) (x ∷ xs) ∷ words_of (drop (word_end (x ∷ xs)) (x ∷ xs))
unfolding words_of
word_taken x xs e =
    let f = first_part xs in
    let words = f.words in
    rw (e, f.cut) (ap (λ ws. (x ∷ take (word_end xs) xs) ∷ ws) words)

-- blanks make no word
word_skipped : (x : ℕ) (xs : List ℕ) → is_blank x ≡ true → words_of (x ∷ xs) ≡ words_of xs
unfolding words_of
word_skipped x xs e = rw e refl

start_skipped : (x : ℕ) (xs : List ℕ) → is_blank x ≡ true → drop (word_start (x ∷ xs)) (x ∷ xs) ≡ drop (word_start xs) xs
start_skipped x xs e = rw e refl

start_here : (x : ℕ) (xs : List ℕ) → is_blank x ≡ false → drop (word_start (x ∷ xs)) (x ∷ xs) ≡ x ∷ xs
start_here x xs e = rw e refl

-- what stands first and what follows, of a line that begins with a word
abbrev pub FirstIs : List ℕ → List ℕ → Type 0
FirstIs line rest = words_of line ≡ take (word_end rest) rest ∷ words_of (drop (word_end rest) rest)

-- the blanks before the first word are skipped
pub words_begin : (line rest : List ℕ) → rest ≡ drop (word_start line) line → 0 < length rest → FirstIs line rest
words_begin [] rest is some = absurd (omega (arith, ap length is))
words_begin (x ∷ xs) rest is some = by_case (words_begin xs) (is_blank x) refl
  where
    by_case : ((rest : List ℕ) → rest ≡ drop (word_start xs) xs → 0 < length rest → FirstIs xs rest) → (b : Bool)
        → is_blank x ≡ b → FirstIs (x ∷ xs) rest
    by_case more true e = word_skipped x xs e ∙ more rest (is ∙ start_skipped x xs e) some
    by_case more false e = rw (is ∙ start_here x xs e) (word_taken x xs e)

-- a line of blanks alone has no words
pub no_words : (line : List ℕ) → length (drop (word_start line) line) ≡ 0 → words_of line ≡ []
unfolding words_of
no_words [] none = refl
no_words (x ∷ xs) none = by_case (no_words xs) (is_blank x) refl
  where
    by_case : (length (drop (word_start xs) xs) ≡ 0 → words_of xs ≡ []) → (b : Bool) → is_blank x ≡ b → words_of (x ∷ xs) ≡ []
    by_case more true e = word_skipped x xs e ∙ more (ap length (sym (start_skipped x xs e)) ∙ none)
    by_case more false e = absurd (omega (arith, ap length (start_here x xs e), none))

-- one and a number are the next number
pub one_more : (n : ℕ) → 1 + n ≡ suc n
one_more n = omega arith

-- where a word ends and begins, as places
word_end_place : (line : List ℕ) → word_end line ≡ position_or_len is_blank line
word_end_place line = is_position_or_len word_end is_blank refl (λ x xs. rw (one_more (word_end xs)) refl) line

word_start_place : (line : List ℕ) → word_start line ≡ position_or_len (λ b. not (is_blank b)) line
word_start_place line = is_position_or_len word_start (λ b. not (is_blank b)) refl (λ x xs. by_case x xs (is_blank x) refl) line
  where
    by_case : (x : ℕ) (xs : List ℕ) (b : Bool) → is_blank x ≡ b
        → word_start (x ∷ xs) ≡ (if not (is_blank x) then 0 else 1 + word_start xs)
    by_case x xs true e = rw e (sym (one_more (word_start xs)))
    by_case x xs false e = rw e refl

not_below : (m n : ℕ) → m ≤ n → nat_lt m n ≡ false → n ≡ m
not_below m n le e = grind (arith, nat_tests)

-- `position`, or else the length
pub position_or_length : (p : ℕ → Bool) (xs : List ℕ) → unwrap_or (position p xs) (length xs) ≡ position_or_len p xs
position_or_length p xs = by_case (nat_lt (position_or_len p xs) (length xs)) refl
  where
    by_case : (b : Bool) → nat_lt (position_or_len p xs) (length xs) ≡ b → unwrap_or (position p xs) (length xs) ≡ position_or_len p xs
    by_case true e = rw e refl
    by_case false e = rw e (not_below (position_or_len p xs) (length xs) (prefix_len-le-length (λ x. not (p x)) xs) e)

-- the place of the first blank, or else the length of the line, is where the word in front ends
pub word_end_found : (line : List ℕ) → unwrap_or (position is_blank line) (length line) ≡ word_end line
word_end_found line = position_or_length is_blank line ∙ sym (word_end_place line)

-- the place of the first byte that is no blank, or else the length of the line, is where the first word begins
pub word_start_found : (line : List ℕ) → unwrap_or (position (λ b. not (is_blank b)) line) (length line) ≡ word_start line
word_start_found line = position_or_length (λ b. not (is_blank b)) line ∙ sym (word_start_place line)
