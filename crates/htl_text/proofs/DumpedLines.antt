-- A line of visible words, each but the first after a blank, is read as these words, whatever follows it.
use Rattle.std.proofs.Common.{◌≡◌, ◌-◌, ℕ, suc, Bool, true, false, List, [], ◌∷◌, ◌++◌, length, refl, arith, ap, sym, ◌∙◌, get_or}
use Rattle.std.specs.Prelude.{◌==◌, nat_le}
use Rattle.std.specs.List.{list_all, slice_split}
use Rattle.std.specs.Str.Lines.{strip_carriage_return}
use Rattle.std.proofs.lemmas.Bool.Decides.{nat_tests}
use Rattle.std.proofs.lemmas.List.{append_assoc, append-nil}
use Rattle.std.proofs.lemmas.List.Folds.{list_all-append}
use Rattle.htl_text.specs.Texts.{is_visible}
use Rattle.htl_text.specs.Lines.{is_blank, is_word, lines_of_text, words_of}
use Rattle.htl_text.specs.Words.{is_feed}
use Rattle.std.proofs.lemmas.Bool.{and_parts}

-- the word isn't empty, and all its bytes can be seen
abbrev pub IsShown : List ℕ → Type 0
IsShown w = (is_word w ≡ true) × (list_all is_visible w ≡ true)

-- each word isn't empty, and all its bytes can be seen
abbrev pub AllShown : List (List ℕ) → Type 0
AllShown [] = Unit {0}
AllShown (w ∷ ws) = IsShown w × AllShown ws

-- words with a blank before each
abbrev pub continued : List (List ℕ) → List ℕ → List ℕ
continued [] rest = rest
continued (w ∷ ws) rest = 32 ∷ (w ++ continued ws rest)

-- no byte of a line's end
abbrev pub is_plain : ℕ → Bool
is_plain b = nat_le 32 b

no_blank : (b : ℕ) → is_visible b ≡ true → is_blank b ≡ false
no_blank b h = grind (arith, nat_tests)

visible_plain : (b : ℕ) → is_visible b ≡ true → is_plain b ≡ true
visible_plain b h = grind (arith, nat_tests)

no_feed : (b : ℕ) → is_plain b ≡ true → is_feed b ≡ false
no_feed b h = grind (arith, nat_tests)

no_return : (b : ℕ) → is_plain b ≡ true → (b == 13) ≡ false
no_return b h = grind (arith, nat_tests)

-- the words

word_cut : (w rest : List ℕ) → list_all is_visible w ≡ true → slice_split is_blank (w ++ 32 ∷ rest) ≡ w ∷ slice_split is_blank rest
word_cut [] rest h = refl
word_cut (b ∷ bs) rest h =
    let parts = and_parts (is_visible b) (list_all is_visible bs) h in rw (no_blank b parts.0, word_cut bs rest parts.1) refl

word_alone : (w : List ℕ) → list_all is_visible w ≡ true → slice_split is_blank w ≡ w ∷ []
word_alone [] h = refl
word_alone (b ∷ bs) h = let parts = and_parts (is_visible b) (list_all is_visible bs) h in rw (no_blank b parts.0, word_alone bs parts.1) refl

word_then : (w rest : List ℕ) → IsShown w → words_of (w ++ 32 ∷ rest) ≡ w ∷ words_of rest
unfolding words_of
word_then w rest h = rw (word_cut w rest h.1, h.0) refl

word_last : (w : List ℕ) → IsShown w → words_of w ≡ w ∷ []
unfolding words_of
word_last w h = rw (word_alone w h.1, h.0) refl

-- a blank before a line doesn't change its words
pub words_after_blank : (line : List ℕ) → words_of (32 ∷ line) ≡ words_of line
unfolding words_of
words_after_blank line = refl

-- the words of a line of shown words, with a blank between them, are these words
pub words_spaced : (w : List ℕ) (ws : List (List ℕ)) → IsShown w → AllShown ws → words_of (w ++ continued ws []) ≡ w ∷ ws
words_spaced w [] h hs = rw (append-nil w) (word_last w h)
words_spaced w (v ∷ ws) h hs = word_then w (v ++ continued ws []) h ∙ ap (λ x. w ∷ x) (words_spaced v ws hs.0 hs.1)

-- the line

plain_word : (w : List ℕ) → list_all is_visible w ≡ true → list_all is_plain w ≡ true
plain_word [] h = refl
plain_word (b ∷ bs) h =
    let parts = and_parts (is_visible b) (list_all is_visible bs) h in rw (visible_plain b parts.0, plain_word bs parts.1) refl

-- a line of shown words has no byte that ends a line
pub plain_spaced : (w : List ℕ) (ws : List (List ℕ)) → IsShown w → AllShown ws → list_all is_plain (w ++ continued ws []) ≡ true
plain_spaced w [] h hs = rw (append-nil w) (plain_word w h.1)
plain_spaced w (v ∷ ws) h hs =
    list_all-append is_plain w (32 ∷ (v ++ continued ws [])) ∙ rw (plain_word w h.1, plain_spaced v ws hs.0 hs.1) refl

-- words with a blank before each, and a rest behind them, are these words and then the rest
pub continued_end : (ws : List (List ℕ)) (rest : List ℕ) → continued ws rest ≡ continued ws [] ++ rest
continued_end [] rest = refl
continued_end (w ∷ ws) rest =
    ap (λ x. 32 ∷ (w ++ x)) (continued_end ws rest) ∙ ap (λ x. 32 ∷ x) (sym (append_assoc w (continued ws []) rest))

line_cut : (t rest : List ℕ) → list_all is_plain t ≡ true → slice_split is_feed (t ++ 10 ∷ rest) ≡ t ∷ slice_split is_feed rest
line_cut [] rest h = refl
line_cut (b ∷ bs) rest h =
    let parts = and_parts (is_plain b) (list_all is_plain bs) h in rw (no_feed b parts.0, line_cut bs rest parts.1) refl

last_plain : (b : ℕ) (t : List ℕ) → list_all is_plain (b ∷ t) ≡ true → (get_or (b ∷ t) (length t) 0 == 13) ≡ false
last_plain b [] h = no_return b (and_parts (is_plain b) true h).0
last_plain b (c ∷ t) h = last_plain c t (and_parts (is_plain b) (list_all is_plain (c ∷ t)) h).1

one_less : (n : ℕ) → suc n - 1 ≡ n
one_less n = omega arith

nothing_stripped : (t : List ℕ) → list_all is_plain t ≡ true → strip_carriage_return t ≡ t
nothing_stripped [] h = refl
nothing_stripped (b ∷ t) h = rw (one_less (length t)) (rw (last_plain b t h) refl)

-- a text that begins with a line and a line feed has this line first, and then those behind the line feed
pub line_first : (t rest : List ℕ) → list_all is_plain t ≡ true → lines_of_text (t ++ 10 ∷ rest) ≡ t ∷ lines_of_text rest
unfolding lines_of_text
line_first t rest h = rw (line_cut t rest h, nothing_stripped t h) refl
