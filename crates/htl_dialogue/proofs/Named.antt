-- What is found among arguments is the same of the texts themselves and of what holds them: names of files, and whether one passes a test.
use Rattle.std.proofs.Common.{◌≡◌, ◌≢◌, ◌∙◌, ◌+◌, ◌++◌, ℕ, suc, Bool, List, [], ◌∷◌, map, refl, sym, ap, length, take, drop}
use Rattle.std.proofs.lemmas.List.{drop-map, length-map, map-append, take-map}
use Rattle.std.specs.List.{list_any, position, position_or_len, remove}
use Rattle.std.specs.Prelude.{◌||◌, None, Some, cond, nat_lt, not}
use Rattle.htl_dialogue.specs.Sayings.{before_files, ends_options, names_among, only}

place_of_texts : {X : Type 0} (text_of : X → List ℕ) (test : List ℕ → Bool) (xs : List X)
    → position_or_len (λ x. test (text_of x)) xs ≡ position_or_len test (map text_of xs)
place_of_texts text_of test [] = refl
place_of_texts text_of test (x ∷ xs) = ap (λ n. cond (not (test (text_of x))) (1 + n) 0) (place_of_texts text_of test xs)

-- the first of which the text passes is where the first of the texts that passes is
pub position_of_texts : {X : Type 0} (text_of : X → List ℕ) (test : List ℕ → Bool) (xs : List X)
    → position (λ x. test (text_of x)) xs ≡ position test (map text_of xs)
position_of_texts text_of test xs =
    ap (λ n. cond (nat_lt n (length xs)) (Some n) None) (place_of_texts text_of test xs)
    ∙ ap (λ n. cond (nat_lt (position_or_len test (map text_of xs)) n) (Some (position_or_len test (map text_of xs))) None)
    (sym (length-map xs text_of))

-- one of them passes where one of the texts does
pub any_of_texts : {X : Type 0} (text_of : X → List ℕ) (test : List ℕ → Bool) (xs : List X)
    → list_any (λ x. test (text_of x)) xs ≡ list_any test (map text_of xs)
any_of_texts text_of test [] = refl
any_of_texts text_of test (x ∷ xs) = ap (λ b. test (text_of x) || b) (any_of_texts text_of test xs)

pub before_some : {X : Type 0} (text_of : X → List ℕ) (xs : List X) (n : ℕ) → position ends_options (map text_of xs) ≡ Some n
    → map text_of (take n xs) ≡ before_files (map text_of xs)
unfolding before_files
before_some text_of xs n is = rw is (sym (take-map text_of n xs))

pub before_none : {X : Type 0} (text_of : X → List ℕ) (xs : List X) → position ends_options (map text_of xs) ≡ None
    → map text_of xs ≡ before_files (map text_of xs)
unfolding before_files
before_none text_of xs is = rw is refl

pub names_some : {X : Type 0} (text_of : X → List ℕ) (xs : List X) (n : ℕ) → position ends_options (map text_of xs) ≡ Some n
    → map text_of (remove xs n) ≡ names_among (map text_of xs)
unfolding names_among
names_some text_of xs n is =
    rw (is, take-map text_of n xs, drop-map text_of (suc n) xs) (map-append text_of (take n xs) (drop (suc n) xs))

pub names_none : {X : Type 0} (text_of : X → List ℕ) (xs : List X) → position ends_options (map text_of xs) ≡ None
    → map text_of xs ≡ names_among (map text_of xs)
unfolding names_among
names_none text_of xs is = rw is refl

-- behind other names a name isn't the only one
pub one_of_several : {X : Type 0} (text_of : X → List ℕ) (others : List X) (name : X) → others ≢ []
    → only (map text_of (others ++ name ∷ [])) ≡ None
one_of_several text_of [] name some = absurd (some refl)
one_of_several text_of (x ∷ []) name some = refl
one_of_several text_of (x ∷ (y ∷ more)) name some = refl
