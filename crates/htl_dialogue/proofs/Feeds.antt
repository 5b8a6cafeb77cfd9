-- A text is cut at its first line feed, into what stands before it and what follows.
use Rattle.std.proofs.Common.{◌≡◌, ◌+◌, ◌-◌, ◌<◌, ◌≤◌, ℕ, Bool, true, false, List, ◌∷◌, ◌++◌, length, take, drop, get_or, refl, arith}
use Rattle.std.specs.Prelude.{None, Some, nat_lt, position}
use Rattle.std.specs.List.{position_or_len}
use Rattle.std.proofs.lemmas.Bool.{eqb-true}
use Rattle.std.proofs.lemmas.Bool.Decides.{nat_tests}
use Rattle.std.proofs.lemmas.Grind.{common_steps}
use Rattle.std.proofs.lemmas.List.{drop-drop, drop-take}
use Rattle.std.proofs.lemmas.List.Sums.{fails_before_first, passes_at_first, split_at_first}
use Rattle.htl_dialogue.specs.Lines.{is_feed}
use Rattle.htl_dialogue.specs.Reading.{HasNoFeed}

-- a text before its first line feed, and what follows
pub record CutAt (text : List ℕ) (place : ℕ) : Type 0 where
  pub within : place < length text
  pub before : HasNoFeed (take place text)
  pub parts : text ≡ take place text ++ 10 ∷ drop (place + 1) text

first_is : (text : List ℕ) → position_or_len is_feed text < length text → CutAt text (position_or_len is_feed text)
first_is text within =
    let place = position_or_len is_feed text in
    let here : get_or text place 0 ≡ 10 = eqb-true (get_or text place 0) 10 (passes_at_first is_feed text 0 within) in
    let cut = split_at_first is_feed text 0 within in
    record {
      within = within;
      before = λ k d below.
          let inside : k < place = grind (arith, common_steps) in
          let fails = fails_before_first is_feed text k d inside in
          grind (arith, common_steps);
      parts = rw here at cut;
    }

-- where a search finds the first line feed, the text is cut there
pub cut_at : (text : List ℕ) (place : ℕ) → position is_feed text ≡ Some place → CutAt text place
cut_at text place is = by_case (nat_lt (position_or_len is_feed text) (length text)) refl
  where
    by_case : (b : Bool) → nat_lt (position_or_len is_feed text) (length text) ≡ b → CutAt text place
    by_case true e =
        let within : position_or_len is_feed text < length text = grind (arith, nat_tests) in
        let same : position_or_len is_feed text ≡ place = let some = rw e at is in cc in
        rw (← same) (first_is text within)
    by_case false e = let none = rw e at is in cc

-- where a search finds none, the text has no line feed
pub no_feed : (text : List ℕ) → position is_feed text ≡ None → HasNoFeed text
no_feed text is = by_case (nat_lt (position_or_len is_feed text) (length text)) refl
  where
    by_case : (b : Bool) → nat_lt (position_or_len is_feed text) (length text) ≡ b → HasNoFeed text
    by_case true e = let none = rw e at is in cc
    by_case false e = λ k d below.
        let all : length text ≤ position_or_len is_feed text = grind (arith, nat_tests) in
        fails_before_first is_feed text k d (omega (arith, all, below))

-- what is left of a buffer's bytes after some of them
pub left : (items : List ℕ) (taken read n : ℕ) → taken + n ≤ read
    → drop n (take (read - taken) (drop taken items)) ≡ take (read - (taken + n)) (drop (taken + n) items)
left items taken read n within =
    let split : read - taken ≡ n + (read - (taken + n)) = omega (arith, within) in
    rw (split, drop-take n (read - (taken + n)) (drop taken items), drop-drop n taken items) refl
