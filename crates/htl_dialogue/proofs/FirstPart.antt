-- The arguments of a line are its first part, where something stands there, and those of what follows.
use Rattle.std.proofs.Common.{◌≡◌, ℕ, Bool, true, false, List, [], ◌∷◌, ◌++◌, take, drop, map, refl, arith, ap}
use Rattle.std.specs.Prelude.{◌&&◌, not, filter}
use Rattle.std.specs.List.{slice_split}
use Rattle.std.proofs.lemmas.Bool.Decides.{nat_tests}
use Rattle.htl_dialogue.specs.Lines.{argument_of, arguments_of, is_blank, is_some, marked, separates, turned}
use Rattle.htl_dialogue.specs.Parts.{kept, part_end, unquoted}

-- a blank that separates turns nothing
blank_turns : (quoted : Bool) (x : ℕ) → (is_blank x && not quoted) ≡ true → turned quoted x ≡ false
blank_turns true x parts = grind (arith, nat_tests)
blank_turns false x parts = grind (arith, nat_tests)

-- the first part, and the arguments that follow
record FirstPart (quoted : Bool) (line : List ℕ) : Type 0 where
  more : List (List (ℕ × Bool))
  cut : slice_split separates (marked quoted line) ≡ marked quoted (take (part_end quoted line) line) ∷ more
  later : filter is_some (map argument_of more)
      ≡ filter is_some (map argument_of (slice_split separates (marked false (drop 1 (drop (part_end quoted line) line)))))

first_part : (quoted : Bool) (line : List ℕ) → FirstPart quoted line
first_part quoted [] = record { more = []; cut = refl; later = refl }
first_part quoted (x ∷ xs) = by_case quoted x xs (first_part (turned quoted x) xs) (is_blank x && not quoted) refl
  where
    by_case : (quoted : Bool) (x : ℕ) (xs : List ℕ) → FirstPart (turned quoted x) xs → (b : Bool) → (is_blank x && not quoted) ≡ b
        → FirstPart quoted (x ∷ xs)
    by_case quoted x xs f true e = record {
      more = slice_split separates (marked (turned quoted x) xs);
      cut = rw e refl;
      later = rw (e, blank_turns quoted x e) refl;
    }
    by_case quoted x xs f false e = record { more = f.more; cut = rw (e, f.cut) refl; later = rw e f.later }

marks_gone : (quoted : Bool) (xs : List ℕ) → map (λ m. m.0) (marked quoted xs) ≡ xs
marks_gone quoted [] = refl
marks_gone quoted (x ∷ xs) = ap (λ ys. x ∷ ys) (marks_gone (turned quoted x) xs)

-- a part is kept as an argument, where something but quotes stands there
part_kept : (part : List ℕ) (more : List (List (ℕ × Bool)))
    → filter is_some (map argument_of (marked false part ∷ more)) ≡ kept part ++ filter is_some (map argument_of more)
part_kept part more = rw (marks_gone false part) (by_case (unquoted part) (map argument_of more))
  where
    by_case : (argument : List ℕ) (others : List (List ℕ)) → filter is_some (argument ∷ others)
        ≡ filter is_some (argument ∷ []) ++ filter is_some others
    by_case [] others = refl
    by_case (b ∷ bs) others = refl

-- the arguments of a line are what is kept of its first part, and then those behind the byte that ends it
pub begins : (line part rest others : List ℕ) → part ≡ take (part_end false line) line → rest ≡ drop (part_end false line) line
    → others ≡ drop 1 rest → arguments_of line ≡ kept part ++ arguments_of others
unfolding arguments_of
begins line part rest others is after then =
    let f = first_part false line in
    rw (then, after, f.cut, is, ← f.later) (part_kept (take (part_end false line) line) f.more)
