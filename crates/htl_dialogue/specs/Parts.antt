-- For the clauses of private functions: where the first argument of a line ends.
use Rattle.std.specs.Prelude.{◌≡◌, ⊤, ℕ, zero, suc, ◌&&◌, Bool, false, not, List, [], ◌∷◌, filter, if◌then◌else◌}
use Rattle.std.specs.List.{list_all}
use Rattle.std.specs.Str.{is_utf8}
use Rattle.htl_dialogue.specs.Lines.{arguments_of, is_blank, is_quote, is_some, turned}
use Rattle.htl_dialogue.specs.declared.splitting.ArgumentFault.{ArgumentFault}
use Rattle.htl_dialogue.specs.declared.splitting.ArgumentFault.TheVariants.{OpenQuote, NotUtf8, NoMemory}

-- the place of the first blank that separates, or the length
abbrev pub part_end : Bool → List ℕ → ℕ
part_end quoted [] = zero
part_end quoted (b ∷ more) = if is_blank b && not quoted then zero else suc (part_end (turned quoted b) more)

abbrev pub unquoted : List ℕ → List ℕ
unquoted bytes = filter (λ b. not (is_quote b)) bytes

-- a part as an argument, where something but quotes stands there
abbrev pub kept : List ℕ → List (List ℕ)
kept part = filter is_some (unquoted part ∷ [])

-- an argument is not text, which is reported only with P
abbrev pub IsNotUtf8With : Type 0 → ArgumentFault → Type 0
IsNotUtf8With P OpenQuote = ⊥
IsNotUtf8With P NotUtf8 = P
IsNotUtf8With P NoMemory = ⊤

abbrev pub IsNotUtf8 : List ℕ → ArgumentFault → Type 0
IsNotUtf8 line = IsNotUtf8With (list_all is_utf8 (arguments_of line) ≡ false)
