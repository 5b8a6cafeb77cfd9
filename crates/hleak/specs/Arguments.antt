-- The arguments that are read (this project's own).
use Rattle.std.specs.Prelude.{◌≡◌, ◌∷◌, [], Bool, true, false, List, String, codes, map, string_bytes}

-- those that were given, or where none was and standard input is a terminal, the one for the short help
abbrev pub AreArguments : {A : Type 0} → Bool → List (String A) → List (String A) → Type 0
AreArguments true [] arguments = map string_bytes arguments ≡ codes "-h" ∷ []
AreArguments false [] arguments = arguments ≡ []
AreArguments is_typed (word ∷ words) arguments = arguments ≡ word ∷ words
