-- Faults as the program prints them, and the texts that `explain` takes for them (this project's own).
use Rattle.std.specs.Prelude.{◌≡◌, ◌==◌, ◌⊎◌, ◌++◌, ℕ, Bool, false, List, [], ◌∷◌, Some, Contains, codes, if◌then◌else◌, map}
use Rattle.std.specs.Char.{to_ascii_lowercase}
use Rattle.std.specs.List.{list_any}
use Rattle.std.specs.Str.{trim, trim_end}
use Rattle.htl_command.specs.Codes.{code_name}
use Rattle.htl_command.specs.Values.{sequence_in}
use Rattle.htl_command.specs.declared.code.Code.{Code}
use Rattle.htl_command.specs.declared.code.Code.TheVariants.{S11, S12, S13, S14, S15, H1, F17, C2, C3, C4, C5, C7, C8, C10}
use Rattle.htl_command.specs.declared.code.Code.TheVariants.{Y2, Y3, Y4, Y5, Y6, E1}
use Rattle.htl_command.specs.declared.printed.Form.{Form}
use Rattle.htl_command.specs.declared.printed.Form.TheVariants as form
use Rattle.htl_command.specs.declared.printed.Parts.{Parts}
use Rattle.htl_command.specs.declared.printed.Parts.TheVariants.{Nothing, Number, Numbers, Field}
use Rattle.htl_command.specs.declared.printed.PrintedFault.{PrintedFault}

-- what may follow each code in parentheses
abbrev pub form_of : Code → Form
form_of S11 = form.Number
form_of S12 = form.Number
form_of S13 = form.Number
form_of S14 = form.Number
form_of S15 = form.Number
form_of H1 = form.Number
form_of F17 = form.Number
form_of C2 = form.Number
form_of C3 = form.Number
form_of C4 = form.Numbers
form_of C5 = form.Number
form_of C7 = form.Numbers
form_of C8 = form.Numbers
form_of C10 = form.Number
form_of Y2 = form.Number
form_of Y3 = form.Number
form_of Y4 = form.Number
form_of Y5 = form.Number
form_of Y6 = form.Number
form_of E1 = form.Field
form_of code = form.Nothing

-- the fields of the lines of a text, by their names
abbrev pub field_names : List (List ℕ)
field_names =
    codes "version" ∷ codes "trace" ∷ codes "processors" ∷ codes "processor" ∷ codes "number" ∷ codes "handle" ∷ codes "object"
    ∷ codes "tag" ∷ codes "seq" ∷ codes "process" ∷ codes "thread" ∷ codes "frame" ∷ []

-- two numbers with a comma between them, after which there may be a blank
pub record AreTwo (m n : ℕ) (text : List ℕ) : Type 0 where
  pub first : List ℕ
  pub comma : List ℕ
  pub second : List ℕ
  pub whole : text ≡ first ++ (comma ++ second)
  pub blank : (comma ≡ codes ",") ⊎ (comma ≡ codes ", ")
  pub left : sequence_in first ≡ Some m
  pub right : sequence_in second ≡ Some n

-- what stands in parentheses after a code of this form; each number is one as sequences have it
abbrev pub AreInside : Form → Parts → List ℕ → Type 0
AreInside form.Number (Number n) text = sequence_in text ≡ Some n
AreInside form.Numbers (Numbers m n) text = AreTwo m n text
AreInside form.Field (Field name) text = (name.now ≡ text) × Contains field_names text
AreInside f parts text = ⊥

-- what follows the name of a code: nothing, or parts in parentheses
abbrev pub Follow : Form → Parts → List ℕ → Type 0
Follow f Nothing tail = tail ≡ []
Follow f parts tail = (text : List ℕ) × (tail ≡ codes "(" ++ (text ++ codes ")")) × AreInside f parts text

abbrev pub is_colon : ℕ → Bool
is_colon b = b == 58

abbrev pub is_parenthesis : ℕ → Bool
is_parenthesis b = b == 40

-- what stands behind the last colon, or all where there is none
abbrev pub behind_colon : List ℕ → List ℕ
behind_colon [] = []
behind_colon (b ∷ rest) = if list_any is_colon (b ∷ rest) then behind_colon rest else b ∷ rest

-- a name is that of the code, in either case and with or without blanks behind it
abbrev pub IsNameOf : Code → List ℕ → Type 0
IsNameOf code name = map to_ascii_lowercase (trim_end name) ≡ map to_ascii_lowercase (code_name code)

-- A text is a printed fault, alone or at the end of its line, with or without blanks round it: up to the first parenthesis the name of its
-- code, and then what follows it.
pub record IsPrinted (text : List ℕ) (fault : PrintedFault) : Type 0 where
  pub name : List ℕ
  pub tail : List ℕ
  pub whole : trim (behind_colon text) ≡ name ++ tail
  pub up_to : list_any is_parenthesis name ≡ false
  pub code : IsNameOf fault.code name
  pub parts : Follow (form_of fault.code) fault.parts tail
