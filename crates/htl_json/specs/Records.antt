-- What the values of lines are made of: objects of named fields, in the order in which they are written.
use Rattle.std.specs.Prelude.{◌++◌, ◌∷◌, [], ℕ, List, Option, Some, None, codes}
use Rattle.std.specs.Fmt.{decimal}
use Rattle.hex.specs.Hex.{encode_lower}
use Rattle.json.specs.Json.{Json, Members, member, no_members, number, object, string}
use Rattle.htl_numbers.specs.Written.{hex, padded}
use Rattle.htl_report.specs.Parts.{shown_tag}

-- a name and a value
abbrev pub Field : Type 0
Field = List ℕ × Json

abbrev pub members_of : List Field → Members
members_of [] = no_members
members_of (f ∷ fs) = member f.0 f.1 (members_of fs)

abbrev pub record_of : List Field → Json
record_of fields = object (members_of fields)

-- a count, a process, a thread, a sequence or an offset
abbrev pub quantity : ℕ → Json
quantity n = number (decimal n)

-- a field of a number that may be absent
abbrev pub field_of : List ℕ → Option ℕ → List Field
field_of name None = []
field_of name (Some n) = (name, quantity n) ∷ []

-- a handle, as in the text
abbrev pub shown_handle : ℕ → Json
shown_handle handle = string (codes "0x" ++ hex handle)

-- an address or an object, as in the text
abbrev pub shown_address : ℕ → Json
shown_address address = string (codes "0x" ++ padded 16 address)

-- a tag as in the text, and two hexadecimal digits for each of its bytes
unfoldable pub tag_fields : List ℕ → List Field
tag_fields tag = (codes "tag", string (shown_tag tag)) ∷ (codes "bytes", string (encode_lower tag)) ∷ []

-- references and dereferences
unfoldable pub count_fields : ℕ → ℕ → List Field
count_fields references dereferences =
    (codes "references", quantity references) ∷ (codes "dereferences", quantity dereferences) ∷ []
