-- How lines are added to a text, and fields to the object of a line.
use Rattle.std.specs.Prelude.{◌++◌, ◌∷◌, ◌≡◌, ◌≤◌, [], ⊤, ℕ, All, IsUtf8, List, flat_map}
use Rattle.json.specs.Json.{Json, string}
use Rattle.json.specs.Lex.{tokens}
use Rattle.json.specs.Print.{print}
use Rattle.json.specs.Token.{Token, key}
use Rattle.json.specs.Tree.{depth, json_tokens}
use Rattle.htl_json.specs.Lines.{IsReadBack, json_line}
use Rattle.htl_json.specs.Records.{Field, count_fields, field_of, quantity, shown_address, shown_handle, tag_fields}
use Rattle.htl_json.specs.declared.lines.Lines.{Lines}
use Rattle.htl_json.specs.declared.members.Member.{Member}
use Rattle.htl_json.specs.declared.members.Member.TheVariants.{Text, Number, Optional, Handle, Address, Tag, Counts}
use Rattle.htl_report.specs.Addresses.{line_feed}

-- the fields that are written of a member
abbrev pub member_fields : Member → List Field
member_fields (Text name text) = (name.now, string text.now) ∷ []
member_fields (Number name n) = (name.now, quantity n) ∷ []
member_fields (Optional name n) = field_of name.now n
member_fields (Handle name handle) = (name.now, shown_handle handle) ∷ []
member_fields (Address name address) = (name.now, shown_address address) ∷ []
member_fields (Tag tag) = tag_fields tag
member_fields (Counts references dereferences) = count_fields references dereferences

-- the tokens of a field
abbrev pub field_tokens : Field → List Token
field_tokens f = key f.0 ∷ json_tokens f.1

abbrev pub fields_tokens : List Field → List Token
fields_tokens fields = flat_map field_tokens fields

-- no field is deeper than d
abbrev pub AreWithin : ℕ → List Field → Type 0
AreWithin d [] = ⊤
AreWithin d (f ∷ fs) = (depth f.1 ≤ d) × AreWithin d fs

-- tokens are added to those of the line that is being written, and the lines before it stay
abbrev pub AddsTokens : Lines → Lines → List Token → Type 0
AddsTokens old new ts = (new.writer.before ≡ old.writer.before) × (new.writer.tokens ≡ old.writer.tokens ++ ts)

-- fields are added to the object that is being written, none of them deeper than a stack
abbrev pub AddsFields : Lines → Lines → List Field → Type 0
AddsFields old new fields = AddsTokens old new (fields_tokens fields) × AreWithin 2 fields

-- tokens that a reader finds in their text
abbrev pub AreRead : List Token → Type 0
AreRead ts = IsUtf8 (print ts) × (tokens (print ts) ≡ ts)

-- the object is closed, and its text is a line
abbrev pub EndsLine : Lines → Lines → List Token → Type 0
EndsLine old new ts =
    AreRead ts × (new.writer.tokens ≡ []) × (new.writer.before ≡ old.writer.before ++ (print ts ++ line_feed))

-- a line is added, and none is begun
abbrev pub AddsLine : Lines → Lines → Json → Type 0
AddsLine old new value =
    IsReadBack value × (new.writer.tokens ≡ []) × (new.writer.before ≡ old.writer.before ++ json_line value)

-- a line is added for each row
abbrev pub AddsLines : {R : Type 0} → (R → Json) → Lines → Lines → List R → Type 0
AddsLines value_of old new rows =
    All (λ row. IsReadBack (value_of row)) rows × (new.writer.tokens ≡ [])
    × (new.writer.before ≡ old.writer.before ++ flat_map (λ row. json_line (value_of row)) rows)

-- a line is added for each value
abbrev pub AddsValues : Lines → Lines → List Json → Type 0
AddsValues old new values = AddsLines {R = Json} (λ value. value) old new values
