-- The tokens of a record are those of its fields, and those of an array those of its items.
use Rattle.std.proofs.Common.{◌≡◌, List, [], ◌∷◌, ◌++◌, ap, refl, sym, append_assoc, ◌∙◌}
use Rattle.std.specs.List.{flat_map}
use Rattle.json.specs.Json.{Json}
use Rattle.json.specs.Token.{end_array, end_object, key}
use Rattle.json.specs.Tree.{items_tokens, json_tokens, members_tokens}
use Rattle.json.specs.Value.{items_of}
use Rattle.htl_json.specs.Records.{Field, members_of}
use Rattle.htl_json.specs.Writing.{fields_tokens}

-- the tokens of the fields, and the end of the object
pub tokens_of_members : (fs : List Field) → members_tokens (members_of fs) ≡ fields_tokens fs ++ end_object ∷ []
tokens_of_members [] = refl
tokens_of_members (f ∷ fs) =
    ap (λ l. key f.0 ∷ (json_tokens f.1 ++ l)) (tokens_of_members fs)
    ∙ sym (ap (λ l. key f.0 ∷ l) (append_assoc (json_tokens f.1) (fields_tokens fs) (end_object ∷ [])))

-- the tokens of the items, and the end of the array
pub tokens_of_items : (js : List Json) → items_tokens (items_of js) ≡ flat_map json_tokens js ++ end_array ∷ []
tokens_of_items [] = refl
tokens_of_items (j ∷ js) =
    ap (λ l. json_tokens j ++ l) (tokens_of_items js) ∙ sym (append_assoc (json_tokens j) (flat_map json_tokens js) (end_array ∷ []))
