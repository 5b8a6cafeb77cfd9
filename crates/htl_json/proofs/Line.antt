-- An object that was begun, given fields and ended is a line, which reads back as the record of these fields.
use Rattle.std.proofs.Common.{◌≡◌, ◌≤◌, ◌<◌, ◌+◌, ℕ, List, [], ◌∷◌, ◌++◌, ap, append-nil, append_assoc, arith, get_or, length, option_and_then, subst, sym}
use Rattle.std.proofs.Common.{take, ◌∙◌}
use Rattle.std.proofs.lemmas.Grind.{flat_map-append}
use Rattle.std.proofs.lemmas.List.{take_all, take_more}
use Rattle.std.specs.List.{flat_map}
use Rattle.json.proofs.Printed.Trees.{value-json_tokens}
use Rattle.json.specs.Json.{Json, array, if_last, max_depth, value}
use Rattle.json.specs.Print.{print}
use Rattle.json.specs.Token.{begin_array, begin_object, end_array, end_object, key}
use Rattle.json.specs.Tree.{depth, items_tokens, json_tokens, members_tokens}
use Rattle.json.specs.Value.{items_of}
use Rattle.htl_json.proofs.Depths.{AreWithin-append, depth_of_members}
use Rattle.htl_json.proofs.Tokens.{tokens_of_items, tokens_of_members}
use Rattle.htl_json.specs.Lines.{IsReadBack}
use Rattle.htl_json.specs.Records.{Field, members_of, record_of}
use Rattle.htl_json.specs.Writing.{AddsFields, AddsLine, AddsTokens, AreRead, AreWithin, EndsLine, field_tokens, fields_tokens, member_fields}
use Rattle.htl_json.specs.declared.lines.Lines.{Lines}
use Rattle.htl_json.specs.declared.members.Member.{Member}
use Rattle.htl_report.specs.Addresses.{line_feed}

read_back : (fs : List Field) → AreWithin 2 fs → AreRead (json_tokens (record_of fs)) → IsReadBack (record_of fs)
read_back fs within read =
    let j = record_of fs in
    let found = value-json_tokens j max_depth [] (omega (arith, depth_of_members 2 fs within)) in (
      read.0,
      ap (λ ts. option_and_then (λ p. if_last p.0 p.1) (value max_depth ts)) (read.1 ∙ sym (append-nil (json_tokens j)))
          ∙ ap (option_and_then (λ p. if_last p.0 p.1)) found,
    )

-- a key and a value
pub field_added : (name : List ℕ) (j : Json) (old a new : Lines) → depth j ≤ 2 → AddsTokens old a (key name ∷ []) → AddsTokens a new (json_tokens j)
    → AddsFields old new ((name, j) ∷ [])
field_added name j old a new within h k =
    let before = old.writer.tokens in (
      (
        k.0 ∙ h.0,
        k.1 ∙ ap (λ ts. ts ++ json_tokens j) h.1 ∙ append_assoc before (key name ∷ []) (json_tokens j)
            ∙ ap (λ ts. before ++ ts) (sym (append-nil (key name ∷ json_tokens j))),
      ),
      (within, tt),
    )

-- fields, and then more of them
pub fields_then : (fs gs : List Field) (a b c : Lines) → AddsFields a b fs → AddsFields b c gs → AddsFields a c (fs ++ gs)
fields_then fs gs a b c h k = (
  (
    k.0.0 ∙ h.0.0,
    k.0.1 ∙ ap (λ ts. ts ++ fields_tokens gs) h.0.1 ∙ append_assoc a.writer.tokens (fields_tokens fs) (fields_tokens gs)
        ∙ ap (λ ts. a.writer.tokens ++ ts) (sym (flat_map-append field_tokens fs gs)),
  ),
  AreWithin-append 2 fs gs h.1 k.1,
)

-- one more member adds its fields
pub member_added : (ms : List Member) (i : ℕ) (m : Member) (a b c : Lines) → i < length ms → AddsFields a b (flat_map member_fields (take i ms))
    → AddsFields b c (member_fields (get_or ms i m)) → AddsFields a c (flat_map member_fields (take (i + 1) ms))
member_added ms i m a b c within h k =
    let so_far = take i ms in
    let next = get_or ms i m in
    subst (λ xs. AddsFields a c (flat_map member_fields xs)) (sym (take_more ms i m within))
    (subst (AddsFields a c) (sym (flat_map-append member_fields so_far (next ∷ [])))
    (fields_then (flat_map member_fields so_far) (flat_map member_fields (next ∷ [])) a b c h
    (subst (AddsFields b c) (sym (append-nil (member_fields next))) k)))

-- after the last member all fields were added
pub members_done : (ms : List Member) (i : ℕ) (a b : Lines) → length ms ≤ i → AddsFields a b (flat_map member_fields (take i ms))
    → AddsFields a b (flat_map member_fields ms)
members_done ms i a b all h = subst (λ xs. AddsFields a b (flat_map member_fields xs)) (take_all i ms all) h

-- an object that was begun, given fields and ended is one line more, the record of these fields
pub line_added : (fs : List Field) (old begun last new : Lines) → old.writer.tokens ≡ [] → AddsTokens old begun (begin_object ∷ [])
    → AddsFields begun last fs → EndsLine last new (last.writer.tokens ++ end_object ∷ []) → AddsLine old new (record_of fs)
line_added fs old begun last new blank begins fields ended =
    let opened : begun.writer.tokens ≡ begin_object ∷ [] = begins.1 ∙ ap (λ ts. ts ++ begin_object ∷ []) blank in
    let held : last.writer.tokens ≡ begin_object ∷ fields_tokens fs = fields.0.1 ∙ ap (λ ts. ts ++ fields_tokens fs) opened in
    let whole : last.writer.tokens ++ end_object ∷ [] ≡ json_tokens (record_of fs) =
    ap (λ ts. ts ++ end_object ∷ []) held ∙ ap (λ ts. begin_object ∷ ts) (sym (tokens_of_members fs)) in
    let line = subst (EndsLine last new) whole ended in
    (read_back fs fields.1 line.0, line.1, line.2 ∙ ap (λ b. b ++ (print (json_tokens (record_of fs)) ++ line_feed)) (fields.0.0 ∙ begins.0))

-- the same within a line
pub record_added : (fs : List Field) (old a b new : Lines) → AddsTokens old a (begin_object ∷ []) → AddsFields a b fs → AddsTokens b new (end_object ∷ [])
    → AddsTokens old new (json_tokens (record_of fs))
record_added fs old a b new h k l =
    let before = old.writer.tokens in
    let fields = fields_tokens fs in (
      l.0 ∙ k.0.0 ∙ h.0,
      l.1 ∙ ap (λ ts. ts ++ end_object ∷ []) (k.0.1 ∙ ap (λ ts. ts ++ fields) h.1)
          ∙ append_assoc (before ++ begin_object ∷ []) fields (end_object ∷ []) ∙ ap (λ ts. (before ++ begin_object ∷ []) ++ ts) (sym (tokens_of_members fs))
          ∙ append_assoc before (begin_object ∷ []) (members_tokens (members_of fs)),
    )

-- a key and an array
pub array_added : (name : List ℕ) (js : List Json) (old a b c new : Lines) → depth (array (items_of js)) ≤ 2 → AddsTokens old a (key name ∷ [])
    → AddsTokens a b (begin_array ∷ []) → AddsTokens b c (flat_map json_tokens js) → AddsTokens c new (end_array ∷ [])
    → AddsFields old new ((name, array (items_of js)) ∷ [])
array_added name js old a b c new within h k l m =
    let before = a.writer.tokens in
    let items = flat_map json_tokens js in
    field_added name (array (items_of js)) old a new within h (
      m.0 ∙ l.0 ∙ k.0,
      m.1 ∙ ap (λ ts. ts ++ end_array ∷ []) (l.1 ∙ ap (λ ts. ts ++ items) k.1)
          ∙ append_assoc (before ++ begin_array ∷ []) items (end_array ∷ []) ∙ ap (λ ts. (before ++ begin_array ∷ []) ++ ts) (sym (tokens_of_items js))
          ∙ append_assoc before (begin_array ∷ []) (items_tokens (items_of js)),
    )
