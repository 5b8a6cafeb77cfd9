-- Lines that are added one after another are those of the values of an answer.
use Rattle.std.proofs.Common.{◌≡◌, ◌≤◌, ◌<◌, ◌+◌, ℕ, List, Option, [], ◌∷◌, ◌++◌, append-nil, append_assoc, ap, get_or, length, map, subst, sym, take, ◌∙◌}
use Rattle.std.proofs.lemmas.List.{take_all, take_more}
use Rattle.std.proofs.lemmas.Grind.{flat_map-append}
use Rattle.std.proofs.lemmas.List.Elements.{All-append, All-cons, All-map, All-nil}
use Rattle.std.proofs.lemmas.List.Folds.{flat_map-map}
use Rattle.std.specs.List.{flat_map}
use Rattle.json.specs.Json.{Json}
use Rattle.htl_json.specs.Lines.{IsReadBack, json_line, list_values, values_with}
use Rattle.htl_json.specs.Writing.{AddsLine, AddsLines, AddsValues}
use Rattle.htl_json.specs.declared.lines.Lines.{Lines}
use Rattle.htl_question.specs.Rows.{Found, Listed}
use Rattle.htl_symbols.specs.Ranges.{Range}

-- one more row adds its line
pub row_added : {R : Type 0} (value_of : R → Json) (rows : List R) (i : ℕ) (row : R) (a b c : Lines) → i < length rows → row ≡ get_or rows i row
    → AddsLines value_of a b (take i rows) → AddsLine b c (value_of row) → AddsLines value_of a c (take (i + 1) rows)
row_added {R} value_of rows i row a b c within at h k =
    let before = a.writer.before in
    let IsRead = λ (x : R). IsReadBack (value_of x) in
    let line = λ (x : R). json_line (value_of x) in
    let so_far = take i rows in
    subst (AddsLines value_of a c) (sym (take_more rows i row within)) (subst (λ x. AddsLines value_of a c (so_far ++ x ∷ [])) at (
      All-append IsRead so_far (row ∷ []) h.0 (All-cons IsRead row [] k.0 (All-nil IsRead)),
      k.1,
      k.2 ∙ ap (λ text. text ++ line row) h.2 ∙ append_assoc before (flat_map line so_far) (line row)
          ∙ ap (λ text. before ++ (flat_map line so_far ++ text)) (sym (append-nil (line row)))
          ∙ ap (λ text. before ++ text) (sym (flat_map-append line so_far (row ∷ []))),
    ))

-- after the last row all lines were added
pub rows_done : {R : Type 0} (value_of : R → Json) (rows : List R) (i : ℕ) (a b : Lines) → length rows ≤ i → AddsLines value_of a b (take i rows)
    → AddsLines value_of a b rows
rows_done value_of rows i a b all h = subst (AddsLines value_of a b) (take_all i rows all) h

-- some values and then others
pub values_then : (vs ws : List Json) (a b c : Lines) → AddsValues a b vs → AddsValues b c ws → AddsValues a c (vs ++ ws)
values_then vs ws a b c h k =
    let before = a.writer.before in (
      All-append IsReadBack vs ws h.0 k.0,
      k.1,
      k.2 ∙ ap (λ text. text ++ flat_map json_line ws) h.2
          ∙ append_assoc before (flat_map json_line vs) (flat_map json_line ws) ∙ ap (λ text. before ++ text) (sym (flat_map-append json_line vs ws)),
    )

-- a line is a list of one value
pub line_alone : (v : Json) (a b : Lines) → AddsLine a b v → AddsValues a b (v ∷ [])
line_alone v a b h =
    (All-cons IsReadBack v [] h.0 (All-nil IsReadBack), h.1, h.2 ∙ ap (λ text. a.writer.before ++ text) (sym (append-nil (json_line v))))

-- lines of rows are those of the values of the rows
pub rows_as_values : {R : Type 0} (value_of : R → Json) (rows : List R) (a b : Lines) → AddsLines value_of a b rows → AddsValues a b (map value_of rows)
rows_as_values value_of rows a b h =
    (All-map IsReadBack value_of rows h.0, h.1, h.2 ∙ ap (λ text. a.writer.before ++ text) (sym (flat_map-map json_line value_of rows)))

-- a first line and then those of the rows that are shown
pub shown_added : {R : Type 0} (value_of : R → Json) (v : Json) (rows shown : List R) (a b c : Lines) → shown ≡ rows → AddsLine a b v
    → AddsLines value_of b c shown → AddsValues a c ((v ∷ []) ++ map value_of rows)
shown_added value_of v rows shown a b c same h k =
    values_then (v ∷ []) (map value_of rows) a b c (line_alone v a b h)
    (rows_as_values value_of rows b c (subst (λ xs. AddsLines value_of b c xs) same k))

-- the values of a list are those of the rows, where these are that list
pub list_added : {R : Type 0} (value_of : R → Json) (objects : Option ℕ) (symbols : List Range) (until top : Option ℕ) (answer : Found)
    (all rows : Listed) (items given : List R) (a b : Lines) → all ≡ rows
    → values_with symbols until top answer rows ≡ list_values value_of objects answer until top items → given ≡ items
    → AddsValues a b (list_values value_of objects answer until top given) → AddsValues a b (values_with symbols until top answer all)
list_added value_of objects symbols until top answer all rows items given a b are form same h =
    subst (λ (r : Listed). AddsValues a b (values_with symbols until top answer r)) (sym are) (subst (AddsValues a b) (sym form)
    (subst (λ xs. AddsValues a b (list_values value_of objects answer until top xs)) same h))
