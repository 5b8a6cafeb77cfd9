-- The lines of an answer as JSON: one for its first line and one for each row of its text, in the same order.
use Rattle.std.specs.Prelude.{◌++◌, ◌∷◌, ◌≡◌, [], ℕ, IsUtf8, List, Option, Some, None, length, map}
use Rattle.json.specs.Json.{Json, document}
use Rattle.json.specs.Print.{print}
use Rattle.json.specs.Tree.{json_tokens}
use Rattle.htl_event.specs.declared.summary.ObjectRow.{ObjectRow}
use Rattle.htl_event.specs.declared.summary.ProcessRow.{ProcessRow}
use Rattle.htl_question.specs.Rows.{Found, Listed, opens, listing, tags, bad, leaks, sites, stacks, balances, tag_stacks, points, summary}
use Rattle.htl_question.specs.declared.answer.Totals.{Totals}
use Rattle.htl_taken.specs.declared.gap.Gap.{Gap}
use Rattle.htl_symbols.specs.Ranges.{Range}
use Rattle.htl_json.specs.Heads.{head, summary_head}
use Rattle.htl_json.specs.Rows.{bad_reference, balance_row, counted_stack, leak, listed, missing, opened, point_row, process_row}
use Rattle.htl_json.specs.Rows.{site_row, tag_balance, tag_stack, unbalanced_object}
use Rattle.htl_report.specs.Addresses.{line_feed}
use Rattle.htl_report.specs.Rows.{first_rows}

-- a value's text, with no blank outside of strings
abbrev pub text_of : Json → List ℕ
text_of value = print (json_tokens value)

abbrev pub json_line : Json → List ℕ
json_line value = text_of value ++ line_feed

-- a reader of JSON finds the value in its text, its fields in their order
abbrev pub IsReadBack : Json → Type 0
IsReadBack value = IsUtf8 (text_of value) × (document (text_of value) ≡ Some value)

-- the first line, which counts all rows, and those of the rows that are printed
abbrev pub list_values : {R : Type 0} → (R → Json) → Option ℕ → Found → Option ℕ → Option ℕ → List R → List Json
list_values value_of objects answer until top rows =
    (head answer.question answer.since objects until (length rows) ∷ []) ++ map value_of (first_rows top rows)

-- the totals, and then all gaps, the first processes and the first objects
abbrev pub summary_values : Found → Option ℕ → Option ℕ → Totals → List Gap → List ProcessRow → List ObjectRow → List Json
summary_values answer until top totals gaps processes objects =
    (summary_head answer.question answer.since until totals (length gaps) (length processes) (length objects) ∷ [])
    ++ (map missing gaps ++ (map process_row (first_rows top processes) ++ map unbalanced_object (first_rows top objects)))

-- with these rows
abbrev pub values_with : List Range → Option ℕ → Option ℕ → Found → Listed → List Json
values_with symbols until top answer (opens rows) = list_values (opened symbols) None answer until top rows
values_with symbols until top answer (listing rows) = list_values (listed symbols) None answer until top rows
values_with symbols until top answer (tags rows) = list_values tag_balance None answer until top rows
values_with symbols until top answer (bad rows) = list_values (bad_reference symbols) None answer until top rows
values_with symbols until top answer (leaks rows) = list_values (leak symbols) None answer until top rows
values_with symbols until top answer (sites rows) = list_values (site_row symbols) None answer until top rows
values_with symbols until top answer (stacks rows) = list_values (counted_stack symbols) None answer until top rows
values_with symbols until top answer (balances objects rows) = list_values balance_row (Some objects) answer until top rows
values_with symbols until top answer (tag_stacks rows) = list_values (tag_stack symbols) None answer until top rows
values_with symbols until top answer (points rows) = list_values point_row None answer until top rows
values_with symbols until top answer (summary totals gaps processes objects) =
    summary_values answer until top totals gaps processes objects

-- the values of an answer's lines
abbrev pub values_of : List Range → Option ℕ → Option ℕ → Found → List Json
values_of symbols until top answer = values_with symbols until top answer answer.rows
