-- The printed text of an answer, as bytes: a first line, and for each row a line and its stack's lines. If `top` is given, only the
-- first `top` rows are printed. If a moment is given up to which events count, the first line says it. And the stacks of these rows.
use Rattle.std.specs.Prelude.{◌++◌, [], ℕ, List, Option, flat_map, length}
use Rattle.htl_question.specs.Rows.{Found, Listed, opens, listing, tags, bad, leaks, sites, stacks, balances, tag_stacks, points, summary}
use Rattle.htl_symbols.specs.Ranges.{Range}
use Rattle.htl_report.specs.Heads.{head_part}
use Rattle.htl_report.specs.Parts.{count_part}
use Rattle.htl_report.specs.Rows.{bad_lines, balance_row, first_rows, leak_lines, listed_lines, objects_part, open_lines, point_line}
use Rattle.htl_report.specs.Rows.{site_lines, stacks_lines, tag_row, tag_stack_lines}
use Rattle.htl_report.specs.Summaries.{summary_text}

-- the end of the first line, which counts all rows, and the lines of those that are printed
abbrev pub list_text : {R : Type 0} → (R → List ℕ) → Option ℕ → Option ℕ → List R → List ℕ
list_text lines_of until top rows = count_part until (length rows) ++ flat_map lines_of (first_rows top rows)

abbrev pub rows_text : List Range → Option ℕ → Option ℕ → Listed → List ℕ
rows_text symbols until top (opens rows) = list_text (open_lines symbols) until top rows
rows_text symbols until top (listing rows) = list_text (listed_lines symbols) until top rows
rows_text symbols until top (tags rows) = list_text tag_row until top rows
rows_text symbols until top (bad rows) = list_text (bad_lines symbols) until top rows
rows_text symbols until top (leaks rows) = list_text (leak_lines symbols) until top rows
rows_text symbols until top (sites rows) = list_text (site_lines symbols) until top rows
rows_text symbols until top (stacks rows) = list_text (stacks_lines symbols) until top rows
rows_text symbols until top (balances objects rows) = objects_part objects ++ list_text balance_row until top rows
rows_text symbols until top (tag_stacks rows) = list_text (tag_stack_lines symbols) until top rows
rows_text symbols until top (points rows) = list_text point_line until top rows
rows_text symbols until top (summary totals gaps processes objects) = summary_text until top totals gaps processes objects

abbrev pub text_of : List Range → Option ℕ → Option ℕ → Found → List ℕ
text_of symbols until top answer = head_part answer.question answer.since ++ rows_text symbols until top answer.rows

-- what there is of the stacks of the rows that are printed, one after the other; rows of other forms have no stack
abbrev pub of_stacks : {X : Type 0} → (List ℕ → List X) → Option ℕ → Listed → List X
of_stacks items top (opens rows) = flat_map (λ e. items e.stack) (first_rows top rows)
of_stacks items top (listing rows) = flat_map (λ e. items e.stack) (first_rows top rows)
of_stacks items top (bad rows) = flat_map (λ row. items row.1) (first_rows top rows)
of_stacks items top (leaks rows) = flat_map (λ row. items row.0) (first_rows top rows)
of_stacks items top (sites rows) = flat_map (λ site. items site.stack) (first_rows top rows)
of_stacks items top (stacks rows) = flat_map (λ row. items row.0) (first_rows top rows)
of_stacks items top (tag_stacks rows) = flat_map (λ row. items row.by) (first_rows top rows)
of_stacks items top without_stacks = []
