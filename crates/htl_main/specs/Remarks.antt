-- What is told of an answer beside its lines (this project's own).
use Rattle.std.specs.Prelude.{◌≡◌, ℕ, List, Option}
use Rattle.htl_segment.specs.Content.{Content}
use Rattle.htl_segment.specs.Traces.{Trace}
use Rattle.htl_case.specs.Cases.{IsCaseOf}
use Rattle.htl_symbols.specs.Ranges.{Range}
use Rattle.htl_report.specs.Names.{none_named, shown_addresses}
use Rattle.htl_command.specs.declared.question.Job.{Job}
use Rattle.htl_question.specs.Rows.{Found, has_finding, is_unmarked}
use Rattle.htl_evidence.specs.Bases.{IsAnswer}
use Rattle.htl_inputs.specs.Inputs.{DecodeAll}
use Rattle.htl_main.specs.Moments.{IsNamedMoment}
use Rattle.htl_main.specs.Printed.{HasSymbols}
use Rattle.htl_main.specs.declared.remarks.Remarks.{Remarks}

-- of an answer whose addresses are printed by a table of symbols: whether it finds something, whether it is since a snapshot that isn't
-- there, and whether it shows addresses of which the table has none
abbrev pub remarks_on : List Range → Job → Found → Remarks
remarks_on table job answer = record {
  has_finding = has_finding answer.rows;
  is_unmarked = is_unmarked answer;
  is_unnamed = none_named table (shown_addresses job.top answer.rows);
}

-- of the answer to the job's question over a trace
abbrev pub RemarksOver : Trace → List Range → Job → Remarks → Type 0
RemarksOver T table job remarks =
    (until : Option ℕ) × IsNamedMoment T job.until until
    × (answer : Found) × IsAnswer T until job.question answer × (remarks ≡ remarks_on table job answer)

-- of the answer over the case of decoded segments
abbrev pub RemarksIn : List Content → Option (List ℕ) → Job → Remarks → Type 0
RemarksIn segments symbols job remarks =
    (T : Trace) × IsCaseOf segments T × (table : List Range) × HasSymbols symbols table × RemarksOver T table job remarks

-- of the answer over the case of all segments of the inputs
abbrev pub ReportsRemarks : Job → List (List ℕ) → Option (List ℕ) → Remarks → Type 0
ReportsRemarks job inputs symbols remarks =
    (segments : List Content) × DecodeAll job.setting.form inputs segments × RemarksIn segments symbols job remarks
