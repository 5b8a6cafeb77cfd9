-- What a run prints for a job, its inputs and its symbol table, or why it is refused.
use Rattle.std.specs.Prelude.{◌≡◌, ◌≢◌, ℕ, true, ◌<◌, ◌≤◌, List, [], flat_map, Option, Some, None, Result, Ok, Err}
use Rattle.htl_segment.specs.Traces.{Trace}
use Rattle.htl_case.specs.Cases.{IsCaseOf}
use Rattle.htl_case.specs.Faults.{IsOutcome}
use Rattle.htl_symbols.specs.Ranges.{Range}
use Rattle.htl_symbols.specs.Reading.{Reads, records_of}
use Rattle.htl_symbols.specs.declared.fault.SymbolFault.{SymbolFault}
use Rattle.htl_symbols.specs.declared.fault.SymbolFault.TheVariants as symbol_faults
use Rattle.htl_report.specs.Folded.{folded_lines}
use Rattle.htl_report.specs.Texts.{text_of}
use Rattle.htl_json.specs.Lines.{json_line, values_of}
use Rattle.htl_command.specs.declared.question.Format.{Format}
use Rattle.htl_command.specs.declared.question.Format.TheVariants.{Plain, Json, Folded}
use Rattle.htl_command.specs.declared.question.Job.{Job}
use Rattle.htl_question.specs.Rows.{Found}
use Rattle.htl_evidence.specs.Bases.{IsAnswer}
use Rattle.htl_inputs.specs.CutInputs.{Decoding, IsDecoding}
use Rattle.htl_inputs.specs.Inputs.{IsReportedOfInput, StopsAtInput}
use Rattle.htl_inputs.specs.declared.fault.RunFault.{RunFault}
use Rattle.htl_inputs.specs.declared.fault.RunFault.TheVariants.{Workers, Segment, Hex, Case, Incomplete, NoSubject, Symbols, UnknownCut}
use Rattle.htl_main.specs.Completeness.{ReportsMissing}
use Rattle.htl_main.specs.Moments.{IsCompleteUntil, IsNamedMoment}
use Rattle.htl_main.specs.Subjects.{HasAbsence}
use Rattle.htl_main.specs.declared.completed.Absence.{Absence}

-- the lines of an answer in each form, with all rows or the first so many
abbrev pub lines_of_answer : Format → List Range → Option ℕ → Option ℕ → Found → List ℕ
lines_of_answer Plain table until top answer = text_of table until top answer
lines_of_answer Json table until top answer = flat_map json_line (values_of table until top answer)
lines_of_answer Folded table until top answer = folded_lines table until top answer answer.rows

-- the lines of the answer to the job's question over a trace, of which events count up to the job's moment
abbrev pub IsText : Trace → List Range → Job → List ℕ → Type 0
IsText T table job lines =
    (until : Option ℕ) × IsNamedMoment T job.until until
    × (answer : Found) × IsAnswer T until job.question answer × (lines ≡ lines_of_answer job.format table until job.top answer)

-- the table of symbols, which has no range where none is given
abbrev pub HasSymbols : Option (List ℕ) → List Range → Type 0
HasSymbols None table = table ≡ []
HasSymbols (Some bytes) table = Reads (records_of bytes) (Ok table)

-- the first fault of the table of symbols (out of memory is none)
abbrev pub HasSymbolFault : Option (List ℕ) → SymbolFault → Type 0
HasSymbolFault None fault = ⊥
HasSymbolFault (Some bytes) fault = (fault ≢ symbol_faults.NoMemory) × Reads (records_of bytes) (Err fault)

-- the case of the segments, which is complete up to the job's moment where the job asks for that
abbrev pub IsAcceptedCase : Decoding → Job → Trace → Type 0
IsAcceptedCase given job T = IsCaseOf given.segments T × (job.setting.complete ≡ true → IsCompleteUntil T given.cuts job.until)

-- The lines are those of the answer over the case. Where the status says what an answer finds, something can be found: there is an event
-- of what it is about, and what counts goes on after the sequence since which it asks.
pub record AreAnswerLines (given : Decoding) (symbols : Option (List ℕ)) (job : Job) (lines : List ℕ) : Type 0 where
  pub trace : Trace
  pub taken : IsAcceptedCase given job trace
  pub table : List Range
  pub named : HasSymbols symbols table
  pub about : job.exit_code ≡ true → HasAbsence trace job None
  pub is : IsText trace table job lines

-- The job asks for a complete case, and this fault says why it isn't complete up to the job's moment.
abbrev pub IsMissing : Decoding → Job → RunFault → Type 0
IsMissing given job fault =
    (job.setting.complete ≡ true)
    × (T : Trace) × IsCaseOf given.segments T × (IsCompleteUntil T given.cuts job.until → ⊥) × ReportsMissing T given.cuts fault

-- What was decoded comes to the lines of the answer; or the first rule that the segments break as a case; or, where the job asks for a
-- complete one, the least key that the case misses, or else the first cut input whose segment isn't known; or the first fault of the
-- symbols;
-- or else, where the status says what the answer finds, that nothing could be found of what is asked about.
abbrev pub IsPrinted : Decoding → Option (List ℕ) → Job → Result (List ℕ) RunFault → Type 0
IsPrinted given symbols job (Ok lines) = AreAnswerLines given symbols job lines
IsPrinted given symbols job (Err (Case fault)) = IsOutcome given.segments (Err fault)
IsPrinted given symbols job (Err (Incomplete processor number)) = IsMissing given job (Incomplete processor number)
IsPrinted given symbols job (Err (UnknownCut input)) = IsMissing given job (UnknownCut input)
IsPrinted given symbols job (Err (Symbols fault)) = (T : Trace) × IsAcceptedCase given job T × HasSymbolFault symbols fault
IsPrinted given symbols job (Err NoSubject) =
    (job.exit_code ≡ true)
    × (T : Trace) × IsAcceptedCase given job T × (table : List Range) × HasSymbols symbols table
    × (absence : Absence) × HasAbsence T job (Some absence)
IsPrinted given symbols job (Err other) = ⊥

-- the number of workers is allowed
abbrev pub WorkersFit : ℕ → Type 0
WorkersFit workers = (0 < workers) × (workers ≤ 8)

-- the same job by so many workers
abbrev pub by_workers : ℕ → Job → Job
by_workers workers job = record job { setting = record (job.setting) { workers = workers } }

-- Printed: what a run comes to. Its inputs are decoded in order, each to its end, and the first fault ends the
-- run. (A failed read or write, a refused allocation and a refused thread are no faults of what is given.)
abbrev pub Printed : Job → List (List ℕ) → Option (List ℕ) → Result (List ℕ) RunFault → Type 0
Printed job inputs symbols (Err Workers) = WorkersFit job.setting.workers → ⊥
Printed job inputs symbols (Err (Segment at offset fault)) =
    WorkersFit job.setting.workers × StopsAtInput job.setting.form (IsReportedOfInput job.setting.form) inputs (Segment at offset fault)
Printed job inputs symbols (Err (Hex at fault)) =
    WorkersFit job.setting.workers × StopsAtInput job.setting.form (IsReportedOfInput job.setting.form) inputs (Hex at fault)
Printed job inputs symbols outcome =
    WorkersFit job.setting.workers
    × (given : Decoding) × IsDecoding job.setting.form inputs given × IsPrinted given symbols job outcome
