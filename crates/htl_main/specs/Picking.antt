-- For the clauses of private functions: what is picked of one source more, and of all, and why no answer is made of it.
use Rattle.std.specs.Prelude.{⊤, ℕ, Bool, true, false, List, ◌++◌, Option}
use Rattle.htl_event.specs.declared.interest.Interest.{Interest}
use Rattle.htl_event.specs.declared.interest.Interest.TheVariants.{OpenHandles}
use Rattle.htl_segment.specs.Content.{Content}
use Rattle.htl_segment.specs.Picks.{ArePicksOf}
use Rattle.htl_segment.specs.declared.picks.Picks.{Picks}
use Rattle.htl_segment.specs.Traces.{Trace}
use Rattle.htl_case.specs.Cases.{IsCaseOf}
use Rattle.htl_case.specs.Picked.{Picked, IsPickedOf, IsPickedUntil}
use Rattle.htl_command.specs.declared.question.InputForm.{InputForm}
use Rattle.htl_command.specs.declared.question.Job.{Job}
use Rattle.htl_inputs.specs.Ends.{IsInput}
use Rattle.htl_inputs.specs.Inputs.{DecodeAll}
use Rattle.htl_inputs.specs.declared.cuts.CutEnd.{CutEnd}
use Rattle.htl_inputs.specs.CutInputs.{AreCut, AreCutEnds}
use Rattle.htl_inputs.specs.declared.fault.RunFault.{RunFault}
use Rattle.htl_inputs.specs.declared.fault.RunFault.TheVariants.{Incomplete, NoSubject, Symbols, Memory, UnknownCut}
use Rattle.htl_main.specs.Coverages.{CoversSegments}
use Rattle.htl_main.specs.Remarks.{RemarksIn}
use Rattle.htl_main.specs.Subjects.{HasAbsenceIn}
use Rattle.htl_main.specs.declared.completed.Completed.{Completed}
use Rattle.htl_reading.specs.declared.outcome.EarlyEnd.{EarlyEnd}
use Rattle.htl_main.specs.declared.picks.picking.AllPicks.{AllPicks}

-- only the open handles of a process are asked about
abbrev pub is_of_open_handles : Interest → Bool
is_of_open_handles (OpenHandles process) = true
is_of_open_handles other = false

-- the picks are those of this input too, after whichever they were of before
pub record ArePicksMore (form : InputForm) (old new : Picks) (input : List ℕ) (end : Option EarlyEnd) : Type 0 where
  pub more : List Content
  pub are : IsInput form input more end
  pub picks : (interest : Interest) (segments : List Content) → ArePicksOf interest old segments
      → ArePicksOf interest new (segments ++ more)

-- the picks are those of all inputs
pub record ArePicksOfAll (form : InputForm) (interest : Interest) (inputs : List (List ℕ)) (picks : Picks) : Type 0 where
  pub segments : List Content
  pub decoded : DecodeAll form inputs segments
  pub picks_of : ArePicksOf interest picks segments

-- what was picked of all inputs, and which of them are cut
pub record AreAllPicked (form : InputForm) (interest : Interest) (inputs : List (List ℕ)) (all : AllPicks) : Type 0 where
  pub picks : ArePicksOfAll form interest inputs all.picks
  pub cuts : AreCutEnds form.hex inputs all.cuts.items

-- what is asked about was picked of the case of these segments
pub record IsPickedFor (interest : Interest) (case : Picked) (segments : List Content) : Type 0 where
  pub trace : Trace
  pub case_of : IsCaseOf segments trace
  pub picked : IsPickedOf interest trace case

-- what is asked about was picked, up to a moment, of the case of these segments
pub record IsPickedAsOf (interest : Interest) (until : Option ℕ) (case : Picked) (segments : List Content) : Type 0 where
  pub trace : Trace
  pub case_of : IsCaseOf segments trace
  pub picked : IsPickedUntil interest trace until case

-- what is reported beside the answer holds of the case of these segments, and of the inputs that were cut
pub record ReportsOf (segments : List Content) (symbols : Option (List ℕ)) (job : Job) (cuts : List CutEnd) (completed : Completed)
    : Type 0 where
  pub coverage : CoversSegments segments completed.coverage
  pub cut_are : (hex : Bool) (inputs : List (List ℕ)) → AreCutEnds hex inputs cuts → AreCut hex inputs completed.cut
  pub absence : HasAbsenceIn segments job completed.absence
  pub remarks : RemarksIn segments symbols job completed.remarks

-- the fault says why a case isn't complete
abbrev pub NamesMissing : RunFault → Type 0
NamesMissing (Incomplete processor number) = ⊤
NamesMissing (UnknownCut input) = ⊤
NamesMissing other = ⊥

-- why an answer over a case isn't made
abbrev pub EndsAnswer : RunFault → Type 0
EndsAnswer (Incomplete processor number) = ⊤
EndsAnswer (UnknownCut input) = ⊤
EndsAnswer (Symbols fault) = ⊤
EndsAnswer NoSubject = ⊤
EndsAnswer Memory = ⊤
EndsAnswer other = ⊥
