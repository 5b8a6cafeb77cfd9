-- Laws of rows.
use Rattle.std.specs.Prelude.{◌≡◌, ◌<◌, ◌≤◌, ◌^◌, ℕ, List, [], ◌∷◌, length}
use Rattle.std.specs.List.{AllByRecursion}
use Rattle.htl_event.specs.Events.{Event}
use Rattle.htl_segment.specs.Traces.{Trace}
use Rattle.htl_analyst.specs.States.{State as Analyst, folded_at}
use Rattle.htl_analyst.specs.Right.{IsState, IsRight, IsStanding}
use Rattle.htl_analyst.specs.Same.{IsSame}
use Rattle.htl_state.specs.declared.fault.Fault.TheVariants as faults
use Rattle.htl_state.specs.Format.{spelling}
use Rattle.htl_state.specs.Rows.{State}
use Rattle.htl_state.specs.WellFormed.{WellFormed}
use Rattle.htl_analyst.specs.declared.fault.RestoreFault.TheVariants as restores
use Rattle.htl_saved.specs.AnalystRows.{AreRowsOf, IsSaved, IsKept}
use Rattle.htl_saved.specs.Loads.{IsLoaded, LoadRefused}
use Rattle.htl_saved.specs.Restored.{state_told}
use Rattle.htl_saved.specs.declared.fault.LoadFault.{LoadFault}
use Rattle.htl_saved.specs.declared.fault.LoadFault.TheVariants.{Format, Bounds}

-- an analyst has one list of rows, so one spelling
abbrev pub AreDetermined : Type 0
AreDetermined = (a : Analyst) (r s : State) → AreRowsOf a r → AreRowsOf a s → r ≡ s

-- the event has no object and no tag, as every open and close of a segment
pub record IsPlain (e : Event) : Type 0 where
  pub object : e.object ≡ 0
  pub tag : e.tag ≡ 0 ∷ 0 ∷ 0 ∷ 0 ∷ []

-- a state whose latest events have no object and no tag
pub record IsPlainState (a : Analyst) : Type 0 where
  pub state : IsState a
  pub plain : (p : ℕ) → p < a.processors → AllByRecursion IsPlain (folded_at a.parts p).latest

-- rows tell the state: states that have the same rows are the same
abbrev pub TellTheState : Type 0
TellTheState = (a b : Analyst) (rows : State) → IsPlainState a → IsPlainState b → AreRowsOf a rows → AreRowsOf b rows → IsSame a b

-- rows of a state tell it: the state that they tell is this one
abbrev pub TellItself : Type 0
TellItself = (a : Analyst) (rows : State) → IsPlainState a → AreRowsOf a rows → state_told rows ≡ a

-- a state that is right about a trace is plain
abbrev pub ArePlain : Type 0
ArePlain = (T : Trace) (a : Analyst) → IsRight a T → IsKept a → IsPlainState a

-- Rows of a standing state are well-formed, where they have no more stacks than a row can name and no more bytes than a memory can hold.
-- The format asks that no segment is held at its front, and a state that isn't standing may hold one there.
abbrev pub AreWellFormed : Type 0
AreWellFormed = (T : Trace) (a : Analyst) (rows : State) → IsStanding a T → IsKept a → AreRowsOf a rows
    → length rows.stacks ≤ 2 ^ 32 → length (spelling rows) < 2 ^ 64 → WellFormed rows

-- memory was refused
abbrev pub IsWantOfMemory : LoadFault → Type 0
IsWantOfMemory (Format error) = error.fault ≡ faults.NoMemory
IsWantOfMemory (Bounds fault) = fault ≡ restores.NoMemory

-- whatever the bytes are loaded as is this state, and they are refused only if memory is
pub record AreLoadedAs (a : Analyst) (bytes : List ℕ) : Type 0 where
  pub loaded : (b : Analyst) → IsLoaded bytes b → b ≡ a
  pub refused : (fault : LoadFault) → LoadRefused bytes fault → IsWantOfMemory fault

-- bytes that were saved of a standing state are loaded as it, unless memory is refused
abbrev pub AreLoadedAgain : Type 0
AreLoadedAgain = (T : Trace) (a : Analyst) (bytes : List ℕ) → IsStanding a T → IsKept a → IsSaved a bytes → length bytes < 2 ^ 64
    → AreLoadedAs a bytes
