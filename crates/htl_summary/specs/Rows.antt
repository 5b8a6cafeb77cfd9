-- Rows of processes, from what was counted and from tables.
use Rattle.std.specs.Prelude.{◌≡◌, List, [], ◌∷◌, Contains}
use Rattle.htl_event.specs.Events.{Event}
use Rattle.htl_event.specs.Handles.{IsMark, IsLastExit}
use Rattle.htl_event.specs.Summaries.{HasOutstanding}
use Rattle.htl_event.specs.declared.summary.ProcessRow.{ProcessRow}
use Rattle.htl_summary.specs.declared.usage.Usage.{Usage}

-- the row of a process that used handles so often
pub record IsRowOf (events : List Event) (usage : Usage) (row : ProcessRow) : Type 0 where
  pub owner : row.process ≡ usage.process
  pub opened : row.opens ≡ usage.opens
  pub closed : row.closes ≡ usage.closes
  pub misused : row.bad ≡ usage.bad
  pub handles : HasOutstanding events row.process row.outstanding
  pub marked : IsMark (Contains events) row.process row.mark
  pub exited : IsLastExit (Contains events) row.process row.exit

-- one row for each process
abbrev pub AreRowsOf : List Event → List Usage → List ProcessRow → Type 0
AreRowsOf events [] [] = Unit {0}
AreRowsOf events [] (row ∷ rows) = ⊥
AreRowsOf events (usage ∷ used) [] = ⊥
AreRowsOf events (usage ∷ used) (row ∷ rows) = IsRowOf events usage row × AreRowsOf events used rows
