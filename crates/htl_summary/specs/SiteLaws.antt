-- What sites have to do with the other answers about open handles.
use Rattle.std.specs.Prelude.{◌≡◌, ℕ, List, Contains, Option, Some, None, map}
use Rattle.std.specs.List.{sum_by}
use Rattle.htl_event.specs.Events.{Event}
use Rattle.htl_event.specs.Handles.{IsMark}
use Rattle.htl_event.specs.Tallies.{IsLeaksSince}
use Rattle.htl_event.specs.Summaries.{IsProcesses}
use Rattle.htl_event.specs.Sites.{Site, IsSites}
use Rattle.htl_event.specs.declared.since.Since.{Since}
use Rattle.htl_event.specs.declared.since.Since.TheVariants.{Snapshot, Sequence}
use Rattle.htl_event.specs.declared.summary.ProcessRow.{ProcessRow}

-- The handles of all sites are the outstanding handles of all processes.
abbrev pub SitesAddUp : List Event → Type 0
SitesAddUp events = (sites : List Site) (processes : List ProcessRow) → IsSites (Contains events) None 1 sites
    → IsProcesses events processes → sum_by (λ (site : Site). site.handles) sites ≡ sum_by (λ (row : ProcessRow). row.outstanding) processes

-- since when handles of the process count, as a moment
abbrev pub IsMoment : (Event → Type 0) → ℕ → Option Since → Option ℕ → Type 0
IsMoment among process None moment = moment ≡ None
IsMoment among process (Some (Sequence n)) moment = moment ≡ Some n
IsMoment among process (Some Snapshot) moment = (mark : ℕ) × (moment ≡ Some mark) × IsMark among process mark

-- the stack and the handles of a site, as leaks have them
abbrev pub row_of_leaks : Site → List ℕ × ℕ
row_of_leaks site = (site.stack, site.handles)

-- Where all events are of one process, the sites are its leaks.
abbrev pub SitesAreLeaks : List Event → ℕ → Type 0
SitesAreLeaks events process = ((e : Event) → Contains events e → e.process ≡ process) → (since : Option Since) (moment : Option ℕ)
    (at_least : ℕ) (sites : List Site) → IsMoment (Contains events) process since moment → IsSites (Contains events) since at_least sites
    → IsLeaksSince (Contains events) process moment at_least (map row_of_leaks sites)
