-- What a summary states of processes and objects (this project's own), over a list of events.
use Rattle.std.specs.Prelude.{◌≡◌, ℕ, ◌+◌, ◌<◌, ◌⊎◌, Bool, true, false, not, ◌&&◌, ◌==◌, List, length, count_by, sum_by, Contains}
use Rattle.std.specs.Ordering.{nat_cmp, ordering_then}
use Rattle.std.specs.declared.cmp.Ordering.TheVariants.{Less}
use Rattle.htl_event.specs.Events.{Event}
use Rattle.htl_event.specs.declared.kind.Kind.{Kind}
use Rattle.htl_event.specs.declared.kind.Kind.TheVariants.{Opened, Closed, BadRef, Ref, Deref}
use Rattle.htl_event.specs.declared.slot.Count.{Count}
use Rattle.htl_event.specs.declared.summary.ProcessRow.{ProcessRow}
use Rattle.htl_event.specs.declared.summary.ObjectRow.{ObjectRow}
use Rattle.htl_event.specs.Members.{Lists}
use Rattle.htl_event.specs.Handles.{IsOutstanding, IsMark, IsLastExit}
use Rattle.htl_event.specs.Tallies.{IsTags}

-- ---- processes

abbrev pub is_open : Kind → Bool
is_open Opened = true
is_open other = false

abbrev pub is_close : Kind → Bool
is_close Closed = true
is_close other = false

abbrev pub is_bad : Kind → Bool
is_bad BadRef = true
is_bad other = false

-- how many events of the process are of a kind that passes
abbrev pub how_many : (Kind → Bool) → List Event → ℕ → ℕ
how_many is_kind events process = count_by (λ e. is_kind e.kind && process == e.process) events

-- the process has so many outstanding handles
abbrev pub HasOutstanding : List Event → ℕ → ℕ → Type 0
HasOutstanding events process n = (opens : List Event) × IsOutstanding (Contains events) process opens × (n ≡ length opens)

-- Process row: a process with an open, a close or a bad reference, how many handles it has outstanding, how often it
-- opened, closed and badly referenced one, its snapshot mark and its last exit.
pub record IsProcessRow (events : List Event) (row : ProcessRow) : Type 0 where
  pub some : 0 < row.opens + (row.closes + row.bad)
  pub handles : HasOutstanding events row.process row.outstanding
  pub opened : row.opens ≡ how_many is_open events row.process
  pub closed : row.closes ≡ how_many is_close events row.process
  pub misused : row.bad ≡ how_many is_bad events row.process
  pub marked : IsMark (Contains events) row.process row.mark
  pub exited : IsLastExit (Contains events) row.process row.exit

abbrev pub MostOutstandingFirst : ProcessRow → ProcessRow → Type 0
MostOutstandingFirst a b = ordering_then (nat_cmp b.outstanding a.outstanding) (nat_cmp a.process b.process) ≡ Less

-- Processes: their rows, the most outstanding handles first, and then by process.
abbrev pub IsProcesses : List Event → List ProcessRow → Type 0
IsProcesses events rows = Lists MostOutstandingFirst (IsProcessRow events) rows

-- ---- objects

-- the event references or dereferences the object
pub record IsOfObject (object : ℕ) (e : Event) : Type 0 where
  pub kind : (e.kind ≡ Ref) ⊎ (e.kind ≡ Deref)
  pub target : e.object ≡ object

abbrev pub IsObject : List Event → ℕ → Type 0
IsObject events object = (e : Event) × Contains events e × IsOfObject object e

-- Number of objects: how many objects have an event.
abbrev pub IsNumberOfObjects : List Event → ℕ → Type 0
IsNumberOfObjects events n = (objects : List ℕ) × Lists (λ a b. a < b) (IsObject events) objects × (n ≡ length objects)

-- the references under a tag differ from the dereferences (the WDK on reference tracing with tags)
abbrev pub is_unbalanced : List ℕ × Count → Bool
is_unbalanced tag = not (tag.1.plus == tag.1.minus)

-- Object row: how many tags the object has, how many of them are unbalanced, and the sums of references and of dereferences
-- over all of them.
pub record IsObjectRow (events : List Event) (row : ObjectRow) : Type 0 where
  pub balances : List (List ℕ × Count)
  pub all : IsTags events row.object balances
  pub number : row.tags ≡ length balances
  pub differing : row.unbalanced ≡ count_by is_unbalanced balances
  pub plus : row.refs ≡ sum_by (λ tag. tag.1.plus) balances
  pub minus : row.derefs ≡ sum_by (λ tag. tag.1.minus) balances

abbrev pub MostUnbalancedFirst : ObjectRow → ObjectRow → Type 0
MostUnbalancedFirst a b = ordering_then (nat_cmp b.unbalanced a.unbalanced) (nat_cmp a.object b.object) ≡ Less

-- Unbalanced objects: those with an unbalanced tag, the most unbalanced tags first, and then by object.
abbrev pub IsUnbalanced : List Event → List ObjectRow → Type 0
IsUnbalanced events rows = Lists MostUnbalancedFirst (λ row. IsObjectRow events row × (0 < row.unbalanced)) rows

-- ---- laws

-- two lists with the same events at other places have one answer to each question about processes and objects
pub record SummariesAreDetermined (xs ys : List Event) : Type 0 where
  pub processes : (a b : List ProcessRow) → IsProcesses xs a → IsProcesses ys b → a ≡ b
  pub unbalanced : (a b : List ObjectRow) → IsUnbalanced xs a → IsUnbalanced ys b → a ≡ b
  pub objects : (a b : ℕ) → IsNumberOfObjects xs a → IsNumberOfObjects ys b → a ≡ b
