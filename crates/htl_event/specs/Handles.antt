-- Which handles of a process are outstanding, over a set of events given by membership. The set of a
-- list is `Contains events`.
use Rattle.std.specs.Prelude.{◌≡◌, ◌≢◌, ℕ, ◌<◌, ◌≤◌, Bool, true, false, nat_lt, if◌then◌else◌}
use Rattle.std.specs.Prelude.{List, [], ◌∷◌, Option, Some, None, MatchOption, ◌⊎◌}
use Rattle.std.specs.List.{AllByRecursion}
use Rattle.htl_event.specs.Events.{Event}
use Rattle.htl_event.specs.declared.kind.Kind.{Kind}
use Rattle.htl_event.specs.declared.kind.Kind.TheVariants.{Opened, Closed, BadRef, Snapshot, Exited}
use Rattle.htl_event.specs.Slots.{base_of}
use Rattle.htl_event.specs.Members.{Lists}

abbrev pub opens_or_closes : Kind → Bool
opens_or_closes Opened = true
opens_or_closes Closed = true
opens_or_closes other = false

-- The event opens or closes the base handle of the process. (`!htrace`: a handle value names an entry of
-- one process's table, and a closed value may be given out again.)
pub record OpensOrCloses (process base : ℕ) (e : Event) : Type 0 where
  pub kind : opens_or_closes e.kind ≡ true
  pub owner : e.process ≡ process
  pub handle : base_of e.handle ≡ base

-- Latest event: it has the greatest sequence of those that open or close the base handle of the process.
pub record IsLatest (among : Event → Type 0) (process base : ℕ) (e : Event) : Type 0 where
  pub here : among e
  pub of_handle : OpensOrCloses process base e
  pub greatest : (x : Event) → among x → OpensOrCloses process base x → x.sequence ≤ e.sequence

-- the latest event of the handle, or none where no event opens or closes it
abbrev pub LatestIs : (Event → Type 0) → ℕ → ℕ → Option Event → Type 0
LatestIs among process base o =
    MatchOption o ((x : Event) → among x → OpensOrCloses process base x → ⊥) (IsLatest among process base)

-- the later of two events, the first where both have one sequence
abbrev pub later : Option Event → Option Event → Option Event
later None b = b
later (Some x) None = Some x
later (Some x) (Some y) = if nat_lt x.sequence y.sequence then Some y else Some x

-- Greatest sequence: the greatest that an event of the set has, 0 where there are none.
pub record IsGreatestSequence (among : Event → Type 0) (n : ℕ) : Type 0 where
  pub bound : (x : Event) → among x → x.sequence ≤ n
  pub reached : (n ≡ 0) ⊎ ((x : Event) × among x × (x.sequence ≡ n))

-- the event is of the kind and of the process
abbrev pub IsOf : Kind → ℕ → Event → Type 0
IsOf kind process e = (e.kind ≡ kind) × (e.process ≡ process)

-- Last exit: the greatest sequence of a process exit of the process, 0 where there is none.
abbrev pub IsLastExit : (Event → Type 0) → ℕ → ℕ → Type 0
IsLastExit among process n = IsGreatestSequence (λ e. among e × IsOf Exited process e) n

-- The event opened a handle of the process that is still open: it is the handle's latest event and came
-- after the last exit, which closes all handles of its process (Windows Internals).
pub record IsOpen (among : Event → Type 0) (process : ℕ) (e : Event) : Type 0 where
  pub opens : e.kind ≡ Opened
  pub latest : IsLatest among process (base_of e.handle) e
  pub outlives : (n : ℕ) → IsLastExit among process n → n < e.sequence

abbrev pub ByBase : Event → Event → Type 0
ByBase a b = base_of a.handle < base_of b.handle

-- Outstanding handles (`!htrace`: opened and still open): the events that opened them, by base handle.
abbrev pub IsOutstanding : (Event → Type 0) → ℕ → List Event → Type 0
IsOutstanding among process rows = Lists ByBase (IsOpen among process) rows

-- Snapshot mark (`!htrace -snapshot`): the greatest sequence of a snapshot of the process, 0 where there is none.
abbrev pub IsMark : (Event → Type 0) → ℕ → ℕ → Type 0
IsMark among process n = IsGreatestSequence (λ e. among e × IsOf Snapshot process e) n

-- Difference (`!htrace -diff`): the outstanding handles that were opened after a moment.
abbrev pub IsDiff : (Event → Type 0) → ℕ → ℕ → List Event → Type 0
IsDiff among process since rows = Lists ByBase (λ e. IsOpen among process e × (since < e.sequence)) rows

-- the event is an open, a close or a bad reference of the base handle of the process
pub record IsOfHandle (process base : ℕ) (e : Event) : Type 0 where
  pub kind : (e.kind ≡ Opened) ⊎ ((e.kind ≡ Closed) ⊎ (e.kind ≡ BadRef))
  pub owner : e.process ≡ process
  pub handle : base_of e.handle ≡ base

abbrev pub NewestFirst : Event → Event → Type 0
NewestFirst a b = b.sequence < a.sequence

-- Listing (`!htrace` of one handle): its opens, closes and bad references, the newest first.
abbrev pub IsListing : (Event → Type 0) → ℕ → ℕ → List Event → Type 0
IsListing among process handle rows =
    Lists NewestFirst (λ e. among e × IsOfHandle process (base_of handle) e) rows

-- no two places of the list have the same sequence
abbrev pub HaveOwnSequences : List Event → Type 0
HaveOwnSequences [] = Unit {0}
HaveOwnSequences (e ∷ es) = AllByRecursion (λ x. e.sequence ≢ x.sequence) es × HaveOwnSequences es
