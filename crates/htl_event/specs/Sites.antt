-- Which call stacks left handles open, in any process (this project's own), over a set of events given by membership.
use Rattle.std.specs.Prelude.{◌≡◌, ℕ, ◌<◌, ◌≤◌, List, Contains, Option, Some, None, length, count_by}
use Rattle.std.specs.Ordering.{nat_cmp, ordering_then}
use Rattle.std.specs.declared.cmp.Ordering.TheVariants.{Less}
use Rattle.htl_event.specs.Events.{Event}
use Rattle.htl_event.specs.declared.since.Since.{Since}
use Rattle.htl_event.specs.declared.since.Since.TheVariants.{Snapshot, Sequence}
use Rattle.htl_event.specs.declared.site.Site.{Site as SiteWith}
use Rattle.htl_event.specs.Slots.{base_of}
use Rattle.htl_event.specs.Stacks.{stack_cmp}
use Rattle.htl_event.specs.Members.{Lists}
use Rattle.htl_event.specs.Handles.{IsOpen, IsMark}
use Rattle.htl_event.specs.Tallies.{has_stack}

-- A site as a value: its stack is the list of its addresses.
abbrev pub Site : Type 0
Site = SiteWith (List ℕ)

-- The handle that the event opened counts: it was opened after the sequence, or after the mark of its own process. All count where
-- none is given.
abbrev pub CountsSince : (Event → Type 0) → Option Since → Event → Type 0
CountsSince among None e = Unit {0}
CountsSince among (Some (Sequence moment)) e = moment < e.sequence
CountsSince among (Some Snapshot) e = (mark : ℕ) → IsMark among e.process mark → mark < e.sequence

abbrev pub ByProcessAndBase : Event → Event → Type 0
ByProcessAndBase a b = ordering_then (nat_cmp a.process b.process) (nat_cmp (base_of a.handle) (base_of b.handle)) ≡ Less

-- Open handles of all processes: the events that opened them, of those that count, by process and base handle.
abbrev pub AreOpenAnywhere : (Event → Type 0) → Option Since → List Event → Type 0
AreOpenAnywhere among since rows = Lists ByProcessAndBase (λ e. IsOpen among e.process e × CountsSince among since e) rows

-- one of the handles is of the process and was opened with the stack
abbrev pub HasHandle : List Event → List ℕ → ℕ → Type 0
HasHandle handles stack process = (e : Event) × Contains handles e × (e.process ≡ process) × (e.stack ≡ stack)

-- so many processes have one of the handles that were opened with the stack
abbrev pub HaveProcesses : List Event → List ℕ → ℕ → Type 0
HaveProcesses handles stack n =
    (processes : List ℕ) × Lists (λ p q. p < q) (HasHandle handles stack) processes × (n ≡ length processes)

-- Site: a stack, how many of the handles were opened with it, and how many processes have one of these.
pub record IsSite (handles : List Event) (site : Site) : Type 0 where
  pub opened : site.handles ≡ count_by (has_stack site.stack) handles
  pub owners : HaveProcesses handles site.stack site.processes

abbrev pub MostHandlesFirst : Site → Site → Type 0
MostHandlesFirst a b = ordering_then (nat_cmp b.handles a.handles) (stack_cmp a.stack b.stack) ≡ Less

-- Sites: the stacks that opened some of the open handles that count, and at least `at_least` of them, the most handles first and then
-- in stack order.
pub record IsSites (among : Event → Type 0) (since : Option Since) (at_least : ℕ) (rows : List Site) : Type 0 where
  pub handles : List Event
  pub are : AreOpenAnywhere among since handles
  pub stacks :
      Lists MostHandlesFirst (λ site. IsSite handles site × ((0 < site.handles) × (at_least ≤ site.handles))) rows
