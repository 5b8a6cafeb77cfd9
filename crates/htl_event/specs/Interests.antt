-- What a question asks about, and that its answer depends on the events of that alone.
use Rattle.std.specs.Prelude.{◌≡◌, ℕ, Bool, true, false, ◌&&◌, ◌==◌, if◌then◌else◌, List, [], length, Option, ◌↔◌, Contains, filter, map}
use Rattle.htl_event.specs.Events.{Event}
use Rattle.htl_event.specs.declared.interest.Interest.{Interest}
use Rattle.htl_event.specs.declared.interest.Interest.TheVariants.{Process, Handle, OpenHandles, AllHandles, Object, Tag, AllEvents}
use Rattle.htl_event.specs.declared.kind.Kind.{Kind}
use Rattle.htl_event.specs.declared.kind.Kind.TheVariants.{Opened, Closed, Snapshot, Ref, Deref, Exited}
use Rattle.htl_event.specs.declared.growth.Point.{Point}
use Rattle.htl_event.specs.declared.growth.Span.{Span}
use Rattle.htl_event.specs.declared.slot.Count.{Count}
use Rattle.htl_event.specs.declared.summary.ProcessRow.{ProcessRow}
use Rattle.htl_event.specs.declared.summary.ObjectRow.{ObjectRow}
use Rattle.htl_event.specs.Handles.{IsOutstanding, IsMark, IsDiff, IsListing, HaveOwnSequences}
use Rattle.htl_event.specs.Growth.{IsGrowth}
use Rattle.htl_event.specs.Tallies.{IsTags, IsStacks, IsBad, IsLeaksSince}
use Rattle.htl_event.specs.Balances.{Balance, has_tag, AreBalances, AreTagStacks}
use Rattle.htl_event.specs.Summaries.{IsProcesses, IsNumberOfObjects, IsUnbalanced}
use Rattle.htl_event.specs.declared.since.Since.{Since}
use Rattle.htl_event.specs.Sites.{Site, IsSites}
use Rattle.htl_event.specs.Slots.{base_of}

-- what tells which handles are open: opens and closes, exits, which close all handles of their process, and snapshots
abbrev pub tracks_handles : Kind → Bool
tracks_handles Opened = true
tracks_handles Closed = true
tracks_handles Snapshot = true
tracks_handles Exited = true
tracks_handles other = false

abbrev pub names_object : Kind → Bool
names_object Ref = true
names_object Deref = true
names_object other = false

-- the event is one of those that are asked about
abbrev pub wants : Interest → Event → Bool
wants (Process process) e = e.process == process
wants (Handle process base) e = e.process == process && base_of e.handle == base
wants (OpenHandles process) e = e.process == process && tracks_handles e.kind
wants AllHandles e = tracks_handles e.kind
wants (Object object) e = e.object == object
wants (Tag tag) e = names_object e.kind && has_tag tag e
wants AllEvents e = true

-- The question needs the stack of such an event. An answer about open handles has those of opens alone, and a summary none.
abbrev pub needs_stack : Interest → Kind → Bool
needs_stack (OpenHandles process) Opened = true
needs_stack (OpenHandles process) other = false
needs_stack AllHandles Opened = true
needs_stack AllHandles other = false
needs_stack AllEvents kind = false
needs_stack interest kind = true

abbrev pub without_stack : Event → Event
without_stack e = record {
  sequence = e.sequence;
  kind = e.kind;
  process = e.process;
  thread = e.thread;
  handle = e.handle;
  object = e.object;
  tag = e.tag;
  stack = [];
}

abbrev pub as_needed : Interest → Event → Event
as_needed interest e = if needs_stack interest e.kind then e else without_stack e

-- the events that are asked about, each as the question needs it
abbrev pub wanted : Interest → List Event → List Event
wanted interest events = map (as_needed interest) (filter (wants interest) events)

-- the answers about the open handles of a process are the same over both lists
pub record HaveSameOpenHandles (process : ℕ) (events own : List Event) : Type 0 where
  pub outstanding :
      (rows : List Event) → IsOutstanding (Contains events) process rows ↔ IsOutstanding (Contains own) process rows
  pub mark : (n : ℕ) → IsMark (Contains events) process n ↔ IsMark (Contains own) process n
  pub diff : (since : ℕ) (rows : List Event) → IsDiff (Contains events) process since rows ↔ IsDiff (Contains own) process since rows
  pub leaks :
      (since : Option ℕ) (at_least : ℕ) (rows : List (List ℕ × ℕ)) → IsLeaksSince (Contains events) process since at_least rows
      ↔ IsLeaksSince (Contains own) process since at_least rows
  pub growth :
      (span : Option Span) (points : ℕ) (rows : List Point) → IsGrowth span points events process rows
      ↔ IsGrowth span points own process rows

-- all answers about a process over all events are those over its own events, in whatever order
pub record ProcessNeedsItsOwn (process : ℕ) (events own : List Event) : Type 0 where
  pub open_handles : HaveSameOpenHandles process events own
  pub listing :
      (handle : ℕ) (rows : List Event) → IsListing (Contains events) process handle rows
      ↔ IsListing (Contains own) process handle rows
  pub bad : (rows : List (ℕ × List ℕ × ℕ)) → IsBad events process rows ↔ IsBad own process rows

-- the listing of a handle over all events is the one over its own events, in whatever order
abbrev pub ListingNeedsItsHandle : ℕ → ℕ → List Event → List Event → Type 0
ListingNeedsItsHandle process handle events own =
    (rows : List Event) → IsListing (Contains events) process handle rows ↔ IsListing (Contains own) process handle rows

-- the sites of the events are those of what tells of open handles, in whatever order
abbrev pub SitesNeedHandles : List Event → List Event → Type 0
SitesNeedHandles events own = (since : Option Since) (at_least : ℕ) (rows : List Site) → IsSites (Contains events) since at_least rows
    ↔ IsSites (Contains own) since at_least rows

-- the answers about an object over all events are those over its own events, in whatever order
pub record ObjectNeedsItsOwn (object : ℕ) (events own : List Event) : Type 0 where
  pub tags : (rows : List (List ℕ × Count)) → IsTags events object rows ↔ IsTags own object rows
  pub stacks : (tag : List ℕ) (rows : List (List ℕ × Count)) → IsStacks events object tag rows ↔ IsStacks own object tag rows

-- A summary over all events, each with its own sequence, is the one over the same events without their stacks, in whatever order.
pub record SummaryNeedsNoStack (events own : List Event) : Type 0 where
  pub number : length own ≡ length events
  pub processes : HaveOwnSequences events → (rows : List ProcessRow) → IsProcesses events rows ↔ IsProcesses own rows
  pub objects : (n : ℕ) → IsNumberOfObjects events n ↔ IsNumberOfObjects own n
  pub unbalanced : (rows : List ObjectRow) → IsUnbalanced events rows ↔ IsUnbalanced own rows

-- the balances of tags over all events are those over the same events without their stacks, in whatever order
abbrev pub BalancesNeedNoStack : List Event → List Event → Type 0
BalancesNeedNoStack events own = (all : Bool) (rows : List Balance) → AreBalances events all rows ↔ AreBalances own all rows

-- the stacks of a tag over all events are those over its references and dereferences, in whatever order
abbrev pub StacksNeedTheirTag : List ℕ → List Event → List Event → Type 0
StacksNeedTheirTag tag events own = (rows : List Balance) → AreTagStacks events tag rows ↔ AreTagStacks own tag rows
