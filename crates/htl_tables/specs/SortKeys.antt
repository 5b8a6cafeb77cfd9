-- The sort keys of events that open or close a handle, in the order of handles. Of one handle the latest event comes first,
-- and of events with one sequence the first of the list.
use Rattle.std.specs.Prelude.{◌≡◌, ℕ, ◌⊎◌, Bool, true, false, List, Some, Contains, slice_get}
use Rattle.std.specs.Borrow.{Bor}
use Rattle.std.specs.Ordering.{is_lt}
use Rattle.std.specs.declared.cmp.Ordering.{Ordering}
use Rattle.htl_event.specs.Events.{Event}
use Rattle.htl_event.specs.Slots.{base_of}
use Rattle.htl_tables.specs.declared.sort_key.SortKey.{SortKey}
use Rattle.htl_tables.specs.contracts.sort_key.SortKeyOrd.TheImpl.{cmp-value}

abbrev pub sort_key_cmp : SortKey → SortKey → Ordering
sort_key_cmp = cmp-value.it

-- the sort key of the event at a place of a list
abbrev pub sort_key_of : Event → ℕ → ℕ → SortKey
sort_key_of e list i =
    record { process = e.process; base = base_of e.handle; sequence = record { 0 = e.sequence }; list = list; index = i }

-- the event stands at place i of the r-th list
pub record StandsAt {X : Type 0} (events_of : X → List Event) (lists : List X) (r i : ℕ) (e : Event) : Type 0 where
  pub list : X
  pub in_lists : slice_get lists r ≡ Some list
  pub in_list : slice_get (events_of list) i ≡ Some e

-- the key is that of an event of the lists that passes the test
pub record IsKeyIn {X : Type 0} (events_of : X → List Event) (lists : List X) (test : Event → Bool) (k : SortKey) : Type 0 where
  pub event : Event
  pub stands : StandsAt events_of lists k.list k.index event
  pub passes : test event ≡ true
  pub is : k ≡ sort_key_of event k.list k.index

-- each key is that of such an event
abbrev pub AreKeysIn : {X : Type 0} → (X → List Event) → List X → (Event → Bool) → List SortKey → Type 0
AreKeysIn events_of lists test keys = (k : SortKey) → Contains keys k → IsKeyIn events_of lists test k

-- the key is met: one of the keys is of the same handle and comes no later
pub record IsMet (keys : List SortKey) (k : SortKey) : Type 0 where
  pub key : SortKey
  pub here : Contains keys key
  pub process : key.process ≡ k.process
  pub base : key.base ≡ k.base
  pub order : is_lt (sort_key_cmp k key) ≡ false

-- the keys are those of events of the lists that pass the test, and the key of each such event is met
pub record AreCandidates {X : Type 0} (events_of : X → List Event) (lists : List X) (test : Event → Bool) (keys : List SortKey)
    : Type 0 where
  pub each : AreKeysIn events_of lists test keys
  pub all : (r i : ℕ) (e : Event) → StandsAt events_of lists r i e → test e ≡ true → IsMet keys (sort_key_of e r i)

-- the key is that of an event of the r-th list that passes the test
pub record IsKeyAt (r : ℕ) (events : List Event) (test : Event → Bool) (k : SortKey) : Type 0 where
  pub event : Event
  pub at : slice_get events k.index ≡ Some event
  pub passes : test event ≡ true
  pub is : k ≡ sort_key_of event r k.index

-- The events of one list that pass the test were gathered: each key is an old one or one of theirs, all that was met still is, and the
-- keys of all these events are.
pub record Gathers (r : ℕ) (events : List Event) (test : Event → Bool) (old new : List SortKey) : Type 0 where
  pub each : (k : SortKey) → Contains new k → Contains old k ⊎ IsKeyAt r events test k
  pub met : (k : SortKey) → IsMet old k → IsMet new k
  pub all : (i : ℕ) (e : Event) → slice_get events i ≡ Some e → test e ≡ true → IsMet new (sort_key_of e r i)

-- a key of the same handle stands at the place
pub record IsPlaceOf (keys : List SortKey) (k : SortKey) (place : ℕ) : Type 0 where
  pub key : SortKey
  pub at : slice_get keys place ≡ Some key
  pub process : key.process ≡ k.process
  pub base : key.base ≡ k.base

-- The key was offered: each key is an old one or this one, all that was met still is, and so is this key.
pub record Offers (k : SortKey) (old new : List SortKey) : Type 0 where
  pub each : (u : SortKey) → Contains new u → Contains old u ⊎ (k ≡ u)
  pub met : (u : SortKey) → IsMet old u → IsMet new u
  pub own : IsMet new k

-- the event is that of the key at the place
pub record IsEventAt {X : Type 0} (events_of : X → List Event) (lists : List X) (keys : List SortKey) (place : ℕ) (e : Event) : Type 0 where
  pub key : SortKey
  pub at : slice_get keys place ≡ Some key
  pub stands : StandsAt events_of lists key.list key.index e

-- the events are those of the keys
abbrev pub AreEventsOfKeys : {X : Type 0} → (X → List Event) → List X → List SortKey → List (Bor Event) → Type 0
AreEventsOfKeys events_of lists keys events = (i : ℕ) (e : Bor Event) → slice_get events i ≡ Some e
    → IsEventAt events_of lists keys i e.now
