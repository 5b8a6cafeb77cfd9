-- What a table has once the events of the first sort keys were noted: of each handle the event of its first key.
use Rattle.std.specs.Prelude.{◌≡◌, ℕ, ◌+◌, ◌<◌, ◌≤◌, Bool, List, Option, Some, length, slice_get, IsSorted, MatchOption}
use Rattle.htl_event.specs.Events.{Event}
use Rattle.htl_tables.specs.declared.sort_key.SortKey.{SortKey}
use Rattle.htl_tables.specs.Latest.{event_at}
use Rattle.htl_tables.specs.SortKeys.{sort_key_cmp, StandsAt, AreCandidates}

-- the key is of this handle
pub record HasHandle (process base : ℕ) (k : SortKey) : Type 0 where
  pub owner : k.process ≡ process
  pub handle : k.base ≡ base

module _ {X : Type 0} (events_of : X → List Event) (lists : List X) (test : Event → Bool) (keys : List SortKey) where
  -- the event is that of the handle's first key among the first n
  pub record IsFirstKey (process base n : ℕ) (e : Event) : Type 0 where
    pub place : ℕ
    pub within : place < n
    pub key : SortKey
    pub at : slice_get keys place ≡ Some key
    pub of : HasHandle process base key
    pub stands : StandsAt events_of lists key.list key.index e
    pub first : (k : ℕ) (u : SortKey) → k < n → slice_get keys k ≡ Some u → HasHandle process base u → place ≤ k

  -- it is the event of the handle's first key among the first n, or none of these is of the handle
  abbrev pub FirstKeyIs : ℕ → ℕ → ℕ → Option Event → Type 0
  FirstKeyIs process base n o = MatchOption o ((k : ℕ) (u : SortKey) → k < n → slice_get keys k ≡ Some u → HasHandle process base u → ⊥)
      (IsFirstKey process base n)

  -- each handle has the event of its first key among the first n
  abbrev pub HaveFirstKeys : ℕ → List Event → Type 0
  HaveFirstKeys n rows = (process base : ℕ) → FirstKeyIs process base n (event_at rows process base)

-- each of the keys stands among all of them, the first one at place n
abbrev pub StandFrom : List SortKey → ℕ → List SortKey → Type 0
StandFrom all n keys = (i : ℕ) (k : SortKey) → slice_get keys i ≡ Some k → slice_get all (n + i) ≡ Some k

-- The keys were noted, whatever candidates they stand among: a table that had the events of those before them now has theirs, too.
abbrev pub NotesKeys : {X : Type 0} → (X → List Event) → List X → (Event → Bool) → List SortKey → List Event → List Event → Type 0
NotesKeys events_of lists test keys old new = (all : List SortKey) (n : ℕ) → AreCandidates events_of lists test all
    → IsSorted sort_key_cmp all → StandFrom all n keys → HaveFirstKeys events_of lists test all n old
    → HaveFirstKeys events_of lists test all (n + length keys) new
