-- Laws of tables: noting one more event keeps what a table says of the events noted before.
use Rattle.std.specs.Prelude.{ℕ, List, [], ◌∷◌, ◌++◌, Option, Contains, max}
use Rattle.htl_event.specs.Events.{Event}
use Rattle.htl_event.specs.declared.kind.Kind.{Kind}
use Rattle.htl_event.specs.Handles.{LatestIs, IsGreatestSequence}
use Rattle.htl_tables.specs.Latest.{with_event}
use Rattle.htl_event.specs.Handles.{IsOf}

-- the latest event of a handle, with one more event, is that of the list with this event
abbrev pub KeepsLatest : List Event → Event → Type 0
KeepsLatest events e = (process base : ℕ) (old : Option Event)
    → LatestIs (Contains events) process base old → LatestIs (Contains (events ++ e ∷ [])) process base (with_event process base old e)

-- the number is the greatest sequence of the kind's events of the process
abbrev pub IsGreatestOf : List Event → Kind → ℕ → ℕ → Type 0
IsGreatestOf events kind process n = IsGreatestSequence (λ e. Contains events e × IsOf kind process e) n

-- the greatest sequence rises to that of one more event, where this is of the kind and of the process
pub record KeepsGreatest (events : List Event) (e : Event) : Type 0 where
  pub noted : (kind : Kind) (process old : ℕ) → IsGreatestOf events kind process old → IsOf kind process e
      → IsGreatestOf (events ++ e ∷ []) kind process (max old e.sequence)
  pub others : (kind : Kind) (process old : ℕ) → IsGreatestOf events kind process old → (IsOf kind process e → ⊥)
      → IsGreatestOf (events ++ e ∷ []) kind process old
