-- For the clauses of private functions: the events of a listing.
use Rattle.std.specs.Prelude.{ℕ, ◌<◌, Bool, true, false, ◌&&◌, ◌==◌, List, [], ◌∷◌}
use Rattle.std.specs.List.{AllByRecursion}
use Rattle.htl_event.specs.Events.{Event}
use Rattle.htl_event.specs.declared.kind.Kind.{Kind}
use Rattle.htl_event.specs.declared.kind.Kind.TheVariants.{Opened, Closed, BadRef}
use Rattle.htl_event.specs.Slots.{base_of}

abbrev pub is_listed_kind : Kind → Bool
is_listed_kind Opened = true
is_listed_kind Closed = true
is_listed_kind BadRef = true
is_listed_kind other = false

abbrev pub is_of_handle : ℕ → ℕ → Event → Bool
is_of_handle process base e = (base_of e.handle == base) && (e.process == process) && is_listed_kind e.kind

-- no event comes after one of a lower sequence
abbrev pub IsNewestFirst : List Event → Type 0
IsNewestFirst [] = Unit {0}
IsNewestFirst (e ∷ es) = AllByRecursion (λ x. e.sequence < x.sequence → ⊥) es × IsNewestFirst es
