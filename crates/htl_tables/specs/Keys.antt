-- The order of a table's rows.
use Rattle.std.specs.Prelude.{◌≡◌, ℕ, List}
use Rattle.std.specs.Ordering.{nat_cmp, ordering_then}
use Rattle.std.specs.declared.cmp.Ordering.{Ordering}
use Rattle.std.specs.declared.cmp.Ordering.TheVariants.{Less}
use Rattle.htl_event.specs.Events.{Event}
use Rattle.htl_event.specs.Slots.{base_of}
use Rattle.htl_sorted.specs.Entries.{entries}

-- by process, and then by base handle
abbrev pub key_cmp : ℕ × ℕ → ℕ × ℕ → Ordering
key_cmp x y = ordering_then (nat_cmp x.0 y.0) (nat_cmp x.1 y.1)

-- the process and the base handle of an event
abbrev pub key_of : Event → ℕ × ℕ
key_of e = (e.process, base_of e.handle)

-- events, each with its key
abbrev pub keyed : List Event → List ((ℕ × ℕ) × Event)
keyed events = entries key_of (λ e. e) events

-- the key of the one event comes before that of the other
abbrev pub ByKey : Event → Event → Type 0
ByKey a b = key_cmp (key_of a) (key_of b) ≡ Less
