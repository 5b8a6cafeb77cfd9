-- Tests of one event, of its kind, its process and its base handle, decide what they ask.
use Rattle.std.proofs.Common.{◌≡◌, ℕ, Bool, true, ◌&&◌}
use Rattle.std.specs.Prelude.{◌==◌}
use Rattle.std.specs.Bool.{Decides}
use Rattle.std.proofs.lemmas.Bool.Decides.{Decides-eqb, Decides-and, Decides-like}
use denote.Enum.Bare.{sameb, same_true, true_same}
use Rattle.htl_event.specs.contracts.kind.Kind.{the_type}
use Rattle.htl_event.specs.Events.{Event}
use Rattle.htl_event.specs.declared.kind.Kind.{Kind}
use Rattle.htl_event.specs.Slots.{base_of}
use Rattle.htl_event.specs.Handles.{opens_or_closes, OpensOrCloses, IsOf}

-- the event is of the kind
abbrev pub is_kind : Kind → Event → Bool
is_kind kind e = sameb the_type e.kind kind

-- this test passes exactly where the event's kind is the given one
pub is_kind-decides : (kind : Kind) (e : Event) → Decides (is_kind kind e) (e.kind ≡ kind)
is_kind-decides kind e = (same_true the_type tt e.kind kind, true_same the_type e.kind kind)

-- the event is of the kind and of the process
abbrev pub is_of : Kind → ℕ → Event → Bool
is_of kind process e = is_kind kind e && e.process == process

-- this test passes exactly where the event is of the kind and the process
pub is_of-decides : (kind : Kind) (process : ℕ) (e : Event) → Decides (is_of kind process e) (IsOf kind process e)
is_of-decides kind process e = Decides-and _ _ (is_kind-decides kind e) (Decides-eqb e.process process)

-- the event names the base handle of the process
abbrev pub names : ℕ → ℕ → Event → Bool
names process base e = e.process == process && base_of e.handle == base

-- this test passes exactly where the event is of the process and has the base handle
pub names-decides : (process base : ℕ) (e : Event) → Decides (names process base e) ((e.process ≡ process) × (base_of e.handle ≡ base))
names-decides process base e = Decides-and _ _ (Decides-eqb e.process process) (Decides-eqb (base_of e.handle) base)

pub opens_or_closes-decides : (kind : Kind) → Decides (opens_or_closes kind) (opens_or_closes kind ≡ true)
opens_or_closes-decides kind = (λ e. e, λ e. e)

-- the event opens or closes the base handle of the process
abbrev pub opens_or_closes_base : ℕ → ℕ → Event → Bool
opens_or_closes_base process base e = opens_or_closes e.kind && names process base e

-- this test passes exactly where the event opens or closes the base handle of the process
pub opens_or_closes_base-decides : (process base : ℕ) (e : Event)
    → Decides (opens_or_closes_base process base e) (OpensOrCloses process base e)
opens_or_closes_base-decides process base e =
    Decides-like _ (λ h. record { kind = h.0; owner = h.1.0; handle = h.1.1 }) (λ c. (c.kind, (c.owner, c.handle)))
    (Decides-and _ _ (opens_or_closes-decides e.kind) (names-decides process base e))
