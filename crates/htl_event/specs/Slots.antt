-- What an event is counted under.
use Rattle.std.specs.Prelude.{ℕ, ◌*◌, ◌/◌, Option, Some, None, Bool, true, false, ◌&&◌, ◌==◌, nat_eq}
use Rattle.std.specs.Cmp.Lexicographic.{pointwise}
use Rattle.htl_event.specs.Events.{Event}
use Rattle.htl_event.specs.declared.event.Event.{Event as EventWith}
use Rattle.htl_event.specs.declared.kind.Kind.{Kind}
use Rattle.htl_event.specs.declared.kind.Kind.TheVariants.{Opened, Closed, BadRef, Snapshot, Ref, Deref, Exited}
use Rattle.htl_event.specs.declared.slot.Slot.{Slot}
use Rattle.htl_event.specs.declared.slot.Slot.TheVariants.{Tagged, Handles, Bad}
use Rattle.htl_event.specs.declared.slot.Sign.{Sign}
use Rattle.htl_event.specs.declared.slot.Sign.TheVariants.{Plus, Minus}

-- A handle with its low two bits cleared: the entry of the process's handle table. (That they are
-- ignored is this project's own rule.)
abbrev pub base_of : ℕ → ℕ
base_of handle = 4 * (handle / 4)

-- Opens and closes of a process's handles, its bad references to one handle value as written (`!htrace`),
-- references and dereferences of an object under a tag (`!obtrace`). Other events are not counted.
abbrev pub slot_by_kind : {S : Type 0} → Kind → EventWith S → Option (Slot × Sign)
slot_by_kind Opened e = Some (Handles e.process, Plus)
slot_by_kind Closed e = Some (Handles e.process, Minus)
slot_by_kind BadRef e = Some (Bad e.process e.handle, Plus)
slot_by_kind Snapshot e = None
slot_by_kind Ref e = Some (Tagged e.object e.tag, Plus)
slot_by_kind Deref e = Some (Tagged e.object e.tag, Minus)
slot_by_kind Exited e = None

abbrev pub slot_of : {S : Type 0} → EventWith S → Option (Slot × Sign)
slot_of e = slot_by_kind e.kind e

abbrev pub same_slot : Slot → Slot → Bool
same_slot (Tagged o t) (Tagged p u) = o == p && pointwise nat_eq t u
same_slot (Handles p) (Handles q) = p == q
same_slot (Bad p h) (Bad q k) = p == q && h == k
same_slot s t = false

abbrev pub same_sign : Sign → Sign → Bool
same_sign Plus Plus = true
same_sign Minus Minus = true
same_sign s t = false

abbrev pub is_slot : Slot → Sign → Option (Slot × Sign) → Bool
is_slot slot sign None = false
is_slot slot sign (Some x) = same_slot slot x.0 && same_sign sign x.1

-- the event is counted under the slot, on this side
abbrev pub is_counted : Slot → Sign → Event → Bool
is_counted slot sign e = is_slot slot sign (slot_of e)
