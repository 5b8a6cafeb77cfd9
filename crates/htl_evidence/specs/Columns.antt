-- For the clauses of private functions: a byte of each event, by which those of one process, object or handle are found.
use Rattle.std.specs.Prelude.{◌≡◌, ◌%◌, ◌&&◌, ℕ, nat_le, Bool, true, List, Option, None, Some, length, map, Contains}
use Rattle.htl_event.specs.Events.{Event}
use Rattle.htl_event.specs.Slots.{base_of}
use Rattle.htl_segment.specs.Content.{Content}
use Rattle.htl_segment.specs.Traces.{AreInOrder}
use Rattle.htl_evidence.specs.Told.{is_own}
use Rattle.htl_evidence.specs.declared.columns.Columns.{Columns}
use Rattle.htl_evidence.specs.declared.owner.Owner.{Owner}
use Rattle.htl_evidence.specs.declared.owner.Owner.TheVariants.{Process, Object, Handle}

-- the byte of a process, an object or a base handle
abbrev pub byte_of : ℕ → ℕ
byte_of n = n % 251

-- the bytes of the events, for their processes, for their objects and for their base handles
abbrev pub process_bytes : List Event → List ℕ
process_bytes events = map (λ e. byte_of e.process) events

abbrev pub object_bytes : List Event → List ℕ
object_bytes events = map (λ e. byte_of e.object) events

abbrev pub handle_bytes : List Event → List ℕ
handle_bytes events = map (λ e. byte_of (base_of e.handle)) events

-- the columns are those of these events
pub record AreColumnsOf (events : List Event) (columns : Columns) : Type 0 where
  pub processes : columns.processes.items ≡ process_bytes events
  pub objects : columns.objects.items ≡ object_bytes events
  pub handles : columns.handles.items ≡ handle_bytes events

-- the columns are those of these segments, one after the other
pub record HaveColumns (segments : List Content) (all : List Columns) : Type 0 where
  pub processes : map (λ (c : Columns). c.processes.items) all ≡ map (λ (s : Content). process_bytes s.events) segments
  pub objects : map (λ (c : Columns). c.objects.items) all ≡ map (λ (s : Content). object_bytes s.events) segments
  pub handles : map (λ (c : Columns). c.handles.items) all ≡ map (λ (s : Content). handle_bytes s.events) segments

-- so many columns are left, which are those of these segments
pub record AreLeft (segments : List Content) (all : List Columns) (number : ℕ) : Type 0 where
  pub have : HaveColumns segments all
  pub long : number ≡ length all

-- the earlier segments are among the later ones, and both are in the order of their keys
pub record AreAmong (earlier later : List Content) : Type 0 where
  pub in_order : AreInOrder earlier
  pub later_in_order : AreInOrder later
  pub among : (s : Content) → Contains earlier s → Contains later s

-- the process of an event, its object or its base handle, as the owner has one
abbrev pub number_in : Owner → Event → ℕ
number_in (Process process) e = e.process
number_in (Object object) e = e.object
number_in (Handle process base) e = base_of e.handle

-- the bytes in which the events of the process, object or handle are looked for
abbrev pub bytes_for : Owner → List Event → List ℕ
bytes_for owner events = map (λ e. byte_of (number_in owner e)) events

-- the event counts as of the moment, or as each does where none is given
abbrev pub is_counted : Option ℕ → Event → Bool
is_counted None e = true
is_counted (Some moment) e = nat_le e.sequence moment

-- the event counts, and is of the process, object or handle
abbrev pub is_counted_own : Owner → Option ℕ → Event → Bool
is_counted_own owner until e = is_counted until e && is_own owner e
