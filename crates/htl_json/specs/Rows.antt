-- The value of a row of each answer.
use Rattle.std.specs.Prelude.{◌++◌, ◌-◌, ◌∷◌, [], ℕ, List, codes}
use Rattle.htl_event.specs.Balances.{Balance}
use Rattle.htl_event.specs.Events.{Event}
use Rattle.htl_event.specs.Sites.{Site}
use Rattle.htl_event.specs.Slots.{base_of}
use Rattle.htl_event.specs.declared.growth.Point.{Point}
use Rattle.htl_event.specs.declared.slot.Count.{Count}
use Rattle.htl_event.specs.declared.summary.ObjectRow.{ObjectRow}
use Rattle.htl_event.specs.declared.summary.ProcessRow.{ProcessRow}
use Rattle.htl_symbols.specs.Ranges.{Range}
use Rattle.htl_taken.specs.declared.gap.Gap.{Gap}
use Rattle.htl_taken.specs.declared.gap.Gap.TheVariants.{Between, Absent}
use Rattle.json.specs.Json.{Json, string}
use Rattle.htl_json.specs.Frames.{stack_fields}
use Rattle.htl_json.specs.Records.{Field, count_fields, quantity, record_of, shown_address, shown_handle, tag_fields}
use Rattle.htl_event.specs.Words.{word_of}

-- an event's own fields, with this word and this handle
unfoldable pub event_fields : List ℕ → ℕ → Event → List Field
event_fields word handle e =
    (codes "event", string word) ∷ (codes "handle", shown_handle handle) ∷ (codes "sequence", quantity e.sequence)
    ∷ (codes "thread", quantity e.thread) ∷ []

-- an event, with this word and this handle, and its stack
abbrev pub event_row : List Range → List ℕ → ℕ → Event → Json
event_row symbols word handle e = record_of (event_fields word handle e ++ stack_fields symbols e.stack)

-- the open of an outstanding handle, with its base handle
abbrev pub opened : List Range → Event → Json
opened symbols e = event_row symbols (codes "OPEN") (base_of e.handle) e

-- an event, with its handle as it was written
abbrev pub listed : List Range → Event → Json
listed symbols e = event_row symbols (word_of e.kind) e.handle e

-- a handle as it was written, and how often it was named
unfoldable pub bad_fields : ℕ → ℕ → List Field
bad_fields handle times =
    (codes "event", string (codes "BAD REF")) ∷ (codes "handle", shown_handle handle) ∷ (codes "times", quantity times) ∷ []

abbrev pub bad_reference : List Range → ℕ × List ℕ × ℕ → Json
bad_reference symbols row = record_of (bad_fields row.0 row.2 ++ stack_fields symbols row.1)

-- how many handles
unfoldable pub handles_field : ℕ → List Field
handles_field handles = (codes "handles", quantity handles) ∷ []

abbrev pub leak : List Range → List ℕ × ℕ → Json
leak symbols row = record_of (handles_field row.1 ++ stack_fields symbols row.0)

-- how many handles, and of how many processes they are
unfoldable pub site_fields : ℕ → ℕ → List Field
site_fields handles processes = (codes "handles", quantity handles) ∷ (codes "processes", quantity processes) ∷ []

abbrev pub site_row : List Range → Site → Json
site_row symbols site = record_of (site_fields site.handles site.processes ++ stack_fields symbols site.stack)

abbrev pub counted_stack : List Range → List ℕ × Count → Json
counted_stack symbols row = record_of (count_fields row.1.plus row.1.minus ++ stack_fields symbols row.0)

-- a tag, how often objects were referenced and dereferenced under it, by how many the one is more than the other, of which one is 0, and
-- what comes behind that
unfoldable pub balance_fields : List ℕ → Count → List Field → List Field
balance_fields tag c more =
    tag_fields tag ++ (count_fields c.plus c.minus
    ++ (codes "over", quantity (c.plus - c.minus)) ∷ (codes "under", quantity (c.minus - c.plus)) ∷ more)

abbrev pub tag_balance : List ℕ × Count → Json
tag_balance row = record_of (balance_fields row.0 row.1 [])

-- how many objects
unfoldable pub objects_field : ℕ → List Field
objects_field objects = (codes "objects", quantity objects) ∷ []

-- a tag over all objects
abbrev pub balance_row : Balance → Json
balance_row row = record_of (balance_fields row.by row.count (objects_field row.objects))

-- a stack that used the tag, over all objects
abbrev pub tag_stack : List Range → Balance → Json
tag_stack symbols row =
    record_of (count_fields row.count.plus row.count.minus ++ (objects_field row.objects ++ stack_fields symbols row.by))

-- a moment, and how many handles were outstanding then
unfoldable pub point_fields : Point → List Field
point_fields point = (codes "sequence", quantity point.sequence) ∷ (codes "outstanding", quantity point.outstanding) ∷ []

abbrev pub point_row : Point → Json
point_row point = record_of (point_fields point)

-- the segments of a processor that are missing, from one number to another
unfoldable pub between_fields : ℕ → ℕ → ℕ → List Field
between_fields processor from to =
    (codes "row", string (codes "GAP")) ∷ (codes "processor", quantity processor) ∷ (codes "from", quantity from)
    ∷ (codes "to", quantity to) ∷ []

-- a processor without a segment
unfoldable pub absent_fields : ℕ → List Field
absent_fields processor =
    (codes "row", string (codes "GAP")) ∷ (codes "processor", quantity processor) ∷ (codes "from", quantity 0) ∷ []

abbrev pub missing_fields : Gap → List Field
missing_fields (Between processor from to) = between_fields processor from to
missing_fields (Absent processor) = absent_fields processor

abbrev pub missing : Gap → Json
missing gap = record_of (missing_fields gap)

-- a process, its outstanding handles, its opens, closes and bad references, its snapshot mark and its last exit
unfoldable pub process_fields : ProcessRow → List Field
process_fields row =
    (codes "row", string (codes "PROCESS")) ∷ (codes "process", quantity row.process) ∷ (codes "outstanding", quantity row.outstanding)
    ∷ (codes "opens", quantity row.opens) ∷ (codes "closes", quantity row.closes) ∷ (codes "bad", quantity row.bad)
    ∷ (codes "mark", quantity row.mark) ∷ (codes "exit", quantity row.exit) ∷ []

abbrev pub process_row : ProcessRow → Json
process_row row = record_of (process_fields row)

-- an object, how many tags it has, and how many of them aren't balanced
unfoldable pub object_fields : ObjectRow → List Field
object_fields row =
    (codes "row", string (codes "OBJECT")) ∷ (codes "object", shown_address row.object) ∷ (codes "tags", quantity row.tags)
    ∷ (codes "unbalanced", quantity row.unbalanced) ∷ []

abbrev pub unbalanced_object : ObjectRow → Json
unbalanced_object row = record_of (object_fields row ++ count_fields row.refs row.derefs)
