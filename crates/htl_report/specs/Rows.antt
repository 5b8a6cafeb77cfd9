-- Which rows of an answer are printed, and the lines of a row of each form, as bytes.
use Rattle.std.specs.Prelude.{◌-◌, ◌++◌, ℕ, List, Option, Some, None, codes, if◌then◌else◌, nat_lt, take}
use Rattle.std.specs.Fmt.{decimal}
use Rattle.htl_event.specs.Balances.{Balance}
use Rattle.htl_event.specs.Events.{Event}
use Rattle.htl_event.specs.Sites.{Site}
use Rattle.htl_event.specs.Slots.{base_of}
use Rattle.htl_event.specs.Words.{word_of}
use Rattle.htl_event.specs.declared.growth.Point.{Point}
use Rattle.htl_event.specs.declared.slot.Count.{Count}
use Rattle.htl_numbers.specs.Written.{hex}
use Rattle.htl_symbols.specs.Ranges.{Range}
use Rattle.htl_report.specs.Addresses.{line_feed, stack_lines}
use Rattle.htl_report.specs.Parts.{counts, shown_tag}

-- all rows, or only the first ones where a number of rows is given; the answer's first line still counts all
abbrev pub first_rows : {R : Type 0} → Option ℕ → List R → List R
first_rows None rows = rows
first_rows (Some most) rows = take most rows

-- a row's own line, and those of its stack, where it has one
abbrev pub with_stack : List Range → List ℕ → Option (List ℕ) → List ℕ
with_stack symbols line None = line
with_stack symbols line (Some stack) = line ++ stack_lines symbols stack

-- ---- events

-- the line of an event, with this word and this handle
unfoldable pub event_line : List ℕ → ℕ → Event → List ℕ
event_line word handle e =
    word ++ (codes " handle=0x" ++ (hex handle ++ (codes " seq=" ++ (decimal e.sequence
    ++ (codes " thread=" ++ (decimal e.thread ++ line_feed))))))

-- the open of an outstanding handle, with its base handle
abbrev pub open_lines : List Range → Event → List ℕ
open_lines symbols e = event_line (codes "OPEN") (base_of e.handle) e ++ stack_lines symbols e.stack

-- an event, with its handle as it was written (`!htrace` prints opens, closes and bad references, and a listing has no other kind)
abbrev pub listed_lines : List Range → Event → List ℕ
listed_lines symbols e = event_line (word_of e.kind) e.handle e ++ stack_lines symbols e.stack

-- a handle as it was written, and how often it was named
unfoldable pub bad_line : ℕ → ℕ → List ℕ
bad_line handle times = codes "BAD REF handle=0x" ++ (hex handle ++ (codes " times=" ++ (decimal times ++ line_feed)))

-- a handle, the stack that named it, and how often
abbrev pub bad_lines : List Range → ℕ × List ℕ × ℕ → List ℕ
bad_lines symbols row = bad_line row.0 row.2 ++ stack_lines symbols row.1

-- ---- stacks that are counted

-- the line that says how many handles a stack opened
unfoldable pub leak_line : ℕ → List ℕ
leak_line handles = codes "LEAK handles=" ++ (decimal handles ++ line_feed)

-- a stack, and how many handles it opened
abbrev pub leak_lines : List Range → List ℕ × ℕ → List ℕ
leak_lines symbols row = leak_line row.1 ++ stack_lines symbols row.0

-- the line that says how many handles a stack opened, and of how many processes they are
unfoldable pub site_line : ℕ → ℕ → List ℕ
site_line handles processes =
    codes "SITE handles=" ++ (decimal handles ++ (codes " processes=" ++ (decimal processes ++ line_feed)))

-- a stack, with these numbers
abbrev pub site_lines : List Range → Site → List ℕ
site_lines symbols site = site_line site.handles site.processes ++ stack_lines symbols site.stack

-- how many objects: of all in a first line, and of a tag or a stack in its line
unfoldable pub objects_part : ℕ → List ℕ
objects_part objects = codes " objects=" ++ decimal objects

-- how often a stack referenced and dereferenced
abbrev pub stack_part : Count → List ℕ
stack_part c = codes "STACK " ++ counts c

abbrev pub stack_line : Count → List ℕ
stack_line c = stack_part c ++ line_feed

-- a stack, and how often it referenced and dereferenced
abbrev pub stacks_lines : List Range → List ℕ × Count → List ℕ
stacks_lines symbols row = stack_line row.1 ++ stack_lines symbols row.0

abbrev pub tag_stack_line : Count → ℕ → List ℕ
tag_stack_line c objects = stack_part c ++ (objects_part objects ++ line_feed)

-- a stack that used the tag, over all objects
abbrev pub tag_stack_lines : List Range → Balance → List ℕ
tag_stack_lines symbols row = tag_stack_line row.count row.objects ++ stack_lines symbols row.by

-- ---- tags and moments

-- by how many the references are more than the dereferences, or the other way round
abbrev pub balance : Count → List ℕ
balance c = if nat_lt c.minus c.plus then codes "over=" ++ decimal (c.plus - c.minus)
    else (if nat_lt c.plus c.minus then codes "under=" ++ decimal (c.minus - c.plus) else codes "balanced")

-- a tag, and how often objects were referenced and dereferenced under it
abbrev pub balance_part : List ℕ → Count → List ℕ
balance_part tag c = codes "TAG " ++ (shown_tag tag ++ (codes " " ++ (counts c ++ (codes " " ++ balance c))))

abbrev pub tag_line : List ℕ → Count → List ℕ
tag_line tag c = balance_part tag c ++ line_feed

-- a tag, which has no stack
abbrev pub tag_row : List ℕ × Count → List ℕ
tag_row row = tag_line row.0 row.1

abbrev pub balance_line : List ℕ → Count → ℕ → List ℕ
balance_line tag c objects = balance_part tag c ++ (objects_part objects ++ line_feed)

-- a tag over all objects, which has no stack
abbrev pub balance_row : Balance → List ℕ
balance_row row = balance_line row.by row.count row.objects

-- a moment, and how many handles were outstanding then
unfoldable pub point_line : Point → List ℕ
point_line point =
    codes "AT seq=" ++ (decimal point.sequence ++ (codes " outstanding=" ++ (decimal point.outstanding ++ line_feed)))
