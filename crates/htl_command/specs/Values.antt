-- One rule for each kind of value: which texts have one, and which it is (this project's own). A text is the
-- list of its bytes. What digits write is `htl_numbers`' matter: no sign, no blank, no empty text.
use Rattle.std.specs.Prelude.{◌-◌, ◌^◌, ◌==◌, ◌&&◌, ℕ, List, Option, Some, None, codes, if◌then◌else◌, length, nat_eq, nat_lt}
use Rattle.std.specs.Prelude.{option_and_then, option_map}
use Rattle.std.specs.List.{starts_with}
use Rattle.std.specs.Int.{to_be_bytes, w32}
use Rattle.std.specs.Str.{bytes_eq}
use Rattle.htl_command.specs.declared.question.Moment.{Moment}
use Rattle.htl_command.specs.declared.question.Moment.TheVariants as moment
use Rattle.htl_event.specs.declared.since.Since.{Since}
use Rattle.htl_event.specs.declared.since.Since.TheVariants as since
use Rattle.htl_numbers.specs.Numbers.{decimal_number, hexadecimal_number}

-- a process: decimal, at most 4294967295
abbrev pub process_in : List ℕ → Option ℕ
process_in = decimal_number (2 ^ 32 - 1)

-- a sequence: decimal, at most 18446744073709551615
abbrev pub sequence_in : List ℕ → Option ℕ
sequence_in = decimal_number (2 ^ 64 - 1)

-- since when handles count: a sequence, or that of the last snapshot
unfoldable pub since_in : List ℕ → Option Since
since_in text = if bytes_eq text (codes "snapshot") then Some since.Snapshot else option_map (λ n. since.Sequence n) (sequence_in text)

-- up to when events count: a sequence, or that up to which no segment is missing
unfoldable pub moment_in : List ℕ → Option Moment
moment_in text = if bytes_eq text (codes "complete") then Some moment.Complete else option_map (λ n. moment.Sequence n) (sequence_in text)

-- an object's address: 1 to 16 hexadecimal digits, after an optional `0x`
abbrev pub object_in : List ℕ → Option ℕ
object_in = hexadecimal_number (2 ^ 64 - 1)

-- a handle: the same, at most 0xffffffff
abbrev pub handle_in : List ℕ → Option ℕ
handle_in = hexadecimal_number (2 ^ 32 - 1)

-- a tag: four bytes, which are the tag, or `0x` and eight hexadecimal digits, two for each byte
unfoldable pub tag_in : List ℕ → Option (List ℕ)
tag_in text =
    if length text == 4 then Some text
    else (if length text == 10 && starts_with nat_eq text (codes "0x")
    then option_map (to_be_bytes w32) (hexadecimal_number (2 ^ 32 - 1) text) else None)

-- a decimal number from `least` to `most`
abbrev pub number_in : ℕ → ℕ → List ℕ → Option ℕ
number_in least most text = option_and_then (λ n. if nat_lt n least then None else Some n) (decimal_number most text)

-- how many threads are used at most: 1 to 8
abbrev pub workers_in : List ℕ → Option ℕ
workers_in = number_in 1 8

-- how many rows are printed at most, or how many handles a stack has at least: 1 to 4294967295
abbrev pub count_in : List ℕ → Option ℕ
count_in = number_in 1 (2 ^ 32 - 1)

-- at how many moments open handles are counted: 2 to 1000
abbrev pub points_in : List ℕ → Option ℕ
points_in = number_in 2 1000
