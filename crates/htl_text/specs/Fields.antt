-- The fields of a line (this project's own): their names, the values that fit them, and how a word has one.
use Rattle.std.specs.Prelude.{◌-◌, ◌^◌, ◌==◌, ℕ, List, [], ◌∷◌, Option, Some, None, codes, drop}
use Rattle.std.specs.Prelude.{if◌then◌else◌, length, nat_eq, option_and_then, option_map}
use Rattle.std.specs.List.{list_all, starts_with}
use Rattle.std.specs.Int.{to_be_bytes, w32}
use Rattle.htl_numbers.specs.Numbers.{decimal_number, hexadecimal_number}
use Rattle.htl_text.specs.Texts.{is_visible}
use Rattle.htl_text.specs.declared.field.Field.{Field}
use Rattle.htl_text.specs.declared.field.Field.TheVariants.{Version, Trace, Processors, Processor, Number}
use Rattle.htl_text.specs.declared.field.Field.TheVariants.{Handle, Object, Tag, Sequence, Process, Thread, Frame}

abbrev pub field_name : Field → List ℕ
field_name Version = codes "version"
field_name Trace = codes "trace"
field_name Processors = codes "processors"
field_name Processor = codes "processor"
field_name Number = codes "number"
field_name Handle = codes "handle"
field_name Object = codes "object"
field_name Tag = codes "tag"
field_name Sequence = codes "seq"
field_name Process = codes "process"
field_name Thread = codes "thread"
field_name Frame = codes "frame"

-- an object or a trace, as it is written on a command line too: 1 to 16 hexadecimal digits of either case, after an optional `0x`
abbrev pub address_value : List ℕ → Option ℕ
address_value = hexadecimal_number (2 ^ 64 - 1)

-- a handle: 1 to 16 hexadecimal digits of either case, after an optional `0x`, whose number is at most 0xffffffff
abbrev pub handle_value : List ℕ → Option ℕ
handle_value = hexadecimal_number (2 ^ 32 - 1)

-- a number that begins with `0x`, which tells it from other words
unfoldable pub marked_value : ℕ → List ℕ → Option ℕ
marked_value most text = if starts_with nat_eq text (codes "0x") then hexadecimal_number most text else None

abbrev pub frame_value : List ℕ → Option ℕ
frame_value = marked_value (2 ^ 64 - 1)

-- a tag: four printable bytes, which are the tag, or `0x` and eight digits, two for each byte
unfoldable pub tag_value : List ℕ → Option (List ℕ)
tag_value text =
    if length text == 4 then (if list_all is_visible text then Some text else None)
    else (if length text == 10 then option_map (to_be_bytes w32) (marked_value (2 ^ 32 - 1) text) else None)

-- what follows these bytes in a word that begins with them
unfoldable pub after_bytes : List ℕ → List ℕ → Option (List ℕ)
after_bytes bytes word = if starts_with nat_eq word bytes then Some (drop (length bytes) word) else None

-- what the first word has after the name of this field and `=`, and the words that follow it
unfoldable pub first_text : Field → List (List ℕ) → Option (List ℕ × List (List ℕ))
first_text f [] = None
first_text f (w ∷ ws) = option_map (λ text. (text, ws)) (option_and_then (after_bytes (codes "=")) (after_bytes (field_name f) w))

abbrev pub value_of : {A : Type 0} → (List ℕ → Option A) → Option (List ℕ × List (List ℕ)) → Option (A × List (List ℕ))
value_of value None = None
value_of value (Some found) = option_map (λ a. (a, found.1)) (value found.0)

-- the value of this field in the first word, where it fits, and the words that follow it
unfoldable pub first_value : {A : Type 0} → Field → (List ℕ → Option A) → List (List ℕ) → Option (A × List (List ℕ))
first_value f value ws = value_of value (first_text f ws)

-- the value of a first word that has no name of a field, and the words that follow it
unfoldable pub bare_value : {A : Type 0} → (List ℕ → Option A) → List (List ℕ) → Option (A × List (List ℕ))
bare_value value [] = None
bare_value value (w ∷ ws) = option_map (λ a. (a, ws)) (value w)

-- What the fields of a line say. What its form leaves out is 0.
pub record Values : Type 0 where
  pub version : ℕ
  pub trace : ℕ
  pub processors : ℕ
  pub processor : ℕ
  pub number : ℕ
  pub handle : ℕ
  pub object : ℕ
  pub tag : List ℕ
  pub sequence : ℕ
  pub process : ℕ
  pub thread : ℕ
  pub frame : ℕ

abbrev pub no_tag : List ℕ
no_tag = 0 ∷ 0 ∷ 0 ∷ 0 ∷ []

abbrev pub no_values : Values
no_values = record {
  version = 0;
  trace = 0;
  processors = 0;
  processor = 0;
  number = 0;
  handle = 0;
  object = 0;
  tag = no_tag;
  sequence = 0;
  process = 0;
  thread = 0;
  frame = 0;
}

abbrev pub with_value : {A : Type 0} → (A → Values) → Option (A × List (List ℕ)) → Option (Values × List (List ℕ))
with_value put None = None
with_value put (Some found) = Some (put found.0, found.1)

-- the values so far with that of this field in the first word, and the words that follow it
abbrev pub read_field : Field → List (List ℕ) → Values → Option (Values × List (List ℕ))
read_field Version ws v = with_value (λ n. record v { version = n }) (first_value Version (decimal_number 0xFFFF) ws)
read_field Trace ws v = with_value (λ n. record v { trace = n }) (first_value Trace address_value ws)
read_field Processors ws v = with_value (λ n. record v { processors = n }) (first_value Processors (decimal_number 0xFFFF) ws)
read_field Processor ws v = with_value (λ n. record v { processor = n }) (first_value Processor (decimal_number 0xFFFF) ws)
read_field Number ws v = with_value (λ n. record v { number = n }) (first_value Number (decimal_number 0xFFFFFFFF) ws)
read_field Handle ws v = with_value (λ n. record v { handle = n }) (first_value Handle handle_value ws)
read_field Object ws v = with_value (λ n. record v { object = n }) (first_value Object address_value ws)
read_field Tag ws v = with_value (λ tag. record v { tag = tag }) (first_value Tag tag_value ws)
read_field Sequence ws v = with_value (λ n. record v { sequence = n }) (first_value Sequence (decimal_number (2 ^ 64 - 1)) ws)
read_field Process ws v = with_value (λ n. record v { process = n }) (first_value Process (decimal_number (2 ^ 32 - 1)) ws)
read_field Thread ws v = with_value (λ n. record v { thread = n }) (first_value Thread (decimal_number (2 ^ 32 - 1)) ws)
read_field Frame ws v = with_value (λ n. record v { frame = n }) (bare_value frame_value ws)
