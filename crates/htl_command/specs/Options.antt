-- The options of the commands, and how a value is read from what was given for one (this project's own).
use Rattle.std.specs.Prelude.{ℕ, Bool, true, false, List, Option, Some, None, codes, option_and_then, option_map}
use Rattle.std.specs.Option.{option_map_or}
use Rattle.std.specs.Str.{bytes_eq}
use Rattle.clap.specs.Words.{Row, Text, first_of}
use Rattle.htl_command.specs.declared.names.CommandFlag.{CommandFlag}
use Rattle.htl_command.specs.declared.names.CommandFlag.TheVariants.{All, ExitCode, Folded, Json, Fold, Complete, Hex, Partial, Notes}
use Rattle.htl_command.specs.declared.names.CommandOption.{CommandOption}
use Rattle.htl_command.specs.declared.names.CommandOption.TheVariants.{Process, Since, AtLeast, Object, Tag, TagOfAll, Handle}
use Rattle.htl_command.specs.declared.names.CommandOption.TheVariants.{Points, Top, Symbols, Workers, Until}

-- each option that takes a value: its name without the dashes, and whether it has to be given; one tag is of an object, one of all objects
abbrev pub option_row : CommandOption → List ℕ × Bool
option_row Process = (codes "process", true)
option_row Since = (codes "since", false)
option_row AtLeast = (codes "at-least", false)
option_row Object = (codes "object", true)
option_row Tag = (codes "tag", true)
option_row TagOfAll = (codes "tag", false)
option_row Handle = (codes "handle", true)
option_row Points = (codes "points", false)
option_row Top = (codes "top", false)
option_row Symbols = (codes "symbols", false)
option_row Workers = (codes "workers", false)
option_row Until = (codes "until", false)

abbrev pub option_name : CommandOption → List ℕ
option_name option = (option_row option).0

abbrev pub is_required : CommandOption → Bool
is_required option = (option_row option).1

-- each option without a value: its name without the dashes
abbrev pub flag_name : CommandFlag → List ℕ
flag_name All = codes "all"
flag_name ExitCode = codes "exit-code"
flag_name Folded = codes "folded"
flag_name Json = codes "json"
flag_name Fold = codes "fold"
flag_name Complete = codes "complete"
flag_name Hex = codes "hex"
flag_name Partial = codes "partial"
flag_name Notes = codes "notes"

-- the text that was given for an option
abbrev pub given : CommandOption → List Row → Option Text
given option rows = first_of (option_name option) rows

-- an option's value, by the rule of its kind
abbrev pub value : {X : Type 0} → (Text → Option X) → CommandOption → List Row → Option X
value rule option rows = option_and_then rule (given option rows)

-- the same of an option that may be left out
abbrev pub optional : {X : Type 0} → (Text → Option X) → CommandOption → List Row → Option (Option X)
optional rule option rows = option_map_or (λ text. option_map (λ x. Some x) (rule text)) (given option rows) (Some None)

-- the same of an option that stands for a value where it is left out
abbrev pub defaulted : {X : Type 0} → (Text → Option X) → CommandOption → X → List Row → Option X
defaulted rule option default rows = option_map_or rule (given option rows) (Some default)

-- what is made of two values, where both are there
abbrev pub both : {X Y Z : Type 0} → (X → Y → Z) → Option X → Option Y → Option Z
both make x y = option_and_then (λ a. option_map (make a) y) x

-- `clap` gives a flag that was used the text `true`
abbrev pub is_given : CommandFlag → List Row → Bool
is_given flag rows = option_map_or (λ text. bytes_eq text (codes "true")) (first_of (flag_name flag) rows) false
