-- The table of the commands: a row for each question (this project's own).
use Rattle.std.specs.Prelude.{ℕ, Bool, true, false, List, [], ◌∷◌, Option, Some, None, codes, find, option_and_then, option_map}
use Rattle.std.specs.Str.{bytes_eq}
use Rattle.clap.specs.Words.{Row}
use Rattle.htl_command.specs.Options.{both, defaulted, is_given, optional, value}
use Rattle.htl_command.specs.Values.{count_in, handle_in, object_in, points_in, process_in, since_in, tag_in}
use Rattle.htl_command.specs.declared.names.CommandFlag.{CommandFlag}
use Rattle.htl_command.specs.declared.names.CommandFlag.TheVariants.{All, ExitCode, Folded}
use Rattle.htl_command.specs.declared.names.CommandOption.{CommandOption}
use Rattle.htl_command.specs.declared.names.CommandOption.TheVariants.{Process, Since, AtLeast, Object, Tag, TagOfAll, Handle, Points}
use Rattle.htl_command.specs.declared.table.CommandName.{CommandName}
use Rattle.htl_command.specs.declared.table.CommandName.TheVariants.{Question, Ask, Fold, Explain, Dump, Encode}
use Rattle.htl_command.specs.declared.table.QuestionName.{QuestionName}
use Rattle.htl_command.specs.declared.table.QuestionName.TheVariants as name
use Rattle.htl_question.specs.declared.question.Question.{Question as Asked}
use Rattle.htl_question.specs.declared.question.Question.TheVariants as asks
use Rattle.htl_event.specs.declared.since.Since.TheVariants.{Snapshot}

abbrev pub commands : List CommandName
commands =
    Question name.Summary ∷ Question name.Outstanding ∷ Question name.Diff ∷ Question name.Tags ∷ Question name.Bad
    ∷ Question name.Leaks ∷ Question name.Sites ∷ Question name.Stacks ∷ Question name.Balance ∷ Question name.Trace
    ∷ Question name.Growth ∷ Ask ∷ Fold ∷ Explain ∷ Dump ∷ Encode ∷ []

-- of a question: the name of its command, the options whose values make it, in the order in which they are read, whether it has `--top`,
-- the options without a value that not every question has, and the question that is asked by what was given
pub record QuestionRow : Type 0 where
  pub name : List ℕ
  pub options : List CommandOption
  pub has_top : Bool
  pub flags : List CommandFlag
  pub asked : List Row → Option Asked

abbrev pub row : List ℕ → List CommandOption → Bool → List CommandFlag → (List Row → Option Asked) → QuestionRow
row name options has_top flags asked = record { name = name; options = options; has_top = has_top; flags = flags; asked = asked }

-- a balance is of the tags of all objects, or of the stacks of one tag
abbrev pub balance_of : Bool → Option (List ℕ) → Asked
balance_of all None = asks.Balance all
balance_of all (Some tag) = asks.TagStacks tag

abbrev pub question_row : QuestionName → QuestionRow
question_row name.Summary = row (codes "summary") [] true (ExitCode ∷ []) (λ rows. Some asks.Summary)
question_row name.Outstanding = row (codes "outstanding") (Process ∷ []) true (ExitCode ∷ [])
    (λ rows. option_map (λ p. asks.Outstanding p) (value process_in Process rows))
question_row name.Diff = row (codes "diff") (Process ∷ Since ∷ []) true (ExitCode ∷ [])
    (λ rows. both (λ p s. asks.Diff p s) (value process_in Process rows) (defaulted since_in Since Snapshot rows))
question_row name.Tags = row (codes "tags") (Object ∷ []) false (ExitCode ∷ [])
    (λ rows. option_map (λ o. asks.Tags o) (value object_in Object rows))
question_row name.Bad = row (codes "bad") (Process ∷ []) true (ExitCode ∷ [])
    (λ rows. option_map (λ p. asks.Bad p) (value process_in Process rows))
question_row name.Leaks = row (codes "leaks") (Process ∷ Since ∷ AtLeast ∷ []) true (ExitCode ∷ Folded ∷ [])
    (λ rows. option_and_then (λ p. both (λ s n. asks.Leaks p s n) (optional since_in Since rows) (defaulted count_in AtLeast 1 rows))
    (value process_in Process rows))
question_row name.Sites = row (codes "sites") (Since ∷ AtLeast ∷ []) true (ExitCode ∷ Folded ∷ [])
    (λ rows. both (λ s n. asks.Sites s n) (optional since_in Since rows) (defaulted count_in AtLeast 1 rows))
question_row name.Stacks = row (codes "stacks") (Object ∷ Tag ∷ []) true []
    (λ rows. both (λ o t. asks.Stacks o t) (value object_in Object rows) (value tag_in Tag rows))
question_row name.Balance = row (codes "balance") (TagOfAll ∷ []) true (All ∷ ExitCode ∷ [])
    (λ rows. option_map (balance_of (is_given All rows)) (optional tag_in TagOfAll rows))
question_row name.Trace = row (codes "trace") (Process ∷ Handle ∷ []) true []
    (λ rows. both (λ p h. asks.Trace p h) (value process_in Process rows) (value handle_in Handle rows))
question_row name.Growth = row (codes "growth") (Process ∷ Points ∷ []) false []
    (λ rows. both (λ p n. asks.Growth p n) (value process_in Process rows) (defaulted points_in Points 20 rows))

abbrev pub name_of : CommandName → List ℕ
name_of (Question question) = (question_row question).name
name_of Explain = codes "explain"
name_of Dump = codes "dump"
name_of Encode = codes "encode"
name_of Ask = codes "ask"
name_of Fold = codes "fold"

-- the command of a name
unfoldable pub command_named : List ℕ → Option CommandName
command_named name = find (λ command. bytes_eq (name_of command) name) commands
