-- The place of the first `--` is that of its text.
use Rattle.std.proofs.Common.{◌∙◌, rules, string_bytes, tests}
use Rattle.std.proofs.lemmas.Iterator.{YieldsList-from_slice}
use Rattle.std.proofs.lemmas.Iterator.Search.{position_from_yields_List}
use Rattle.htl_dialogue.proofs.Named.{position_of_texts}
use Rattle.htl_dialogue.specs.Sayings.{ends_options}
use Rattle.htl_dialogue.proofs.files.options_end.Goals as goal

pub returns-clause-place : goal.returns-clause-place
returns-clause-place c =
    position_from_yields_List (λ x. ends_options (string_bytes x)) _ _ c.position.result c.position.ensures.ran
    (YieldsList-from_slice c.args.arguments.now cc) (λ x b q k. search (rules, tests))
    ∙ position_of_texts string_bytes ends_options c.args.arguments.now
