-- One of the arguments is an option where the text of one of them is.
use Rattle.std.proofs.Common.{◌∙◌, rules, string_bytes, tests}
use Rattle.std.proofs.lemmas.Iterator.{YieldsList-from_slice}
use Rattle.std.proofs.lemmas.Iterator.Search.{any_from_yields_List}
use Rattle.htl_dialogue.proofs.Named.{any_of_texts}
use Rattle.htl_dialogue.specs.Sayings.{is_option}
use Rattle.htl_dialogue.proofs.files.any_option.Goals as goal

pub returns : goal.returns
returns c =
    any_from_yields_List (λ x. is_option (string_bytes x)) _ _ c.any.result c.any.ensures.ran
    (YieldsList-from_slice c.args.arguments.now cc) (λ x b q k. search (rules, tests))
    ∙ any_of_texts string_bytes is_option c.args.arguments.now
