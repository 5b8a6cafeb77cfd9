-- One of the arguments names a process where the text of one of them does.
use Rattle.std.proofs.Common.{◌∙◌, rules, string_bytes, tests}
use Rattle.std.proofs.lemmas.Iterator.{YieldsList-from_slice}
use Rattle.std.proofs.lemmas.Iterator.Search.{any_from_yields_List}
use Rattle.htl_dialogue.proofs.Named.{any_of_texts}
use Rattle.htl_dialogue.specs.Sayings.{names_process}
use Rattle.htl_dialogue.proofs.naming.any_named.Goals as goal

pub returns : goal.returns
returns c =
    any_from_yields_List (λ x. names_process (string_bytes x)) _ _ c.any.result c.any.ensures.ran
    (YieldsList-from_slice c.args.arguments.now cc) (λ x b q k. search (rules, tests))
    ∙ any_of_texts string_bytes names_process c.args.arguments.now
