-- Both values are what a reader finds in one text.
use Rattle.std.proofs.Common.{ap, sym, ◌∙◌}
use Rattle.std.proofs.lemmas.List.{append_cancel_right}
use Rattle.std.specs.Option.{unwrap_or}
use Rattle.json.specs.Json.{document}
use Rattle.htl_json.specs.Lines.{text_of}
use Rattle.htl_report.specs.Addresses.{line_feed}
use Rattle.htl_json.proofs.laws.a_line_is_of_one_value.Goals as goal

pub returns : goal.returns
returns c a b read other same =
    let texts = append_cancel_right (text_of a) (text_of b) line_feed same in
    ap (λ found. unwrap_or found a) (sym read.1 ∙ ap document texts ∙ other.1)
