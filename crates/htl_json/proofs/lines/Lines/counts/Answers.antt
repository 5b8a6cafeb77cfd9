-- Two fields, of which each call adds one: references, dereferences.
use Rattle.std.proofs.Common.{◌∷◌, [], codes}
use Rattle.std.proofs.lemmas.Result.{on_ok_weaker}
use Rattle.htl_json.proofs.Line.{fields_then}
use Rattle.htl_json.specs.Records.{count_fields, quantity}
use Rattle.htl_json.proofs.lines.Lines.counts.Goals as goal

pub returns : goal.returns
unfolding count_fields
returns c =
    let a = (codes "references", quantity c.args.references) ∷ [] in
    let b = (codes "dereferences", quantity c.args.dereferences) ∷ [] in
    on_ok_weaker c.number-2.result
    (λ h. fields_then a b c.args.self.now c.number.new.self c.number-2.new.self c.in_ok-number.ensures h)
    c.number-2.ensures
