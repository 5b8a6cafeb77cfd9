-- The name and the number are a field.
use Rattle.std.proofs.Common.{arith}
use Rattle.std.proofs.lemmas.Result.{on_ok_weaker}
use Rattle.htl_json.proofs.Line.{field_added}
use Rattle.htl_json.specs.Records.{quantity}
use Rattle.htl_json.proofs.lines.Lines.number.Goals as goal

pub returns : goal.returns
returns c =
    on_ok_weaker c.write_number.result
    (field_added c.args.name.now (quantity c.args.number) c.args.self.now c.key.new.self c.write_number.new.self (omega arith) c.in_ok-key.ensures.added)
    c.write_number.ensures
