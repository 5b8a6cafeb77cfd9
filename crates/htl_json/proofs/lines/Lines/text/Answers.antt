-- The name and the text are a field.
use Rattle.std.proofs.Common.{arith}
use Rattle.std.proofs.lemmas.Result.{on_ok_weaker}
use Rattle.json.specs.Json.{string}
use Rattle.htl_json.proofs.Line.{field_added}
use Rattle.htl_json.proofs.lines.Lines.text.Goals as goal

pub returns : goal.returns
returns c =
    on_ok_weaker c.write_string.result
    (field_added c.args.name.now (string c.args.text.now) c.args.self.now c.key.new.self c.write_string.new.self (omega arith) c.in_ok-key.ensures.added)
    c.write_string.ensures
