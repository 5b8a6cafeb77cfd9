-- The writer takes a string.
use Rattle.std.proofs.lemmas.Result.{on_ok_weaker}
use Rattle.htl_json.proofs.lines.Lines.write_string.Goals as goal

pub returns : goal.returns
returns c = on_ok_weaker c.string.result (λ added. (c.string.ensures.room.0, added)) c.string.ensures.ok
