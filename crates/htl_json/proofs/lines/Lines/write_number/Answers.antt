-- The writer takes a number.
use Rattle.std.proofs.lemmas.Result.{on_ok_weaker}
use Rattle.htl_json.proofs.lines.Lines.write_number.Goals as goal

pub returns : goal.returns
returns c = on_ok_weaker c.u64.result (λ added. (c.u64.ensures.room.0, added)) c.u64.ensures.ok
