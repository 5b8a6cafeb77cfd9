-- The writer takes the end of an array.
use Rattle.std.proofs.lemmas.Result.{on_ok_weaker}
use Rattle.htl_json.proofs.lines.Lines.end_array.Goals as goal

pub returns : goal.returns
returns c = on_ok_weaker c.end_array.result (λ added. (c.end_array.ensures.room.0, added)) c.end_array.ensures.ok
