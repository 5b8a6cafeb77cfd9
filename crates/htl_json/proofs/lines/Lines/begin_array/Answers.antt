-- The writer takes the start of an array.
use Rattle.std.proofs.lemmas.Result.{on_ok_weaker}
use Rattle.htl_json.proofs.lines.Lines.begin_array.Goals as goal

pub returns : goal.returns
returns c = on_ok_weaker c.begin_array.result (λ added. (c.begin_array.ensures.room.0, added)) c.begin_array.ensures.ok
