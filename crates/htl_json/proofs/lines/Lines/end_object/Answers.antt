-- The writer takes the end of an object.
use Rattle.std.proofs.lemmas.Result.{on_ok_weaker}
use Rattle.htl_json.proofs.lines.Lines.end_object.Goals as goal

pub returns : goal.returns
returns c = on_ok_weaker c.end_object.result (λ added. (c.end_object.ensures.room.0, added)) c.end_object.ensures.ok
