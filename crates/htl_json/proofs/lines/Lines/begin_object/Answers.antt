-- The writer takes the start of an object.
use Rattle.std.proofs.lemmas.Result.{on_ok_weaker}
use Rattle.htl_json.proofs.lines.Lines.begin_object.Goals as goal

pub returns : goal.returns
returns c = on_ok_weaker c.begin_object.result (λ added. (c.begin_object.ensures.room.0, added)) c.begin_object.ensures.ok
