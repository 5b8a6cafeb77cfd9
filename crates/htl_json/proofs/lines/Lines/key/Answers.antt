-- The writer takes the name of a field.
use Rattle.std.proofs.lemmas.Result.{on_ok_weaker}
use Rattle.htl_json.proofs.lines.Lines.key.Goals as goal

pub returns-clause-added : goal.returns-clause-added
returns-clause-added c = on_ok_weaker c.key.result (λ added. (c.key.ensures.room.0, added)) c.key.ensures.ok
