-- The line of an open has the base handle.
use Rattle.std.proofs.Common.{codes, subst}
use Rattle.std.proofs.lemmas.Result.{on_ok_weaker}
use Rattle.htl_json.specs.Rows.{event_row}
use Rattle.htl_json.specs.Writing.{AddsLine}
use Rattle.htl_json.proofs.events.OpensForm.write.Goals as goal

pub returns : goal.returns
returns c =
    on_ok_weaker c.write_event.result
    (subst (λ base. AddsLine c.args.lines.now c.write_event.new.lines (event_row c.args.symbols.now (codes "OPEN") base c.args.event.now)) c.base.ensures)
    c.write_event.ensures
