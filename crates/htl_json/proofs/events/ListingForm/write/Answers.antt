-- The line of an event has its word.
use Rattle.std.proofs.Common.{subst}
use Rattle.std.proofs.lemmas.Result.{on_ok_weaker}
use Rattle.htl_json.specs.Rows.{event_row}
use Rattle.htl_json.specs.Writing.{AddsLine}
use Rattle.htl_json.proofs.events.ListingForm.write.Goals as goal

pub returns : goal.returns
returns c =
    let event = c.args.event.now in
    on_ok_weaker c.write_event.result
    (subst (λ word. AddsLine c.args.lines.now c.write_event.new.lines (event_row c.args.symbols.now word event.handle event)) c.word.ensures)
    c.write_event.ensures
