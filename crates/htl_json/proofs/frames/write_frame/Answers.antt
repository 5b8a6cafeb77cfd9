-- A frame is an object with the fields of its address.
use Rattle.std.proofs.Common.{◌++◌}
use Rattle.std.proofs.lemmas.Result.{on_ok_weaker}
use Rattle.htl_symbols.specs.Ranges.{resolved}
use Rattle.htl_json.proofs.Line.{record_added}
use Rattle.htl_json.specs.Frames.{address_fields, named_fields}
use Rattle.htl_json.proofs.frames.write_frame.Goals as goal

pub returns : goal.returns
returns c =
    let fields = address_fields c.args.address ++ named_fields (resolved c.args.symbols.now c.args.address) in
    on_ok_weaker c.end_object.result
    (record_added fields c.args.lines.now c.begin_object.new.self c.write_address.new.lines c.end_object.new.self c.in_ok-begin_object.ensures
    c.in_ok-write_address.ensures)
    c.end_object.ensures
