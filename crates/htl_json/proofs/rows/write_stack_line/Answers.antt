-- A line has the fields of the members, and the stack.
use Rattle.std.proofs.Common.{◌++◌}
use Rattle.std.proofs.lemmas.Result.{on_ok_weaker}
use Rattle.std.specs.List.{flat_map}
use Rattle.htl_json.proofs.Line.{fields_then, line_added}
use Rattle.htl_json.specs.Frames.{stack_fields}
use Rattle.htl_json.specs.Writing.{member_fields}
use Rattle.htl_json.proofs.rows.write_stack_line.Goals as goal

pub returns : goal.returns
returns c =
    let a = flat_map member_fields c.args.members.now in
    let b = stack_fields c.args.symbols.now c.args.stack.now in
    let fields = fields_then a b c.begin_object.new.self c.write_members.new.lines c.write_stack.new.lines c.in_ok-write_members.ensures
    c.in_ok-write_stack.ensures in
    on_ok_weaker c.end_line.result
    (line_added (a ++ b) c.args.lines.now c.begin_object.new.self c.write_stack.new.lines c.end_line.new.self c.requires c.in_ok-begin_object.ensures fields)
    c.end_line.ensures
