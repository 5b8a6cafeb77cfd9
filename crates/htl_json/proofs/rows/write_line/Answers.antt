-- A line has the fields of the members, and no others.
use Rattle.std.proofs.lemmas.Result.{on_ok_weaker}
use Rattle.std.specs.List.{flat_map}
use Rattle.htl_json.proofs.Line.{line_added}
use Rattle.htl_json.specs.Writing.{member_fields}
use Rattle.htl_json.proofs.rows.write_line.Goals as goal

pub returns : goal.returns
returns c =
    on_ok_weaker c.end_line.result
    (line_added (flat_map member_fields c.args.members.now) c.args.lines.now c.begin_object.new.self c.write_members.new.lines c.end_line.new.self
    c.requires c.in_ok-begin_object.ensures c.in_ok-write_members.ensures)
    c.end_line.ensures
