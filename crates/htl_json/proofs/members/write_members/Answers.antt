-- Each turn adds the fields of one member.
use Rattle.std.proofs.Common.{arith}
use Rattle.htl_json.proofs.Line.{member_added, members_done}
use Rattle.htl_json.proofs.members.write_members.Goals as goal

pub loop-member-preserved : goal.loop-member-preserved
loop-member-preserved c =
    member_added c.args.members.now c.loop-member.member-index _ c.args.lines.now c.loop-member.lines c.write_member.new.lines
    c.loop-member-test.true c.loop-member.invariant c.in_ok-write_member.ensures

pub returns : goal.returns
returns c =
    members_done c.args.members.now c.loop-member.member-index c.args.lines.now c.loop-member.lines (omega arith) c.loop-member.invariant
