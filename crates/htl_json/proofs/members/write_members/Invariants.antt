-- The fields of the members so far were added.
use Rattle.std.proofs.Common.{take}
use Rattle.std.specs.List.{flat_map}
use Rattle.htl_json.specs.Writing.{AddsFields, member_fields}
use Rattle.htl_json.proofs.members.write_members.Given as goal

abbrev pub invariant-loop-member : goal.invariant-loop-member
invariant-loop-member l = AddsFields l.initial.lines l.lines (flat_map member_fields (take l.member-index l.members))
