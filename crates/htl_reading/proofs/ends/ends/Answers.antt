-- An end is sought behind the least length of a part.
use Rattle.std.proofs.Common.{◌≤◌, ◌*◌, ◌/◌, ◌<◌, arith}
use Rattle.std.proofs.lemmas.Grind.{common_steps}
use Rattle.std.proofs.lemmas.Nat.{le-div}
use Rattle.std.proofs.lemmas.Option.{IfSome_then}
use Rattle.std.proofs.Math.Nat.{div-mul-le_self, le-mul_of_pos_right}
use Rattle.htl_reading.specs.declared.ends.TheConstants.{MIN_PART_LEN}
use Rattle.htl_reading.proofs.ends.ends.Goals as goal

pub add_end-requires-clause-found : goal.add_end-requires-clause-found
add_end-requires-clause-found g c =
    let parts = c.min-parts.result in
    let each = c.min-each.result in
    let some : 0 < parts = grind (arith, common_steps) in
    let few : parts ≤ c.args.len / MIN_PART_LEN = grind (arith, common_steps) in
    let whole : MIN_PART_LEN * parts ≤ c.args.len = omega (arith, few, div-mul-le_self c.args.len MIN_PART_LEN) in
    let long : MIN_PART_LEN ≤ c.args.len / parts = le-div MIN_PART_LEN c.args.len parts some whole in
    let least : MIN_PART_LEN ≤ each = grind (arith, common_steps, long) in
    let first : 0 < c.loop-part.part = grind (arith, common_steps) in
    let more : each ≤ each * c.loop-part.part = le-mul_of_pos_right each first in
    let near : MIN_PART_LEN ≤ c.saturating_mul.result = grind (arith, common_steps, least, more) in
    IfSome_then c.find_segment-end.result c.find_segment-end.ensures.behind (λ end behind. omega (arith, near, behind))
