-- The segments so far are those of the inputs so far, and the parts say of which input each is.
use Rattle.std.proofs.Common.{map}
use Rattle.htl_inputs.proofs.SpanLaws.{IsSoFar}
use Rattle.htl_inputs.proofs.inputs.decode_all.Given as goal

abbrev pub invariant-loop-place : goal.invariant-loop-place
invariant-loop-place l = IsSoFar l.form (map (λ input. input.items) l.inputs) l.place l.decoded
