-- What is read is spelled by the bytes, and what they spell is read.
use Rattle.std.proofs.Common.{arith}
use Rattle.htl_state.proofs.States.{read_is_spelled, spelled_is_read}
use Rattle.htl_state.proofs.decoding.decode.Goals as goal

pub returns-clause-found : goal.returns-clause-found
returns-clause-found c =
    read_is_spelled c.args.bytes.now c.read_state.result _ (λ i. omega (arith, c.type_inv.bytes i)) c.read_state.ensures

pub returns-clause-only : goal.returns-clause-only
returns-clause-only c = spelled_is_read c.args.bytes.now c.read_state.result c.read_state.ensures
