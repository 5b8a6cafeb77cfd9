-- The sums differ, or the checksum itself.
use Rattle.htl_state.proofs.Changed.{one_byte}
use Rattle.htl_state.proofs.laws.a_changed_byte_is_refused.Goals as goal

pub returns : goal.returns
returns c = one_byte
