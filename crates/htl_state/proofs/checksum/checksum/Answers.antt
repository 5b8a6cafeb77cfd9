-- One byte more is added to the sum.
use Rattle.std.proofs.Common.{ℕ, get_or, take, refl, sym, ap, ◌∙◌}
use Rattle.std.proofs.lemmas.List.{take_more}
use Rattle.htl_state.specs.Checksum.{with_byte, with_bytes, checksum}
use Rattle.htl_state.proofs.Turns.{with_bytes-more}
use Rattle.htl_state.proofs.checksum.checksum.Goals as goal

pub loop-byte-init : goal.loop-byte-init
unfolding with_bytes
loop-byte-init c = refl

pub loop-byte-preserved : goal.loop-byte-preserved
loop-byte-preserved c =
    let bytes = c.args.bytes.now in
    let i = c.loop-byte.byte-index in
    let byte = get_or bytes i 0 in
    c.with_byte-sum.ensures ∙ ap (λ (sum : ℕ). with_byte sum byte) c.loop-byte.invariant ∙ sym (with_bytes-more 0 (take i bytes) byte)
    ∙ ap checksum (sym (take_more bytes i 0 c.loop-byte-test.true))
