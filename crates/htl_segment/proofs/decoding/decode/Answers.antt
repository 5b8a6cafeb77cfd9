-- What the first bytes encode is what was checked.
use Rattle.std.proofs.Common.{refl, sym, ◌∙◌}
use Rattle.htl_segment.proofs.SegmentLaws.{begins, same_front}
use Rattle.htl_segment.proofs.decoding.decode.Goals as goal

pub returns-in_err-found-clause-only : goal.returns-in_err-found-clause-only
returns-in_err-found-clause-only c = λ s n front.
    cc (sym (begins c.args.bytes.now n s front).no_fault ∙ c.in_err-found.ensures.fault)

pub returns-clause-only : goal.returns-clause-only
returns-clause-only c = λ s n front.
    let both = same_front c.args.bytes.now _ n c.in_ok-found.found s c.in_ok-found.ensures.found front in
    rw (c.in_ok-segment.ensures, c.byte_len.ensures.value, both.0, both.1) refl
