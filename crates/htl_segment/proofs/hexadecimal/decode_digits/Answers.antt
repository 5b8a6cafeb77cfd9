-- Each pair of digits gives its byte, until none is left.
use Rattle.std.proofs.Common.{◌+◌, ◌*◌, ◌<◌, ◌≤◌, ◌∙◌, arith, length}
use Rattle.std.proofs.lemmas.List.{length-set}
use Rattle.hex.proofs.HexLemmas.{decode_of-even}
use Rattle.hex.proofs.Pairs.{decode_done, decode_step}
use Rattle.htl_segment.proofs.hexadecimal.decode_digits.Goals as goal

pub loop-place-preserved : goal.loop-place-preserved
loop-place-preserved c =
    let digits = c.args.digits.now in
    let bytes = c.loop-place.bytes.items in
    let i = c.loop-place.place in
    let long = c.loop-place.invariant.0 in
    let pair : 2 * i + 1 < length digits = omega (arith, long, c.loop-place-test.true) in
    let room : i < length bytes = omega (arith, long, c.loop-place-test.true) in (
      length-set bytes i c.byte_of.result ∙ long,
      decode_step digits bytes i c.byte_of.result pair room (c.byte_of.ensures (2 * i)) c.loop-place.invariant.1,
    )

pub returns : goal.returns
returns c =
    let digits = c.args.digits.now in
    let bytes = c.loop-place.bytes.items in
    let i = c.loop-place.place in
    let long = c.loop-place.invariant.0 in
    let past : length bytes ≤ i = omega (arith, long, c.loop-place-test.false) in
    let all : length digits ≤ 2 * i = omega (arith, long, c.requires.even, c.loop-place-test.false) in
    decode_of-even digits c.requires.even ∙ decode_done digits bytes i past all c.loop-place.invariant.1
