-- The fields at their places are those of the event.
use Rattle.std.proofs.Common.{◌≡◌, ◌+◌, ◌-◌, ◌*◌, ◌/◌, length, take, drop, slice_index, refl, sym, ◌∙◌, arith}
use Rattle.std.proofs.lemmas.List.{length-take, length-drop}
use Rattle.htl_segment.specs.Numbers.{numbers}
use Rattle.htl_segment.specs.Reading.{kind_of, event_in, frames_in}
use Rattle.htl_segment.proofs.PassedTests.{some_is}
use Rattle.htl_segment.proofs.Frames.{numbers-part}
use Rattle.htl_segment.proofs.record.Record.split.Goals as goal

pub returns-clause-event : goal.returns-clause-event
unfolding event_in
returns-clause-event c =
    let b = c.args.bytes.now in
    let n = frames_in b in
    let size : 36 + 8 * n - 36 ≡ 8 * n = omega arith in
    let frames = take (36 + 8 * n - 36) (drop 36 b) in
    let len : length frames / 8 ≡ n = omega (arith, length-take (36 + 8 * n - 36) (drop 36 b), length-drop 36 b, c.requires.whole) in
    let stack : numbers 0 (length frames / 8) frames ≡ numbers 36 n b = rw len (numbers-part n (36 + 8 * n - 36) 36 b size) in
    let kind : c.in-Some.kind ≡ kind_of (slice_index b 8) = some_is c.in-Some.kind (kind_of (slice_index b 8)) (sym c.in-Some.is
    ∙ c.kind.ensures ∙ c.requires.kind) in
    rw (
      c.u64_at.ensures,
      kind,
      c.u32_at.ensures,
      c.u32_at-2.ensures,
      c.u32_at-3.ensures,
      c.u64_at-2.ensures,
      c.copy_from_slice.ensures.after,
      stack,
    ) refl
