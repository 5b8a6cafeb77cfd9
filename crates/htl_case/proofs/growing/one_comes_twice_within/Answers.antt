-- The sequences within the span were seen of one segment more, and one segment more fits.
use Rattle.std.proofs.Common.{ℕ, List, subst, take}
use Rattle.std.proofs.lemmas.List.{take_all}
use Rattle.std.proofs.lemmas.List.Elements.{All-more}
use Rattle.htl_segment.specs.Content.{Content, Fits}
use Rattle.htl_segment.specs.Seen.{Saw}
use Rattle.htl_case.proofs.MoreSegments.{sequences_within, within_more}
use Rattle.htl_case.proofs.growing.one_comes_twice_within.Goals as goal

pub loop-segment-preserved : goal.loop-segment-preserved
loop-segment-preserved c =
    let ss = c.args.segments.now in
    let i = c.loop-segment.segment-index in
    let before = sequences_within c.args.span (take i ss) in
    record {
      saw = subst (λ (xs : List ℕ). Saw c.note_within.new.seen xs)
          (within_more c.args.span ss i c.segment-item.result c.loop-segment-test.true c.segment-item.is)
          (c.in_ok-note_within.ensures.saw before c.loop-segment.invariant.saw);
      fit = All-more Fits ss i c.segment-item.result c.loop-segment-test.true c.loop-segment.invariant.fit
          (rw (← c.segment-item.is) c.in_ok-note_within.ensures.fit);
    }

pub returns-clause-once : goal.returns-clause-once
returns-clause-once c once =
    let all = take_all c.loop-segment.segment-index c.args.segments.now c.loop-segment-test.false in
    c.comes_twice.ensures.once (sequences_within c.args.span c.args.segments.now)
    (subst (λ (ss : List Content). Saw c.loop-segment.seen (sequences_within c.args.span ss)) all c.loop-segment.invariant.saw) once
