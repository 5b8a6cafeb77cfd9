-- The sequences of one segment more were seen, and one segment more fits.
use Rattle.std.proofs.Common.{ℕ, List, map, take, refl, subst}
use Rattle.std.proofs.lemmas.List.{take_all}
use Rattle.std.proofs.lemmas.List.Elements.{All-more}
use Rattle.htl_segment.specs.Content.{Content, Fits}
use Rattle.htl_segment.specs.Repeated.{sequence_of}
use Rattle.htl_segment.specs.Seen.{Saw}
use Rattle.htl_segment.specs.Traces.{all_events}
use Rattle.htl_case.proofs.Gathered.{sequences_more}
use Rattle.htl_case.proofs.sequences.one_comes_twice.Goals as goal

pub loop-segment-preserved : goal.loop-segment-preserved
loop-segment-preserved c =
    let before : List ℕ = map sequence_of (all_events (take c.loop-segment.segment-index c.args.segments.now)) in
    record {
      saw = subst (λ (xs : List ℕ). Saw c.note_sequences.new.seen xs)
          (sequences_more c.args.segments.now c.loop-segment.segment-index c.segment-item.result before _ c.loop-segment-test.true
          c.segment-item.is refl refl)
          (rw c.events.ensures.value at (c.in_ok-note_sequences.ensures before c.loop-segment.invariant.saw));
      fit = All-more Fits c.args.segments.now c.loop-segment.segment-index c.segment-item.result c.loop-segment-test.true
          c.loop-segment.invariant.fit (rw (← c.segment-item.is) c.events.ensures.fits);
    }

pub returns-clause-once : goal.returns-clause-once
returns-clause-once c once =
    let all = take_all c.loop-segment.segment-index c.args.segments.now c.loop-segment-test.false in
    c.comes_twice.ensures.once (map sequence_of (all_events c.args.segments.now))
    (subst (λ (ss : List Content). Saw c.loop-segment.seen (map sequence_of (all_events ss))) all c.loop-segment.invariant.saw) once
