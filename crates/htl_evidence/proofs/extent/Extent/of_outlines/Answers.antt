-- With one processor more, its gaps and its first missing number are listed, and what the processors so far are complete to is known.
use Rattle.std.proofs.Common.{◌≡◌, ◌+◌, ◌∙◌, ℕ, List, ap, sym, subst, arith, length, take}
use Rattle.std.proofs.lemmas.List.{length-map, length-take-le}
use Rattle.htl_segment.specs.Outlines.{outline_of}
use Rattle.htl_segment.specs.Traces.{HasKey}
use Rattle.htl_taken.specs.Gaps.{IsGaps}
use Rattle.htl_taken.specs.Rising.{reach_from}
use Rattle.htl_taken.specs.declared.gap.Gap.{Gap}
use Rattle.htl_taken.proofs.Reaching.{reach_from-le}
use Rattle.htl_case.specs.Complete.{IsUnbrokenTo}
use Rattle.htl_evidence.specs.Outlines.{AreFronts, numbers_of}
use Rattle.htl_evidence.proofs.Covered.{IsCompleteBelow, complete_below_more, complete_below_none, complete_to_all, no_gaps, some_processor}
use Rattle.htl_evidence.proofs.Outlined.{first_fits, fronts_more, no_fronts, outlines_after, outlines_from_first}
use Rattle.htl_evidence.proofs.Outlined.{own_first, own_gaps, own_outlines, own_unbroken}
use Rattle.htl_evidence.proofs.extent.Extent.of_outlines.Goals as goal

pub loop-processor-init : goal.loop-processor-init
loop-processor-init c =
    rw (c.new-gaps.ensures.items) (record {
      rest = λ T are. outlines_from_first T c.args.processors c.args.outlines.now are;
      listed = λ T are. no_gaps T;
      fronts = λ T are. rw (c.new-fronts.ensures.items) (no_fronts T);
      complete = λ T are. complete_below_none T;
    })

pub loop-processor-preserved : goal.loop-processor-preserved
loop-processor-preserved c =
    let p = c.loop-processor.processor in
    let rest = c.loop-processor.rest.now in
    let own = c.split_at_processor.result.0.now in
    let after = c.split_at_processor.result.1.now in
    let inv = c.loop-processor.invariant in
    let split = c.split_at_processor.ensures in
    record {
      rest = λ T are. outlines_after T p rest own after (inv.rest T are) split.parts split.own split.after;
      listed = λ T are.
          let mine = own_outlines T p rest own after (inv.rest T are) split.parts split.own split.after in
          subst (λ (gaps : List Gap). IsGaps (HasKey T) (p + 1) gaps) (sym c.in_ok-add_gaps.ensures)
          (own_gaps T are.0.trace p own mine c.loop-processor.gaps.items (inv.listed T are));
      fronts = λ T are.
          let mine = own_outlines T p rest own after (inv.rest T are) split.parts split.own split.after in
          let first = own_first T are.0.trace p own mine in
          let fits = first_fits T p (reach_from 0 (numbers_of own)) are.0.trace first in
          let inside = reach_from-le 0 (numbers_of own) in
          let few : length (numbers_of own) ≡ length own = length-map own (λ o. o.number) in
          let long : length (take (reach_from 0 (numbers_of own)) own) ≡ reach_from 0 (numbers_of own) =
          length-take-le (reach_from 0 (numbers_of own)) own (omega (arith, inside, few)) in
          let front : c.min.result ≡ reach_from 0 (numbers_of own) =
          omega (arith, c.min.ensures, ap length c.unbroken-first.ensures, long, fits) in
          rw (c.in_ok-push.ensures.items, front) (fronts_more T p c.loop-processor.fronts.items (reach_from 0 (numbers_of own)) (inv.fronts T are) first);
      complete = λ T are.
          let mine = own_outlines T p rest own after (inv.rest T are) split.parts split.own split.after in
          let unbroken : IsUnbrokenTo T p c.greatest_last.result =
          rw (c.greatest_last.ensures, c.unbroken-first.ensures) (own_unbroken T are.0.trace p own mine) in
          complete_below_more T p c.loop-processor.complete_to c.greatest_last.result c.min-complete_to.result
          c.greatest_last.type_inv c.min-complete_to.ensures unbroken (inv.complete T are);
    }

pub returns : goal.returns
returns c = λ T are.
    let all : c.loop-processor.processor ≡ T.processors =
    omega (arith, c.loop-processor-test.false, c.loop-processor.auto.processor-end, are.1) in
    let some = some_processor T are.0.trace are.0.some in
    record {
      is = record {
        processors = are.1;
        segments = ap length are.2 ∙ length-map T.segments outline_of;
        gaps = subst (λ (n : ℕ). IsGaps (HasKey T) n c.loop-processor.gaps.items) all (c.loop-processor.invariant.listed T are);
        complete_to = complete_to_all T c.loop-processor.complete_to some
            (subst (λ (n : ℕ). IsCompleteBelow T n c.loop-processor.complete_to) all (c.loop-processor.invariant.complete T are));
      };
      fronts = subst (λ (n : ℕ). AreFronts T n c.loop-processor.fronts.items) all (c.loop-processor.invariant.fronts T are);
    }
