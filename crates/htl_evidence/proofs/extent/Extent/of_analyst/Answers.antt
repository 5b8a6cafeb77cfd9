-- What an analyst tells of its trace is the extent of the trace.
use Rattle.std.proofs.Common.{◌∙◌, subst, sym}
use Rattle.htl_case.specs.Complete.{IsFirstMissing}
use Rattle.htl_evidence.proofs.TellLaws.{folds_extent, front_missing}
use Rattle.htl_evidence.proofs.extent.Extent.of_analyst.Goals as goal

pub returns : goal.returns
returns c = λ T folded.
    let a = c.args.analyst.now in
    let fronts = c.in_ok-fronts.ensures in
    record {
      is = folds_extent a T folded c.processors.result c.taken.result c.complete_to.result c.in_ok-gaps.field-0.items
          c.processors.ensures.value c.taken.ensures c.in_ok-gaps.ensures (c.complete_to.ensures.complete T folded.right);
      fronts = record {
        each = fronts.each ∙ sym folded.right.processors;
        first = λ p n at. subst (IsFirstMissing T p) (fronts.front p n at) (front_missing a T folded p);
      };
    }
