-- Processors are tried in turn, and the first that isn't bounded is refused.
use Rattle.std.proofs.Common.{ℕ, List, map, sym, subst, arith}
use Rattle.std.proofs.lemmas.List.{length-map}
use Rattle.std.proofs.lemmas.Result.{err_from_is_err_and}
use Rattle.htl_analyst.specs.Restored.{Fold, IsOver}
use Rattle.htl_saved.specs.Restored.{fold_told}
use Rattle.htl_saved.proofs.BoundsTried.{refused_at, fold_here, more_bounded}
use Rattle.htl_saved.proofs.bounds.check_bounds.Goals as goal

pub returns-in_err-check_part-clause-refused : goal.returns-in_err-check_part-clause-refused
returns-in_err-check_part-clause-refused c =
    let parts = c.args.parts.now in
    let i = c.loop-processor.processor in
    let p = err_from_is_err_and c.from_residual.result c.from_residual.ensures.1 in
    rw (p.1, p.2) (λ (table : List (List ℕ)). refused_at (map (fold_told table) parts) i c.in_err-check_part.field-0.0 (record {
      few = omega (arith, length-map parts (fold_told table), c.requires.few);
      here = omega (arith, length-map parts (fold_told table), c.loop-processor-test.true);
      before = c.loop-processor.invariant table;
    }) (subst (λ (f : Fold). IsOver f i c.in_err-check_part.field-0.0)
    (sym (fold_here table parts i c.index-parts-processor.result c.loop-processor-test.true c.index-parts-processor.is))
    (c.in_err-check_part.ensures.over table)))

pub loop-processor-preserved : goal.loop-processor-preserved
loop-processor-preserved c =
    more_bounded c.args.parts.now c.loop-processor.processor c.index-parts-processor.result c.loop-processor.invariant
    c.loop-processor-test.true c.index-parts-processor.is c.in_ok-check_part.ensures.bounded
