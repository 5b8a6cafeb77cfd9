-- Parts are refused as they were checked, and else for want of memory.
use Rattle.std.proofs.Common.{List, map, subst}
use Rattle.std.proofs.lemmas.Result.{err_from_is_err_and}
use Rattle.htl_analyst.specs.Restored.{fold_of, CanRestore, RestoreRefused}
use Rattle.htl_analyst.specs.declared.restoring.FoldedPart.{FoldedPart}
use Rattle.htl_analyst.proofs.analyst.Analyst.of_parts.Goals as goal

pub returns-in_err-check_parts-clause-refused : goal.returns-in_err-check_parts-clause-refused
returns-in_err-check_parts-clause-refused g c =
    let p = err_from_is_err_and c.from_residual.result c.from_residual.ensures.1 in
    rw (p.1, p.2) (subst (λ (ks : List (FoldedPart g.row.A.Denot)). RestoreRefused (map fold_of ks) c.in_err-check_parts.field-0.0)
    c.deref.ensures.value c.in_err-check_parts.ensures.refused)

pub returns-in_err-analyst-clause-refused : goal.returns-in_err-analyst-clause-refused
returns-in_err-analyst-clause-refused g c =
    let p = err_from_is_err_and c.from_residual-in_err-analyst.result c.from_residual-in_err-analyst.ensures.1 in
    rw (p.1, p.2) (subst (λ (ks : List (FoldedPart g.row.A.Denot)). CanRestore (map fold_of ks)) c.deref.ensures.value
    c.in_ok-check_parts.ensures.accepted)
