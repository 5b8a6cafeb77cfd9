-- A bundle is refused where splitting it is, or where its bytes end too early.
use Rattle.std.proofs.Common.{◌≡◌, [], length, inl, sym, ◌∙◌, arith}
use Rattle.std.proofs.lemmas.Bool.{eqb-false, eqb-true}
use Rattle.std.proofs.lemmas.List.{nil_from_length}
use Rattle.std.proofs.lemmas.Result.{err_from_is_err_and}
use Rattle.htl_segment.proofs.BundleLaws.{bundle_cut, refused_boundary, refused_bundle}
use Rattle.htl_segment.proofs.bundle.decode_bundle.Goals as goal

pub returns-in_err-rest-clause-boundary : goal.returns-in_err-rest-clause-boundary
returns-in_err-rest-clause-boundary c =
    let p = err_from_is_err_and c.from_residual.result c.from_residual.ensures.1 in
    rw (p.1, p.2) (refused_boundary c.args.bytes.now _ _ c.in_err-rest.ensures.refused)

pub returns-in_err-rest-clause-fault : goal.returns-in_err-rest-clause-fault
returns-in_err-rest-clause-fault c =
    let p = err_from_is_err_and c.from_residual.result c.from_residual.ensures.1 in
    rw (p.1, p.2) (refused_bundle c.args.bytes.now _ _ c.in_err-rest.ensures.refused)

pub returns-then-is_empty-clause-found : goal.returns-then-is_empty-clause-found
returns-then-is_empty-clause-found c =
    let gathered = c.in_ok-rest.ensures.gathered in
    let none : c.in_ok-rest.rest.now ≡ [] = nil_from_length _ (eqb-true _ _ (sym c.is_empty.ensures ∙ c.if-is_empty.true)) in
    let all = gathered.2 c.new-kept.result [] c.new-kept.ensures in
    rw (all, ← none) gathered.1

pub returns-clause-fault : goal.returns-clause-fault
returns-clause-fault c =
    let some : length c.in_ok-rest.rest.now ≡ 0 → ⊥ = eqb-false _ _ (sym c.is_empty.ensures ∙ c.if-is_empty.false) in
    rw c.cut_off.ensures (inl (bundle_cut c.args.bytes.now _ c.in_ok-rest.rest.now c.in_ok-rest.ensures.gathered.1 c.in_ok-rest.ensures.rest
    (omega arith)))
