-- Rows within the bounds tell a state, which is made of its folds and its held segments.
use Rattle.std.proofs.Common.{List, sym, ◌∙◌, ap, subst}
use Rattle.std.specs.List.{flat_map}
use Rattle.std.proofs.lemmas.Result.{err_from_is_err_and}
use Rattle.htl_analyst.specs.Right.{IsState}
use Rattle.htl_state.specs.Rows.{Part, State}
use Rattle.htl_analyst.specs.Restored.{AreNew, with_segments}
use Rattle.htl_analyst.proofs.Restores.{made_again}
use Rattle.htl_saved.proofs.StatesTold.{told_is_state, held_new, state_again, can_from, refused_from, foldable_from, alone_from}
use Rattle.htl_saved.proofs.restoring.analyst_of.Goals as goal

pub returns-in_err-check_bounds-clause-refused : goal.returns-in_err-check_bounds-clause-refused
returns-in_err-check_bounds-clause-refused c =
    let p = err_from_is_err_and c.from_residual.result c.from_residual.ensures.1 in
    let parts = c.deref.ensures.value ∙ ap (λ (s : State). s.parts) c.rows.view_is in
    rw (p.1, p.2) (refused_from c.args.rows.now c.deref.result.now c.in_err-check_bounds.field-0.0 parts c.in_err-check_bounds.ensures.refused)

pub folded_parts-requires : goal.folded_parts-requires
folded_parts-requires c =
    let parts = c.deref.ensures.value ∙ ap (λ (s : State). s.parts) c.rows.view_is in
    let can = can_from c.args.rows.now c.deref.result.now parts c.in_ok-check_bounds.ensures.accepted in
    foldable_from c.args.rows.now c.requires can c.deref-2.result.now c.deref-3.result.now
    (c.deref-2.ensures.value ∙ ap (λ (s : State). s.stacks) c.rows.view_is)
    (c.deref-3.ensures.value ∙ ap (λ (s : State). s.parts) c.rows.view_is)

pub take_held-requires : goal.take_held-requires
take_held-requires c =
    let rows = c.args.rows.now in
    let parts = c.deref.ensures.value ∙ ap (λ (s : State). s.parts) c.rows.view_is in
    let can = can_from rows c.deref.result.now parts c.in_ok-check_bounds.ensures.accepted in
    let alone = alone_from rows c.in_ok-analyst.analyst c.rows.inside.trace_id _ c.deref-2.result.now c.deref-3.result.now
    c.in_ok-analyst.ensures.state (ap (λ (s : State). s.trace_id) c.rows.view_is) c.in_ok-folds.ensures
    (c.deref-2.ensures.value ∙ ap (λ (s : State). s.stacks) c.rows.view_is)
    (c.deref-3.ensures.value ∙ ap (λ (s : State). s.parts) c.rows.view_is) in
    subst (λ (ps : List Part). AreNew c.in_ok-analyst.analyst (flat_map (λ (p : Part). p.held) ps))
    (sym (c.deref-4.ensures.value ∙ ap (λ (s : State). s.parts) c.rows.view_is))
    (held_new rows c.requires can made_again c.in_ok-analyst.analyst alone)

pub returns-clause-state : goal.returns-clause-state
returns-clause-state c =
    let rows = c.args.rows.now in
    let a = c.in_ok-analyst.analyst in
    let parts = c.deref.ensures.value ∙ ap (λ (s : State). s.parts) c.rows.view_is in
    let can = can_from rows c.deref.result.now parts c.in_ok-check_bounds.ensures.accepted in
    let alone = alone_from rows a c.rows.inside.trace_id _ c.deref-2.result.now c.deref-3.result.now
    c.in_ok-analyst.ensures.state (ap (λ (s : State). s.trace_id) c.rows.view_is) c.in_ok-folds.ensures
    (c.deref-2.ensures.value ∙ ap (λ (s : State). s.stacks) c.rows.view_is)
    (c.deref-3.ensures.value ∙ ap (λ (s : State). s.parts) c.rows.view_is) in
    let taken = c.in_ok-take_held.ensures ∙ ap (λ (ps : List Part). with_segments a (flat_map (λ (p : Part). p.held) ps))
    (c.deref-4.ensures.value ∙ ap (λ (s : State). s.parts) c.rows.view_is) in
    let told = state_again rows c.requires can made_again a c.take_held.new.analyst alone taken in
    (told, subst IsState (sym told) (told_is_state rows c.requires can))
