-- The body that is read is the state, and one that is refused refuses it.
use Rattle.std.proofs.Common.{drop, List, ℕ, ap, ◌∙◌}
use Rattle.htl_state.proofs.Steps.{state_read, state_refused}
use Rattle.htl_state.proofs.decoding.read_state.Goals as goal

pub returns-in-Ok : goal.returns-in-Ok
returns-in-Ok c =
    state_read c.args.bytes.now c.behind.result.now c.u64_at.result c.u64_at-2.result _ _ c.in_ok-check_frame.ensures.fault
    (c.behind.ensures ∙ ap (λ (x : List ℕ). drop 24 x) c.split_at.ensures.front) c.u64_at.ensures c.u64_at-2.ensures c.in-Ok.ensures

pub returns-in-Err : goal.returns-in-Err
returns-in-Err c =
    state_refused c.args.bytes.now c.behind.result.now c.u64_at.result c.u64_at-2.result c.in-Err.refused c.offset_of.result
    c.in_ok-check_frame.ensures.fault (c.behind.ensures ∙ ap (λ (x : List ℕ). drop 24 x) c.split_at.ensures.front) c.u64_at.ensures
    c.u64_at-2.ensures c.offset_of.ensures c.in-Err.ensures
