-- A history leaves a state, as each of its calls may be answered.
use Rattle.htl_main.proofs.Foldable.{any_history_leaves_a_state}
use Rattle.htl_main.proofs.laws.any_history_leaves_a_state.Goals as goal

pub returns : goal.returns
returns c = any_history_leaves_a_state
