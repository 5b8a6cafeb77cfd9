-- A state is loaded as an analyst that took its segments, or memory was refused.
use Rattle.std.proofs.Common.{◌<◌, ◌^◌, arith, length}
use Rattle.htl_main.proofs.StatesLoaded.{loaded_folds, refused_memory}
use Rattle.htl_main.proofs.folding.states.load_state.Goals as goal

pub returns-in-Ok-clause-told : goal.returns-in-Ok-clause-told
returns-in-Ok-clause-told c = λ told is.
    let small : length c.args.bytes.now < 2 ^ 64 = omega arith in
    loaded_folds c.args.bytes.now told small is c.in-Ok.analyst c.in-Ok.ensures.loaded

pub returns-in-Err-clause-err : goal.returns-in-Err-clause-err
returns-in-Err-clause-err c = c.load_fault.ensures.fault c.args.bytes.now c.in-Err.ensures.refused

pub returns-in-Err-clause-memory : goal.returns-in-Err-clause-memory
returns-in-Err-clause-memory c = λ told is.
    let small : length c.args.bytes.now < 2 ^ 64 = omega arith in
    c.load_fault.ensures.memory (refused_memory c.args.bytes.now told small is c.in-Err.fault c.in-Err.ensures.refused)
