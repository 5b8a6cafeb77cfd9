-- A segment is taken, or it is unfit and the analyst stays as before.
use Rattle.std.proofs.Common.{◌<◌, arith, refl}
use Rattle.htl_main.proofs.FoldLaws.{conflicts, falls, held_rise, keeps_one, keeps_same, of_other_count, of_other_trace, takes_one}
use Rattle.htl_main.proofs.folding.folder.take.Goals as goal

pub returns-in-Some-clause-taken : goal.returns-in-Some-clause-taken
returns-in-Some-clause-taken c = λ segments some took rising.
    let a = c.args.analyst.now in
    let s = c.args.segment in
    let first = rw c.in-Some.is at (c.first_to_fall.ensures (held_rise segments a s.processor took some rising)) in
    (rw c.processor-processor.ensures.value (falls segments a s took some c.in-Some.number c.requires first), tt)

pub returns-in-Some-clause-keeps : goal.returns-in-Some-clause-keeps
returns-in-Some-clause-keeps c = keeps_same c.args.analyst.now c.args.analyst.now refl

pub returns-in-Ok-clause-taken : goal.returns-in-Ok-clause-taken
returns-in-Ok-clause-taken c = λ segments some took rising.
    let is = c.in-Ok.ensures.takes in
    let none = rw c.in_default.is at (c.first_to_fall.ensures (held_rise segments c.args.analyst.now c.args.segment.processor took some rising)) in
    takes_one segments c.args.analyst.now c.take.new.self c.args.segment c.in-Ok.field-0 took c.requires is.state is.accepted is.new none
    is.keys is.right

pub returns-in-Ok-clause-keeps : goal.returns-in-Ok-clause-keeps
returns-in-Ok-clause-keeps c =
    let is = c.in-Ok.ensures.takes in
    keeps_one c.args.analyst.now c.take.new.self c.args.segment c.in-Ok.field-0 c.in-Ok.ensures.is_state c.requires is.state is.accepted
    is.one_more

pub returns-in-Err-OtherTrace-default-clause-taken : goal.returns-in-Err-OtherTrace-default-clause-taken
returns-in-Err-OtherTrace-default-clause-taken c = λ segments some took rising. (
  of_other_trace segments c.args.analyst.now c.args.segment took some
      (rw c.in-Err-OtherTrace-default.field-0-0-is at c.in-Err-OtherTrace-default.ensures.takes.cause) c.args.place,
  refl,
)

pub returns-in-Err-OtherTrace-default-clause-keeps : goal.returns-in-Err-OtherTrace-default-clause-keeps
returns-in-Err-OtherTrace-default-clause-keeps c = keeps_same c.args.analyst.now c.take.new.self c.in-Err-OtherTrace-default.ensures.takes.same

pub returns-in-Err-OtherProcessors-default-clause-taken : goal.returns-in-Err-OtherProcessors-default-clause-taken
returns-in-Err-OtherProcessors-default-clause-taken c = λ segments some took rising.
    let is = rw (c.in-Err-OtherProcessors-default).field-0-0-is at (c.in-Err-OtherProcessors-default).ensures.takes.cause in
    (of_other_count segments c.args.analyst.now c.args.segment took some is.0 is.1 c.args.place, refl)

pub returns-in-Err-OtherProcessors-default-clause-keeps : goal.returns-in-Err-OtherProcessors-default-clause-keeps
returns-in-Err-OtherProcessors-default-clause-keeps c =
    keeps_same c.args.analyst.now c.take.new.self (c.in-Err-OtherProcessors-default).ensures.takes.same

pub returns-in-Err-Conflict-default-clause-taken : goal.returns-in-Err-Conflict-default-clause-taken
returns-in-Err-Conflict-default-clause-taken c = λ segments some took rising.
    let a = c.args.analyst.now in
    let s = c.args.segment in
    let is = rw c.in-Err-Conflict-default.field-0-0-is at c.in-Err-Conflict-default.ensures.takes.cause in
    let own = c.requires.processor in
    let count = is.0.processors in
    let within : s.processor < a.processors = omega (arith, own, count) in
    (rw (is.1, is.2) (conflicts segments a s took some is.0 is.3 within), tt)

pub returns-in-Err-Conflict-default-clause-keeps : goal.returns-in-Err-Conflict-default-clause-keeps
returns-in-Err-Conflict-default-clause-keeps c = keeps_same c.args.analyst.now c.take.new.self c.in-Err-Conflict-default.ensures.takes.same
