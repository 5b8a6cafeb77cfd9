-- A dump of opened inputs is one of their names, and there is none where a name could not be opened.
use Rattle.std.proofs.Common.{◌≡◌, Err, drop, length, rules}
use Rattle.htl_convert.specs.Dumps.{IsDumpedFrom}
use Rattle.htl_lemmas.proofs.Lists.{take_front}
use Rattle.htl_world.specs.Worlds.{of_each}
use Rattle.htl_world.proofs.FirstAbsent.{none_absent}
use Rattle.htl_program.proofs.Converted.{all_converted, none_converted}
use Rattle.htl_program.proofs.converting.dump.Goals as goal

pub returns-in_err-open_inputs-clause-dumped : goal.returns-in_err-open_inputs-clause-dumped
returns-in_err-open_inputs-clause-dumped g c =
    let fault = c.in_err-open_inputs.field-0.0 in
    let is : c.from_residual.result ≡ Err fault = search rules in
    none_converted (λ f. f) (IsDumpedFrom c.args.form) _ _ c.args.files.now _ _ _ fault c.requires is c.in_err-open_inputs.ensures

pub returns-clause-dumped : goal.returns-clause-dumped
returns-clause-dumped g c =
    let inputs = c.open_inputs.new.inputs in
    let kept : length c.dump_from.new.inputs ≡ inputs.len = search rules in
    let back = take_front c.dump_from.new.inputs (drop (length c.dump_from.new.inputs) inputs.items) inputs.len kept in
    let is = rw c.deref_mut.ensures.value at c.dump_from.ensures in
    rw back (all_converted (λ f. f) (IsDumpedFrom c.args.form) _ _ c.args.files.now _ _ _ _ _ c.in_ok-open_inputs.ensures is)

pub returns-clause-untouched : goal.returns-clause-untouched
returns-clause-untouched g c =
    let world = (g.W.World.state c.args.world.now).known in
    let names = c.args.files.now in
    λ place absent. absurd (none_absent (of_each world.holds names) (of_each world.is_absent names) place c.in_ok-open_inputs.ensures.there absent)
