-- What could not be opened is the first name that is absent, or memory was refused.
use Rattle.std.proofs.Common.{map}
use Rattle.std.specs.Prelude.{option_copied, string_bytes}
use Rattle.std.proofs.lemmas.Result.{err_from_is_err_and}
use Rattle.htl_world.specs.Rounds.{inputs_opened}
use Rattle.htl_world.specs.Worlds.{of_each, of_inputs}
use Rattle.htl_world.proofs.FirstAbsent.{only_memory}
use Rattle.htl_world.proofs.NamesOpened.{ends_opened, ends_unopened}
use Rattle.htl_world.proofs.opening.open_all.Goals as goal

pub returns-in_err-open_inputs : goal.returns-in_err-open_inputs
returns-in_err-open_inputs g c =
    let old = g.W.World.state c.args.world.now in
    let names = c.args.names.now in
    let is = c.in_err-open_inputs.ensures in
    let p = err_from_is_err_and c.from_residual.result c.from_residual.ensures.1 in
    rw (p.1, p.2) (ends_unopened old (inputs_opened (map string_bytes names)) (of_inputs old.known.holds old.known.standard names) names
    (option_copied c.args.symbols)
    (λ texts fault. only_memory old.known.holds old.known.standard names texts (of_each old.known.is_absent names) fault) _ _
    c.in_err-open_inputs.field-0.0 is.none is.refused is.asked)

pub returns : goal.returns
returns g c =
    let old = g.W.World.state c.args.world.now in
    let names = c.args.names.now in
    let is = c.in_ok-open_inputs.ensures in
    ends_opened old (inputs_opened (map string_bytes names)) (of_inputs old.known.holds old.known.standard names) names
    (option_copied c.args.symbols)
    (λ texts fault. only_memory old.known.holds old.known.standard names texts (of_each old.known.is_absent names) fault)
    (g.W.World.state c.open_inputs.new.world) _ _ c.read_table.result is.ready is.sources is.there is.asked c.read_table.ensures
