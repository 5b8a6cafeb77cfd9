-- What could not be opened is the first name that is absent, or memory was refused; and no standard input is asked for.
use Rattle.std.proofs.Common.{map, rules}
use Rattle.std.specs.Prelude.{option_copied, string_bytes}
use Rattle.std.proofs.lemmas.Result.{err_from_is_err_and}
use Rattle.htl_world.specs.Rounds.{all_opened}
use Rattle.htl_world.specs.Worlds.{of_each}
use Rattle.htl_world.proofs.FirstAbsent.{held_memory}
use Rattle.htl_world.proofs.NamesOpened.{ends_opened, ends_unopened}
use Rattle.htl_world.proofs.opening.open_named.Goals as goal

pub returns-in_err-inputs : goal.returns-in_err-inputs
returns-in_err-inputs g c =
    let old = g.W.World.state c.args.world.now in
    let names = c.args.names.now in
    let is = c.in_err-inputs.ensures in
    let p = err_from_is_err_and c.from_residual.result c.from_residual.ensures.1 in
    rw (p.1, p.2) (ends_unopened old (all_opened (map string_bytes names)) (of_each old.known.holds names) names
    (option_copied c.args.symbols)
    (λ texts fault. held_memory (of_each old.known.holds names) (of_each old.known.is_absent names) texts fault) _ _
    c.in_err-inputs.field-0.0 (search rules) is.refused is.asked)

pub returns : goal.returns
returns g c =
    let old = g.W.World.state c.args.world.now in
    let names = c.args.names.now in
    let is = c.in_ok-inputs.ensures in
    ends_opened old (all_opened (map string_bytes names)) (of_each old.known.holds names) names (option_copied c.args.symbols)
    (λ texts fault. held_memory (of_each old.known.holds names) (of_each old.known.is_absent names) texts fault)
    (g.W.World.state c.open_files.new.world) _ _ c.read_table.result is.ready is.sources is.there is.asked c.read_table.ensures
