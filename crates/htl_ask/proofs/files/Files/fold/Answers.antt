-- Files are folded as they were read; where one could not be opened, nothing was.
use Rattle.std.proofs.Common.{map, string_bytes}
use Rattle.std.proofs.lemmas.Result.{err_from_is_err_and}
use Rattle.htl_world.specs.Worlds.{change}
use Rattle.htl_ask.proofs.LinesAsked.{names_asked}
use Rattle.htl_ask.proofs.FoldLaws.{none_folded, opened_and_folded}
use Rattle.htl_ask.proofs.files.Files.fold.Goals as goal

pub returns-in_err-inputs-clause-folded : goal.returns-in_err-inputs-clause-folded
returns-in_err-inputs-clause-folded g c =
    let p = err_from_is_err_and c.from_residual.result c.from_residual.ensures.1 in
    let world = change (g.W.World.state c.args.world.now) (g.W.World.state c.open_files.new.world) in
    rw p.1 (none_folded world c.args.self.now.dialogue.now.setting c.args.folded.now (map string_bytes c.args.names.now) p.0
    (rw p.2.0 c.in_err-inputs.ensures.refused))

pub returns-in_err-inputs-clause-asked : goal.returns-in_err-inputs-clause-asked
returns-in_err-inputs-clause-asked g c = names_asked _ _ (map string_bytes c.args.names.now) c.open_files.result c.open_files.ensures.asked

pub returns-clause-folded : goal.returns-clause-folded
returns-clause-folded g c =
    let world = change (g.W.World.state c.args.world.now) (g.W.World.state c.open_files.new.world) in
    opened_and_folded world c.args.self.now.dialogue.now.setting c.args.folded.now (map string_bytes c.args.names.now) g.W.Input.Source.state
    c.fold.new.folded c.in_ok-inputs.inputs c.fold.new.inputs c.fold.result c.in_ok-inputs.ensures
    (rw c.deref_mut.ensures.value at c.fold.ensures)

pub returns-clause-asked : goal.returns-clause-asked
returns-clause-asked g c = names_asked _ _ (map string_bytes c.args.names.now) c.open_files.result c.open_files.ensures.asked
