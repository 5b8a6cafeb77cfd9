-- Files are added as they were read; where one could not be opened, nothing was.
use Rattle.std.proofs.Common.{map, string_bytes}
use Rattle.std.proofs.lemmas.Result.{err_from_is_err_and}
use Rattle.htl_world.specs.Worlds.{change}
use Rattle.htl_ask.proofs.LinesAsked.{names_asked}
use Rattle.htl_ask.proofs.LoadLaws.{not_opened, opened_and_added}
use Rattle.htl_ask.proofs.files.Files.add.Goals as goal

pub returns-in_err-inputs-clause-added : goal.returns-in_err-inputs-clause-added
returns-in_err-inputs-clause-added g c =
    let p = err_from_is_err_and c.from_residual.result c.from_residual.ensures.1 in
    let world = change (g.W.World.state c.args.world.now) (g.W.World.state c.open_files.new.world) in
    rw p.1 (not_opened world c.args.self.now.dialogue.now.setting c.args.loaded.now (map string_bytes c.args.names.now) p.0
    (rw p.2.0 c.in_err-inputs.ensures.refused) p.2.1)

pub returns-in_err-inputs-clause-asked : goal.returns-in_err-inputs-clause-asked
returns-in_err-inputs-clause-asked g c = names_asked _ _ (map string_bytes c.args.names.now) c.open_files.result c.open_files.ensures.asked

pub returns-clause-added : goal.returns-clause-added
returns-clause-added g c =
    let world = change (g.W.World.state c.args.world.now) (g.W.World.state c.open_files.new.world) in
    opened_and_added world c.args.self.now.dialogue.now.setting c.args.loaded.now (map string_bytes c.args.names.now) g.W.Input.Source.state
    c.add.new.loaded c.in_ok-inputs.inputs c.add.new.inputs c.add.result c.in_ok-inputs.ensures
    (rw c.deref_mut.ensures.value at c.add.ensures)

pub returns-clause-asked : goal.returns-clause-asked
returns-clause-asked g c = names_asked _ _ (map string_bytes c.args.names.now) c.open_files.result c.open_files.ensures.asked
