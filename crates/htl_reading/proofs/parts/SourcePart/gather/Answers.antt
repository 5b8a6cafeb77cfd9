-- The keeper took all of the part's bytes, since nothing is left behind its segments.
use Rattle.std.proofs.Common.{rules}
use Rattle.std.specs.Io.Take.{take_remaining}
use Rattle.htl_reading.proofs.TakenLaws.{taken_none}
use Rattle.htl_reading.proofs.parts.SourcePart.gather.Goals as goal

pub returns : goal.returns
returns g c =
    let given = take_remaining g.R.Read.remaining c.new-source.result.reader in
    let gathers = c.gather_on.ensures c.args.self.keeper given (taken_none g.K.Keeper.gathers c.args.self.keeper given) in
    let took = rw c.new-source.ensures.reader at gathers.ok in
    search rules
