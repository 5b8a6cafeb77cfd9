-- A range overlaps one of the table exactly where it overlaps the last one begun before its end.
use Rattle.htl_symbols.proofs.Overlaps.{any-met, none-met}
use Rattle.htl_symbols.proofs.symbols.Symbols.overlaps.Goals as goal

pub returns-in-Some : goal.returns-in-Some
returns-in-Some c = any-met c.args.self.now c.args.start c.args.end _ c.requires c.in-Some.ensures.last

pub returns-in-None : goal.returns-in-None
returns-in-None c = none-met c.args.self.now c.args.start c.args.end c.requires c.in-None.ensures.last
