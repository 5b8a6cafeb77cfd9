-- What is left of an input ends within a segment, or is nothing.
use Rattle.htl_convert.proofs.dumping.finish.Goals as goal

pub returns-clause-ok : goal.returns-clause-ok
returns-clause-ok c = λ segments at.
    c.check_end.ensures.end segments c.args.rest.now (c.early_end.ensures segments at c.requires)
