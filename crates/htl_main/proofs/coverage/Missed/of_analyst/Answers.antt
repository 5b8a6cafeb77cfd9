-- What an analyst tells of its trace is what is missing of it.
use Rattle.std.proofs.Common.{◌∙◌, sym}
use Rattle.htl_main.proofs.FoldLaws.{folded_all}
use Rattle.htl_main.proofs.coverage.Missed.of_analyst.Goals as goal

pub returns : goal.returns
returns c = λ segments T folded all.
    let of = folded_all segments c.args.analyst.now T folded all in
    record { id = c.trace_id.ensures ∙ sym of.right.id; extent = c.in_ok-of_analyst.ensures T of }
