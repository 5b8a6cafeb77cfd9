-- An input that ends within a segment is accepted only where it may.
use Rattle.std.proofs.Common.{◌∙◌, sym}
use Rattle.htl_inputs.proofs.EndLaws.{no_fault_told}
use Rattle.htl_inputs.proofs.cuts.check_end.Goals as goal

pub returns-in-None-clause-end : goal.returns-in-None-clause-end
returns-in-None-clause-end c = λ segments rest left.
    let within = rw (c.in-Some.is) at left in
    let told = c.fault_of.ensures segments rest within in
    let may = no_fault_told c.args.form.partial rest c.in-Some.early.fault within.early (sym c.in-None.is ∙ told) in
    (may.0, may.1, within)
