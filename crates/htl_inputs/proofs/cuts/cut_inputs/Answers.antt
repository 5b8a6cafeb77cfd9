-- No input is cut, or the first cut end is that of the first cut input, and the others are those of the others.
use Rattle.std.proofs.Common.{◌-◌, arith, length, refl, sym}
use Rattle.std.proofs.lemmas.Option.{slice_get_within}
use Rattle.htl_inputs.proofs.CutLaws.{none_told, some_told}
use Rattle.htl_inputs.proofs.cuts.cut_inputs.Goals as goal

pub returns-in_err-first : goal.returns-in_err-first
returns-in_err-first c = λ hex inputs are.
    rw (c.from_residual.ensures) (none_told hex inputs c.args.cuts.now (sym c.in_err-first.ensures.value) are)

pub returns : goal.returns
returns c = λ hex inputs are.
    let cuts = c.args.cuts.now in
    let first = c.in_ok-first.first.now in
    let at = sym c.in_ok-first.ensures.value in
    let within = slice_get_within cuts 0 first at in
    some_told hex inputs cuts first (record { first = first.input; others = length cuts - 1 }) at refl (omega (arith, within)) are
