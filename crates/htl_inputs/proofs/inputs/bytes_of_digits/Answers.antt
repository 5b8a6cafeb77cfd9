-- The digits write these bytes, or none where there is no digit, or their fault is reported.
use Rattle.std.proofs.Common.{◌≡◌, Err, arith, length}
use Rattle.std.proofs.lemmas.Grind.{common_steps}
use Rattle.htl_segment.specs.Hexadecimal.{digits_of}
use Rattle.htl_segment.specs.declared.hexadecimal.HexFault.TheVariants.{NoMemory}
use Rattle.htl_inputs.proofs.DigitsLaws.{Refuses, nothing_written}
use Rattle.htl_inputs.proofs.inputs.bytes_of_digits.Goals as goal

pub returns-in-Err-NoMemory-clause-ok : goal.returns-in-Err-NoMemory-clause-ok
returns-in-Err-NoMemory-clause-ok c =
    let refused = c.in-Err-NoMemory.ensures.refused in
    let refuses : Refuses c.args.input.now (Err NoMemory) = λ fault is. cc (refused fault is, c.in-Err-NoMemory.field-0-is) in
    let none : length (digits_of c.args.input.now) ≡ 0 = grind (arith, common_steps) in
    rw (c.new.ensures.items) (nothing_written c.args.input.now refuses none)
