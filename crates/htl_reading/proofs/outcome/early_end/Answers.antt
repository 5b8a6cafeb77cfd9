-- What is left has one fault, which more bytes may mend.
use Rattle.std.proofs.Common.{◌<◌, ◌≡◌, length, ap, refl, sym, ◌∙◌, arith, Bool, true, false, Some, if◌then◌else◌}
use Rattle.std.proofs.lemmas.Grind.{common_steps}
use Rattle.std.specs.Prelude.{nat_lt}
use Rattle.htl_segment.proofs.BundleLaws.{first_fault-rest}
use Rattle.htl_segment.specs.Bundles.{cut_off, is_early_end}
use Rattle.htl_segment.specs.declared.fault.Fault.TheVariants as faults
use Rattle.htl_reading.proofs.outcome.early_end.Goals as goal

either_early : (short : Bool) → is_early_end (if short then faults.Short else faults.Cut) ≡ true
either_early true = refl
either_early false = refl

pub returns : goal.returns
returns c = λ segments offset_is is_rest.
    let some : 0 < length c.args.rest.now = grind (arith, common_steps) in
    let early : is_early_end (cut_off c.args.rest.now) ≡ true = either_early (nat_lt (length c.args.rest.now) 32) in
    record {
      some = some;
      offset_is = offset_is;
      fault_is = first_fault-rest c.args.rest.now is_rest ∙ ap Some (sym c.cut_off.ensures);
      early = rw (c.cut_off.ensures) early;
      begun = c.begins_header.ensures;
      named = c.name_in.ensures;
    }
