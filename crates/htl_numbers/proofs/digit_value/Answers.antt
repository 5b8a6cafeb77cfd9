-- What the table has for a byte is the byte's value.
use Rattle.std.proofs.Common.{◌∙◌}
use Rattle.htl_numbers.proofs.Tables.{value_right}
use Rattle.htl_numbers.proofs.digit_value.Goals as goal

pub returns : goal.returns
returns c = c.from.ensures ∙ value_right c.args.byte c.ranges.byte.fits
