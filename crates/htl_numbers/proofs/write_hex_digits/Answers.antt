-- Digits are text.
use Rattle.htl_numbers.proofs.Tables.{padded_text}
use Rattle.htl_numbers.proofs.write_hex_digits.Goals as goal

pub unreachable-requires : goal.unreachable-requires
unreachable-requires c = c.in-Err.ensures.cases.0 (rw c.hex_digits.ensures (padded_text c.args.number c.ranges.number.fits))
