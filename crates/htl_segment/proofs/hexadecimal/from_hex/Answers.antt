-- What was gathered of the text are its digits alone, which write the bytes.
use Rattle.std.proofs.Common.{◌∙◌}
use Rattle.std.proofs.lemmas.List.Elements.{filter_passes}
use Rattle.hex.specs.Hex.{is_hex_digit}
use Rattle.htl_segment.proofs.hexadecimal.from_hex.Goals as goal

pub decode_digits-requires-clause-digits : goal.decode_digits-requires-clause-digits
decode_digits-requires-clause-digits c =
    rw (c.deref.ensures.value ∙ c.in_ok-digits.ensures) (filter_passes is_hex_digit c.args.text.now)
