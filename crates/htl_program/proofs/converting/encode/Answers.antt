-- An encoding of opened inputs is one of their names, and there is none where a name could not be opened.
use Rattle.std.proofs.Common.{◌≡◌, Err, drop, length, rules}
use Rattle.htl_convert.specs.Encodings.{IsEncodedFrom}
use Rattle.htl_lemmas.proofs.Lists.{take_front}
use Rattle.htl_program.proofs.Converted.{all_converted, none_converted}
use Rattle.htl_program.proofs.converting.encode.Goals as goal

pub returns-in_err-open_inputs : goal.returns-in_err-open_inputs
returns-in_err-open_inputs g c =
    let fault = c.in_err-open_inputs.field-0.0 in
    let is : c.from_residual.result ≡ Err fault = search rules in
    none_converted (λ f. f) (IsEncodedFrom c.args.hex) _ _ c.args.files.now _ _ _ fault c.requires is c.in_err-open_inputs.ensures

pub returns : goal.returns
returns g c =
    let inputs = c.open_inputs.new.inputs in
    let kept : length c.encode_from.new.inputs ≡ inputs.len = search rules in
    let back = take_front c.encode_from.new.inputs (drop (length c.encode_from.new.inputs) inputs.items) inputs.len kept in
    let is = rw c.deref_mut.ensures.value at c.encode_from.ensures in
    rw back (all_converted (λ f. f) (IsEncodedFrom c.args.hex) _ _ c.args.files.now _ _ _ _ _ c.in_ok-open_inputs.ensures is)
