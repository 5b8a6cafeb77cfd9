-- The fields of a frame: the address, and then what names it.
use Rattle.std.proofs.Common.{ap, subst}
use Rattle.std.proofs.lemmas.Result.{on_ok_weaker}
use Rattle.htl_symbols.specs.Ranges.{resolved}
use Rattle.htl_json.proofs.Line.{fields_then}
use Rattle.htl_json.specs.Frames.{address_fields, named_fields}
use Rattle.htl_json.specs.Writing.{AddsFields}
use Rattle.htl_json.proofs.frames.write_address.Goals as goal

pub returns : goal.returns
unfolding address_fields
returns c =
    let first = c.address.new.self in
    let last = c.write_named.new.lines in
    let named = named_fields (resolved c.args.symbols.now c.args.address) in
    on_ok_weaker c.write_named.result
    (λ h. fields_then (address_fields c.args.address) named c.args.lines.now first last c.in_ok-address.ensures
    (subst (AddsFields first last) (ap named_fields c.resolve.ensures.value) h))
    c.write_named.ensures
