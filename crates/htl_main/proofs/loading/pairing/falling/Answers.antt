-- The pair that is told is the key's segment and one of a lower number that reaches its least sequence.
use Rattle.std.proofs.Common.{◌≡◌, ◌∙◌, Some, ap, sym}
use Rattle.std.specs.Prelude.{slice_get}
use Rattle.std.proofs.lemmas.Option.{same_Some, slice_get-get_or}
use Rattle.htl_main.proofs.PairLaws.{fall_found, no_event, no_lower}
use Rattle.htl_main.proofs.loading.pairing.falling.Goals as goal

pub returns-in_err-floor : goal.returns-in_err-floor
returns-in_err-floor c =
    let found = c.in_ok-place.ensures in
    let look = c.in_ok-get.ensures.lookup in
    let at : slice_get c.args.segments.now c.in_ok-place.place ≡ Some c.in_ok-get.field-0.now =
    slice_get-get_or c.args.segments.now c.in_ok-place.place c.in_ok-get.field-0.now look.3.0 ∙ ap Some (sym look.1) in
    let is = same_Some found.one c.in_ok-get.field-0.now (sym found.here ∙ at) in
    rw (c.from_residual-in_err-floor.ensures) (no_event c.args.segments.now c.args.processor c.args.number c.requires c.in_ok-place.place
    found.one found.here found.passes (rw is c.in_err-floor.ensures))

pub returns-in_err-lower : goal.returns-in_err-lower
returns-in_err-lower c =
    let found = c.in_ok-place.ensures in
    let look = c.in_ok-get.ensures.lookup in
    let at : slice_get c.args.segments.now c.in_ok-place.place ≡ Some c.in_ok-get.field-0.now =
    slice_get-get_or c.args.segments.now c.in_ok-place.place c.in_ok-get.field-0.now look.3.0 ∙ ap Some (sym look.1) in
    let is = same_Some found.one c.in_ok-get.field-0.now (sym found.here ∙ at) in
    rw (c.from_residual-in_err-lower.ensures) (no_lower c.args.segments.now c.args.processor c.args.number c.requires c.in_ok-place.place
    found.one found.here found.passes c.in_ok-floor.floor (rw is c.in_ok-floor.ensures) c.in_err-lower.ensures)

pub returns : goal.returns
returns c =
    let found = c.in_ok-place.ensures in
    let look = c.in_ok-get.ensures.lookup in
    let at : slice_get c.args.segments.now c.in_ok-place.place ≡ Some c.in_ok-get.field-0.now =
    slice_get-get_or c.args.segments.now c.in_ok-place.place c.in_ok-get.field-0.now look.3.0 ∙ ap Some (sym look.1) in
    let is = same_Some found.one c.in_ok-get.field-0.now (sym found.here ∙ at) in
    fall_found c.args.segments.now c.args.processor c.args.number c.in_ok-place.place found.one found.here found.passes
    c.in_ok-floor.floor (rw is c.in_ok-floor.ensures) c.in_ok-lower.lower c.in_ok-lower.ensures
