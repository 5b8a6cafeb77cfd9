-- Where the input is cut within a segment of the trace, the first missing number of its processor says whether one up to it is missing.
use Rattle.std.proofs.Common.{◌≡◌, ◌≤◌, ◌∙◌, Some, ap, arith, length, sym}
use Rattle.std.specs.Prelude.{slice_get}
use Rattle.std.proofs.lemmas.Option.{slice_get-get_or}
use Rattle.htl_main.proofs.Missing.{short_at, short_below, short_outside, short_unknown}
use Rattle.htl_main.proofs.coverage.Missed.short_up_to.Goals as goal

pub returns-in_err-name : goal.returns-in_err-name
returns-in_err-name c = λ T is. rw (c.from_residual.ensures) (short_unknown T c.args.cut.now (c.in_err-name.ensures.none T is))

pub returns-in_err-front : goal.returns-in_err-front
returns-in_err-front c = λ T is.
    let item = rw (c.from.ensures, c.deref.ensures.value) at c.in_err-front.ensures.lookup in
    let out : length c.args.self.now.extent.fronts.items ≤ c.in_ok-name.name.processor = omega (arith, item.3) in
    rw (c.from_residual-in_err-front.ensures) (short_outside T c.args.self.now is c.args.cut.now c.in_ok-name.name.processor
    c.in_ok-name.name.number (c.in_ok-name.ensures.some T is) out)

pub returns-then-name-front : goal.returns-then-name-front
returns-then-name-front c = λ T is.
    let item = rw (c.from.ensures, c.deref.ensures.value) at c.in_ok-front.ensures.lookup in
    let at : slice_get c.args.self.now.extent.fronts.items c.in_ok-name.name.processor ≡ Some c.in_ok-front.field-0.now =
    slice_get-get_or c.args.self.now.extent.fronts.items c.in_ok-name.name.processor c.in_ok-front.field-0.now item.3.0 ∙ ap Some (sym item.1) in
    short_below T c.args.self.now is c.args.cut.now c.in_ok-name.name.processor c.in_ok-name.name.number (c.in_ok-name.ensures.some T is)
    c.in_ok-front.field-0.now at c.if-name-front.true

pub returns : goal.returns
returns c = λ T is.
    let item = rw (c.from.ensures, c.deref.ensures.value) at c.in_ok-front.ensures.lookup in
    let at : slice_get c.args.self.now.extent.fronts.items c.in_ok-name.name.processor ≡ Some c.in_ok-front.field-0.now =
    slice_get-get_or c.args.self.now.extent.fronts.items c.in_ok-name.name.processor c.in_ok-front.field-0.now item.3.0 ∙ ap Some (sym item.1) in
    short_at T c.args.self.now is c.args.cut.now c.in_ok-name.name.processor c.in_ok-name.name.number (c.in_ok-name.ensures.some T is)
    c.in_ok-front.field-0.now at (omega (arith, c.if-name-front.false))
