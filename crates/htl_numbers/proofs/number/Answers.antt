-- A byte that is no digit or a number that grows too great ends the reading, and one digit more goes on with it.
use Rattle.std.proofs.Common.{◌≡◌, ◌≤◌, ◌<◌, ◌+◌, ◌*◌, ◌^◌, arith, inl, inr, ◌∙◌, take, take_all, length, get_or}
use Rattle.std.specs.Char.{digit_value}
use Rattle.std.proofs.lemmas.Bool.{cases_lt}
use Rattle.std.proofs.lemmas.Grind.{common_steps}
use Rattle.htl_numbers.proofs.Digits.{all_digits_read, digit_next, no_digits, other_byte, overflow, too_great}
use Rattle.htl_numbers.proofs.number.Goals as goal

pub returns-then-digit-radix-clause-value : goal.returns-then-digit-radix-clause-value
returns-then-digit-radix-clause-value c =
    let d = digit_value (get_or c.args.text.now c.loop-byte.byte-index 0) in
    let is : c.digit_value-digit.result ≡ d = c.digit_value-digit.ensures in
    other_byte c.args.radix c.args.most c.args.text.now c.loop-byte.byte-index (omega arith) (rw (← is) (c.if-digit-radix.true))

pub returns-in_err-checked_mul-clause-value : goal.returns-in_err-checked_mul-clause-value
returns-in_err-checked_mul-clause-value c =
    let one : 1 ≤ c.args.radix = elim (c.requires) [ inl e ↦ omega (arith, e) | inr e ↦ omega (arith, e) ] in
    let low : c.digit_value-digit.result < c.args.radix = omega (arith, c.if-digit-radix.false) in
    let number = c.loop-byte.number * c.args.radix in
    elim (cases_lt number (2 ^ 64)) [
      | inl fits ↦ absurd (c.in_err-checked_mul.ensures fits)
      | inr great ↦ c.from_residual.ensures ∙ overflow c.args.radix c.args.most c.args.text.now c.loop-byte.byte-index c.loop-byte.number
          c.digit_value-digit.result (omega arith) c.loop-byte.invariant.digits c.loop-byte.invariant.value
          c.digit_value-digit.ensures low one (omega (arith, great, c.ranges.most.fits))
    ]

pub returns-in_err-number-clause-value : goal.returns-in_err-number-clause-value
returns-in_err-number-clause-value c =
    let one : 1 ≤ c.args.radix = elim (c.requires) [ inl e ↦ omega (arith, e) | inr e ↦ omega (arith, e) ] in
    let low : c.digit_value-digit.result < c.args.radix = omega (arith, c.if-digit-radix.false) in
    let product : c.in_ok-checked_mul.field-0 ≡ c.loop-byte.number * c.args.radix = c.in_ok-checked_mul.ensures.1 in
    let number = c.in_ok-checked_mul.field-0 + c.digit_value-digit.result in
    elim (cases_lt number (2 ^ 64)) [
      | inl fits ↦ absurd (c.in_err-number.ensures fits)
      | inr great ↦ c.from_residual-in_err-number.ensures ∙ overflow c.args.radix c.args.most c.args.text.now c.loop-byte.byte-index
          c.loop-byte.number c.digit_value-digit.result (omega arith) c.loop-byte.invariant.digits c.loop-byte.invariant.value
          c.digit_value-digit.ensures low one (rw (← product) (omega (arith, great, c.ranges.most.fits)))
    ]

pub loop-byte-preserved : goal.loop-byte-preserved
loop-byte-preserved c =
    let low : c.digit_value-digit.result < c.args.radix = omega (arith, c.if-digit-radix.false) in
    let product : c.in_ok-checked_mul.field-0 ≡ c.loop-byte.number * c.args.radix = c.in_ok-checked_mul.ensures.1 in
    let sum : c.in_ok-number.number ≡ c.in_ok-checked_mul.field-0 + c.digit_value-digit.result = c.in_ok-number.ensures.1 in
    let next = digit_next c.args.radix c.args.text.now c.loop-byte.byte-index c.loop-byte.number c.digit_value-digit.result (omega arith)
    c.loop-byte.invariant.digits c.loop-byte.invariant.value c.digit_value-digit.ensures low in
    record { digits = next.0; value = rw (sum, product) (next.1) }

pub returns-then-number-most-clause-value : goal.returns-then-number-most-clause-value
returns-then-number-most-clause-value c =
    let inv = c.loop-byte.invariant in
    let text = c.args.text.now in
    let some : 0 < length text = grind (arith, common_steps) in
    let all : take c.loop-byte.byte-index text ≡ text = take_all c.loop-byte.byte-index text (omega arith) in
    all_digits_read c.args.radix c.args.most text c.loop-byte.number some (rw all at inv.digits) (rw all at inv.value)
    (omega (arith, c.if-number-most.true))

pub returns-else-number-most-clause-value : goal.returns-else-number-most-clause-value
returns-else-number-most-clause-value c =
    let one : 1 ≤ c.args.radix = elim (c.requires) [ inl e ↦ omega (arith, e) | inr e ↦ omega (arith, e) ] in
    let inv = c.loop-byte.invariant in
    too_great c.args.radix c.args.most c.args.text.now c.loop-byte.byte-index one (rw (← inv.value) (omega (arith, c.if-number-most.false)))

pub returns-then-is_empty-clause-value : goal.returns-then-is_empty-clause-value
returns-then-is_empty-clause-value c =
    let none : length c.args.text.now ≡ 0 = grind (arith, common_steps) in no_digits c.args.radix c.args.most c.args.text.now none
