-- The key of a segment that is new isn't taken.
use Rattle.std.proofs.Common.{◌≡◌, false, refl}
use Rattle.htl_analyst.specs.Keys.{keys}
use Rattle.htl_main.proofs.FallingLaws.{not_a_key}
use Rattle.htl_main.proofs.folding.falling.is_new_to.Goals as goal

pub returns-then-processors-clause-no : goal.returns-then-processors-clause-no
returns-then-processors-clause-no c = λ new.
    let a = c.args.analyst.now in
    let s = c.args.segment.now in
    let none : keys a s.processor s.number ≡ false = not_a_key a s.processor s.number new.new in
    rw (c.has.ensures, c.processor.ensures.value, c.number.ensures, none) refl
