-- What was picked is of a case, or only whole segments tell.
use Rattle.std.proofs.Common.{List, All, sym, ◌∙◌, rules}
use Rattle.htl_event.specs.declared.interest.Interest.{Interest}
use Rattle.htl_segment.specs.Content.{Content, Fits}
use Rattle.htl_segment.specs.Picks.{ArePicksOf}
use Rattle.htl_case.specs.Picked.{NeedsWhole}
use Rattle.htl_case.proofs.Pickings.{no_trace, key_twice, images, sequence_twice, falls, case_of_picks}
use Rattle.htl_case.proofs.Pickings.{told_to_fall, told_to_rise}
use Rattle.htl_case.proofs.picked.PickedCase.of.Goals.{then-key_comes_twice-via-then-key_comes_twice}
use Rattle.htl_case.proofs.picked.PickedCase.of.Goals.{then-key_comes_twice-via-else-key_comes_twice+then-comes_twice}
use Rattle.htl_case.proofs.picked.PickedCase.of.Goals.{then-key_comes_twice-via-else-key_comes_twice+else-comes_twice+then-is_some}
use Rattle.htl_case.proofs.picked.PickedCase.of.Goals as goal

pub returns-in_err-processors-clause-none : goal.returns-in_err-processors-clause-none
returns-in_err-processors-clause-none c =
    let none : (interest : Interest) (segments : List Content) → ArePicksOf interest c.args.picks segments → All Fits segments
    → NeedsWhole segments =
    λ interest segments are fit.
    no_trace interest c.args.picks segments are fit (rw c.deref.ensures.value at c.in_err-processors.ensures) in
    search (rules, none)

pub returns-then-key_comes_twice-clause-none : goal.returns-then-key_comes_twice-clause-none
returns-then-key_comes_twice-clause-none c interest segments are fit =
    let sorted = c.sort_by_key.new.outlines.items in
    let behind = images interest c.args.picks segments are fit sorted c.sort_by_key.ensures.moved in
    elim c.then-key_comes_twice.branch [
      | then-key_comes_twice-via-then-key_comes_twice w ↦
          key_twice interest c.args.picks segments are fit sorted c.sort_by_key.ensures.moved
          (rw c.deref-2.ensures.value at (c.key_comes_twice.ensures.twice w.if-key_comes_twice.true))
      | then-key_comes_twice-via-else-key_comes_twice+then-comes_twice w ↦
          sequence_twice interest c.args.picks segments are fit sorted behind
          (rw c.deref-2.ensures.value at (c.key_comes_twice.ensures.once w.if-key_comes_twice.false))
          (w.comes_twice.ensures.twice _ are.saw w.if-comes_twice.true)
      | then-key_comes_twice-via-else-key_comes_twice+else-comes_twice+then-is_some w ↦
          falls interest c.args.picks segments are fit sorted behind
          (rw c.deref-2.ensures.value at (c.key_comes_twice.ensures.once w.if-key_comes_twice.false))
          (λ ss is ordered fits. told_to_fall ss w.falling.result (sym w.is_some.ensures ∙ w.if-is_some.true)
          ((rw w.deref-else-comes_twice.ensures.value at w.falling.ensures) ss is ordered fits))
    ]

pub returns-clause-some : goal.returns-clause-some
returns-clause-some c interest segments are fit =
    let sorted = c.sort_by_key.new.outlines.items in
    case_of_picks interest c.args.picks segments are fit sorted
    (images interest c.args.picks segments are fit sorted c.sort_by_key.ensures.moved)
    (rw c.deref-2.ensures.value at (c.key_comes_twice.ensures.once c.if-key_comes_twice.false))
    c.in_ok-processors.processors (rw c.deref.ensures.value at c.in_ok-processors.ensures)
    (c.comes_twice.ensures.once _ are.saw c.if-comes_twice.false)
    (λ ss is ordered fits. told_to_rise ss c.falling.result (sym c.is_some.ensures ∙ c.if-is_some.false)
    ((rw c.deref-else-comes_twice.ensures.value at c.falling.ensures) ss is ordered fits))
