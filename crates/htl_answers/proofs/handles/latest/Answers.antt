-- The handle's latest event over one part more is the later of that so far and the part's.
use Rattle.std.proofs.Common.{◌≢◌, ◌++◌, ◌∙◌, arith}
use Rattle.std.proofs.lemmas.List.{take_all}
use Rattle.htl_event.specs.Slots.{base_of}
use Rattle.htl_answers.proofs.Appended.{latest_append}
use Rattle.htl_event.proofs.Members.{Contains-nil}
use Rattle.htl_answers.proofs.PartLemmas.{last_part, one_part_more}
use Rattle.htl_answers.proofs.handles.latest.Goals as goal

pub loop-part-preserved : goal.loop-part-preserved
loop-part-preserved g c = λ events are.
    let contents = g.P.Part.contents in
    let parts = c.args.parts.now in
    let i = c.loop-part.part-index in
    let part = c.part-item.result in
    let ends = last_part _ (contents part) events (rw (one_part_more contents parts i part c.loop-part-test.true c.part-item.is) at are) in
    let held = (contents part).held in
    let process = c.args.process in
    let base = base_of c.args.handle in
    let nonzero : base ≢ 0 = (λ z. c.if-base-eq0.false (c.base-base.ensures ∙ z)) in
    let folded = ends.fold.tables.latest_at process base in
    let later_held = rw (c.held.ensures, c.base-base.ensures) at c.latest_held-held.ensures in
    let kept = latest_append ends.folded held process base _ _ folded later_held in
    rw (ends.is, c.later_of-latest.ensures, c.later_of.ensures, c.get-folded.ensures.value nonzero, c.latest.ensures)
    (latest_append ends.before (ends.folded ++ held) process base _ _ (c.loop-part.invariant ends.before ends.are) kept)

pub loop-part-init : goal.loop-part-init
loop-part-init g c = λ events none. rw none (λ x h k. Contains-nil x h)

pub returns-clause-value : goal.returns-clause-value
returns-clause-value g c = λ _. rw (take_all c.loop-part.part-index c.args.parts.now (omega arith)) at c.loop-part.invariant
