-- The last exit over one part more is the greater of that so far and the part's.
use Rattle.std.proofs.Common.{refl, inl, arith}
use Rattle.std.proofs.lemmas.List.{take_all}
use Rattle.htl_event.specs.declared.kind.Kind.TheVariants.{Exited}
use Rattle.htl_event.specs.Handles.{IsOf}
use Rattle.htl_event.proofs.Members.{Contains-nil}
use Rattle.htl_answers.proofs.Appended.{nat_max}
use Rattle.htl_answers.proofs.MomentLemmas.{greatest_more}
use Rattle.htl_answers.proofs.handles.last_exit.Goals as goal

pub loop-part-preserved : goal.loop-part-preserved
loop-part-preserved g c = λ events are.
    let process = c.args.process in
    rw (c.max-exit.ensures, nat_max, c.max.ensures, c.get-folded.ensures, c.exits.ensures)
    (greatest_more (IsOf Exited process) g.P.Part.contents c.args.parts.now c.loop-part.part-index c.part-item.result
    c.loop-part-test.true c.part-item.is
    _ _ _ c.loop-part.invariant (λ folded fold. fold.tables.exit_at process) (rw c.held.ensures at c.greatest_held-held.ensures) events are)

pub loop-part-init : goal.loop-part-init
loop-part-init g c = λ events none. rw none (record { bound = λ x h. absurd (Contains-nil x h.0); reached = inl refl })

pub returns : goal.returns
returns g c = rw (take_all c.loop-part.part-index c.args.parts.now (omega arith)) at c.loop-part.invariant
