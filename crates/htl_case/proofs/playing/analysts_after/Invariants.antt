-- So far each analyst is right, and has the keys that reached it by the steps that were gone through.
use Rattle.std.proofs.Common.{◌≡◌, length, take}
use Rattle.htl_case.specs.Histories.{AreRight, HaveReached}
use Rattle.htl_case.proofs.playing.analysts_after.Given as goal

abbrev pub invariant-loop-step : goal.invariant-loop-step
invariant-loop-step l =
    (length l.after.items ≡ l.analysts) × AreRight l.case l.after.items × HaveReached l.case (take l.step-index l.steps) l.after.items
