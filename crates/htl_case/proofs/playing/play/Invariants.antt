-- So far each analyst has the history of the steps that were gone through.
use Rattle.std.proofs.Common.{◌≡◌, length, take}
use Rattle.htl_case.specs.Histories.{HaveHistories}
use Rattle.htl_case.proofs.playing.play.Given as goal

abbrev pub invariant-loop-step : goal.invariant-loop-step
invariant-loop-step l = (length l.played.items ≡ l.analysts) × HaveHistories l.case (take l.step-index l.steps) l.played.items
