-- A sequence that is below the moment is below the last where an event comes after it.
use Rattle.std.proofs.Common.{◌≡◌, ◌∙◌, sym, true}
use Rattle.htl_main.specs.Subjects.{is_before}
use Rattle.htl_main.proofs.completed.is_below_last.Goals as goal

pub returns-then-is_before : goal.returns-then-is_before
returns-then-is_before c = λ events is.
    let before : is_before c.args.until c.args.sequence ≡ true = sym c.is_before.ensures ∙ c.if-is_before.true in
    rw before (c.has_later.ensures events is)
