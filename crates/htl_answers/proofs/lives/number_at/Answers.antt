-- Up to the moment no more lives ended than began, so the difference is the number that is left.
use Rattle.std.proofs.Common.{ap, ◌∙◌, arith}
use Rattle.htl_answers.specs.Lives.{number_to}
use Rattle.htl_answers.proofs.lives.number_at.Goals as goal

pub overflow_sub-result : goal.overflow_sub-result
overflow_sub-result c =
    let m = c.args.moment in
    let started = c.number_to-started.ensures ∙ ap (λ xs. number_to xs m) c.deref.ensures.value in
    let ended = c.number_to-ended.ensures ∙ ap (λ xs. number_to xs m) c.deref-2.ensures.value in
    let fewer = c.requires.fewer m in
    omega (arith, started, ended, fewer)
