-- The process's latest events over both halves together are the later of theirs.
use Rattle.std.proofs.Common.{length, ◌/◌, sym}
use Rattle.std.proofs.lemmas.Result.{IfOk-weaker}
use Rattle.htl_answers.proofs.OpenLemmas.{latest_halves, latest_of_one}
use Rattle.htl_answers.proofs.open.+latest_of_process.Goals as goal

pub returns : goal.returns
returns g t c =
    let parts = c.args.parts.now in
    IfOk-weaker c.join_process.result _ _ (λ latest is.
    latest_halves g.P.Part.contents (length parts / 2) parts _ _ c.split_at.ensures.front c.split_at.ensures.back
    c.args.process latest c.in_ok-left.left c.in_ok-right.right is c.in_ok-left.ensures c.in_ok-right.ensures) c.join_process.ensures.joined

pub returns-in-Some : goal.returns-in-Some
returns-in-Some g t c = IfOk-weaker c.latest_of_part.result _ _ (λ latest of.
    latest_of_one g.P.Part.contents c.args.parts.now c.in-Some.part.now c.if-parts-lt2.true (sym c.in-Some.ensures.value)
    c.args.process latest of) c.latest_of_part.ensures
