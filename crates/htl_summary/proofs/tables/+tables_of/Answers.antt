-- The tables of both halves, joined, are those of all parts.
use Rattle.std.proofs.Common.{◌/◌, map, length, take, drop, sym, subst}
use Rattle.std.proofs.lemmas.Result.{IfOk-weaker}
use Rattle.htl_answers.specs.Parts.{AreEventsOf}
use Rattle.htl_answers.proofs.WholeLemmas.{halves}
use Rattle.htl_summary.proofs.TableHalves.{tables_halves}
use Rattle.htl_summary.proofs.tables.+tables_of.Goals as goal

pub returns : goal.returns
returns g t c =
    let contents = g.P.Part.contents in
    let parts = c.args.parts.now in
    let half = length parts / 2 in
    let front = c.split_at.ensures.front in
    let back = c.split_at.ensures.back in
    IfOk-weaker c.joined.result _ _ (λ tables is events are.
    tables_halves tables.latest tables.marks tables.exits (map contents (take half parts)) (map contents (drop half parts)) events
    (λ xs ys of_front of_back. is xs ys
    (c.in_ok-left.ensures xs (subst (λ ps. AreEventsOf (map contents ps) xs) (sym front) of_front))
    (c.in_ok-right.ensures ys (subst (λ ps. AreEventsOf (map contents ps) ys) (sym back) of_back)))
    (subst (λ ps. AreEventsOf ps events) (halves contents half parts) are)) c.joined.ensures
