-- A stack begins with a path where its outermost addresses are those of the path.
use Rattle.std.proofs.Common.{◌-◌, length, take, reverse, sym, ap, ◌∙◌, arith, nat_eq}
use Rattle.std.specs.Ordering.{nat_cmp, is_eq}
use Rattle.std.specs.Cmp.{unsigned_ties}
use Rattle.std.specs.Cmp.Lexicographic.{slice_cmp, pointwise, lists_ties}
use Rattle.std.proofs.lemmas.List.{take_rest}
use Rattle.htl_answers.proofs.Outermost.{take-reverse}
use Rattle.htl_answers.proofs.counts.begins_with.Goals as goal

pub returns : goal.returns
returns c =
    let path = c.args.path.now in
    let frames = c.frames-frames.result.now in
    let k = length frames - length path in
    let rest = take_rest frames k in
    let tail = take-reverse frames k (length path) (omega (arith, c.if-frames-path.false)) in
    c.is_eq.ensures ∙ ap is_eq (c.compare.ensures ∙ ap (λ l. slice_cmp nat_cmp path (reverse l)) rest
    ∙ ap (λ l. slice_cmp nat_cmp path l) (sym tail))
    ∙ sym (lists_ties nat_cmp unsigned_ties path (take (length path) (reverse frames)))
    ∙ ap (λ l. pointwise nat_eq path (take (length path) (reverse l))) c.frames-frames.ensures.value
