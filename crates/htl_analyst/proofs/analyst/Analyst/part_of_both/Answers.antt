-- A loose number of the union is loose on one side.
use Rattle.std.proofs.Common.{ℕ, List, get_or, subst}
use Rattle.std.specs.Prelude.{Contains}
use Rattle.std.proofs.lemmas.List.Elements.{Contains-get_or}
use Rattle.htl_taken.specs.Numbers.{loose_at}
use Rattle.htl_analyst.proofs.analyst.Analyst.part_of_both.Goals as goal

pub copy_held-requires-clause-loose : goal.copy_held-requires-clause-loose
copy_held-requires-clause-loose g c =
    let ns = c.loose-numbers.result.now in
    let n = get_or ns c.loop-number.number-index 0 in
    let there : Contains (loose_at c.args.taken.now c.args.processor) n =
    subst (λ (ms : List ℕ). Contains ms n) c.loose-numbers.ensures.value
    (Contains-get_or ns c.loop-number.number-index 0 c.loop-number-test.true) in
    ((c.requires.union.loose n).0 there).1
