-- The count under the path gains what one part more counts there.
use Rattle.std.proofs.Common.{◌≡◌, ◌≤◌, ◌++◌, length, refl, sym, ap, subst, ◌∙◌, nat_eq, arith}
use Rattle.std.specs.List.{starts_with}
use Rattle.std.proofs.lemmas.List.{take_all}
use Rattle.htl_event.specs.Stacks.{outer}
use Rattle.htl_event.specs.Tallies.{under, total_of, plus_count}
use Rattle.htl_event.proofs.Counts.{counts_add_up}
use Rattle.htl_tree.specs.Trees.{total_count, count_under, HasTally}
use Rattle.htl_tree.proofs.Under.{sum_where_le_total}
use Rattle.htl_answers.proofs.PartLemmas.{last_part, one_part_more, size_more, size_most}
use Rattle.htl_answers.proofs.counts.under.Goals as goal

pub under_held-held-requires : goal.under_held-held-requires
under_held-held-requires g c =
    let contents = g.P.Part.contents in
    let most = size_most contents c.args.parts.now c.loop-part.part-index c.part-item.result c.loop-part-test.true c.part-item.is in
    let its = ap length c.held.ensures in
    omega (arith, most, its, c.requires)

pub sum_of-requires : goal.sum_of-requires
sum_of-requires g c =
    let contents = g.P.Part.contents in
    let part = c.part-item.result in
    let most = size_most contents c.args.parts.now c.loop-part.part-index part c.loop-part-test.true c.part-item.is in
    let its = ap length c.held.ensures in
    let tree = c.tree.result.now in
    let least : total_of (count_under tree c.args.path.now c.args.slot) ≤ total_count tree =
    sum_where_le_total c.args.slot (λ stack. starts_with nat_eq (outer stack) c.args.path.now) tree in
    let folded : total_of c.under-folded.result ≤ total_count (contents part).tree =
    rw (c.under-folded.ensures.value, ← c.tree.ensures) least in
    omega (arith, most, its, folded, c.requires, c.under_held-held.ensures.few)

pub sum_of-sum-requires : goal.sum_of-sum-requires
sum_of-sum-requires g c =
    let contents = g.P.Part.contents in
    let part = c.part-item.result in
    let most = size_most contents c.args.parts.now c.loop-part.part-index part c.loop-part-test.true c.part-item.is in
    let its = ap length c.held.ensures in
    let tree = c.tree.result.now in
    let least : total_of (count_under tree c.args.path.now c.args.slot) ≤ total_count tree =
    sum_where_le_total c.args.slot (λ stack. starts_with nat_eq (outer stack) c.args.path.now) tree in
    let folded : total_of c.under-folded.result ≤ total_count (contents part).tree =
    rw (c.under-folded.ensures.value, ← c.tree.ensures) least in
    let both = ap total_of c.sum_of.ensures in
    omega (arith, most, its, folded, both, c.requires, c.under_held-held.ensures.few, c.loop-part.invariant.few)

pub loop-part-preserved : goal.loop-part-preserved
loop-part-preserved g c =
    let contents = g.P.Part.contents in
    let parts = c.args.parts.now in
    let i = c.loop-part.part-index in
    let part = c.part-item.result in
    let path = c.args.path.now in
    let slot = c.args.slot in
    let held = (contents part).held in
    let more = size_more contents parts i part c.loop-part-test.true c.part-item.is in
    let its = ap length c.held.ensures in
    let tree = c.tree.result.now in
    let least : total_of (count_under tree path slot) ≤ total_count tree =
    sum_where_le_total slot (λ stack. starts_with nat_eq (outer stack) path) tree in
    let folded : total_of c.under-folded.result ≤ total_count (contents part).tree =
    rw (c.under-folded.ensures.value, ← c.tree.ensures) least in
    let both = ap total_of c.sum_of.ensures in
    let all = ap total_of c.sum_of-sum.ensures in
    record {
      value = λ events are.
          let ends = last_part _ (contents part) events
          (rw (one_part_more contents parts i part c.loop-part-test.true c.part-item.is) at are) in
          let tallied = subst (λ t. HasTally t ends.folded) (sym c.tree.ensures) ends.fold.tree in
          let in_folded = c.under-folded.ensures.events ends.folded tallied in
          let in_held = c.under_held-held.ensures.value ∙ ap (λ es. under es path slot) c.held.ensures in
          let outer_sum = (counts_add_up ends.before (ends.folded ++ held)).under path slot in
          let inner_sum = (counts_add_up ends.folded held).under path slot in
          let all_events : under events path slot ≡ plus_count (under ends.before path slot)
          (plus_count (under ends.folded path slot) (under held path slot)) = ap (λ es. under es path slot) ends.is ∙ outer_sum
          ∙ ap (λ n. plus_count (under ends.before path slot) n) inner_sum in
          c.sum_of-sum.ensures ∙ ap (λ n. plus_count n c.sum_of.result) (c.loop-part.invariant.value ends.before ends.are)
          ∙ ap (λ n. plus_count (under ends.before path slot) n)
          (c.sum_of.ensures ∙ ap (λ n. plus_count n c.under_held-held.result) in_folded
          ∙ ap (λ n. plus_count (under ends.folded path slot) n) in_held) ∙ sym all_events;
      few = omega (arith, more, its, folded, both, all, c.under_held-held.ensures.few, c.loop-part.invariant.few);
    }

pub loop-part-init : goal.loop-part-init
loop-part-init g c = record { value = λ events none. rw none refl; few = omega arith }

pub returns : goal.returns
returns g c = rw (take_all c.loop-part.part-index c.args.parts.now (omega arith)) at c.loop-part.invariant.value
