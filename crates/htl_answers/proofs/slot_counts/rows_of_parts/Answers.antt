-- The rows gain those of one part more: of what it folded and of what it holds.
use Rattle.std.proofs.Common.{rules, ◌≡◌, ◌++◌, [], length, map, take, sym, ap, subst, ◌∙◌, arith}
use Rattle.std.specs.Prelude.{flat_map}
use Rattle.std.proofs.lemmas.List.{take_all}
use Rattle.std.proofs.lemmas.List.Sums.{sum_by-append}
use Rattle.htl_event.specs.declared.slot.Count.{Count}
use Rattle.htl_event.specs.Tallies.{total_of}
use Rattle.htl_tree.specs.Trees.{HasTally, total_count}
use Rattle.htl_answers.specs.Parts.{AreEventsOf}
use Rattle.htl_answers.specs.Rows.{count_of, total_in, rows_of, CountAlike}
use Rattle.htl_answers.proofs.CountedAlike.{positive_both}
use Rattle.htl_answers.proofs.EventRows.{rows_positive}
use Rattle.htl_answers.proofs.PartLemmas.{last_part, one_part_more, size_more, size_most}
use Rattle.htl_answers.proofs.PartRows.{part_counted, part_total}
use Rattle.htl_answers.proofs.slot_counts.rows_of_parts.Goals as goal

pub loop-part-preserved : goal.loop-part-preserved
loop-part-preserved g c =
    let contents = g.P.Part.contents in
    let parts = c.args.parts.now in
    let i = c.loop-part.part-index in
    let lt = c.loop-part-test.true in
    let part = contents c.part-item.result in
    let cmp = g.L.Key.Ord.cmp in
    let key = g.L.CountedBy.key_of in
    let slots = c.args.slots in
    let before = c.loop-part.rows.items in
    let folded = c.in_ok-folded.folded.items in
    let held = rows_of key slots part.held in
    let all : before ++ folded ≡ c.append.new.self.items = search rules in
    let held_is : flat_map g.P.Held.EventList.events_of c.held.result.now ≡ part.held = c.held.ensures in
    let counted = (before ++ folded) ++ held in
    let alike : CountAlike cmp counted c.count_held.new.rows.items =
    subst (λ es. CountAlike cmp ((before ++ folded) ++ rows_of key slots es) c.count_held.new.rows.items) held_is
    (subst (λ l. CountAlike cmp (l ++ rows_of key slots (flat_map g.P.Held.EventList.events_of c.held.result.now)) c.count_held.new.rows.items) (sym all)
    c.in_ok-count_held.ensures) in
    let size = ap total_count c.tree.ensures in
    record {
      counts = λ events are k.
          let ends = last_part (map contents (take i parts)) part events
          (subst (λ ps. AreEventsOf ps events) (one_part_more contents parts i c.part-item.result lt c.part-item.is) are) in
          let tallied : HasTally c.tree.result.now ends.folded =
          subst (λ t. HasTally t ends.folded) (sym c.tree.ensures) ends.fold.tree in
          alike.counts k
          ∙ part_counted cmp key slots before folded ends.before ends.folded part.held k
          (c.loop-part.invariant.counts ends.before ends.are k) (c.in_ok-folded.ensures.counts ends.folded tallied k)
          ∙ ap (λ es. count_of cmp k (rows_of key slots es)) (sym ends.is);
      positive = alike.positive
          (positive_both (before ++ folded) held
          (positive_both before folded c.loop-part.invariant.positive c.in_ok-folded.ensures.positive) (rows_positive cmp key slots part.held));
      total =
          let upto = part_total cmp key slots before folded [] [] part.held _ _ c.loop-part.invariant.total c.in_ok-folded.ensures.total in
          let more = size_more contents parts i c.part-item.result lt c.part-item.is in
          let same = alike.total in
          omega (arith, upto, more, same, size);
    }

pub count_held-requires : goal.count_held-requires
count_held-requires g c =
    let contents = g.P.Part.contents in
    let parts = c.args.parts.now in
    let before = c.loop-part.rows.items in
    let folded = c.in_ok-folded.folded.items in
    let all : c.append.new.self.items ≡ before ++ folded = search rules in
    let both = ap total_in all ∙ sum_by-append (λ (row : g.row.L-Key.Denot × Count). total_of row.1) before folded in
    let most = size_most contents parts c.loop-part.part-index c.part-item.result c.loop-part-test.true c.part-item.is in
    let size = ap total_count c.tree.ensures in
    let held = ap length c.held.ensures in
    omega (arith, both, most, size, held, c.requires, c.loop-part.invariant.total, c.in_ok-folded.ensures.total)

pub returns-clause-counts : goal.returns-clause-counts
returns-clause-counts g c = λ events are.
    let contents = g.P.Part.contents in
    let parts = c.args.parts.now in
    let all = take_all c.loop-part.part-index parts (omega arith) in
    c.loop-part.invariant.counts events (subst (λ ps. AreEventsOf (map contents ps) events) (sym all) are)
