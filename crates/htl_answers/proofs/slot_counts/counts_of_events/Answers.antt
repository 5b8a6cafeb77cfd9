-- The rows of the events are added up by their keys.
use Rattle.std.proofs.Common.{rules, ◌∙◌, arith}
use Rattle.htl_answers.specs.Rows.{CountAlike, rows_of}
use Rattle.htl_answers.proofs.EventRows.{rows_few}
use Rattle.htl_answers.proofs.slot_counts.counts_of_events.Goals as goal

pub add_up-requires : goal.add_up-requires
add_up-requires g c =
    let rows = c.count_events.new.rows.items in
    let key = g.L.CountedBy.key_of in
    let alike : CountAlike g.L.Key.Ord.cmp (rows_of key c.args.slots c.args.events.now) rows = search rules in
    let same = alike.total in
    let few = rows_few g.L.Key.Ord.cmp key c.args.slots c.args.events.now in
    omega (arith, same, few, c.requires)

pub returns : goal.returns
returns g c =
    let rows = c.count_events.new.rows.items in
    let alike : CountAlike g.L.Key.Ord.cmp (rows_of g.L.CountedBy.key_of c.args.slots c.args.events.now) rows = search rules in
    let are = c.add_up.ensures in
    record {
      rising = are.rising;
      counts = λ k. are.counts k ∙ alike.counts k;
      total = are.total ∙ alike.total;
      positive = λ each. are.positive (alike.positive each);
    }
