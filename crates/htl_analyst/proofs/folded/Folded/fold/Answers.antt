-- The tables of both, and the tree that counts both, are folded of the events of both.
use Rattle.std.proofs.Common.{List, length-append, sym, ap, ◌∙◌, subst, arith}
use Rattle.htl_event.specs.Events.{Event}
use Rattle.htl_event.specs.Handles.{later}
use Rattle.htl_tables.specs.Latest.{event_at}
use Rattle.htl_answers.proofs.JoinedTables.{tables_joined}
use Rattle.htl_segment.specs.Traces.{all_events}
use Rattle.htl_segment.proofs.Greatest.{greatest_joined}
use Rattle.htl_tree.specs.Trees.{total_count}
use Rattle.htl_analyst.specs.States.{Folded, folded}
use Rattle.htl_analyst.specs.Right.{IsFolded}
use Rattle.htl_analyst.proofs.folded.Folded.fold.Goals as goal

pub returns-clause-folded : goal.returns-clause-folded
returns-clause-folded g c = λ events old.
    let i = c.self.inside in
    let more = all_events c.args.segments.now in
    let newer = c.in_ok-newer in
    let d : IsFolded (folded i.tree i.latest i.marks i.exits i.last_sequence i.events) events =
    subst (λ (x : Folded). IsFolded x events) (sym c.self.view_is) old in
    record {
      fold = record {
        tree = c.in_default.ensures.tally events d.fold.tree;
        tables =
            tables_joined events more c.join-5.result i.latest newer.newer c.in_ok-marks.marks i.marks c.in_ok-of.field-0
            c.in_ok-exits.exits i.exits c.in_ok-of-2.field-0
            (λ process base. c.join-5.ensures process base
            ∙ ap (λ (l : List Event). later (event_at l process base) (event_at c.in-Ok.joining.newer process base))
            (c.in-Ok.ensures.ok.0 ∙ c.replace-older.ensures.value)
            ∙ ap (λ (l : List Event). later (event_at i.latest process base) (event_at l process base)) c.in-Ok.ensures.ok.1)
            c.in_ok-marks.ensures c.in_ok-exits.ensures
            d.fold.tables (record { latest_at = newer.ensures.latest; mark_at = c.in_ok-of.ensures; exit_at = c.in_ok-of-2.ensures });
      };
      last = greatest_joined events more c.max-self-inside.result i.last_sequence c.greatest_sequence.result c.max-self-inside.ensures
          d.last c.greatest_sequence.ensures;
      number = (let both = length-append events more in let x = d.number in let y = c.events_in.ensures in omega (arith, both, x, y));
    }

pub returns-clause-bounded : goal.returns-clause-bounded
returns-clause-bounded g c = λ most old.
    let counts = old.counts in
    let events = old.events in
    let tree = ap (λ (x : Folded). total_count x.tree) c.self.view_is in
    let number = ap (λ (x : Folded). x.events) c.self.view_is in
    let total = c.in_default.ensures.total in
    let some = c.events_in.ensures in
    record { counts = omega (arith, counts, tree, total); events = omega (arith, events, number, some) }
