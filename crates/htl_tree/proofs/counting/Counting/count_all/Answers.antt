-- With one event more, the rows count one event more.
use Rattle.std.proofs.Common.{◌≡◌, List, [], ◌∷◌, ◌+◌, ◌++◌, take, append_assoc, sym, ap, ◌∙◌, subst, arith}
use Rattle.std.proofs.lemmas.List.{take_more}
use Rattle.htl_event.specs.Events.{Event}
use Rattle.htl_tree.specs.Rows.{HaveTally}
use Rattle.htl_tree.proofs.counting.Counting.count_all.Goals as goal

pub loop-index-preserved : goal.loop-index-preserved
loop-index-preserved g c =
    let events = c.args.events.now in
    let i = c.loop-index.index in
    let e : Event = c.index-events-index.result in
    let more : take (i + 1) events ≡ take i events ++ e ∷ [] = take_more events i e c.loop-index-test.true
    ∙ ap (λ (x : Event). take i events ++ x ∷ []) (sym c.index-events-index.is) in
    record {
      rows = c.in_ok-count.ensures.rows;
      tally = λ before tallied.
          subst (λ (l : List Event). HaveTally c.count.new.self.rows.items l)
          (append_assoc before (take i events) (e ∷ []) ∙ ap (λ l. before ++ l) (sym more))
          (c.in_ok-count.ensures.tally (before ++ take i events) (c.loop-index.invariant.tally before tallied));
      total = omega (arith, c.in_ok-count.ensures.total, c.loop-index.invariant.total);
    }
