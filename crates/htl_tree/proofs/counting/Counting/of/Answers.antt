-- One list more is counted, and in the end all are.
use Rattle.std.proofs.Common.{◌≡◌, ◌+◌, ◌≤◌, List, [], ◌∷◌, ◌++◌, length}
use Rattle.std.proofs.Common.{take, get_or, sym, ap, ◌∙◌, subst, append-nil, length-append, arith}
use Rattle.std.specs.List.{flat_map}
use Rattle.std.proofs.lemmas.List.{take_more, take_all}
use Rattle.std.proofs.lemmas.List.Folds.{length-flat_map-take}
use Rattle.std.proofs.lemmas.Grind.{flat_map-append}
use Rattle.htl_event.specs.Events.{Event}
use Rattle.htl_tree.specs.Rows.{HaveTally}
use Rattle.htl_tree.proofs.counting.Counting.of.Goals as goal

pub count_all-requires-clause-room : goal.count_all-requires-clause-room
count_all-requires-clause-room g c =
    let lists = c.args.lists.now in
    let i = c.loop-list.list-index in
    let of = g.R.EventList.events_of in
    let most : length (flat_map of (take i lists)) + length (of (get_or lists i c.list-item.result)) ≤ length (flat_map of lists) =
    length-flat_map-take of lists i c.list-item.result c.loop-list-test.true in
    let its : length (c.events.result.now) ≡ length (of (get_or lists i c.list-item.result)) = ap length c.events.ensures
    ∙ ap (λ r. length (of r)) c.list-item.is in
    omega (arith, c.requires, most, its, c.loop-list.invariant.total)

pub loop-list-preserved : goal.loop-list-preserved
loop-list-preserved g c =
    let lists = c.args.lists.now in
    let i = c.loop-list.list-index in
    let of = g.R.EventList.events_of in
    let r = c.list-item.result in
    let before : List Event = flat_map of (take i lists) in
    let one : flat_map of (r ∷ []) ≡ c.events.result.now = append-nil (of r) ∙ sym c.events.ensures in
    let more : flat_map of (take (i + 1) lists) ≡ before ++ c.events.result.now =
    ap (flat_map of) (take_more lists i r c.loop-list-test.true) ∙ ap (λ x. flat_map of (take i lists ++ x ∷ [])) (sym c.list-item.is)
    ∙ flat_map-append of (take i lists) (r ∷ []) ∙ ap (λ l. before ++ l) one in
    let longer : length (flat_map of (take (i + 1) lists)) ≡ length before + length c.events.result.now = ap length more
    ∙ length-append before c.events.result.now in
    record {
      rows = c.in_ok-count_all.ensures.rows;
      tally = subst (λ (l : List Event). HaveTally c.count_all.new.self.rows.items l) (sym more)
          (c.in_ok-count_all.ensures.tally before c.loop-list.invariant.tally);
      total = omega (arith, longer, c.in_ok-count_all.ensures.total, c.loop-list.invariant.total);
    }

pub returns-clause-tally : goal.returns-clause-tally
returns-clause-tally g c =
    let of = g.R.EventList.events_of in
    subst (λ (l : List Event). HaveTally c.loop-list.counting.rows.items l)
    (ap (flat_map of) (take_all c.loop-list.list-index c.args.lists.now c.loop-list-test.false)) c.loop-list.invariant.tally

pub returns-clause-total : goal.returns-clause-total
returns-clause-total g c =
    let of = g.R.EventList.events_of in
    let all = ap (λ l. length (flat_map of l)) (take_all c.loop-list.list-index c.args.lists.now c.loop-list-test.false) in
    omega (arith, all, c.loop-list.invariant.total)
