-- The events of one list more are counted.
use Rattle.std.proofs.Common.{◌≡◌, ◌+◌, ◌++◌, [], length, get_or, take, sym, ap, subst, ◌∙◌, append_assoc, arith}
use Rattle.std.specs.Prelude.{flat_map}
use Rattle.std.proofs.lemmas.List.Folds.{length-flat_map-take}
use Rattle.htl_tables.proofs.FlatPlaces.{flat_map-take}
use Rattle.htl_answers.specs.Rows.{rows_of, CountAlike}
use Rattle.htl_answers.proofs.CountedAlike.{alike_more}
use Rattle.htl_answers.proofs.EventRows.{rows_of-append}
use Rattle.htl_answers.proofs.PartRows.{counted_upto}
use Rattle.htl_answers.proofs.slot_counts.count_held.Goals as goal

pub count_events-requires : goal.count_events-requires
count_events-requires g c =
    let of = g.E.EventList.events_of in
    let lists = c.args.lists.now in
    let i = c.loop-list.list-index in
    let x = c.list-item.result in
    let upto = counted_upto g.L.Key.Ord.cmp g.L.CountedBy.key_of c.args.slots c.args.rows.now.items [] [] [] (flat_map of (take i lists))
    c.loop-list.rows.items c.loop-list.invariant in
    let fits = c.requires in
    let most = length-flat_map-take of lists i x c.loop-list-test.true in
    let more : length (c.events.result.now) ≡ length (of (get_or lists i x)) = ap length c.events.ensures
    ∙ ap (λ r. length (of r)) c.list-item.is in
    omega (arith, upto, fits, more, most)

pub loop-list-preserved : goal.loop-list-preserved
loop-list-preserved g c =
    let of = g.E.EventList.events_of in
    let lists = c.args.lists.now in
    let i = c.loop-list.list-index in
    let x = c.list-item.result in
    let old = c.args.rows.now.items in
    let cmp = g.L.Key.Ord.cmp in
    let rows = rows_of g.L.CountedBy.key_of c.args.slots in
    let so_far = rows (flat_map of (take i lists)) in
    let more : rows (flat_map of (take (i + 1) lists)) ≡ so_far ++ rows (of x) =
    ap rows (flat_map-take of lists i x c.loop-list-test.true c.list-item.is)
    ∙ rows_of-append g.L.CountedBy.key_of c.args.slots (flat_map of (take i lists)) (of x) in
    let whole : (old ++ so_far) ++ rows c.events.result.now ≡ old ++ rows (flat_map of (take (i + 1) lists)) =
    ap (λ es. (old ++ so_far) ++ rows es) c.events.ensures ∙ append_assoc old so_far (rows (of x)) ∙ ap (λ l. old ++ l) (sym more) in
    subst (λ l. CountAlike cmp l c.count_events.new.rows.items) whole
    (alike_more cmp (old ++ so_far) c.loop-list.rows.items (rows c.events.result.now) c.count_events.new.rows.items c.loop-list.invariant
    c.in_ok-count_events.ensures)
