-- The row of the key that was found counts one more, and no other row changes.
use Rattle.std.proofs.Common.{rules, ◌≡◌, get_or, set, sym, ap, subst, ◌∙◌, ◌++◌, ◌∷◌, []}
use Rattle.std.proofs.lemmas.List.{get_or_default}
use Rattle.htl_event.specs.declared.slot.Count.{Count}
use Rattle.htl_event.specs.Tallies.{plus_count}
use Rattle.htl_answers.specs.Counts.{one_count}
use Rattle.htl_answers.specs.Rows.{CountAlike}
use Rattle.htl_answers.proofs.CountedAlike.{counted_there}
use Rattle.htl_answers.proofs.slot_counts.count_in_row.Goals as goal

pub returns-clause-counted : goal.returns-clause-counted
returns-clause-counted g c = λ counted.
    let rows = c.args.rows.now in
    let i = c.args.place in
    let lt = c.if-place-rows.false in
    let x = c.index-rows-place.result in
    let y = c.index-rows-place-2.result in
    let z = c.index-rows-place-3.result in
    let at : x ≡ get_or rows i x = c.index-rows-place.is in
    let row : g.row.L-Key.Denot × Count = (g.L.CountedBy.key_of c.args.slot c.args.stack.now, one_count c.args.sign) in
    let same : x.0 ≡ row.0 = ap (λ (r : g.row.L-Key.Denot × Count). r.0) at ∙ c.is_key.ensures (search rules) in
    let key : x.0 ≡ (get_or rows i z).0 = ap (λ (r : g.row.L-Key.Denot × Count). r.0) (at ∙ get_or_default rows i x z lt) in
    let sum : plus_count x.1 row.1 ≡ c.sum_of-sum.result =
    ap (λ (r : g.row.L-Key.Denot × Count). plus_count r.1 row.1) (at ∙ get_or_default rows i x y lt)
    ∙ ap (plus_count (get_or rows i y).1) (sym c.one.ensures) ∙ sym c.sum_of-sum.ensures in
    let whole : ◌≡◌ {A = g.row.L-Key.Denot × Count} (x.0, plus_count x.1 row.1) ((get_or rows i z).0, c.sum_of-sum.result) = λ j. (key j, sum j) in
    subst (λ s. CountAlike g.L.Key.Ord.cmp (rows ++ row ∷ []) (set rows i s)) whole
    (counted_there g.L.Key.Ord.cmp rows i x row lt at same)
