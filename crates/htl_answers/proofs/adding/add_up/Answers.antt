-- The sums of the sorted rows are those of the rows.
use Rattle.std.proofs.Common.{rules, ◌<◌, ◌^◌, subst, sym}
use Rattle.std.proofs.lemmas.List.Sorted.{sum_by-IsPermutation}
use Rattle.htl_event.specs.declared.slot.Count.{Count}
use Rattle.htl_event.specs.Tallies.{total_of}
use Rattle.htl_answers.proofs.AddedRows.{summed, sums_moved}
use Rattle.htl_answers.proofs.adding.add_up.Goals as goal

pub returns : goal.returns
returns g c =
    let order = g.met.L.Key.Ord.total in
    let rows = c.args.rows.now.items in
    let sorted = c.sort_by_key.new.rows.items in
    let sums = c.dedup_by.new.self.items in
    sums_moved order rows sorted sums c.sort_by_key.ensures.moved
    (summed order g.met.L.CountedBy.proper _ (λ s row sum b t same now call. search rules) _ sorted sums c.sort_by_key.ensures.sorted
    (subst (λ n. n < 2 ^ 64) (sym (sum_by-IsPermutation (λ (r : g.row.L-Key.Denot × Count). total_of r.1) rows sorted c.sort_by_key.ensures.moved)) c.requires)
    c.dedup_by.ensures.filtered)
