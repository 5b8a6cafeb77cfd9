-- A list more is met by its keys, and sorting them keeps them.
use Rattle.std.proofs.Common.{◌≡◌, length, Some, slice_get, refl, arith}
use Rattle.std.proofs.lemmas.Option.{slice_get_read}
use Rattle.htl_tables.specs.OfProcess.{touches}
use Rattle.htl_tables.proofs.Gathering.{from_none, from_more, candidates_sorted}
use Rattle.htl_tables.proofs.candidates.candidates_in.Goals as goal

pub loop-list-init : goal.loop-list-init
loop-list-init g c = rw c.in_ok-candidates.ensures (from_none g.R.EventList.events_of c.args.lists.now (touches c.args.chosen))

pub loop-list-preserved : goal.loop-list-preserved
loop-list-preserved g c =
    let lists = c.args.lists.now in
    let n = c.loop-list.list in
    let x = c.index-lists-list.result in
    let at : slice_get lists n ≡ Some x = slice_get_read lists (length lists) n x refl c.loop-list-test.true c.index-lists-list.is in
    from_more g.R.EventList.events_of lists (touches c.args.chosen) n x c.loop-list.candidates.keys.items
    c.gather.new.self.keys.items at (rw (c.events.ensures, c.in_ok-place_of.ensures) at c.in_ok-gather.ensures) c.loop-list.invariant

pub returns-clause-all : goal.returns-clause-all
returns-clause-all g c =
    let all : c.loop-list.list ≡ length c.args.lists.now = omega arith in
    candidates_sorted g.R.EventList.events_of c.args.lists.now (touches c.args.chosen) c.loop-list.candidates.keys.items c.sort_unstable.new.self.items
    (rw all at c.loop-list.invariant) c.sort_unstable.ensures.permutation
