-- An event more that opens or closes is met by its key, and any other changes nothing.
use Rattle.std.proofs.Common.{◌≡◌, length, Some, slice_get, refl, sym, ◌∙◌, arith}
use Rattle.std.proofs.lemmas.Option.{slice_get_read}
use Rattle.htl_tables.specs.OfProcess.{touches}
use Rattle.htl_tables.proofs.Gathering.{gathers_more, gathers_skip, gathers_whole}
use Rattle.htl_tables.proofs.candidates.Candidates.gather.Goals as goal
use Rattle.htl_tables.proofs.candidates.Candidates.gather.Goals.{then-touches+in_ok-place_of+in_ok-offer, else-touches}

pub loop-index-preserved : goal.loop-index-preserved
loop-index-preserved g c =
    let events = c.args.events.now in
    let old = c.args.self.now.keys.items in
    let keys = c.loop-index.self.keys.items in
    let i = c.loop-index.index in
    let e = c.index-events-index.result in
    let at : slice_get events i ≡ Some e = slice_get_read events (length events) i e refl c.loop-index-test.true c.index-events-index.is in
    elim c.if-touches.branch [
      | then-touches+in_ok-place_of+in_ok-offer w ↦
          let offers = rw (w.of.ensures, w.in_ok-place_of.ensures) at w.in_ok-offer.ensures in
          rw w.self-is (gathers_more c.args.list events (touches c.args.chosen) old i keys w.offer.new.self.keys.items
          e at (sym c.touches.ensures ∙ w.if-touches.true) offers c.loop-index.invariant)
      | else-touches w ↦
          rw w.self-is (gathers_skip c.args.list events (touches c.args.chosen) old i keys e at (sym c.touches.ensures ∙ w.if-touches.false)
          c.loop-index.invariant)
    ]

pub returns : goal.returns
returns g c =
    let all : c.loop-index.index ≡ length c.args.events.now = omega arith in
    gathers_whole c.args.list c.args.events.now (touches c.args.chosen) c.args.self.now.keys.items c.loop-index.self.keys.items
    (rw all at c.loop-index.invariant)
