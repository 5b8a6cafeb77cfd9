-- A moment more raises its process's sequence; after all of them it is the greatest of the events.
use Rattle.std.proofs.Common.{◌≡◌, ℕ, take, get_or, arith, sym, ap, ◌∙◌, max}
use Rattle.std.specs.Prelude.{flat_map}
use Rattle.std.proofs.lemmas.List.{take_more, take_all}
use Rattle.std.proofs.lemmas.List.Elements.{Contains-get_or}
use Rattle.htl_tables.specs.Greatest.{sequence_at}
use Rattle.htl_tables.proofs.Moments.{greatest_more, greatest_of_events}
use Rattle.htl_tables.proofs.greatest.Greatest.of.Goals as goal

pub raise-requires : goal.raise-requires
raise-requires g c =
    let rows = c.deref-process-items.result.now in
    let row = get_or rows c.loop-process.process-index (0, 0) in
    let are = rw (← c.deref-process-items.ensures.value) at c.in_ok-moments.ensures in
    let moment = (are row).0 (Contains-get_or rows c.loop-process.process-index (0, 0) c.loop-process-test.true) in
    let is : row.1 ≡ moment.event.sequence = ap (λ (r : ℕ × ℕ). r.1) moment.is in
    omega (arith, is, moment.positive)

pub loop-process-preserved : goal.loop-process-preserved
loop-process-preserved g c = λ process.
    let rows = c.deref-process-items.result.now in
    let i = c.loop-process.process-index in
    let row = get_or rows i (0, 0) in
    let more = take_more rows i (0, 0) c.loop-process-test.true in
    rw more (greatest_more (take i rows) row process (sequence_at c.loop-process.greatest process) (sequence_at c.raise.new.self process)
    (λ e. ap (λ (p : ℕ). sequence_at c.raise.new.self p) e ∙ c.in_ok-raise.ensures.raised
    ∙ ap (λ (p : ℕ). max (sequence_at c.loop-process.greatest p) row.1) (sym e))
    (λ ne. c.in_ok-raise.ensures.others process ne) (c.loop-process.invariant process))

pub returns : goal.returns
returns g c = λ process.
    let rows = c.deref-process-items.result.now in
    let are = rw (← c.deref-process-items.ensures.value) at c.in_ok-moments.ensures in
    let all = take_all c.loop-process.process-index rows (omega arith) in
    greatest_of_events g.K.EventKind.kind (flat_map g.R.EventList.events_of c.args.lists.now) rows process
    (sequence_at c.loop-process.greatest process) are (rw all at c.loop-process.invariant process)
