-- Each newer row is put in place once the older rows above it are, and at the end all rows are in place.
use Rattle.std.proofs.Common.{rules, length, ◌≡◌, ◌≢◌, ℕ, ◌++◌, [], ◌∷◌, Option, take, arith, sym}
use Rattle.std.specs.declared.cmp.Ordering.TheVariants.{Greater}
use Rattle.htl_event.specs.Events.{Event}
use Rattle.htl_event.specs.Handles.{later}
use Rattle.htl_tables.specs.Keys.{key_of}
use Rattle.htl_tables.specs.Latest.{event_at}
use Rattle.htl_tables.specs.Placing.{IsUnderWay, compare_last}
use Rattle.htl_tables.proofs.PlacingSteps.{free_place, only_less, all_sorted, all_made}
use Rattle.htl_tables.proofs.joining.Joining.join.Goals as goal

pub place-requires-clause-room : goal.place-requires-clause-room
place-requires-clause-room g c = λ other.
    let target : ℕ → ℕ → Option Event =
    λ process base. later (event_at c.args.self.older process base) (event_at c.args.self.newer process base) in
    let left = c.pop.new.self.items in
    let e = c.in-Some.event in
    let rows = c.move_above.new.self.rows.items in
    let older = c.move_above.new.self.older in
    let end = c.move_above.new.self.end in
    let before : IsUnderWay target (left ++ e ∷ []) c.loop-event.placing.rows.items c.loop-event.placing.older c.loop-event.placing.end =
    rw c.in-Some.ensures.items at c.loop-event.invariant in
    let moved = c.move_above.ensures.kept target left e (sym c.key.ensures) before in
    let none : compare_last (take older rows) (key_of e) ≢ Greater = rw c.key.ensures at c.move_above.ensures.none in
    let room = free_place target left rows older end e moved (only_less (compare_last (take older rows) (key_of e)) none other) in
    omega (arith, room)

pub loop-event-preserved : goal.loop-event-preserved
loop-event-preserved g c =
    let target : ℕ → ℕ → Option Event =
    λ process base. later (event_at c.args.self.older process base) (event_at c.args.self.newer process base) in
    let left = c.pop.new.self.items in
    let e = c.in-Some.event in
    let before : IsUnderWay target (left ++ e ∷ []) c.loop-event.placing.rows.items c.loop-event.placing.older c.loop-event.placing.end =
    rw c.in-Some.ensures.items at c.loop-event.invariant in
    c.place.ensures target left (c.move_above.ensures.kept target left e (sym c.key.ensures) before)

pub invariant_of-result : goal.invariant_of-result
invariant_of-result g c =
    let target : ℕ → ℕ → Option Event =
    λ process base. later (event_at c.args.self.older process base) (event_at c.args.self.newer process base) in
    let none : length c.loop-event.newer.items ≡ 0 = search rules in
    rw c.into_rows.ensures (all_sorted target c.loop-event.newer.items c.loop-event.placing.rows.items c.loop-event.placing.older
    c.loop-event.placing.end c.loop-event.invariant none)

pub returns : goal.returns
returns g c = λ process base.
    let target : ℕ → ℕ → Option Event =
    λ process base. later (event_at c.args.self.older process base) (event_at c.args.self.newer process base) in
    let none : length c.loop-event.newer.items ≡ 0 = search rules in
    rw c.into_rows.ensures (all_made target c.loop-event.newer.items c.loop-event.placing.rows.items c.loop-event.placing.older
    c.loop-event.placing.end c.loop-event.invariant none process base)
