-- A row that is replaced or put in keeps the rows in order, and each handle has what it had with the event noted.
use Rattle.std.proofs.Common.{◌≡◌, ℕ, List, get_or, refl, Some, sym, ◌∙◌, set, insert}
use Rattle.std.specs.FinMap.Entries.{put}
use Rattle.htl_event.specs.Events.{Event}
use Rattle.htl_event.specs.Slots.{base_of}
use Rattle.htl_sorted.specs.Entries.{IsPlace, IsGap}
use Rattle.htl_sorted.proofs.Rows.{placed_row, set_row, insert_row}
use Rattle.htl_tables.specs.Keys.{key_cmp, key_of, keyed}
use Rattle.htl_tables.specs.Latest.{event_at}
use Rattle.htl_tables.proofs.Noting.{IsLater, put_noted, kept_noted, sorted_put, event_at-key}
use Rattle.htl_tables.proofs.latest.Latest.note.Goals as goal

-- the row at the event's key
at_place : (rows : List Event) (e x : Event) (i : ℕ) → IsPlace key_cmp (keyed rows) (key_of e) i → x ≡ get_or rows i x
    → event_at rows e.process (base_of e.handle) ≡ Some x
at_place rows e x i place is = placed_row key_of (λ z. z) key_cmp rows (key_of e) i place x is

replaced : (rows : List Event) (e x : Event) (i : ℕ) → IsPlace key_cmp (keyed rows) (key_of e) i → x ≡ get_or rows i x
    → keyed (set rows i e) ≡ put key_cmp (key_of e) e (keyed rows)
replaced rows e x i place is =
    let same : key_of x ≡ key_of e = event_at-key rows e.process (base_of e.handle) x (at_place rows e x i place is) in
    set_row key_of (λ z. z) key_cmp rows (key_of e) i place x e is (sym same)

inserted : (rows : List Event) (e : Event) (i : ℕ) → IsGap key_cmp (keyed rows) (key_of e) i
    → keyed (insert rows i e) ≡ put key_cmp (key_of e) e (keyed rows)
inserted rows e i gap = insert_row key_of (λ z. z) key_cmp rows (key_of e) i gap e refl

pub invariant_of-self : goal.invariant_of-self
invariant_of-self g c =
    let rows = c.self.inside.rows.items in
    let place = rw (c.deref.ensures.value, c.base.ensures) at c.in-Ok.ensures.found in
    rw c.in_ok-self-inside-in-Ok.ensures (sorted_put rows (set rows c.in-Ok.place c.args.event.now) c.args.event.now c.self.invariant
    (replaced rows c.args.event.now c.index.result.now c.in-Ok.place place c.index.ensures))

pub returns-in_ok-self-inside-in-Ok-clause-ok : goal.returns-in_ok-self-inside-in-Ok-clause-ok
returns-in_ok-self-inside-in-Ok-clause-ok g c = λ process base.
    let rows = c.self.inside.rows.items in
    let e = c.args.event.now in
    let x = c.index.result.now in
    let opens = sym c.opens_or_closes.ensures ∙ c.if-not-opens_or_closes.false in
    let place = rw (c.deref.ensures.value, c.base.ensures) at c.in-Ok.ensures.found in
    let newer : IsLater e (event_at rows e.process (base_of e.handle)) =
    rw (at_place rows e x c.in-Ok.place place c.index.ensures) c.if-index-event.true in
    rw (c.in_ok-self-inside-in-Ok.ensures, ← c.self.view_is)
    (put_noted rows e opens process base (set rows c.in-Ok.place e) (replaced rows e x c.in-Ok.place place c.index.ensures) newer)

pub invariant_of-self-in_ok-insert-in-Err : goal.invariant_of-self-in_ok-insert-in-Err
invariant_of-self-in_ok-insert-in-Err g c =
    let rows = c.self.inside.rows.items in
    let gap = rw (c.deref.ensures.value, c.base.ensures) at c.in-Err.ensures.absent in
    rw (c.in_ok-insert-in-Err.ensures.items, c.in_ok-copy-in-Err.ensures)
    (sorted_put rows (insert rows c.in-Err.gap c.args.event.now) c.args.event.now c.self.invariant
    (inserted rows c.args.event.now c.in-Err.gap gap))

pub returns-in_ok-insert-in-Err-clause-ok : goal.returns-in_ok-insert-in-Err-clause-ok
returns-in_ok-insert-in-Err-clause-ok g c = λ process base.
    let rows = c.self.inside.rows.items in
    let e = c.args.event.now in
    let opens = sym c.opens_or_closes.ensures ∙ c.if-not-opens_or_closes.false in
    let gap = rw (c.deref.ensures.value, c.base.ensures) at c.in-Err.ensures.absent in
    let newer : IsLater e (event_at rows e.process (base_of e.handle)) = rw gap.value tt in
    rw (c.in_ok-insert-in-Err.ensures.items, c.in_ok-copy-in-Err.ensures, ← c.self.view_is)
    (put_noted rows e opens process base (insert rows c.in-Err.gap e) (inserted rows e c.in-Err.gap gap) newer)

pub returns-else-index-event-clause-ok : goal.returns-else-index-event-clause-ok
returns-else-index-event-clause-ok g c = λ process base.
    let rows = c.self.inside.rows.items in
    let e = c.args.event.now in
    let opens = sym c.opens_or_closes.ensures ∙ c.if-not-opens_or_closes.false in
    let place = rw (c.deref.ensures.value, c.base.ensures) at c.in-Ok.ensures.found in
    rw (← c.self.view_is) (kept_noted rows e opens process base c.index.result.now
    (at_place rows e c.index.result.now c.in-Ok.place place c.index.ensures) c.if-index-event.false)
