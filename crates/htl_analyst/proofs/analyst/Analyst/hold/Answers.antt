-- A segment put into its gap makes the state with it held.
use Rattle.std.proofs.Common.{◌≡◌, ◌<◌, length, slice_set, ap, sym, ◌∙◌, subst, arith}
use Rattle.htl_taken.specs.NumberSets.{Has}
use Rattle.htl_taken.specs.Numbers.{numbers_at, loose_at, has_key, with_loose}
use Rattle.htl_taken.specs.Rising.{gap_of}
use Rattle.htl_taken.proofs.Keys.{absent_key}
use Rattle.htl_analyst.specs.States.{State, state, Part, part, part_at}
use Rattle.htl_analyst.specs.Keys.{HasTaken}
use Rattle.htl_analyst.specs.Right.{IsState}
use Rattle.htl_analyst.proofs.Holds.{part_read, inserted, gap_inside, hold_made}
use Rattle.htl_analyst.proofs.Takes.{IsState-with_segment}
use Rattle.htl_analyst.proofs.analyst.Analyst.hold.Goals as goal
use Rattle.htl_analyst.proofs.analyst.Analyst.hold.Goals.{in-Ok, in-Ok-2}

pub insert_reserved-requires-clause-within : goal.insert_reserved-requires-clause-within
insert_reserved-requires-clause-within g c =
    let i = c.self.inside in
    let a : State = state i.trace_id i.processors i.taken i.parts.items in
    let p = c.processor-processor.result in
    let n = c.number-number.result in
    let gap : c.match-search.place ≡ gap_of n (loose_at a.taken p) =
    elim c.match-search.branch [ in-Ok w ↦ w.place-is ∙ w.in-Ok.ensures.position | in-Ok-2 w ↦ w.place-is ∙ w.in-Ok.ensures.position ] in
    let lt : p < a.processors =
    (let v = c.processor-processor.ensures in let e =
    ap (λ (x : State). x.processors) c.self.view_is in omega (arith, v.below, c.requires.of_state.processors, e)) in
    let parts : p < length a.parts = (let e = c.self.invariant.parts in omega (arith, e, lt)) in
    let l : part c.part.inside.held.items c.part.inside.folded ≡ part_at a.parts p =
    part_read a.parts p c.index_mut-part.result.now (part c.part.inside.held.items c.part.inside.folded) parts
    (rw c.from.ensures at c.index_mut-part.ensures.value) c.part.view_is in
    let inside = gap_inside a.trace_id a.processors p (numbers_at a.taken p) (part_at a.parts p) (c.self.invariant.each p lt) n in
    let kept : length c.reserve.new.self.items ≡ length c.part.inside.held.items = ap length c.reserve.ensures.items in
    let same : length c.part.inside.held.items ≡ length (part_at a.parts p).held = ap (λ (k : Part). length k.held) l in
    omega (arith, gap, inside, kept, same)

pub invariant_of-self-2 : goal.invariant_of-self-2
invariant_of-self-2 g c =
    let i = c.self.inside in
    let a : State = state i.trace_id i.processors i.taken i.parts.items in
    let now : State = c.args.self.now in
    let s = c.args.segment in
    let p = c.processor-processor.result in
    let n = c.number-number.result in
    let is : IsState now = subst IsState c.self.view_is c.self.invariant in
    let gap : c.match-search.place ≡ gap_of n (loose_at a.taken p) =
    elim c.match-search.branch [ in-Ok w ↦ w.place-is ∙ w.in-Ok.ensures.position | in-Ok-2 w ↦ w.place-is ∙ w.in-Ok.ensures.position ] in
    let lt : p < a.processors =
    (let v = c.processor-processor.ensures in let e =
    ap (λ (x : State). x.processors) c.self.view_is in omega (arith, v.below, c.requires.of_state.processors, e)) in
    let parts : p < length a.parts = (let e = c.self.invariant.parts in omega (arith, e, lt)) in
    let absent : Has (numbers_at a.taken p) n → ⊥ =
    (λ h. c.requires.new (subst (λ (x : State). HasTaken x s.processor s.number) c.self.view_is
    (rw (c.processor-processor.ensures.value, c.number-number.ensures) at h))) in
    let ts : c.insert.new.self ≡ slice_set a.taken p (with_loose (numbers_at a.taken p) n) =
    inserted c.insert.result a.taken c.insert.new.self (slice_set a.taken p (with_loose (numbers_at a.taken p) n)) (has_key a.taken p n)
    (sym c.is_err-2.ensures.value ∙ c.if-is_err-2.false) c.insert.ensures.fresh c.insert.ensures.ok (absent_key a.taken p n absent) in
    let made = hold_made a now s p c.from.result n c.match-search.place c.index_mut-part.result.now
    c.part.inside.held.items c.reserve.new.self.items c.insert_reserved.new.held.items c.part.inside.folded c.insert.new.self
    c.self.view_is c.processor-processor.ensures.value c.from.ensures c.number-number.ensures parts
    c.index_mut-part.ensures.value c.part.view_is gap ts c.reserve.ensures.items c.insert_reserved.ensures in
    subst IsState (sym made) (IsState-with_segment now s is c.fits.ensures c.requires.of_state c.requires.new)

pub returns-clause-ok : goal.returns-clause-ok
returns-clause-ok g c =
    let i = c.self.inside in
    let a : State = state i.trace_id i.processors i.taken i.parts.items in
    let now : State = c.args.self.now in
    let s = c.args.segment in
    let p = c.processor-processor.result in
    let n = c.number-number.result in
    let gap : c.match-search.place ≡ gap_of n (loose_at a.taken p) =
    elim c.match-search.branch [ in-Ok w ↦ w.place-is ∙ w.in-Ok.ensures.position | in-Ok-2 w ↦ w.place-is ∙ w.in-Ok.ensures.position ] in
    let lt : p < a.processors =
    (let v = c.processor-processor.ensures in let e =
    ap (λ (x : State). x.processors) c.self.view_is in omega (arith, v.below, c.requires.of_state.processors, e)) in
    let parts : p < length a.parts = (let e = c.self.invariant.parts in omega (arith, e, lt)) in
    let absent : Has (numbers_at a.taken p) n → ⊥ =
    (λ h. c.requires.new (subst (λ (x : State). HasTaken x s.processor s.number) c.self.view_is
    (rw (c.processor-processor.ensures.value, c.number-number.ensures) at h))) in
    let ts : c.insert.new.self ≡ slice_set a.taken p (with_loose (numbers_at a.taken p) n) =
    inserted c.insert.result a.taken c.insert.new.self (slice_set a.taken p (with_loose (numbers_at a.taken p) n)) (has_key a.taken p n)
    (sym c.is_err-2.ensures.value ∙ c.if-is_err-2.false) c.insert.ensures.fresh c.insert.ensures.ok (absent_key a.taken p n absent) in
    hold_made a now s p c.from.result n c.match-search.place c.index_mut-part.result.now
    c.part.inside.held.items c.reserve.new.self.items c.insert_reserved.new.held.items c.part.inside.folded c.insert.new.self
    c.self.view_is c.processor-processor.ensures.value c.from.ensures c.number-number.ensures parts
    c.index_mut-part.ensures.value c.part.view_is gap ts c.reserve.ensures.items c.insert_reserved.ensures
