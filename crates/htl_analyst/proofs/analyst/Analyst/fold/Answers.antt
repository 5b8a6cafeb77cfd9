-- The run of the processor is that of its part, and a processor without one is compacted as it is.
use Rattle.std.proofs.Common.{◌≡◌, ℕ, ◌-◌, ◌<◌, length, drop, slice_set, refl, sym, ap, ◌∙◌, subst, arith}
use Rattle.htl_taken.specs.Numbers.{numbers_at}
use Rattle.htl_analyst.specs.States.{State, state, Part, part, part_at}
use Rattle.htl_analyst.specs.Right.{IsState}
use Rattle.htl_analyst.specs.StepParts.{run_length, CanFold, IsRunFolded, IsCompactedAt}
use Rattle.htl_analyst.proofs.Compacts.{nothing_to_fold}
use Rattle.htl_analyst.proofs.Folds.{IsState-compacted}
use Rattle.htl_analyst.proofs.Holds.{part_read, settle_made}
use Rattle.htl_analyst.proofs.Workers.{can_fold, run_read}
use Rattle.htl_analyst.proofs.analyst.Analyst.fold.Given.{Over}
use Rattle.htl_analyst.proofs.analyst.Analyst.fold.Goals.{After-settle}
use Rattle.htl_analyst.proofs.analyst.Analyst.fold.Goals as goal

pub returns-then-run-eq0-clause-ok : goal.returns-then-run-eq0-clause-ok
returns-then-run-eq0-clause-ok g c =
    let a : State = c.args.self.now in
    let p = c.args.processor in
    let run = run_read a p c.reach.result c.front-front.result c.self.view_is c.reach.ensures.value c.front-front.ensures.value in
    let none : run_length a p ≡ 0 = omega (arith, run, c.if-run-eq0.true) in
    nothing_to_fold a p (subst IsState c.self.view_is c.self.invariant) c.requires none

pub fold-requires : goal.fold-requires
fold-requires g c =
    let i = c.self.inside in
    let a : State = state i.trace_id i.processors i.taken i.parts.items in
    let now : State = c.args.self.now in
    let p = c.args.processor in
    let k : Part = c.index_mut.result.now in
    let n = ap (λ (x : State). x.processors) c.self.view_is in
    let here : p < a.processors = omega (arith, n, c.requires) in
    let parts : p < length a.parts = (let e = c.self.invariant.parts in omega (arith, e, here)) in
    let l : k ≡ part_at a.parts p = part_read a.parts p k k parts (rw c.from.ensures at c.index_mut.ensures.value) refl in
    let run = run_read a p c.reach.result c.front-front.result refl c.reach.ensures.value c.front-front.ensures.value in
    subst (λ (x : Part). CanFold (c.reach.result - c.front-front.result) x) (sym l)
    (subst (λ (m : ℕ). CanFold m (part_at a.parts p)) (sym run)
    (can_fold a.trace_id a.processors p (numbers_at a.taken p) (part_at a.parts p) (c.self.invariant.each p here)))

compacted : (g : Over) (c : After-settle g)
    → IsCompactedAt c.args.self.now (state c.self.inside.trace_id c.self.inside.processors c.settle.new.self
    (slice_set c.self.inside.parts.items c.from.result c.fold.new.self)) c.args.processor
compacted g c =
    let i = c.self.inside in
    let a : State = state i.trace_id i.processors i.taken i.parts.items in
    let now : State = c.args.self.now in
    let p = c.args.processor in
    let k : Part = c.index_mut.result.now in
    let new : Part = c.fold.new.self in
    let n = ap (λ (x : State). x.processors) c.self.view_is in
    let parts : p < length a.parts = (let e = c.self.invariant.parts in omega (arith, e, n, c.requires)) in
    let l : k ≡ part_at now.parts p = part_read a.parts p k k parts (rw c.from.ensures at c.index_mut.ensures.value) refl
    ∙ ap (λ (x : State). part_at x.parts p) c.self.view_is in
    let run = run_read now p c.reach.result c.front-front.result c.self.view_is c.reach.ensures.value c.front-front.ensures.value in
    let folds : IsRunFolded (run_length now p) (part_at now.parts p) new =
    subst (λ (m : ℕ). IsRunFolded m (part_at now.parts p) new) run
    (subst (λ (x : Part). IsRunFolded (c.reach.result - c.front-front.result) x new) l c.in_ok-fold.ensures.ok) in
    record {
      folded = folds.folded;
      is =
          settle_made a now p c.from.result (run_length now p) k new folds.folded c.settle.new.self c.self.view_is c.from.ensures parts
          c.index_mut.ensures.value refl c.settle.ensures.value
          (folds.is ∙ ap (λ (x : Part). part (drop (run_length now p) x.held) folds.folded) (sym l));
      joins = folds.joins;
      bounded = folds.bounded;
    }

pub invariant_of-self-2 : goal.invariant_of-self-2
invariant_of-self-2 g c =
    let now : State = c.args.self.now in
    IsState-compacted now _ c.args.processor (subst IsState c.self.view_is c.self.invariant) c.requires (compacted g c)

pub returns-clause-ok : goal.returns-clause-ok
returns-clause-ok g c = compacted g (goal.at.returns-clause-ok g c).After-settle
