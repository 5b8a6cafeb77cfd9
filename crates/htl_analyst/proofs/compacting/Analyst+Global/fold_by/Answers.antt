-- The runs may be folded, and what the workers made of the parts is further.
use Rattle.std.proofs.Common.{rules, ◌≡◌, ◌<◌, ℕ, List, ◌++◌, length, take, drop, ap, sym, ◌∙◌, subst, arith}
use Rattle.htl_lemmas.proofs.Lists.{take_front}
use Rattle.htl_taken.specs.Numbers.{numbers_at}
use Rattle.htl_analyst.specs.States.{State, state, Part, part_at}
use Rattle.htl_analyst.specs.StepParts.{CanFold, IsWorked, IsFurther, run_at, moved}
use Rattle.htl_analyst.proofs.Workers.{can_fold, IsFurther-made, IsState-further}
use Rattle.htl_analyst.proofs.compacting.Analyst+Global.fold_by.Goals as goal

abbrev before : (g : _) (c : goal.After-move_fronts g) → State
before g c = state c.self.inside.trace_id c.self.inside.processors c.self.inside.taken c.self.inside.parts.items

abbrev after : (g : _) (c : goal.After-move_fronts g) → State
after g c =
    state c.self.inside.trace_id c.self.inside.processors c.move_fronts.new.taken
    (take c.self.inside.parts.len (c.fold_parts.new.parts ++ drop (length c.fold_parts.new.parts) c.self.inside.parts.items))

pub fold_parts-requires-clause-can : goal.fold_parts-requires-clause-can
fold_parts-requires-clause-can g c κs within = λ p lt.
    let i = c.self.inside in
    let same = c.deref_mut.ensures.value in
    let here : p < i.processors = (let parts = c.self.invariant.parts in let len = ap length same in omega (arith, lt, parts, len)) in
    subst (λ (ks : List Part). CanFold (run_at (numbers_at i.taken p)) (part_at ks p)) (sym same)
    (can_fold i.trace_id i.processors p (numbers_at i.taken p) (part_at i.parts.items p) (c.self.invariant.each p here))

further : (g : _) (c : goal.After-move_fronts g) → IsFurther (before g c) (after g c)
further g c =
    let i = c.self.inside in
    let new = c.fold_parts.new.parts in
    let same = c.deref_mut.ensures.value in
    let kept : length new ≡ i.parts.len = search rules in
    let back : (after g c).parts ≡ new = take_front new (drop (length new) i.parts.items) i.parts.len kept in
    let parts : length (after g c).parts ≡ length i.parts.items =
    ap length back ∙ kept ∙ sym c.deref_mut.ensures.len ∙ ap length same in
    let worked : (p : ℕ) → p < length i.parts.items → IsWorked (numbers_at i.taken p) (part_at i.parts.items p) (part_at new p) =
    subst (λ (ks : List Part). (p : ℕ) → p < length ks → IsWorked (numbers_at i.taken p) (part_at ks p) (part_at new p)) same
    c.fold_parts.ensures in
    IsFurther-made (before g c) c.move_fronts.new.taken (after g c).parts c.self.invariant parts
    (λ p lt. subst (λ (ls : List Part). IsWorked (numbers_at i.taken p) (part_at i.parts.items p) (part_at ls p)) (sym back) (worked p lt))
    c.move_fronts.ensures.len
    (λ p lt within. c.move_fronts.ensures.each p lt within
    ∙ ap (λ (ls : List Part). moved (numbers_at i.taken p) (part_at ls p)) c.deref.ensures.value)

pub invariant_of-self : goal.invariant_of-self
invariant_of-self g c = IsState-further (before g c) (after g c) c.self.invariant (further g c)

pub returns-clause-further : goal.returns-clause-further
returns-clause-further g c = subst (λ (x : State). IsFurther x (after g c)) c.self.view_is (further g c)
