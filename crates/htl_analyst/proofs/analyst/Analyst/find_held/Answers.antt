-- A number is held once, or not at all where it is not loose.
use Rattle.std.proofs.Common.{subst}
use Rattle.std.specs.Prelude.{Contains}
use Rattle.htl_taken.specs.Numbers.{numbers_at, loose_at}
use Rattle.htl_analyst.specs.States.{State, part_at}
use Rattle.htl_analyst.specs.Right.{IsState}
use Rattle.htl_analyst.proofs.Takes.{held_once, not_loose_not_held}
use Rattle.htl_analyst.proofs.analyst.Analyst.find_held.Goals as goal

pub returns-in-Ok-clause-one : goal.returns-in-Ok-clause-one
returns-in-Ok-clause-one g c =
    let a : State = c.args.self.now in
    let is : IsState a = subst IsState c.self.view_is c.self.invariant in
    let p = c.args.processor in
    held_once a.trace_id a.processors p (numbers_at a.taken p) (part_at a.parts p) (is.each p c.requires)

pub returns-in-Err-clause-one : goal.returns-in-Err-clause-one
returns-in-Err-clause-one g c =
    let a : State = c.args.self.now in
    let is : IsState a = subst IsState c.self.view_is c.self.invariant in
    let p = c.args.processor in
    held_once a.trace_id a.processors p (numbers_at a.taken p) (part_at a.parts p) (is.each p c.requires)

pub returns-in-Err-clause-none : goal.returns-in-Err-clause-none
returns-in-Err-clause-none g c = λ s h e.
    let a : State = c.args.self.now in
    let is : IsState a = subst IsState c.self.view_is c.self.invariant in
    let p = c.args.processor in
    let absent = subst (λ (x : State). Contains (loose_at x.taken p) c.args.number → ⊥) c.self.view_is c.in-Err.ensures.absent.1 in
    not_loose_not_held a.trace_id a.processors p (numbers_at a.taken p) (part_at a.parts p) (is.each p c.requires) c.args.number absent s
    h e
