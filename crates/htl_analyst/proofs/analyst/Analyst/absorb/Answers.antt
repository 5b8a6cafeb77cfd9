-- What is made of the incoming parts, theirs moved, is a merge of both.
use Rattle.std.proofs.Common.{rules, ◌≡◌, ◌<◌, ℕ, ap, sym, ◌∙◌, subst}
use Rattle.std.specs.Prelude.{nat_lt, if◌then◌else◌}
use Rattle.htl_taken.specs.Numbers.{front_at}
use Rattle.htl_analyst.specs.States.{State, state, part, part_at, held_at, folded_at}
use Rattle.htl_analyst.specs.Right.{IsState}
use Rattle.htl_analyst.specs.Steps.{IsMerge}
use Rattle.htl_analyst.specs.Calls.{IsMerged}
use Rattle.htl_analyst.proofs.Merges.{IsMerge-made, IsState-merged, IsRight-merged, HasTaken-merged, merge_lawful}
use Rattle.htl_analyst.proofs.Falling.{never_falls-merged}
use Rattle.htl_analyst.proofs.analyst.Analyst.absorb.Given.{Over}
use Rattle.htl_analyst.proofs.analyst.Analyst.absorb.Goals as goal

pub returns-in-Err-clause-merges : goal.returns-in-Err-clause-merges
returns-in-Err-clause-merges g c = record {
  cause = c.in-Err.ensures.refused;
  same = search rules;
  lawful = λ T ra rb. merge_lawful T c.args.self.now c.args.other ra rb c.in-Err.fault c.in-Err.ensures.refused;
}

-- the state that is made is a merge of both
made : (g : Over) (c : goal.After-drop-their_taken-inside g)
    → IsMerge c.args.self.now c.args.other (state c.args.self.now.trace_id c.args.self.now.processors c.in-Ok.taken
    c.unite.new.incoming.items)
made g c =
    let i = c.self.inside in
    let o = c.other.inside in
    let now : State = c.args.self.now in
    let b : State = c.args.other in
    let incoming = c.in-Ok.incoming.items in
    let theirs = c.other.inside.parts.items in
    let new = c.unite.new.incoming.items in
    let own_side = subst (λ (x : State). (p : ℕ) → p < x.processors → part_at new p
    ≡ part (held_at incoming p) (if nat_lt (front_at x.taken p) (front_at o.taken p) then folded_at theirs p else folded_at x.parts p))
    c.self.view_is c.unite.ensures.parts in
    let both = subst (λ (y : State). (p : ℕ) → p < now.processors → part_at new p
    ≡ part (held_at incoming p) (if nat_lt (front_at now.taken p) (front_at y.taken p) then folded_at theirs p else folded_at now.parts p))
    c.other.view_is own_side in
    let e = c.in-Ok.ensures in
    IsMerge-made now b c.in-Ok.taken theirs incoming new e.len e.union e.held
    (λ p lt low. ap (λ (x : State). folded_at x.parts p) c.other.view_is) (c.unite.ensures.len ∙ e.held.len) both

pub invariant_of-self : goal.invariant_of-self
invariant_of-self g c =
    let e = c.in-Ok.ensures in
    let c' = made g c in
    subst (λ (x : State). IsState (state x.trace_id x.processors c.in-Ok.taken c.unite.new.incoming.items)) (sym c.self.view_is)
    (IsState-merged c.args.self.now c.args.other (state c.args.self.now.trace_id c.args.self.now.processors c.in-Ok.taken
    c.unite.new.incoming.items) e.accepted.of_one c' c.union_of.ensures.state c.union_of.ensures.other)

pub returns-in-Ok-clause-merges : goal.returns-in-Ok-clause-merges
returns-in-Ok-clause-merges g c =
    let now : State = c.args.self.now in
    let b : State = c.args.other in
    let of_one = c.in-Ok.ensures.accepted.of_one in
    let new : State = state now.trace_id now.processors c.in-Ok.taken c.unite.new.incoming.items in
    let merged = made g c in
    subst (λ (x : State). IsMerged now b (state x.trace_id x.processors c.in-Ok.taken c.unite.new.incoming.items)) (sym c.self.view_is)
    (record {
      merged = merged;
      keys = HasTaken-merged now b new merged;
      accepted = c.in-Ok.ensures.accepted;
      right = λ T ra rb. IsRight-merged now b new of_one merged T ra rb;
      never_falls = λ T ra rb. never_falls-merged T now b new ra (IsRight-merged now b new of_one merged T ra rb) merged;
    })
