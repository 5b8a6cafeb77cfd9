-- A segment that was taken is a repeat, and neither that nor a refusal changes how many were.
use Rattle.std.proofs.Common.{◌≡◌, ◌+◌, Result, Ok, Err, refl, sym, ap, subst, arith, inl, inr, ◌⊎◌}
use Rattle.htl_segment.specs.Content.{Content}
use Rattle.htl_analyst.specs.Calls.{Takes, without_return}
use Rattle.htl_analyst.specs.declared.fault.TakeFault.{TakeFault}
use Rattle.htl_analyst.specs.declared.fault.Took.{Took}
use Rattle.htl_analyst.specs.declared.fault.Took.TheVariants.{New, Repeat}
use Rattle.htl_analyst.specs.States.{State}
use Rattle.htl_analyst.specs.Keys.{HasTaken, number_taken}
use Rattle.htl_analyst.proofs.laws.take_twice.Goals as goal

counted : (r : Result Took TakeFault) (old new : State) (s : Content) → Takes old s new r
    → (number_taken new ≡ number_taken old) ⊎ ((r ≡ Ok New) × (number_taken new ≡ number_taken old + 1))
counted (Ok New) old new s takes = inr (refl, takes.one_more refl)
counted (Ok Repeat) old new s takes = inl (ap (λ (a : State). number_taken a) takes.state)
counted (Err fault) old new s takes = inl (ap (λ (a : State). number_taken a) takes.same)

-- what was taken now has its key
has_it : (r : Result Took TakeFault) (old new : State) (s : Content) → Takes old s new r → r ≡ Ok New → HasTaken new s.processor s.number
has_it (Ok took) old new s takes e = (takes.keys s.processor s.number).1 (inr (refl, refl))
has_it (Err fault) old new s takes e = cc

-- and is new no more
not_new : (r : Result Took TakeFault) (old new : State) (s : Content) → Takes old s new r → HasTaken old s.processor s.number → r ≡ Ok New → ⊥
not_new (Ok New) old new s takes has e = takes.new.0 refl has
not_new (Ok Repeat) old new s takes has e = cc
not_new (Err fault) old new s takes has e = cc

pub returns : goal.returns
returns g c =
    let a : State = c.args.analyst.now in
    let b : State = c.take-first.new.self in
    let d : State = c.take-second.new.self in
    let s : Content = c.args.segment in
    let t : Content = c.args.again in
    let first = without_return c.take-first.result in
    let second = without_return c.take-second.result in
    let one = c.take-first.ensures.takes in
    let two = c.take-second.ensures.takes in
    elim (counted first a b s one) [
      | inl same ↦ elim (counted second b d t two) [ inl e ↦ omega (arith, same, e) | inr more ↦ omega (arith, same, more.1) ]
      | inr fresh ↦ elim (counted second b d t two) [
        | inl e ↦ omega (arith, fresh.1, e)
        | inr more ↦ absurd (not_new second b d t two
            (subst (λ (x : Content). HasTaken b x.processor x.number) (sym c.requires) (has_it first a b s one fresh.0)) more.0)
      ]
    ]
