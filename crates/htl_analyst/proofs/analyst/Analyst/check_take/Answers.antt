-- A segment that is not refused is of the state and agrees with what is held.
use Rattle.std.proofs.Common.{◌≡◌, ◌<◌, ℕ, sym, ap, ◌∙◌, subst, arith}
use Rattle.std.specs.Prelude.{Contains}
use Rattle.htl_segment.specs.Content.{Content}
use Rattle.htl_taken.specs.Numbers.{numbers_at, front_at}
use Rattle.htl_analyst.specs.States.{State, part_at, held_at}
use Rattle.htl_analyst.specs.Right.{IsState}
use Rattle.htl_analyst.proofs.Takes.{held_above}
use Rattle.htl_analyst.proofs.analyst.Analyst.check_take.Goals as goal

pub returns-then-number-front-clause-accepted : goal.returns-then-number-front-clause-accepted
returns-then-number-front-clause-accepted g c =
    let a : State = c.args.self.now in
    let s : Content = c.args.segment.now in
    let is : IsState a = subst IsState c.self.view_is c.self.invariant in
    let et : s.trace_id ≡ a.trace_id = sym c.trace_id.ensures ∙ c.if-trace_id-self.false ∙ ap (λ (x : State). x.trace_id) c.self.view_is in
    let ep : s.processors ≡ a.processors = sym c.processors.ensures ∙ c.if-processors-self.false
    ∙ ap (λ (x : State). x.processors) c.self.view_is in
    let here : s.processor < a.processors = (let v = c.processor-processor.ensures in omega (arith, v.value, v.below, ep)) in
    let low : s.number < front_at a.taken s.processor =
    (let f : c.front.result ≡ front_at a.taken s.processor =
    c.front.ensures ∙ ap (λ (p : ℕ). front_at a.taken p) c.processor-processor.ensures.value in
    omega (arith, f, c.if-number-front.true, c.number-number.ensures)) in
    record {
      of_state = record { trace_id = et; processors = ep };
      agrees = λ other.
          let above =
          held_above a.trace_id a.processors s.processor (numbers_at a.taken s.processor) (part_at a.parts s.processor)
          (is.each s.processor here) other.held other.here in
          omega (arith, above.0, other.number, low);
    }

pub returns-in-None-clause-accepted : goal.returns-in-None-clause-accepted
returns-in-None-clause-accepted g c =
    let a : State = c.args.self.now in
    let s : Content = c.args.segment.now in
    let et : s.trace_id ≡ a.trace_id = sym c.trace_id.ensures ∙ c.if-trace_id-self.false ∙ ap (λ (x : State). x.trace_id) c.self.view_is in
    let ep : s.processors ≡ a.processors = sym c.processors.ensures ∙ c.if-processors-self.false
    ∙ ap (λ (x : State). x.processors) c.self.view_is in
    record {
      of_state = record { trace_id = et; processors = ep };
      agrees = λ other. c.in-None.ensures.none other.held
          (subst (λ (p : ℕ). Contains (held_at a.parts p) other.held) (sym c.processor-processor.ensures.value) other.here)
          (other.number ∙ sym c.number-number.ensures);
    }

pub returns-in-Some-clause-accepted : goal.returns-in-Some-clause-accepted
returns-in-Some-clause-accepted g c =
    let a : State = c.args.self.now in
    let s : Content = c.args.segment.now in
    let et : s.trace_id ≡ a.trace_id = sym c.trace_id.ensures ∙ c.if-trace_id-self.false ∙ ap (λ (x : State). x.trace_id) c.self.view_is in
    let ep : s.processors ≡ a.processors = sym c.processors.ensures ∙ c.if-processors-self.false
    ∙ ap (λ (x : State). x.processors) c.self.view_is in
    record {
      of_state = record { trace_id = et; processors = ep };
      agrees = λ other.
          let there = subst (λ (p : ℕ). Contains (held_at a.parts p) other.held) (sym c.processor-processor.ensures.value) other.here in
          let found = c.in-Some.ensures.some in
          let one =
          c.in-Some.ensures.one other.held c.in-Some.held.now there found.0 (other.number ∙ sym c.number-number.ensures ∙ sym found.1) in
          other.other (one ∙ c.same.ensures.0 c.if-same.true);
    }
