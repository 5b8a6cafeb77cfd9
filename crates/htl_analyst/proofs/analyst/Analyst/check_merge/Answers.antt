-- The first conflict found is the least, and where none is found both agree.
use Rattle.std.proofs.Common.{◌≡◌, ℕ, ap, sym, ◌∙◌, subst, arith, inl, inr}
use Rattle.std.proofs.lemmas.Bool.{cases_lt}
use Rattle.htl_analyst.specs.States.{State}
use Rattle.htl_analyst.specs.Right.{IsState}
use Rattle.htl_analyst.specs.Refusals.{HoldTwo, AreOfOne}
use Rattle.htl_analyst.proofs.Merges.{HoldTwo-within}
use Rattle.htl_analyst.proofs.analyst.Analyst.check_merge.Goals as goal

pub returns-in-Some-clause-refused : goal.returns-in-Some-clause-refused
returns-in-Some-clause-refused g c =
    let a : State = c.args.self.now in
    let b : State = c.args.other.now in
    let one : AreOfOne a b = record {
      trace_id = sym (ap (λ (x : State). x.trace_id) c.self.view_is) ∙ c.if-self-other.false
          ∙ ap (λ (x : State). x.trace_id) c.other.view_is;
      processors = sym (ap (λ (x : State). x.processors) c.self.view_is) ∙ c.if-self-other-2.false
          ∙ ap (λ (x : State). x.processors) c.other.view_is;
    } in (
      one,
      c.in-Some.ensures.some,
      λ q m before two. elim before [
        | inl lower ↦ c.loop-processor.invariant q m lower two
        | inr same ↦ c.in-Some.ensures.least m same.1 (subst (λ (p : ℕ). HoldTwo a b p m) same.0 two)
      ],
    )

pub loop-processor-preserved : goal.loop-processor-preserved
loop-processor-preserved g c = λ p n lt two.
    elim (cases_lt p c.loop-processor.processor) [
      | inl before ↦ c.loop-processor.invariant p n before two
      | inr le ↦
          let e : p ≡ c.loop-processor.processor = omega (arith, lt, le) in
          c.in-None.ensures.none n (subst (λ (q : ℕ). HoldTwo c.args.self.now c.args.other.now q n) e two)
    ]

pub returns-clause-accepted : goal.returns-clause-accepted
returns-clause-accepted g c =
    let a : State = c.args.self.now in
    let b : State = c.args.other.now in
    let ep : a.processors ≡ b.processors =
    sym (ap (λ (x : State). x.processors) c.self.view_is) ∙ c.if-self-other-2.false ∙ ap (λ (x : State). x.processors) c.other.view_is in
    record {
      of_one = record {
        trace_id = sym (ap (λ (x : State). x.trace_id) c.self.view_is) ∙ c.if-self-other.false
            ∙ ap (λ (x : State). x.trace_id) c.other.view_is;
        processors = ep;
      };
      agree = λ p n two.
          let lt = HoldTwo-within a b (subst IsState c.other.view_is c.other.invariant) p n two in
          let own = ap (λ (x : State). x.processors) c.self.view_is in
          c.loop-processor.invariant p n (omega (arith, lt, ep, own, c.loop-processor-test.false)) two;
    }
