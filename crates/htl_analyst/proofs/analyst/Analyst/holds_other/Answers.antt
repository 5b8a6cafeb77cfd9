-- The one held segment of the key shows whether other content is held.
use Rattle.std.proofs.Common.{ℕ, not, ap, sym, ◌∙◌, subst, inl, inr}
use Rattle.std.specs.Prelude.{Contains}
use Rattle.std.proofs.lemmas.Bool.{false≢true, cases_Bool}
use Rattle.htl_analyst.specs.States.{held_at}
use Rattle.htl_analyst.proofs.analyst.Analyst.holds_other.Goals as goal

pub returns-in-Some : goal.returns-in-Some
returns-in-Some g c =
    let found = c.in-Some.ensures.some in
    let parts = c.args.self.now.parts in (
      (λ t. record {
        held = c.in-Some.held.now;
        here = subst (λ (p : ℕ). Contains (held_at parts p) c.in-Some.held.now) (sym c.requires.of) found.0;
        number = found.1 ∙ c.number.ensures;
        other = λ e. let same = c.same.ensures.1 e in false≢true (sym (ap not same) ∙ t);
      }),
      (λ other. elim (cases_Bool c.same.result) [
        | inl agrees ↦
            let there = subst (λ (p : ℕ). Contains (held_at parts p) other.held) c.requires.of other.here in
            let one =
            c.in-Some.ensures.one other.held c.in-Some.held.now there found.0 (other.number ∙ sym c.number.ensures ∙ sym found.1) in
            absurd (other.other (one ∙ c.same.ensures.0 agrees))
        | inr differs ↦ ap not differs
      ]),
    )

pub returns-in-None : goal.returns-in-None
returns-in-None g c = (
  (λ t. absurd (false≢true t)),
  (λ other. absurd (c.in-None.ensures.none other.held
      (subst (λ (p : ℕ). Contains (held_at c.args.self.now.parts p) other.held) c.requires.of other.here)
      (other.number ∙ sym c.number.ensures))),
)
