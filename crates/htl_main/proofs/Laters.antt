-- An event comes after a sequence exactly where the last of all events does.
use Rattle.std.proofs.Common.{◌≡◌, ◌∙◌, ℕ, List, inl, inr, arith, ap, sym}
use Rattle.std.specs.Prelude.{nat_lt}
use Rattle.std.specs.List.{list_any}
use Rattle.std.proofs.lemmas.Bool.{cases_Bool, le-ltb, ltb-false}
use Rattle.htl_event.specs.Events.{Event}
use Rattle.htl_event.specs.declared.growth.Span.{Span}
use Rattle.htl_case.specs.Spans.{IsSpanOf}
use Rattle.htl_symbols.proofs.Searches.{list_any-false, list_any-true}

pub later_by_span : (n : ℕ) (events : List Event) (span : Span) → IsSpanOf events span
    → nat_lt n span.last ≡ list_any (λ (e : Event). nat_lt n e.sequence) events
later_by_span n events span is = elim (cases_Bool (nat_lt n span.last)) [
  | inl below ↦
      let last = is.has_last in
      below ∙ sym (list_any-true (λ (e : Event). nat_lt n e.sequence) events last.0 last.1 (ap (λ (m : ℕ). nat_lt n m) last.2 ∙ below))
  | inr above ↦
      let end = ltb-false n span.last above in
      above ∙ sym (list_any-false (λ (e : Event). nat_lt n e.sequence) events
      (λ e here. le-ltb n e.sequence (let within = (is.between e here).1 in omega (arith, end, within))))
]
