-- The first place whose id or count isn't that of place 0 is the least one.
use Rattle.std.proofs.Common.{◌≡◌, None, Some, List, [], sym, ap, ◌∙◌, rules}
use Rattle.std.specs.Prelude.{position, slice_get}
use Rattle.std.proofs.lemmas.Option.{none-some}
use Rattle.htl_segment.specs.Content.{Content}
use Rattle.htl_case.proofs.Places.{first_other, none_other}
use Rattle.htl_case.proofs.ordering.check_one_trace.Goals as goal

some_first : (segments : List Content) (first : Content) → slice_get segments 0 ≡ Some first → segments ≡ [] → ⊥
some_first segments first at none = none-some first (sym (ap (λ (ss : List Content). slice_get ss 0) none) ∙ at)

pub returns-in-Some-other_trace-clause-err : goal.returns-in-Some-other_trace-clause-err
returns-in-Some-other_trace-clause-err c =
    first_other (λ (s : Content). s.trace_id) c.trace_id-trace_id.result c.args.segments.now c.in-Some.first.now
    c.in-Some-other_trace.place (search rules) (search rules) (search rules)

pub returns-in-Some-other_processors-clause-err : goal.returns-in-Some-other_processors-clause-err
returns-in-Some-other_processors-clause-err c =
    let none : position _ c.args.segments.now ≡ None = search rules in
    let one = none_other (λ (s : Content). s.trace_id) c.trace_id-trace_id.result c.args.segments.now none in (
      λ s t h k. one s h ∙ sym (one t k),
      first_other (λ (s : Content). s.processors) c.processors-processors.result c.args.segments.now c.in-Some.first.now
          c.in-Some-other_processors.place (search rules) (search rules) (search rules),
    )

pub returns-clause-ok : goal.returns-clause-ok
returns-clause-ok c = record {
  some = some_first c.args.segments.now c.in-Some.first.now (search rules);
  trace = none_other (λ (s : Content). s.trace_id) c.trace_id-trace_id.result c.args.segments.now (search rules);
  count = none_other (λ (s : Content). s.processors) c.processors-processors.result c.args.segments.now (search rules);
}
