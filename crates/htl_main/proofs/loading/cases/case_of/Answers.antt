-- The fault is that of all segments, also where no copies were kept.
use Rattle.std.proofs.Common.{◌∙◌, List, subst}
use Rattle.htl_segment.specs.Content.{Content}
use Rattle.htl_main.specs.Origins.{IsBetweenOf}
use Rattle.htl_main.proofs.CaseRefused.{between_of_case}
use Rattle.htl_main.proofs.loading.cases.case_of.Goals.{in-Ok-kept, in-Err-kept}
use Rattle.htl_main.proofs.loading.cases.case_of.Goals as goal

pub returns-clause-between : goal.returns-clause-between
returns-clause-between c = λ form inputs decoded are.
    rw (c.from.ensures) (between_of_case form inputs c.args.decoded.segments.items c.in-Err.fault c.match-kept-2.result decoded
    (elim c.match-kept-2.branch [
      | in-Ok-kept w ↦
          let same = w.deref-in-Ok-kept.ensures.value ∙ w.in-Ok-kept.ensures ∙ c.deref.ensures.value in
          rw (w.result-is) (subst (λ (ss : List Content). IsBetweenOf form inputs ss c.in-Err.fault w.between.result) same
          (w.between.ensures form inputs (rw (same, w.deref-in-Ok-kept-2.ensures.value) are)))
      | in-Err-kept w ↦ rw (w.result-is) (w.unknown.ensures.between form inputs c.args.decoded.segments.items)
    ]))
