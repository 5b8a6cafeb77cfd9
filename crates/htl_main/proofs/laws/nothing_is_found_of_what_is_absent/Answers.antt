-- The law: where there is nothing of what a question asks about, its answer finds nothing.
use Rattle.std.proofs.Common.{ℕ, Option, sym, ◌∙◌, ap}
use Rattle.htl_segment.specs.Traces.{all_events}
use Rattle.htl_main.specs.Subjects.{absence_in}
use Rattle.htl_main.proofs.Absences.{nothing_found}
use Rattle.htl_main.proofs.MomentLaws.{one_moment}
use Rattle.htl_main.proofs.laws.nothing_is_found_of_what_is_absent.Goals as goal

pub returns : goal.returns
returns c T job absence until answer absent named is no_growth =
    let same = one_moment T job.until absent.0 until absent.1 named in
    let here = ap (λ (n : Option ℕ). absence_in job.question n (all_events T.segments)) (sym same) ∙ sym absent.2 in
    nothing_found T until job.question answer absence no_growth here is
