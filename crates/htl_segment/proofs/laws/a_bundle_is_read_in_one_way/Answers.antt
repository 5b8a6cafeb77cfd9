-- Bytes split in one way, since no encoding begins another.
use Rattle.std.proofs.Common.{List, [], length, ap, sym, ◌∙◌, arith}
use Rattle.htl_segment.specs.Content.{Content}
use Rattle.htl_segment.specs.Faults.{first_fault}
use Rattle.htl_segment.specs.Bundles.{bundle}
use Rattle.htl_segment.proofs.PassedTests.{some_is}
use Rattle.htl_segment.proofs.BundleLaws.{split_in_one_way, nothing_short, first_fault-rest}
use Rattle.htl_segment.proofs.laws.a_bundle_is_read_in_one_way.Goals as goal

pub returns-clause-segments : goal.returns-clause-segments
returns-clause-segments c = λ bytes ss ts p q. (split_in_one_way bytes [] [] ss ts _ _ p q nothing_short nothing_short).0

pub returns-clause-fault : goal.returns-clause-fault
returns-clause-fault c = λ bytes m n f g p q.
    let both = split_in_one_way bytes p.rest q.rest p.before q.before f g p.splits q.splits p.fault_is q.fault_is in (
      omega (arith, p.offset_is, q.offset_is, ap (λ (ss : List Content). length (bundle ss)) both.0),
      some_is f g (sym p.fault_is
          ∙ ap first_fault both.1 ∙ q.fault_is),
    )

pub returns-clause-not_both : goal.returns-clause-not_both
returns-clause-not_both c = λ bytes ss n f p q.
    let both = split_in_one_way bytes [] q.rest ss q.before _ f p q.splits nothing_short q.fault_is in
    omega (arith, ap length both.1, q.some)

pub returns-clause-pieces : goal.returns-clause-pieces
returns-clause-pieces c = λ bytes rest left ss ts p is q isn't.
    split_in_one_way bytes rest left ss ts _ _ p q (first_fault-rest rest is) (first_fault-rest left isn't)
