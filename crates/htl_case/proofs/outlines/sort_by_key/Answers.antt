-- A sort by key leaves the outlines in the order of their keys.
use Rattle.std.proofs.Common.{rules}
use Rattle.std.proofs.lemmas.List.Sorted.{answers_always}
use Rattle.htl_case.specs.Outlined.{outline_key}
use Rattle.htl_case.proofs.KeyOrder.{sorted_by_key}
use Rattle.htl_case.proofs.outlines.sort_by_key.Goals as goal

pub returns-clause-sorted : goal.returns-clause-sorted
returns-clause-sorted c =
    sorted_by_key outline_key c.sort_unstable_by_key.new.self.items
    (c.sort_unstable_by_key.ensures.sorted outline_key (answers_always _ _ _ (λ f a r g h. search rules)))
