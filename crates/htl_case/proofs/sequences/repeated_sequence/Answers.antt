-- The least number that the sorted sequences repeat is the least sequence that comes twice.
use Rattle.std.proofs.Common.{ℕ, rules}
use Rattle.std.proofs.lemmas.List.Sorted.{IsNonDecreasingBy-from_sort}
use Rattle.htl_case.proofs.Twice.{none_twice, told_twice}
use Rattle.htl_case.proofs.sequences.repeated_sequence.Goals as goal

pub returns-then-not-branch-clause-found : goal.returns-then-not-branch-clause-found
returns-then-not-branch-clause-found c = none_twice c.args.segments.now (c.in_ok-one_comes_twice.ensures.once (search rules))

pub first_repeated-requires : goal.first_repeated-requires
first_repeated-requires c =
    rw c.deref.ensures.value (IsNonDecreasingBy-from_sort (λ (x : ℕ). x) _ c.in_ok-sort.ensures.sorted)

pub returns-clause-found : goal.returns-clause-found
returns-clause-found c =
    told_twice c.args.segments.now c.in_ok-sequences.sequences.items c.sort.new.self.items c.first_repeated.result c.requires
    c.in_ok-sequences.ensures.fit c.in_ok-sequences.ensures.value c.in_ok-sort.ensures.permutation
    (rw c.deref.ensures.value at c.first_repeated.ensures)
