-- At each process the merged rows have the greater sequence, and none of 0.
use Rattle.std.proofs.Common.{ℕ, ap, ◌∙◌, Option}
use Rattle.std.specs.Option.{unwrap_or}
use Rattle.std.specs.Ordering.{nat_cmp}
use Rattle.std.specs.FinMap.Entries.{find}
use Rattle.htl_tables.specs.Greatest.{sequences}
use Rattle.htl_tables.proofs.Sequences.{joined-max, IsSequenceTable-joined}
use Rattle.htl_tables.proofs.greatest.Greatest.join.Goals as goal

pub merge-requires-clause-left : goal.merge-requires-clause-left
merge-requires-clause-left g c = rw c.deref.ensures.value c.self.invariant.sorted

pub merge-requires-clause-right : goal.merge-requires-clause-right
merge-requires-clause-right g c = rw c.deref-2.ensures.value c.other.invariant.sorted

pub invariant_of-result : goal.invariant_of-result
invariant_of-result g c =
    let values = rw (c.deref.ensures.value, c.deref-2.ensures.value) at c.in_ok-merge.ensures.values in
    IsSequenceTable-joined c.in_ok-merge.field-0.items c.self.inside.rows.items c.other.inside.rows.items c.in_ok-merge.ensures.sorted
    c.self.invariant c.other.invariant values

pub returns : goal.returns
returns g c = λ process.
    let left = c.deref.ensures.value ∙ c.self.view_is in
    let right = c.deref-2.ensures.value ∙ c.other.view_is in
    let values = rw (left, right) at c.in_ok-merge.ensures.values process in
    ap (λ (o : Option ℕ). unwrap_or o 0) values
    ∙ joined-max (find nat_cmp process (sequences c.args.self.now)) (find nat_cmp process (sequences c.args.other.now))
