-- A search by frames finds the place or the gap.
use Rattle.std.proofs.Common.{subst, IfOk, IfErr}
use Rattle.std.specs.Ordering.{nat_cmp}
use Rattle.std.proofs.lemmas.List.{map-id}
use Rattle.htl_sorted.specs.Entries.{IsPlace, IsGap}
use Rattle.htl_tree.proofs.node.find_frame.Goals as goal

pub returns-clause-found : goal.returns-clause-found
returns-clause-found g c = subst (λ es. IfOk c.search.result (IsPlace nat_cmp es c.args.frame))
    (map-id c.args.children.now) c.search.ensures.found

pub returns-clause-absent : goal.returns-clause-absent
returns-clause-absent g c = subst (λ es. IfErr c.search.result (IsGap nat_cmp es c.args.frame))
    (map-id c.args.children.now) c.search.ensures.absent
