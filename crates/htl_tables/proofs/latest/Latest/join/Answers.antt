-- At each handle the merged rows have the later event.
use Rattle.std.proofs.Common.{◌∙◌}
use Rattle.htl_tables.specs.Latest.{event_at}
use Rattle.htl_tables.proofs.Tables.{joined-later}
use Rattle.htl_tables.proofs.latest.Latest.join.Goals as goal

pub returns : goal.returns
returns g c = λ process base.
    let left = c.deref.ensures.value ∙ c.self.view_is in
    let right = c.deref-2.ensures.value ∙ c.other.view_is in
    let joined = rw (left, right) at c.in_ok-merge.ensures.values (process, base) in
    joined ∙ joined-later (event_at c.args.self.now process base) (event_at c.args.other.now process base)
