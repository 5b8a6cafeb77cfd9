-- With the next group, more rows are in groups, and the others are left.
use Rattle.std.proofs.Common.{refl}
use Rattle.htl_lemmas.proofs.Lists.{rest_is}
use Rattle.htl_tree.proofs.RowGroups.{group_more, rest_within}
use Rattle.htl_tree.proofs.building.groups_of.Goals as goal

pub loop-start-preserved : goal.loop-start-preserved
loop-start-preserved g c =
    let n = c.loop-start.start in
    let rows = c.args.rows.now in
    let more = group_more c.loop-start.groups.items c.push.new.self.items _ n c.alike-len.result rows _
    (rest_is rows n) c.in_ok-push.ensures.items refl c.loop-start.invariant.rows c.loop-start.invariant.within
    c.loop-start.invariant.groups c.alike-len.ensures.group in
    record {
      within = rest_within n c.alike-len.result rows _ (rest_is rows n) c.loop-start.invariant.within c.alike-len.ensures.within;
      rows = more.0;
      groups = more.1;
    }
