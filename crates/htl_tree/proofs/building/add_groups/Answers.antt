-- The root counts one group more, or the groups so far are taken out again.
use Rattle.std.proofs.Common.{List, [], take, get_or, sym, ap, ◌∙◌, arith}
use Rattle.std.specs.Borrow.{Bor}
use Rattle.htl_event.specs.declared.slot.Count.{Count}
use Rattle.htl_event.specs.Tallies.{plus_count, total_of}
use Rattle.htl_tree.specs.declared.row.Row.{Row}
use Rattle.htl_tree.specs.Trees.{count_at}
use Rattle.htl_tree.specs.Nodes.{tree_of}
use Rattle.htl_tree.specs.Rows.{entries_of, sum_at, WithRows}
use Rattle.htl_tree.proofs.SumsFromTally.{plus_assoc}
use Rattle.htl_tree.proofs.RowGroups.{rows_of, sum-take_more, sum-take_most, tree_before_rows}
use Rattle.htl_tree.proofs.building.add_groups.Goals as goal

abbrev none : Bor (List Row)
none = record { ref_ptr = (0, 0); now = [] }

pub add_group-requires-clause-fits : goal.add_group-requires-clause-fits
add_group-requires-clause-fits g c slot stack =
    let room = sum-take_most c.args.groups.now c.loop-place.place none c.loop-place-test.true slot stack in
    let now = ap total_of (c.loop-place.invariant.counts slot stack) in
    let fits = c.requires.fits slot stack in
    omega (arith, room, now, fits)

pub remove_groups-requires-clause-counted : goal.remove_groups-requires-clause-counted
remove_groups-requires-clause-counted g c = (
  λ slot stack. count_at (tree_of c.args.root.now) slot stack,
  λ slot stack. ap (λ t. count_at t slot stack) c.in-Err.ensures.1 ∙ c.loop-place.invariant.counts slot stack,
)

pub returns-in-Err : goal.returns-in-Err
returns-in-Err g c =
    let rows = rows_of (take c.loop-place.place c.args.groups.now) in
    let before : WithRows (tree_of c.add_group.new.root) (tree_of c.args.root.now) rows =
    λ slot stack. ap (λ t. count_at t slot stack) c.in-Err.ensures.1 ∙ c.loop-place.invariant.counts slot stack in (
      c.remove_groups.ensures.normal,
      tree_before_rows c.add_group.new.root c.remove_groups.new.root c.args.root.now rows
          c.remove_groups.ensures.normal c.requires.normal c.remove_groups.ensures.counts before,
    )

pub loop-place-preserved : goal.loop-place-preserved
loop-place-preserved g c =
    let groups = c.args.groups.now in
    let i = c.loop-place.place in
    record {
      normal = c.in_default.ensures.0;
      counts = λ slot stack.
          let old : Count = count_at (tree_of c.args.root.now) slot stack in
          let before : Count = sum_at (entries_of (rows_of (take i groups))) slot stack in
          let one : Count = sum_at (entries_of (get_or groups i none).now) slot stack in
          c.in_default.ensures.1 slot stack ∙ ap (λ k. plus_count k one) (c.loop-place.invariant.counts slot stack)
          ∙ plus_assoc old before one
          ∙ ap (plus_count old) (sym (sum-take_more groups i none c.loop-place-test.true slot stack));
    }
