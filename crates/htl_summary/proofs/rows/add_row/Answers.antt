-- A row whose owner is that of the last one joins it, and one of a greater owner comes after it.
use Rattle.std.proofs.Common.{rules, ◌≡◌, ◌<◌, ◌-◌, length, get_or, sym, ◌∙◌, ap}
use Rattle.std.specs.Ordering.{nat_cmp}
use Rattle.std.specs.declared.cmp.Ordering.TheVariants.{Less, Equal}
use Rattle.htl_summary.proofs.InOrder.{pushed_sorted, pushed_value, last_value, joined_sorted, joined_value}
use Rattle.htl_summary.proofs.rows.add_row.Goals as goal

pub plus-sum-requires : goal.plus-sum-requires
plus-sum-requires g c =
    let item = rw c.deref.ensures.value at c.in-Some.ensures.item in
    let last = c.in-Some.last.now in
    let row = c.args.row in
    let tied : nat_cmp (g.R.OwnedRow.owner_of last) (g.R.OwnedRow.owner_of row) ≡ Equal = search rules in
    c.requires.fits last
    (last_value g.R.OwnedRow.owner_of g.R.OwnedRow.joined c.args.rows.now.items c.requires.sorted row last item.3.0 (item.3.1 last) tied)

pub returns-in_ok-push-in-Less : goal.returns-in_ok-push-in-Less
returns-in_ok-push-in-Less g c =
    let item = rw c.deref.ensures.value at c.in-Some.ensures.item in
    let rows = c.args.rows.now.items in
    let last = c.in-Some.last.now in
    let row = c.args.row in
    let less : nat_cmp (g.R.OwnedRow.owner_of last) (g.R.OwnedRow.owner_of row) ≡ Less = search rules in
    let after : 0 < length rows → (d : g.row.R.Denot)
    → nat_cmp (g.R.OwnedRow.owner_of (get_or rows (length rows - 1) d)) (g.R.OwnedRow.owner_of row) ≡ Less =
    (λ some d. ap (λ r. nat_cmp (g.R.OwnedRow.owner_of r) (g.R.OwnedRow.owner_of row)) {x = get_or rows (length rows - 1) d} (sym (item.3.1 d)) ∙ less) in
    record {
      sorted = λ added. rw c.in_ok-push-in-Less.ensures.items
          (pushed_sorted g.R.OwnedRow.owner_of g.R.OwnedRow.joined rows c.requires.sorted row after);
      values = λ added owner. rw c.in_ok-push-in-Less.ensures.items
          (pushed_value g.R.OwnedRow.owner_of g.R.OwnedRow.joined rows c.requires.sorted row after owner);
      some = search rules;
    }

pub returns-in-Equal : goal.returns-in-Equal
returns-in-Equal g c =
    let item = rw c.deref.ensures.value at c.in-Some.ensures.item in
    let rows = c.args.rows.now.items in
    let last = c.in-Some.last.now in
    let row = c.args.row in
    let sum = c.plus-sum.result in
    let tied : nat_cmp (g.R.OwnedRow.owner_of last) (g.R.OwnedRow.owner_of row) ≡ Equal = search rules in
    let len : c.args.rows.now.len ≡ length rows = search rules in
    record {
      sorted = λ added. rw (c.len-place.ensures, len) (joined_sorted g.R.OwnedRow.owner_of g.R.OwnedRow.joined rows c.requires.sorted row last
          item.3.0 (item.3.1 last) tied sum c.plus-sum.ensures.owner c.plus-sum.ensures.value);
      values = λ added owner. rw (c.len-place.ensures, len) (joined_value g.R.OwnedRow.owner_of g.R.OwnedRow.joined rows c.requires.sorted row last
          item.3.0 (item.3.1 last) tied sum c.plus-sum.ensures.owner c.plus-sum.ensures.value owner);
      some = search rules;
    }
