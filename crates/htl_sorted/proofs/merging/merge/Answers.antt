-- A row more of the merged list is made of what is left on both sides.
use Rattle.std.proofs.Common.{rules, ◌≡◌, ◌<◌, ◌≤◌, length, arith, ap, ◌∙◌}
use Rattle.std.specs.FinMap.Entries.{find}
use Rattle.std.specs.declared.cmp.Ordering.TheVariants.{Less, Equal, Greater}
use Rattle.htl_sorted.specs.Entries.{entries}
use Rattle.htl_sorted.proofs.Rows.{rests_behind, row_found, made_less, made_greater, made_equal, merged_sorted, merged_value}
use Rattle.htl_sorted.proofs.merging.merge.Goals as goal
use Rattle.htl_sorted.proofs.merging.merge.Goals.{then-loop-i-test+else-j-right, else-loop-i-test}

pub loop-i-preserved-in-Less : goal.loop-i-preserved-in-Less
loop-i-preserved-in-Less g c =
    let x = c.index-left-i.result in
    let y = c.index-right-j.result in
    let less : g.L.Key.Ord.cmp (g.L.Keyed.key_of x) (g.L.Keyed.key_of y) ≡ Less = search rules in
    made_less g.L.Keyed.key_of g.L.Keyed.value_of g.L.Key.Ord.cmp g.L.Joined.joined c.args.left.now c.args.right.now c.loop-i.i
    c.loop-i.j c.loop-i.rows.items _ c.loop-i.invariant
    x y c.in_ok-copy-in-Less.field-0 c.loop-i-test.true c.if-j-right.true c.index-left-i.is c.index-right-j.is
    c.in_ok-push-in-Less.ensures.items less c.in_ok-copy-in-Less.ensures

pub loop-i-preserved-in-Greater : goal.loop-i-preserved-in-Greater
loop-i-preserved-in-Greater g c =
    let x = c.index-left-i.result in
    let y = c.index-right-j.result in
    let greater : g.L.Key.Ord.cmp (g.L.Keyed.key_of x) (g.L.Keyed.key_of y) ≡ Greater = search rules in
    made_greater g.L.Keyed.key_of g.L.Keyed.value_of g.L.Key.Ord.cmp g.L.Joined.joined c.args.left.now c.args.right.now c.loop-i.i
    c.loop-i.j c.loop-i.rows.items _ c.loop-i.invariant
    x y c.in_ok-copy-in-Greater.field-0 c.loop-i-test.true c.if-j-right.true c.index-left-i.is c.index-right-j.is
    c.in_ok-push-in-Greater.ensures.items greater c.in_ok-copy-in-Greater.ensures

pub join-requires-clause-fits : goal.join-requires-clause-fits
join-requires-clause-fits g c =
    let x = c.index-left-i.result in
    let y = c.index-right-j.result in
    let o = g.met.L.Key.Ord.total in
    let equal : g.L.Key.Ord.cmp (g.L.Keyed.key_of x) (g.L.Keyed.key_of y) ≡ Equal = search rules in
    let same : g.L.Keyed.key_of x ≡ g.L.Keyed.key_of y = g.met.L.Keyed.proper _ _ equal in
    c.requires.fits (g.L.Keyed.key_of x) _ _
    (row_found g.L.Keyed.key_of g.L.Keyed.value_of o c.args.left.now c.requires.left c.loop-i.i x c.loop-i-test.true c.index-left-i.is)
    (ap (λ k. find g.L.Key.Ord.cmp k (entries g.L.Keyed.key_of g.L.Keyed.value_of c.args.right.now)) same
    ∙ row_found g.L.Keyed.key_of g.L.Keyed.value_of o c.args.right.now c.requires.right c.loop-i.j y c.if-j-right.true
    c.index-right-j.is)

pub loop-i-preserved : goal.loop-i-preserved
loop-i-preserved g c =
    let x = c.index-left-i.result in
    let y = c.index-right-j.result in
    let equal : g.L.Key.Ord.cmp (g.L.Keyed.key_of x) (g.L.Keyed.key_of y) ≡ Equal = search rules in
    made_equal g.L.Keyed.key_of g.L.Keyed.value_of g.L.Key.Ord.cmp g.L.Joined.joined c.args.left.now c.args.right.now c.loop-i.i
    c.loop-i.j c.loop-i.rows.items _ c.loop-i.invariant
    x y c.in_ok-join-in-Equal.field-0 c.loop-i-test.true c.if-j-right.true c.index-left-i.is c.index-right-j.is
    c.in_ok-push-in-Equal.ensures.items equal c.in_ok-join-in-Equal.ensures.key c.in_ok-join-in-Equal.ensures.value

pub returns-clause-sorted : goal.returns-clause-sorted
returns-clause-sorted g c =
    let one : c.loop-i.i < length c.args.left.now → length c.args.right.now ≤ c.loop-i.j = λ lt. elim c.loop-i-test.branch [
      | then-loop-i-test+else-j-right w ↦ omega arith
      | else-loop-i-test w ↦ omega arith
    ] in
    let rest = rests_behind c.loop-i.rows.items c.args.left.now c.args.right.now c.append.new.rows.items c.shrink_to.new.self.items
    c.loop-i.i c.loop-i.j c.in_ok-append.ensures (c.shrink_to.ensures.items ∙ c.in_ok-append-2.ensures) in
    merged_sorted g.L.Keyed.key_of g.L.Keyed.value_of g.L.Key.Ord.cmp g.L.Joined.joined c.args.left.now c.args.right.now
    g.met.L.Key.Ord.total c.requires.left c.requires.right c.loop-i.i c.loop-i.j _ _ c.loop-i.invariant one rest

pub returns-clause-values : goal.returns-clause-values
returns-clause-values g c =
    let one : c.loop-i.i < length c.args.left.now → length c.args.right.now ≤ c.loop-i.j = λ lt. elim c.loop-i-test.branch [
      | then-loop-i-test+else-j-right w ↦ omega arith
      | else-loop-i-test w ↦ omega arith
    ] in
    let rest = rests_behind c.loop-i.rows.items c.args.left.now c.args.right.now c.append.new.rows.items c.shrink_to.new.self.items
    c.loop-i.i c.loop-i.j c.in_ok-append.ensures (c.shrink_to.ensures.items ∙ c.in_ok-append-2.ensures) in
    merged_value g.L.Keyed.key_of g.L.Keyed.value_of g.L.Key.Ord.cmp g.L.Joined.joined c.args.left.now c.args.right.now
    g.met.L.Key.Ord.total c.requires.left c.requires.right c.loop-i.i c.loop-i.j _ _ c.loop-i.invariant one rest
