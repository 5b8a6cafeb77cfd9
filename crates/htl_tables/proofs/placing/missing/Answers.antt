-- Each turn takes the last row of either table or of both, and counts a newer row that has no older one.
use Rattle.std.proofs.Common.{rules, ◌≡◌, ◌+◌, ◌++◌, [], ◌∷◌, arith, subst, None}
use Rattle.std.specs.FinMap.Entries.{find}
use Rattle.std.specs.declared.cmp.Ordering.TheVariants.{Less, Equal, Greater}
use Rattle.htl_tables.specs.Keys.{key_cmp, key_of, keyed}
use Rattle.htl_tables.specs.KeyLaws.{key_cmp-equal}
use Rattle.htl_tables.specs.Placing.{missing}
use Rattle.htl_tables.proofs.MissingRows.{missing_moved, missing_met, missing_one, missing_all, missing_none, none_above}
use Rattle.htl_tables.proofs.SortedRows.{Sorted, sorted_before}
use Rattle.htl_tables.proofs.placing.missing.Goals as goal
use Rattle.htl_tables.proofs.placing.missing.Goals.{in_default, in_default-2}

pub loop-row-smaller-in-Greater : goal.loop-row-smaller-in-Greater
loop-row-smaller-in-Greater c = let one = c.in-Some-Some.ensures.cases.1 in omega (arith, one)

pub loop-row-smaller-in-Equal : goal.loop-row-smaller-in-Equal
loop-row-smaller-in-Equal c =
    let one = c.in-Some-Some.ensures.cases.1 in
    let other = c.in-Some-Some.ensures'.cases.1 in
    omega (arith, one, other)

pub loop-row-smaller : goal.loop-row-smaller
loop-row-smaller c = let other = c.in-Some-Some.ensures'.cases.1 in omega (arith, other)

pub loop-row-preserved-in-Greater : goal.loop-row-preserved-in-Greater
loop-row-preserved-in-Greater c =
    let rows = c.in-Some-Some.rows.now in
    let events = c.in-Some-Some.events.now in
    let x = c.in-Some-Some.row.now in
    let e = c.in-Some-Some.event.now in
    let older = c.in-Some-Some.ensures.cases.0 in
    let newer = c.in-Some-Some.ensures'.cases.0 in
    let so_far = c.loop-row.invariant.0 in
    let gt : key_cmp (key_of x) (key_of e) ≡ Greater = search rules in
    let sorted : Sorted (rows ++ x ∷ []) = subst Sorted older c.loop-row.invariant.1 in
    let same : missing c.loop-row.older_left.now c.loop-row.newer_left.now ≡ missing rows c.loop-row.newer_left.now =
    rw (older, newer) (missing_moved rows events x e sorted (subst Sorted newer c.loop-row.invariant.2) gt) in
    (omega (arith, so_far, same), sorted_before rows (x ∷ []) sorted, c.loop-row.invariant.2)

pub loop-row-preserved-in-Equal : goal.loop-row-preserved-in-Equal
loop-row-preserved-in-Equal c =
    let rows = c.in-Some-Some.rows.now in
    let events = c.in-Some-Some.events.now in
    let x = c.in-Some-Some.row.now in
    let e = c.in-Some-Some.event.now in
    let older = c.in-Some-Some.ensures.cases.0 in
    let newer = c.in-Some-Some.ensures'.cases.0 in
    let so_far = c.loop-row.invariant.0 in
    let equal : key_cmp (key_of x) (key_of e) ≡ Equal = search rules in
    let sorted : Sorted (rows ++ x ∷ []) = subst Sorted older c.loop-row.invariant.1 in
    let sorted_newer : Sorted (events ++ e ∷ []) = subst Sorted newer c.loop-row.invariant.2 in
    let same : missing c.loop-row.older_left.now c.loop-row.newer_left.now ≡ missing rows events =
    rw (older, newer) (missing_met rows events x e sorted sorted_newer (key_cmp-equal (key_of x) (key_of e) equal)) in
    (omega (arith, so_far, same), sorted_before rows (x ∷ []) sorted, sorted_before events (e ∷ []) sorted_newer)

pub loop-row-preserved : goal.loop-row-preserved
loop-row-preserved c =
    let rows = c.in-Some-Some.rows.now in
    let events = c.in-Some-Some.events.now in
    let x = c.in-Some-Some.row.now in
    let e = c.in-Some-Some.event.now in
    let older = c.in-Some-Some.ensures.cases.0 in
    let newer = c.in-Some-Some.ensures'.cases.0 in
    let so_far = c.loop-row.invariant.0 in
    let lt : key_cmp (key_of x) (key_of e) ≡ Less = search rules in
    let sorted_newer : Sorted (events ++ e ∷ []) = subst Sorted newer c.loop-row.invariant.2 in
    let none : find key_cmp (key_of e) (keyed c.loop-row.older_left.now) ≡ None =
    rw older (none_above rows events x e (subst Sorted older c.loop-row.invariant.1) sorted_newer lt) in
    let one : missing c.loop-row.older_left.now c.loop-row.newer_left.now ≡ missing c.loop-row.older_left.now events + 1 =
    rw newer (missing_one c.loop-row.older_left.now events e none) in
    (omega (arith, so_far, one), c.loop-row.invariant.1, sorted_before events (e ∷ []) sorted_newer)

pub returns : goal.returns
returns c =
    let so_far = c.loop-row.invariant.0 in
    elim c.match-split_last.branch [
      | in_default w ↦
          let all = missing_none c.loop-row.older_left.now c.loop-row.newer_left.now w.in_default.ensures'.cases in
          omega (arith, so_far, all)
      | in_default-2 w ↦
          let all = missing_all c.loop-row.older_left.now c.loop-row.newer_left.now w.in_default.ensures.cases in
          omega (arith, so_far, all)
    ]
