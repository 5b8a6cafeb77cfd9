-- Where the next row has the first one's stack, one row more is alike.
use Rattle.std.proofs.Common.{◌≡◌, ℕ, ◌<◌, ◌≤◌, List, [], ◌∷◌, length, take, get_or, sym, subst, arith}
use Rattle.std.specs.List.{AllByRecursion}
use Rattle.std.proofs.lemmas.List.{take_more, length-take}
use Rattle.htl_lemmas.proofs.Members.{all_append}
use Rattle.htl_tree.specs.declared.row.Row.{Row}
use Rattle.htl_tree.specs.Rows.{IsGroup}
use Rattle.htl_tree.proofs.RowsOneMore.{no_row}
use Rattle.htl_tree.proofs.building.alike.Goals as goal

pub loop-len-preserved : goal.loop-len-preserved
loop-len-preserved c =
    let rows = c.args.rows.now in
    let n = c.loop-len.len in
    let first = (get_or rows 0 no_row).stack.now in
    let next : (get_or rows n no_row).stack.now ≡ first = c.have_one_stack.ensures c.if-have_one_stack.true in
    record {
      some = omega arith;
      within = omega arith;
      alike = subst (λ (l : List Row). AllByRecursion (λ (row : Row). row.stack.now ≡ first) l)
          (sym (take_more rows n no_row c.loop-len-test.true))
          (all_append (λ (row : Row). row.stack.now ≡ first) (take n rows) (get_or rows n no_row ∷ []) c.loop-len.invariant.alike (next, tt));
    }

group : (rows : List Row) (n : ℕ) → 0 < n → n ≤ length rows
    → AllByRecursion (λ (row : Row). row.stack.now ≡ (get_or rows 0 no_row).stack.now) (take n rows) → IsGroup (take n rows)
group rows n some within alike =
    record { some = omega (arith, length-take n rows); stack = (get_or rows 0 no_row).stack.now; alike = alike }

pub returns-else-have_one_stack-clause-group : goal.returns-else-have_one_stack-clause-group
returns-else-have_one_stack-clause-group c =
    group c.args.rows.now c.loop-len.len c.loop-len.invariant.some c.loop-len.invariant.within c.loop-len.invariant.alike

pub returns-after-loop-len-clause-group : goal.returns-after-loop-len-clause-group
returns-after-loop-len-clause-group c =
    group c.args.rows.now c.loop-len.len c.loop-len.invariant.some c.loop-len.invariant.within c.loop-len.invariant.alike
