-- The last older row is moved behind the free places.
use Rattle.std.proofs.Common.{rules, ◌≡◌, ◌-◌, ◌<◌, take, arith, sym, ap, ◌∙◌}
use Rattle.std.specs.declared.cmp.Ordering.TheVariants.{Less, Greater}
use Rattle.htl_tables.specs.Placing.{compare_last}
use Rattle.htl_tables.proofs.PlacingSteps.{moved, some_last}
use Rattle.htl_tables.proofs.placing.Placing.move_above.Goals as goal

pub loop-key-preserved : goal.loop-key-preserved
loop-key-preserved g c =
    let rows = c.loop-key.self.rows.items in
    let older = c.loop-key.self.older in
    let end = c.loop-key.self.end in
    let above : compare_last (take older rows) c.args.key ≡ Greater = search rules in
    let some : 0 < older = some_last rows older c.args.key (λ less. let never : Greater ≡ Less = sym above ∙ less in cc) in
    let le = c.loop-key.invariant.1 in
    let within = c.loop-key.invariant.2 in
    let len = c.swap.ensures.len in (
      (λ target left e key before. rw c.swap.ensures.items (moved target left rows older end (end - 1) e
          (c.loop-key.invariant.0 target left e key before) (omega (arith, some, le)) (older - 1) (omega (arith, some))
          (ap (compare_last (take older rows)) key ∙ above))),
      omega (arith, some, le),
      omega (arith, within, len),
    )
