-- A row that isn't above the one before it breaks the order, and where each is above it, the rows are in order.
use Rattle.std.proofs.Common.{◌≡◌, length, true, false, arith, refl, sym, ap, ◌∙◌}
use Rattle.std.specs.declared.cmp.Ordering.TheVariants.{Less}
use Rattle.htl_tables.proofs.InOrder.{RiseTo, sorted_chain, above_before}
use Rattle.htl_tables.proofs.order.are_in_order.Goals as goal

pub returns-then-ne : goal.returns-then-ne
returns-then-ne g c = (
  λ f. absurd (cc),
  λ sorted.
      let rows = c.args.rows.now in
      let n = c.loop-place.place in
      let x = c.index-rows-place.result in
      let y = c.index-rows-place-in-loop-place.result in
      let above : g.L.Key.Ord.cmp (g.L.Keyed.key_of x) (g.L.Keyed.key_of y) ≡ Less =
      above_before g.L.Keyed.key_of g.L.Keyed.value_of g.L.Key.Ord.cmp g.met.L.Key.Ord.total rows n x y sorted
      (omega (arith, c.loop-place.auto.place)) c.loop-place-test.true c.index-rows-place.is c.index-rows-place-in-loop-place.is in
      let less : c.cmp.result ≡ Less =
      c.cmp.ensures ∙ ap (λ k. g.L.Key.Ord.cmp k c.key.result) c.key-before.ensures
      ∙ ap (λ k. g.L.Key.Ord.cmp (g.L.Keyed.key_of x) k) c.key.ensures ∙ above in
      let same : c.ne.result ≡ false = rw less at c.ne.ensures in
      let clash : true ≡ false = sym c.if-ne.true ∙ same in
      absurd (cc),
)

pub returns : goal.returns
returns g c =
    let rows = c.args.rows.now in
    let rise : RiseTo g.L.Keyed.key_of g.L.Keyed.value_of g.L.Key.Ord.cmp rows (length rows) =
    λ i d lt. c.loop-place.invariant i d (omega (arith, c.loop-place-test.false, lt)) in (
      (λ t. sorted_chain g.L.Keyed.key_of g.L.Keyed.value_of g.L.Key.Ord.cmp g.met.L.Key.Ord.total rows rise),
      (λ s. refl),
    )
