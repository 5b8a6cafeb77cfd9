-- The last entry of a map up to an address is the last range that begins there.
use Rattle.std.proofs.Common.{sym}
use Rattle.std.proofs.lemmas.Map.Keys.{le_from_not_gt, ge_from_not_lt}
use Rattle.htl_symbols.proofs.LastBegun.{IsLastBegun-from_map, begin-after_from_map, not_gt_from_le}
use Rattle.htl_symbols.proofs.symbols.Symbols.last_begun.Goals as goal

pub returns-in_err-start-clause-last : goal.returns-in_err-start-clause-last
returns-in_err-start-clause-last c =
    let range = c.range.ensures.in_range tt in
    rw (c.from_residual.ensures, sym c.self.view_is) (
    begin-after_from_map c.self.inside.by_start c.args.address c.range.ensures.ordered
    (λ k le. range.5 c.in_err-start.ensures.steps.0 k (tt, not_gt_from_le k c.args.address le))
    )

pub returns-clause-last : goal.returns-clause-last
returns-clause-last c =
    let range = c.range.ensures.in_range tt in
    let last = c.in_ok-start.ensures.steps in
    let at = range.3 _ _ last in
    rw (sym c.self.view_is) (
    IsLastBegun-from_map c.self.inside.by_start c.args.address (c.in_ok-start.start.now, c.in_ok-start.symbol.now)
    c.range.ensures.ordered c.self.invariant
    (le_from_not_gt _ _ at.0.1) at.1 (λ k le some. ge_from_not_lt _ _ (range.4 _ _ last k (tt, not_gt_from_le k c.args.address le) some))
    )
