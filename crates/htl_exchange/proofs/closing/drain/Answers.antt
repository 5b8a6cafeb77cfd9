-- What the desk collects adds to what it has got.
use Rattle.std.proofs.Common.{◌∙◌}
use Rattle.htl_exchange.proofs.Following.{collects_keeps}
use Rattle.htl_exchange.proofs.closing.drain.Goals as goal

pub returns-in_err-collect-clause-kept : goal.returns-in_err-collect-clause-kept
returns-in_err-collect-clause-kept g c p h =
    collects_keeps c.loop.first.hand c.collect.result c.loop.first.known c.collect.new.self.known c.collect.ensures.got p (c.loop.invariant.4 p h)

pub loop-preserved : goal.loop-preserved
loop-preserved g c = (
  tt,
  tt,
  c.collect.ensures.of.0,
  c.collect.ensures.of.1 ∙ c.loop.invariant.3,
  λ p h.
      collects_keeps c.loop.first.hand c.collect.result c.loop.first.known c.collect.new.self.known c.collect.ensures.got p (c.loop.invariant.4 p h),
)
