-- A record whose stack isn't needed has no frames, so its event has an empty stack.
use Rattle.std.proofs.Common.{refl, sym, ◌∙◌}
use Rattle.htl_segment.specs.Numbers.{numbers}
use Rattle.htl_segment.proofs.record.Record.as_needed.Goals as goal

pub returns : goal.returns
unfolding numbers
returns c = rw (sym c.needs_stack.ensures ∙ c.if-needs_stack.false) refl
