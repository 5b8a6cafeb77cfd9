-- What is left are the parts of the desks that weren't asked yet, if these are all.
use Rattle.std.proofs.Common.{◌≡◌, ◌+◌, ◌≤◌, take}
use Rattle.htl_exchange.specs.Desks.{parts_at}
use Rattle.htl_exchange.proofs.closing.have_all_parts.Given as goal

abbrev pub invariant-loop-desk : goal.invariant-loop-desk
invariant-loop-desk l = (l.left + parts_at (take l.desk-index l.desks) ≡ 8) × (l.left + l.desk-index ≤ 8)
