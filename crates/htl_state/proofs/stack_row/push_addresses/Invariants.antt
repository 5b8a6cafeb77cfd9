-- The addresses so far are written, in eight bytes each.
use Rattle.std.proofs.Common.{◌≡◌, ◌++◌, take}
use Rattle.std.specs.List.{flat_map}
use Rattle.htl_segment.specs.Numbers.{bytes_of}
use Rattle.htl_state.proofs.stack_row.push_addresses.Given as goal

abbrev pub invariant-loop-address : goal.invariant-loop-address
invariant-loop-address l = l.out.items ≡ l.fn.out.items ++ flat_map (bytes_of 8) (take l.address-index l.addresses)
