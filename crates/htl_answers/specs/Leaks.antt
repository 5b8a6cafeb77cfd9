-- Rows of leaking stacks while they are put in order.
use Rattle.std.specs.Prelude.{ℕ, nat_le, Bool, List}
use Rattle.std.specs.declared.cmp.Reverse.{Reverse}
use Rattle.htl_event.specs.declared.slot.Slot.{Slot}
use Rattle.htl_event.specs.declared.slot.Count.{Count}

-- the row has so many on the plus side at least
abbrev pub opens_many : ℕ → (Slot × List ℕ) × Count → Bool
opens_many at_least row = nat_le at_least row.1.plus

-- a row of a slot with its stack and a count: the number on the plus side first, and then the stack
abbrev pub counted_first : (Slot × List ℕ) × Count → Reverse ℕ × List ℕ
counted_first row = (record { 0 = row.1.plus }, row.0.1)

-- a stack and its number, the stack first
abbrev pub stack_before_number : Reverse ℕ × List ℕ → List ℕ × ℕ
stack_before_number row = (row.1, row.0.0)
