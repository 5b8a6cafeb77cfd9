-- Call stacks. A stack is the list of its addresses, the innermost call first, as `!htrace` prints them.
use Rattle.std.specs.Prelude.{ℕ, List, reverse}
use Rattle.std.specs.Ordering.{nat_cmp, on}
use Rattle.std.specs.Cmp.Lexicographic.{slice_cmp}
use Rattle.std.specs.declared.cmp.Ordering.{Ordering}

-- the addresses from the outermost call inwards
abbrev pub outer : List ℕ → List ℕ
outer stack = reverse stack

-- Stack order (this project's own): by the addresses from the outermost call, a proper prefix first.
abbrev pub stack_cmp : List ℕ → List ℕ → Ordering
stack_cmp = on outer (slice_cmp nat_cmp)
