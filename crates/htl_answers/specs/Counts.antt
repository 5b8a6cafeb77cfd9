-- Counts of single events.
use Rattle.htl_event.specs.declared.slot.Sign.{Sign}
use Rattle.htl_event.specs.declared.slot.Sign.TheVariants.{Plus, Minus}
use Rattle.htl_event.specs.declared.slot.Count.{Count}

-- one on a side
abbrev pub one_count : Sign → Count
one_count Plus = record { plus = 1; minus = 0 }
one_count Minus = record { plus = 0; minus = 1 }
