-- There are fewer ends so far than parts, none is near the front, and at most two other readers were asked for at each.
use Rattle.std.proofs.Common.{◌≤◌, ◌+◌, ◌*◌, ◌-◌, All, length}
use Rattle.htl_reading.specs.Parts.{IsTailed}
use Rattle.htl_reading.specs.declared.ends.TheConstants.{MIN_PART_LEN}
use Rattle.htl_reading.proofs.ends.ends.Given as goal

abbrev pub invariant-loop-part : goal.invariant-loop-part
invariant-loop-part g l = record {
  few : length l.ends.items + 1 ≤ l.part;
  far : All (λ end. MIN_PART_LEN ≤ end) l.ends.items;
  tails : IsTailed g.R.Source.state g.R.Parted.is_parted (2 * (l.part - 1)) l.fn.source l.source;
}
