-- The parts so far are those of the bytes before the last end, with a reader each, and the keepers that are left took no segment.
use Rattle.std.proofs.Common.{◌≡◌, ◌≤◌, ◌⊎◌, [], All, IfSome, take}
use Rattle.htl_reading.specs.Parts.{ArePartsOf, IsAnother, IsTailed}
use Rattle.htl_reading.specs.declared.ends.TheConstants.{MIN_PART_LEN}
use Rattle.htl_reading.proofs.parts.cut.Given as goal

abbrev pub invariant-loop-end : goal.invariant-loop-end
invariant-loop-end g l = record {
  parts : IfSome (g.R.Source.state l.fn.source).remaining (λ bytes.
      ArePartsOf g.K.Keeper.gathers g.R.Tail.Read.remaining l.keeper l.parts.items (take l.from bytes));
  spare : All (λ spare. IsAnother g.K.Keeper.gathers l.keeper spare []) l.spare.items;
  far : (l.from ≡ 0) ⊎ (MIN_PART_LEN ≤ l.from);
  tails : IsTailed g.R.Source.state g.R.Parted.is_parted l.end-index l.fn.source l.source;
}
