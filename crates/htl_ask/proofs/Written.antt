-- What was written under a name in a part of the change of a world is what is saved of what was folded; where there is nothing to write,
-- nothing was.
use Rattle.std.proofs.Common.{◌≢◌, ◌∷◌, ◌++◌, ℕ, List, None, [], Ok, Err}
use Rattle.std.specs.Prelude.{Result}
use Rattle.htl_inputs.specs.declared.fault.RunFault.{RunFault}
use Rattle.htl_inputs.specs.declared.fault.RunFault.TheVariants as faults
use Rattle.htl_main.specs.SavedStates.{IsUnsaved}
use Rattle.htl_main.specs.declared.folding.Folded.{Folded}
use Rattle.htl_world.specs.Worlds.{Ask, IsAsked, WorldChange, WorldState, change, to_write}
use Rattle.htl_world.proofs.Asked.{asked_more, asked_none}
use Rattle.htl_ask.specs.Asking.{HasWritten}
use Rattle.htl_ask.specs.Loads.{IsPartOf, SavesFile, SavesFolded, WritesFile, WritesFolded}
use Rattle.htl_ask.specs.declared.kept.Kept.{Kept}
use Rattle.htl_ask.specs.declared.kept.Kept.TheVariants.{Case, State}

-- ---- parts of the change of a world

pub whole_itself : (world : WorldChange) → IsPartOf world world
whole_itself world = record { earlier = []; before = asked_none world.old; later = []; after = asked_none world.new }

module _ {old mid new : WorldState} {whole : WorldChange} {asks : List Ask} (part : IsPartOf (change old new) whole) where
  -- what was asked for at the end is left out
  pub front_of : IsAsked mid new asks → IsPartOf (change old mid) whole
  front_of last = record {
    earlier = part.earlier;
    before = part.before;
    later = asks ++ part.later;
    after = asked_more last part.after;
  }

  -- what was asked for at first is left out
  pub back_of : IsAsked old mid asks → IsPartOf (change mid new) whole
  back_of first = record {
    earlier = part.earlier ++ asks;
    before = asked_more part.before first;
    later = part.later;
    after = part.after;
  }

-- ---- saving

module _ (world : WorldChange) where
  -- where there is no state that can be written, nothing was asked for
  pub not_saved : (folded : Folded) (name : List ℕ) (fault : RunFault) → IsUnsaved folded.analyst fault → fault ≢ faults.Memory
      → IsAsked world.old world.new [] → WritesFolded world folded name (Err fault)
  not_saved folded name faults.StateWrite is known none = absurd is
  not_saved folded name fault is known none = (is, known, none)

  module _ (whole : WorldChange) (part : IsPartOf world whole) where
    written_in : (name bytes : List ℕ) → IsAsked world.old world.new (to_write name bytes None ∷ []) → HasWritten whole name bytes
    written_in name bytes asked = (part.earlier, part.later, asked_more part.before (asked_more asked part.after))

    written_folded : (folded : Folded) (name : List ℕ) (ended : Result ℕ RunFault) → WritesFolded world folded name ended
        → SavesFolded whole folded name ended
    written_folded folded name (Ok count) (bytes, size, state, asked) = (bytes, size, state, written_in name bytes asked)
    written_folded folded name (Err faults.StateWrite) is = tt
    written_folded folded name (Err fault) is = (is.0, is.1)

    -- what was written is what is saved
    pub written_file : (kept : Kept) (name : List ℕ) (ended : Result ℕ RunFault) → WritesFile world kept name ended
        → SavesFile whole kept name ended
    written_file (State folded) name ended is = written_folded folded name ended is
    written_file (Case loaded) name ended is = absurd is
