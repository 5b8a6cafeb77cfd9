-- The held segments that are left are new, and with them the analyst has taken all.
use Rattle.std.proofs.Common.{◌≡◌, drop}
use Rattle.std.specs.List.{flat_map}
use Rattle.htl_analyst.specs.Restored.{AreNew, with_segments}
use Rattle.htl_state.specs.Rows.{Part}
use Rattle.htl_saved.proofs.holding.take_held.Given as goal

abbrev pub invariant-loop-part : goal.invariant-loop-part
invariant-loop-part l =
    AreNew l.analyst (flat_map (λ (p : Part). p.held) (drop l.part-index l.parts))
    × (with_segments l.analyst (flat_map (λ (p : Part). p.held) (drop l.part-index l.parts))
    ≡ with_segments l.initial.analyst (flat_map (λ (p : Part). p.held) l.parts))
