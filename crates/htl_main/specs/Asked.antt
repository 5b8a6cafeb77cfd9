-- Why what was folded isn't asked (this project's own).
use Rattle.std.specs.Prelude.{◌≡◌, [], ⊤, Bool, true, List, Option}
use Rattle.htl_analyst.specs.States.{State}
use Rattle.htl_segment.specs.Content.{Content}
use Rattle.htl_segment.specs.Traces.{Trace}
use Rattle.htl_inputs.specs.declared.fault.RunFault.{RunFault}
use Rattle.htl_inputs.specs.declared.fault.RunFault.TheVariants.{Incomplete, Memory}
use Rattle.htl_main.specs.Completeness.{IsLeastMissing}
use Rattle.htl_main.specs.Folding.{AreFolded, IsCollectionOf}

-- A complete trace is asked for, and of that which was taken this is the least key that is missing; or memory was refused.
abbrev pub IsUnasked : Bool → Option State → RunFault → Type 0
IsUnasked complete analyst Memory = ⊤
IsUnasked complete analyst (Incomplete processor number) =
    (complete ≡ true) × ((segments : List Content) (T : Trace) → AreFolded analyst segments → IsCollectionOf segments T
    → IsLeastMissing T [] processor number)
IsUnasked complete analyst fault = ⊥
