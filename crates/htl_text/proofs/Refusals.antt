-- The fault of a draft is reported by that of what is held of it, and by the first stack with too many frames.
use Rattle.std.proofs.Common.{◌≡◌, ℕ, refl, ap, sym}
use Rattle.std.specs.Prelude.{Option, Some, None, MatchOption}
use Rattle.htl_segment.specs.declared.fault.Fault.{Fault}
use Rattle.htl_segment.specs.declared.fault.Fault.TheVariants as faults
use Rattle.htl_text.specs.Steps.{IsReportedOfLine, refused_of, with_overfull}

-- the reported fault is that of the draft without the frames that are too many, or that of these frames
pub is_reported : (line : ℕ) (overfull : Option ℕ) (first : Option Fault) (fault : Fault)
    → MatchOption first (fault ≡ faults.NoMemory) (λ f. fault ≡ f) → IsReportedOfLine line (with_overfull overfull first) (refused_of line overfull fault)
is_reported line (Some i) None fault is = (refl, rw is refl)
is_reported line (Some i) (Some f) fault is = (refl, rw is refl)
is_reported line None first faults.NoMemory is = tt
is_reported line None None fault is = cc
is_reported line None (Some f) fault is = (refl, ap Some (sym is))
