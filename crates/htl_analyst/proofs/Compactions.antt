-- What the steps of a compaction keep is kept by the whole, also after another that keeps it.
use Rattle.std.proofs.Common.{◌≤◌, ◌∙◌, ℕ, Result, Ok, Err, arith}
use Rattle.std.specs.Prelude.{OnOk}
use Rattle.htl_segment.specs.Traces.{Trace}
use Rattle.htl_taken.specs.Numbers.{front_at}
use Rattle.htl_analyst.specs.Compactions.{Compacts}
use Rattle.htl_analyst.specs.Right.{IsRight, IsStanding}
use Rattle.htl_analyst.specs.States.{State}
use Rattle.htl_analyst.proofs.Compacts.{AreCompacted, IsStanding-compacted, fronts_are_least}
use Rattle.htl_analyst.proofs.Falling.{never_falls}

abbrev pub well : {S E : Type 0} → S → Result S E
well value = Ok value

abbrev pub ill : {S E : Type 0} → E → Result S E
ill fault = Err fault

module _ {S E : Type 0} (a b : State) (n : ℕ) (are : AreCompacted a b n) where
  -- of so many processors, where memory was refused for the next
  pub compacted_so_far : (fault : E) → Compacts a b (ill {S = S} fault)
  compacted_so_far fault = record {
    keys = are.keys;
    settled = tt;
    trace = (are.trace_id, are.processors);
    fronts = are.fronts;
    held = are.held;
    number = are.number;
    right = are.right;
    standing = tt;
    never_falls = λ T right. never_falls T a b right (are.right T right) are.fronts;
  }

  -- of all
  pub compacted_all : (value : S) → a.processors ≤ n → Compacts a b (well {E = E} value)
  compacted_all value all = record {
    keys = are.keys;
    settled = fronts_are_least a b n are all;
    trace = (are.trace_id, are.processors);
    fronts = are.fronts;
    held = are.held;
    number = are.number;
    right = are.right;
    standing = IsStanding-compacted a b n are all;
    never_falls = λ T right. never_falls T a b right (are.right T right) are.fronts;
  }

-- A compaction after one of some processors is one of what was before both.
module _ {S E : Type 0} (a b d : State) (n : ℕ) (was : AreCompacted a b n) where
  fronts_after : (result : Result S E) → Compacts b d result → (p : ℕ) → front_at a.taken p ≤ front_at d.taken p
  fronts_after result now p =
      let first = was.fronts p in
      let second = now.fronts p in
      omega (arith, first, second)

  standing_after : (result : Result S E) → OnOk result ((T : Trace) → IsRight b T → IsStanding d T)
      → OnOk result ((T : Trace) → IsRight a T → IsStanding d T)
  standing_after (Ok value) standing = λ T right. standing T (was.right T right)
  standing_after (Err fault) standing = tt

  -- a compaction of what the first processors' compaction left is one of the state before both
  pub compacted_after : (result : Result S E) → Compacts b d result → Compacts a d result
  compacted_after result now = record {
    keys = λ p m. (λ h. (was.keys p m).0 ((now.keys p m).0 h), λ h. (now.keys p m).1 ((was.keys p m).1 h));
    settled = now.settled;
    trace = (now.trace.0 ∙ was.trace_id, now.trace.1 ∙ was.processors);
    fronts = fronts_after result now;
    held = λ p s h. was.held p s (now.held p s h);
    number = now.number ∙ was.number;
    right = λ T right. now.right T (was.right T right);
    standing = standing_after result now.standing;
    never_falls = λ T right. never_falls T a d right (now.right T (was.right T right)) (fronts_after result now);
  }
