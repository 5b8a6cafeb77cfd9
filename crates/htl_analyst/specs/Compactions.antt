-- What a compaction keeps, and what it reaches (this project's own).
use Rattle.std.specs.Prelude.{◌≡◌, ◌↔◌, ◌≤◌, ℕ, Contains, OnOk, Result}
use Rattle.htl_segment.specs.Content.{Content}
use Rattle.htl_segment.specs.Traces.{Trace}
use Rattle.htl_taken.specs.Numbers.{front_at}
use Rattle.htl_analyst.specs.States.{State, held_at}
use Rattle.htl_analyst.specs.Keys.{HasTaken, number_taken}
use Rattle.htl_analyst.specs.Right.{IsRight, IsStanding}
use Rattle.htl_analyst.specs.Moments.{NeverFalls}

-- What comes of compacting an analyst. After refused memory some fronts may have moved.
pub record Compacts {S E : Type 0} (old new : State) (result : Result S E) : Type 0 where
  pub keys : (p n : ℕ) → HasTaken new p n ↔ HasTaken old p n
  -- Each front is the least number that wasn't taken.
  pub settled : OnOk result ((p : ℕ) → HasTaken new p (front_at new.taken p) → ⊥)
  pub trace : (new.trace_id ≡ old.trace_id) × (new.processors ≡ old.processors)
  pub fronts : (p : ℕ) → front_at old.taken p ≤ front_at new.taken p
  pub held : (p : ℕ) (s : Content) → Contains (held_at new.parts p) s → Contains (held_at old.parts p) s
  pub number : number_taken new ≡ number_taken old
  -- Of a trace that the state is right about.
  pub right : (T : Trace) → IsRight old T → IsRight new T
  pub standing : OnOk result ((T : Trace) → IsRight old T → IsStanding new T)
  pub never_falls : (T : Trace) → IsRight old T → NeverFalls old new
