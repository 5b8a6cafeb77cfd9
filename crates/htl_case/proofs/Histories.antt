-- A history leaves an analyst that is right about the trace, that has the keys which reached it, and that stands once compacted.
-- A list of steps gives each analyst a history by which the same keys reached it.
use Rattle.std.proofs.Common.{◌≡◌, ℕ, Bool, false, List, [], ◌∷◌, refl, sym, ap, ◌∙◌, subst, inl, inr}
use Rattle.std.specs.Prelude.{◌||◌, fold}
use Rattle.std.proofs.Math.Bool.{or-false}
use Rattle.std.proofs.lemmas.Bool.{cases_eq, eq-eqb, ne_eqb}
use Rattle.htl_segment.specs.Traces.{Trace, IsTrace}
use Rattle.htl_taken.proofs.Keys.{key_kept, absent_key}
use Rattle.htl_analyst.specs.States.{State}
use Rattle.htl_analyst.specs.Keys.{keys}
use Rattle.htl_analyst.specs.Right.{IsRight, IsStanding}
use Rattle.htl_analyst.specs.Steps.{new_state}
use Rattle.htl_analyst.proofs.Fresh.{IsRight-new, HasTaken-new}
use Rattle.htl_analyst.proofs.Held.{collection_of}
use Rattle.htl_case.specs.declared.step.Step.{Step}
use Rattle.htl_case.specs.declared.step.Step.TheVariants.{Take, Merge, Compact}
use Rattle.htl_case.specs.Reached.{is_key_at, after_step, reached}
use Rattle.htl_case.specs.Histories.{History, begun, took, merged, compacted, compaction_refused, reached_by, IsNew, Leaves}
use Rattle.htl_case.specs.Histories.{IsCompacted, history_after, history}
use Rattle.htl_case.proofs.Stepped.{take_right, take_keys, merge_right, merge_keys}

module _ (T : Trace) (trace : IsTrace T) where
  -- a new analyst is right about the trace
  pub new_right : (a : State) → IsNew T a → IsRight a T
  new_right a is =
      subst (λ (b : State). IsRight b T) (sym is.state) (IsRight-new T T.id T.processors is.some is.few (collection_of T trace)
      refl refl)

  -- a new analyst has no keys
  pub new_keys : (a : State) → IsNew T a → (p n : ℕ) → keys a p n ≡ false
  new_keys a is p n =
      ap (λ (b : State). keys b p n) is.state ∙ absent_key (new_state T.id T.processors).taken p n (HasTaken-new T.id T.processors p n)

  -- each state that a history may leave is right about the trace
  pub leaves_right : (h : History) (a : State) → Leaves T h a → IsRight a T
  leaves_right begun a is = new_right a is
  leaves_right (took before place) a is = take_right T place is.0 a is.2 (leaves_right before is.0 is.1)
  leaves_right (merged before other) a is =
      merge_right T is.0 is.1 a is.4 (leaves_right before is.0 is.2) (leaves_right other is.1 is.3)
  leaves_right (compacted before) a is = (is.2.standing T (leaves_right before is.0 is.1)).right
  leaves_right (compaction_refused before) a is = is.2.right T (leaves_right before is.0 is.1)

  -- each state that a history may leave has exactly the keys that reached it
  pub leaves_keys : (h : History) (a : State) → Leaves T h a → (p n : ℕ) → keys a p n ≡ reached_by T h p n
  leaves_keys begun a is p n = new_keys a is p n
  leaves_keys (took before place) a is p n =
      take_keys T place is.0 a is.2 (leaves_right before is.0 is.1) p n
      ∙ ap (λ (b : Bool). b || is_key_at T place p n) (leaves_keys before is.0 is.1 p n)
  leaves_keys (merged before other) a is p n =
      merge_keys T is.0 is.1 a is.4 (leaves_right before is.0 is.2) (leaves_right other is.1 is.3) p n
      ∙ ap (λ (b : Bool). b || keys is.1 p n) (leaves_keys before is.0 is.2 p n)
      ∙ ap (λ (b : Bool). reached_by T before p n || b) (leaves_keys other is.1 is.3 p n)
  leaves_keys (compacted before) a is p n =
      key_kept a.taken is.0.taken p n (is.2.keys p n) ∙ leaves_keys before is.0 is.1 p n
  leaves_keys (compaction_refused before) a is p n =
      key_kept a.taken is.0.taken p n (is.2.keys p n) ∙ leaves_keys before is.0 is.1 p n

  -- each state that a history with a compaction at its end may leave stands
  pub leaves_standing : (h : History) (a : State) → Leaves T h a → IsCompacted h → IsStanding a T
  leaves_standing begun a is never = absurd never
  leaves_standing (took before place) a is never = absurd never
  leaves_standing (merged before other) a is never = absurd never
  leaves_standing (compacted before) a is done = is.2.standing T (leaves_right before is.0 is.1)
  leaves_standing (compaction_refused before) a is never = absurd never

-- ---- lists of steps

module _ (T : Trace) where
  -- the same keys reached each analyst by its history
  abbrev AreOf : (ℕ → History) → (ℕ → ℕ → ℕ → Bool) → Type 0
  AreOf was sets = (i p n : ℕ) → reached_by T (was i) p n ≡ sets i p n

  step_reached : (step : Step) (was : ℕ → History) (sets : ℕ → ℕ → ℕ → Bool) → AreOf was sets
      → AreOf (history_after was step) (after_step T sets step)
  step_reached (Take analyst segment) was sets same i p n =
      elim (cases_eq i analyst) [
        | inl e ↦ rw (eq-eqb i analyst e) (ap (λ (b : Bool). b || is_key_at T segment p n) (same i p n))
        | inr ne ↦ rw (ne_eqb i analyst ne) (same i p n ∙ sym (or-false (sets i p n)))
      ]
  step_reached (Merge target source) was sets same i p n =
      elim (cases_eq i target) [
        | inl e ↦
            rw (eq-eqb i target e) (ap (λ (b : Bool). b || reached_by T (was source) p n) (same i p n)
            ∙ ap (λ (b : Bool). sets i p n || b) (same source p n))
        | inr ne ↦ rw (ne_eqb i target ne) (same i p n ∙ sym (or-false (sets i p n)))
      ]
  step_reached (Compact analyst) was sets same i p n =
      elim (cases_eq i analyst) [
        | inl e ↦ rw (eq-eqb i analyst e) (same i p n)
        | inr ne ↦ rw (ne_eqb i analyst ne) (same i p n)
      ]

  steps_reached : (steps : List Step) (was : ℕ → History) (sets : ℕ → ℕ → ℕ → Bool) → AreOf was sets
      → AreOf (fold history_after was steps) (fold (after_step T) sets steps)
  steps_reached [] was sets same = same
  steps_reached (step ∷ steps) was sets same =
      steps_reached steps (history_after was step) (after_step T sets step) (step_reached step was sets same)

  -- the history that the steps give an analyst brings it the keys that the steps do
  pub history_reached : (steps : List Step) → AreOf (history steps) (reached T steps)
  history_reached steps = steps_reached steps (λ i. begun) (λ i p n. false) (λ i p n. refl)
