-- The first faulty step of a list and its fault are one, and there is none where no step is faulty.
use Rattle.std.proofs.Common.{◌≡◌, ◌≢◌, ℕ, ◌+◌, ◌<◌, ◌≤◌, List, length, get_or, refl, sym, ap, ◌∙◌, subst, inl, inr}
use Rattle.std.proofs.Common.{arith}
use Rattle.std.specs.Prelude.{slice_get}
use Rattle.std.proofs.lemmas.Bool.{cases_eq, cases_order}
use Rattle.std.proofs.lemmas.Option.{slice_get_within, get_or_from_slice_get}
use Rattle.htl_case.specs.declared.step.Step.{Step}
use Rattle.htl_case.specs.declared.fault.PlayFault.{PlayFault}
use Rattle.htl_case.specs.declared.fault.PlayFault.TheVariants.{NoAnalyst, NoSegment, NoMemory}
use Rattle.htl_event.specs.Members.{IsLeastSuch}
use Rattle.htl_case.specs.Plays.{HasAt, NamesNoAnalyst, NamesNoSegment, IsFaulty, NoneIsFaulty, IsPlayRefusal, IsAnswerRefusal}

-- there is one least number with a property
pub one_least : (P : ℕ → Type 0) (i j : ℕ) → IsLeastSuch ◌<◌ P i → IsLeastSuch ◌<◌ P j → i ≡ j
one_least P i j a b =
    elim (cases_order i j) [
      | inl same ↦ same
      | inr (inl lt) ↦ absurd (b.least i lt a.holds)
      | inr (inr gt) ↦ absurd (a.least j gt b.holds)
    ]

module _ (n m : ℕ) (steps : List Step) where
  one_place : (i j : ℕ) → IsLeastSuch ◌<◌ (HasAt (IsFaulty n m) steps) i → IsLeastSuch ◌<◌ (HasAt (IsFaulty n m) steps) j → i ≡ j
  one_place = one_least (HasAt (IsFaulty n m) steps)

  -- two faults of a list of steps, neither of them out of memory, are one
  pub one_fault : (f g : PlayFault) → f ≢ NoMemory → g ≢ NoMemory → IsPlayRefusal n m steps f → IsPlayRefusal n m steps g → f ≡ g
  one_fault (NoAnalyst i) (NoAnalyst j) nf ng x y = ap NoAnalyst (one_place i j x.1 y.1)
  one_fault (NoAnalyst i) (NoSegment j) nf ng x y =
      absurd (y.0 (subst (HasAt (NamesNoAnalyst n) steps) (one_place i j x.1 y.1) x.0))
  one_fault (NoAnalyst i) NoMemory nf ng x y = absurd (ng refl)
  one_fault (NoSegment i) (NoAnalyst j) nf ng x y =
      absurd (x.0 (subst (HasAt (NamesNoAnalyst n) steps) (one_place j i y.1 x.1) y.0))
  one_fault (NoSegment i) (NoSegment j) nf ng x y = ap NoSegment (one_place i j x.1 y.1)
  one_fault (NoSegment i) NoMemory nf ng x y = absurd (ng refl)
  one_fault NoMemory g nf ng x y = absurd (nf refl)

  -- where no step is faulty, there is no fault
  pub no_fault : NoneIsFaulty n m steps → (f : PlayFault) → f ≢ NoMemory → IsPlayRefusal n m steps f → ⊥
  no_fault none (NoAnalyst i) nf x = none i x.1.holds
  no_fault none (NoSegment i) nf x = none i x.1.holds
  no_fault none NoMemory nf x = nf refl

  -- ---- going through the steps

  -- no step before this place is faulty
  abbrev pub NoneBefore : ℕ → Type 0
  NoneBefore i = (k : ℕ) → k < i → HasAt (IsFaulty n m) steps k → ⊥

  -- where the next step names an analyst and a segment that are there, none of one step more is faulty
  pub none_more : (i : ℕ) (d : Step) → NoneBefore i → (NamesNoAnalyst n (get_or steps i d) → ⊥)
      → (NamesNoSegment m (get_or steps i d) → ⊥) → NoneBefore (i + 1)
  none_more i d before analysts segments k lt faulty =
      elim (cases_eq k i) [
        | inl e ↦
            let here = ap (slice_get steps) (sym e) ∙ faulty.here in
            let same : faulty.step ≡ get_or steps i d = sym (get_or_from_slice_get steps i faulty.step d here) in
            elim (subst (IsFaulty n m) same faulty.holds) [ inl h ↦ analysts h | inr h ↦ segments h ]
        | inr ne ↦ before k (omega arith) faulty
      ]

  -- where no step before the end is faulty, none is
  pub none_all : (i : ℕ) → length steps ≤ i → NoneBefore i → NoneIsFaulty n m steps
  none_all i all before k faulty =
      let within = slice_get_within steps k faulty.step faulty.here in
      before k (omega arith) faulty

  -- ---- asking after the steps

  module _ (analyst : ℕ) where
    -- a fault of the steps is that of the question
    pub fault_of_steps : (f : PlayFault) → f ≢ NoMemory → IsPlayRefusal n m steps f → IsAnswerRefusal n m steps analyst f
    fault_of_steps (NoAnalyst i) nf x = inl x
    fault_of_steps (NoSegment i) nf x = x
    fault_of_steps NoMemory nf x = absurd (nf refl)

    -- and the only one
    pub one_of_steps : (f g : PlayFault) → f ≢ NoMemory → g ≢ NoMemory → IsPlayRefusal n m steps f → IsAnswerRefusal n m steps analyst g
        → f ≡ g
    one_of_steps f (NoAnalyst j) nf ng x (inl y) = one_fault f (NoAnalyst j) nf ng x y
    one_of_steps f (NoAnalyst j) nf ng x (inr y) = absurd (no_fault y.0 f nf x)
    one_of_steps f (NoSegment j) nf ng x y = one_fault f (NoSegment j) nf ng x y
    one_of_steps f NoMemory nf ng x y = absurd (ng refl)

    -- where no step is faulty, only the analyst that is asked may be missing
    pub fault_of_analyst : (g : PlayFault) → g ≢ NoMemory → NoneIsFaulty n m steps → IsAnswerRefusal n m steps analyst g
        → (n ≤ analyst) × (NoAnalyst (length steps) ≡ g)
    fault_of_analyst (NoAnalyst j) ng none (inl y) = absurd (no_fault none (NoAnalyst j) ng y)
    fault_of_analyst (NoAnalyst j) ng none (inr y) = (y.1, ap NoAnalyst (sym y.2))
    fault_of_analyst (NoSegment j) ng none y = absurd (no_fault none (NoSegment j) ng y)
    fault_of_analyst NoMemory ng none y = absurd (ng refl)
