-- What the code does in one step is a step, and with it one step more was done.
use Rattle.std.proofs.Common.{◌≡◌, ℕ, ◌+◌, ◌<◌, ◌≤◌, Bool, false, List, ◌++◌, length, get_or, take, replicate}
use Rattle.std.proofs.Common.{Some, refl, sym, ap, ◌∙◌, subst, inl, inr, arith}
use Rattle.std.specs.Prelude.{slice_get, slice_set}
use Rattle.std.proofs.lemmas.List.{take_all, length-set, length-replicate, get_or-replicate}
use Rattle.std.proofs.lemmas.List.Sums.{fold_more}
use Rattle.std.proofs.Math.Seq.{take-append_seam}
use Rattle.std.proofs.lemmas.Option.{slice_get-get_or, slice_get_within, get_or_from_slice_get}
use Rattle.htl_event.proofs.Members.{at_member, some_member}
use Rattle.htl_segment.specs.Content.{Content, Fits}
use Rattle.htl_segment.specs.Traces.{Trace}
use Rattle.htl_segment.specs.declared.version.Version.{Version}
use Rattle.htl_segment.specs.declared.version.Version.TheVariants.{V1, V2}
use Rattle.htl_segment.specs.Versions.{limits_of}
use Rattle.htl_analyst.specs.States.{State}
use Rattle.htl_analyst.specs.Right.{IsRight}
use Rattle.htl_analyst.specs.Steps.{IsMerge}
use Rattle.htl_case.specs.declared.step.Step.{Step}
use Rattle.htl_case.specs.declared.step.Step.TheVariants.{Take, Merge, Compact}
use Rattle.htl_case.specs.Cases.{IsCase}
use Rattle.htl_case.specs.Plays.{IsFaulty, NoneIsFaulty}
use Rattle.htl_case.specs.Reached.{after_step, reached}
use Rattle.htl_case.specs.Histories.{History, begun, Leaves, history_after, history, AreRight, HaveReached, HaveHistories}
use Rattle.htl_case.specs.Changes.{Changes, IsMergeFrom, IsStep, IsTriedStep}
use Rattle.htl_case.proofs.Stepped.{step_histories, tried_keys}

-- ---- a case has 1 to 256 processors

few_by_version : (version : Version) (n : ℕ) → n ≤ (limits_of version).processors → n ≤ 256
few_by_version V1 n le = omega arith
few_by_version V2 n le = omega arith

module _ (T : Trace) (is : IsCase T) where
  first : (s : Content) × Fits s × (s.processors ≡ T.processors)
  first =
      let s = some_member T.segments is.some in (
        s.0,
        at_member Fits T.segments s.0 is.trace.fit s.1,
        (at_member (λ s. (s.trace_id ≡ T.id) × (s.processors ≡ T.processors)) T.segments s.0 is.trace.same s.1).1,
      )

  -- a case has a processor
  pub some_processors : 0 < T.processors
  some_processors = let f = first in let n = f.1.processors.0 in let e = f.2 in omega arith

  -- a case has 256 processors at most
  pub few_processors : T.processors ≤ 256
  few_processors = let f = first in let n = few_by_version f.0.version f.0.processors f.1.processors.1 in let e = f.2 in omega arith

-- ---- one step

-- where all analysts are right about a trace, the one at a place is
pub right_at : (T : Trace) (states : List State) (i : ℕ) (d : State) → AreRight T states → i < length states
    → IsRight (get_or states i d) T
right_at T states i d right lt = right i (get_or states i d) (slice_get-get_or states i d lt)

-- an analyst set to a state that a step allows was changed in this way, and no other was
pub changes_at : (states : List State) (i : ℕ) (d new : State) (Way : State → State → Type 0) → i < length states
    → Way (get_or states i d) new → Changes i Way states (slice_set states i new)
changes_at states i d new Way lt way =
    record { old = get_or states i d; here = slice_get-get_or states i d lt; new = new; way = way; others = refl }

-- a merge with a copy of the source's state is one from the source
pub merged_from : (states : List State) (source : ℕ) (d copy old new : State) → source < length states → copy ≡ get_or states source d
    → IsMerge old copy new → IsMergeFrom states source old new
merged_from states source d copy old new lt same is = (copy, slice_get-get_or states source d lt ∙ ap Some (sym same), is)

-- the analysts of a step that isn't faulty are there
module _ (n m : ℕ) where
  -- the analyst of a take that isn't faulty is there
  pub taker_there : (analyst segment : ℕ) → (IsFaulty n m (Take analyst segment) → ⊥) → analyst < n
  taker_there analyst segment fine = let there : n ≤ analyst → ⊥ = λ le. fine (inl le) in omega arith

  -- the target of a merge that isn't faulty is there
  pub target_there : (target source : ℕ) → (IsFaulty n m (Merge target source) → ⊥) → target < n
  target_there target source fine = let there : n ≤ target → ⊥ = λ le. fine (inl (inl le)) in omega arith

  -- the source of a merge that isn't faulty is there
  pub source_there : (target source : ℕ) → (IsFaulty n m (Merge target source) → ⊥) → source < n
  source_there target source fine = let there : n ≤ source → ⊥ = λ le. fine (inl (inr le)) in omega arith

  -- the analyst of a compaction that isn't faulty is there
  pub compacted_there : (analyst : ℕ) → (IsFaulty n m (Compact analyst) → ⊥) → analyst < n
  compacted_there analyst fine = let there : n ≤ analyst → ⊥ = λ le. fine (inl le) in omega arith

-- ---- the analysts that begin

-- each element of a list of copies is what was copied
pub item_replicated : {X : Type 0} (n i : ℕ) (x y : X) → slice_get (replicate n x) i ≡ Some y → y ≡ x
item_replicated n i x y at =
    let within = slice_get_within (replicate n x) i y at in
    let lt : i < n = omega (arith, within, length-replicate n x) in
    sym (get_or_from_slice_get (replicate n x) i y x at) ∙ get_or-replicate n i x x lt

-- ---- the steps that were done

-- where no step is faulty, the step at a place isn't
pub step_there : (n m : ℕ) (steps : List Step) (i : ℕ) (d : Step) → NoneIsFaulty n m steps → i < length steps
    → IsFaulty n m (get_or steps i d) → ⊥
step_there n m steps i d none lt faulty =
    none i (record { step = get_or steps i d; here = slice_get-get_or steps i d lt; holds = faulty })

-- what stands in a vector whose slice was written
pub written : {X : Type 0} (n : ℕ) (xs ys : List X) → length xs ≡ n → take n (xs ++ ys) ≡ xs
written n xs ys e = subst (λ (m : ℕ). take m (xs ++ ys) ≡ xs) e (take-append_seam xs ys)

-- as many analysts as before
pub step_length : (T : Trace) (step : Step) (before after : List State) → IsTriedStep T step before after → length after ≡ length before
step_length T (Take analyst segment) before after is = ap length is.others ∙ length-set before analyst is.new
step_length T (Merge target source) before after is = ap length is.others ∙ length-set before target is.new
step_length T (Compact analyst) before after is = ap length is.others ∙ length-set before analyst is.new

module _ (T : Trace) (steps : List Step) (i : ℕ) (d : Step) (lt : i < length steps) (before after : List State) where
  -- where each analyst has the history of the steps so far, it has that of one step more after the step
  pub more_histories : HaveHistories T (take i steps) before → IsStep T (get_or steps i d) before after
      → HaveHistories T (take (i + 1) steps) after
  more_histories have is k a at =
      subst (λ (h : ℕ → History). Leaves T (h k) a) (sym (fold_more history_after (λ j. begun) steps i d lt))
      (step_histories T (get_or steps i d) before after (history (take i steps)) is have k a at)

  -- where each analyst has the keys that the steps so far brought, it has those of one step more after the step
  pub more_keys : AreRight T before → HaveReached T (take i steps) before → IsTriedStep T (get_or steps i d) before after
      → HaveReached T (take (i + 1) steps) after
  more_keys right have is k a at p n =
      tried_keys T (reached T (take i steps)) before after right have (get_or steps i d) is k a at p n
      ∙ ap (λ (sets : ℕ → ℕ → ℕ → Bool). sets k p n) (sym (fold_more (after_step T) (λ j q m. false) steps i d lt))

-- at the end all steps were done
pub all_histories : (T : Trace) (steps : List Step) (i : ℕ) (states : List State) → length steps ≤ i
    → HaveHistories T (take i steps) states → HaveHistories T steps states
all_histories T steps i states all have =
    subst (λ (done : List Step). HaveHistories T done states) (take_all i steps all) have

-- after the last step each analyst has the keys that all steps brought
pub all_keys : (T : Trace) (steps : List Step) (i : ℕ) (states : List State) → length steps ≤ i
    → HaveReached T (take i steps) states → HaveReached T steps states
all_keys T steps i states all have = subst (λ (done : List Step). HaveReached T done states) (take_all i steps all) have
