-- After one step each analyst's history goes on, and its keys are those that reached it.
use Rattle.std.proofs.Common.{◌≡◌, ◌≢◌, ℕ, ◌<◌, Bool, false, ◌&&◌, List, length}
use Rattle.std.proofs.Common.{Option, Some, refl, sym, ap, ◌∙◌, subst, inl, inr, arith}
use Rattle.std.specs.Prelude.{Contains, ◌↔◌, ◌||◌, ◌==◌, slice_get, slice_set}
use Rattle.std.specs.Option.{option_map_or}
use Rattle.std.proofs.Math.Bool.{or-false}
use Rattle.std.proofs.lemmas.Bool.{both_ways, cases_Bool, cases_eq, eq-eqb, ne_eqb}
use Rattle.std.proofs.lemmas.List.{get_or-set_same, get_or-set_other, length-set}
use Rattle.std.proofs.lemmas.Option.{slice_get_within, get_or_from_slice_get, slice_get-get_or}
use Rattle.htl_segment.specs.Content.{Content}
use Rattle.htl_segment.specs.Traces.{Trace}
use Rattle.htl_taken.proofs.Keys.{key_inserted, key_united, key_kept}
use Rattle.htl_analyst.specs.declared.fault.Took.{Took}
use Rattle.htl_analyst.specs.declared.fault.Took.TheVariants.{New, Repeat}
use Rattle.htl_analyst.specs.States.{State}
use Rattle.htl_analyst.specs.Keys.{keys, HasTaken}
use Rattle.htl_analyst.specs.Right.{IsRight}
use Rattle.htl_analyst.specs.Steps.{with_segment, taken_as, IsMerge}
use Rattle.htl_analyst.proofs.KeyEvents.{keys_taken, taken_keys}
use Rattle.htl_analyst.proofs.Merges.{of_one_trace, IsRight-merged, HasTaken-merged}
use Rattle.htl_analyst.proofs.Takes.{of_trace, fits_of_trace, IsRight-with_segment, HasTaken-with_segment, repeat_keys}
use Rattle.htl_case.specs.declared.step.Step.{Step}
use Rattle.htl_case.specs.declared.step.Step.TheVariants.{Take, Merge, Compact}
use Rattle.htl_case.specs.Reached.{is_key_at, after_step}
use Rattle.htl_case.specs.Histories.{History, IsTake, IsCompaction, IsTriedCompaction, Leaves, history_after, AreRight}
use Rattle.htl_case.specs.Changes.{Changes, IsMergeFrom, IsStep, IsTriedStep}
use Rattle.htl_segment.proofs.Spans.{at_place}

-- ---- a list with one item exchanged

item_new : {X : Type 0} (xs : List X) (j : ℕ) (x y : X) → slice_get (slice_set xs j y) j ≡ Some x → x ≡ y
item_new xs j x y at =
    let within = slice_get_within (slice_set xs j y) j x at in
    let lt : j < length xs = omega (arith, within, length-set xs j y) in
    sym (get_or_from_slice_get (slice_set xs j y) j x y at) ∙ get_or-set_same xs j y y lt

item_other : {X : Type 0} (xs : List X) (j i : ℕ) (x y : X) → i ≢ j → slice_get (slice_set xs j y) i ≡ Some x → slice_get xs i ≡ Some x
item_other xs j i x y ne at =
    let within = slice_get_within (slice_set xs j y) i x at in
    let lt : i < length xs = omega (arith, within, length-set xs j y) in
    slice_get-get_or xs i x lt ∙ ap Some (sym (get_or-set_other xs j i y x ne) ∙ get_or_from_slice_get (slice_set xs j y) i x x at)

-- ---- a step

-- what holds of all analysts before a step that changes one of them so that it holds of that too
pub changed : (P : ℕ → State → Type 0) (Q : ℕ → State → Type 0) (analyst : ℕ) (Way : State → State → Type 0) (before after : List State)
    → Changes analyst Way before after → ((i : ℕ) (a : State) → slice_get before i ≡ Some a → P i a)
    → ((old new : State) → Way old new → P analyst old → Q analyst new) → ((i : ℕ) (a : State) → i ≢ analyst → P i a → Q i a)
    → (i : ℕ) (a : State) → slice_get after i ≡ Some a → Q i a
changed P Q analyst Way before after c was one others i a at =
    let there : slice_get (slice_set before analyst c.new) i ≡ Some a =
    subst (λ (states : List State). slice_get states i ≡ Some a) c.others at in
    elim (cases_eq i analyst) [
      | inl e ↦
          let here = subst (λ (k : ℕ). slice_get (slice_set before analyst c.new) k ≡ Some a) e there in
          subst (λ (k : ℕ). Q k a) (sym e) (subst (Q analyst) (sym (item_new before analyst a c.new here))
          (one c.old c.new c.way (was analyst c.old c.here)))
      | inr ne ↦ others i a ne (was i a (item_other before analyst i a c.new ne there))
    ]

-- ---- taking

module _ (T : Trace) (old : State) (s : Content) (right : IsRight old T) (in_trace : Contains T.segments s) where
  took_right : (took : Took) → ((took ≡ New) ↔ (HasTaken old s.processor s.number → ⊥)) → IsRight (taken_as took old s) T
  took_right New fresh =
      IsRight-with_segment old s right.state (fits_of_trace old T right s in_trace) (of_trace old T right s in_trace) (fresh.0 refl)
      T right in_trace
  took_right Repeat fresh = right

  was_taken : ((Repeat ≡ New) ↔ (HasTaken old s.processor s.number → ⊥)) → HasTaken old s.processor s.number
  was_taken fresh =
      elim (cases_Bool (keys old s.processor s.number)) [
        | inl t ↦ keys_taken old s.processor s.number t
        | inr f ↦
            let absent : HasTaken old s.processor s.number → ⊥ =
            λ h. both_ways (keys old s.processor s.number) f (taken_keys old s.processor s.number h) in
            let never = fresh.1 absent in cc
      ]

  took_keys : (took : Took) → ((took ≡ New) ↔ (HasTaken old s.processor s.number → ⊥)) → (p n : ℕ)
      → keys (taken_as took old s) p n ≡ (keys old p n || ((p == s.processor) && (n == s.number)))
  took_keys New fresh p n =
      key_inserted old.taken (with_segment old s).taken s.processor s.number p n
      (HasTaken-with_segment old s right.state (fits_of_trace old T right s in_trace) (of_trace old T right s in_trace) (fresh.0 refl) p n)
  took_keys Repeat fresh p n = key_inserted old.taken old.taken s.processor s.number p n (repeat_keys old s (was_taken fresh) p n)

-- a take keeps an analyst right about the trace
pub take_right : (T : Trace) (place : ℕ) (old new : State) → IsTake T place old new → IsRight old T → IsRight new T
take_right T place old new is right =
    subst (λ (a : State). IsRight a T) (sym is.state)
    (took_right T old is.segment right (at_place T.segments place is.segment is.here) is.took is.is_new)

-- a take adds the key of the segment that was taken
pub take_keys : (T : Trace) (place : ℕ) (old new : State) → IsTake T place old new → IsRight old T → (p n : ℕ)
    → keys new p n ≡ (keys old p n || is_key_at T place p n)
take_keys T place old new is right p n =
    let key : is_key_at T place p n ≡ ((p == is.segment.processor) && (n == is.segment.number)) =
    ap (λ (o : Option Content). option_map_or (λ s. (p == s.processor) && (n == s.number)) o false) is.here in
    ap (λ (a : State). keys a p n) is.state
    ∙ took_keys T old is.segment right (at_place T.segments place is.segment is.here) is.took is.is_new p n
    ∙ ap (λ (b : Bool). keys old p n || b) (sym key)

-- ---- merging

-- a merge of two analysts that are right about a trace is right about it
pub merge_right : (T : Trace) (old other new : State) → IsMerge old other new → IsRight old T → IsRight other T → IsRight new T
merge_right T old other new is right theirs = IsRight-merged old other new (of_one_trace T old other right theirs) is T right theirs

-- a merge has the keys of both analysts
pub merge_keys : (T : Trace) (old other new : State) → IsMerge old other new → IsRight old T → IsRight other T → (p n : ℕ)
    → keys new p n ≡ (keys old p n || keys other p n)
merge_keys T old other new is right theirs p n =
    key_united old.taken other.taken new.taken p n (HasTaken-merged old other new is p n)

-- ---- one step

-- what was done was tried
pub tried_step : (T : Trace) (step : Step) (before after : List State) → IsStep T step before after → IsTriedStep T step before after
tried_step T (Take analyst segment) before after is = is
tried_step T (Merge target source) before after is = is
tried_step T (Compact analyst) before after is = record {
  old = is.old;
  here = is.here;
  new = is.new;
  way = record { keys = is.way.keys; right = λ T right. (is.way.standing T right).right };
  others = is.others;
}

-- each analyst's history goes on
pub step_histories : (T : Trace) (step : Step) (before after : List State) (was : ℕ → History) → IsStep T step before after
    → ((i : ℕ) (a : State) → slice_get before i ≡ Some a → Leaves T (was i) a)
    → (i : ℕ) (a : State) → slice_get after i ≡ Some a → Leaves T (history_after was step i) a
step_histories T (Take analyst segment) before after was is known =
    changed (λ i a. Leaves T (was i) a) (λ i a. Leaves T (history_after was (Take analyst segment) i) a)
    analyst (IsTake T segment) before after is known
    (λ old new taken left. rw (eq-eqb analyst analyst refl) (old, left, taken))
    (λ i a ne left. rw (ne_eqb i analyst ne) left)
step_histories T (Merge target source) before after was is known =
    changed (λ i a. Leaves T (was i) a) (λ i a. Leaves T (history_after was (Merge target source) i) a)
    target (IsMergeFrom before source) before after is known
    (λ old new from left. rw (eq-eqb target target refl) (old, from.0, left, known source from.0 from.1, from.2))
    (λ i a ne left. rw (ne_eqb i target ne) left)
step_histories T (Compact analyst) before after was is known =
    changed (λ i a. Leaves T (was i) a) (λ i a. Leaves T (history_after was (Compact analyst) i) a)
    analyst IsCompaction before after is known
    (λ old new done left. rw (eq-eqb analyst analyst refl) (old, left, done))
    (λ i a ne left. rw (ne_eqb i analyst ne) left)

-- each analyst stays right about the trace
pub tried_right : (T : Trace) (step : Step) (before after : List State) → IsTriedStep T step before after → AreRight T before
    → AreRight T after
tried_right T (Take analyst segment) before after is were =
    changed (λ i a. IsRight a T) (λ i a. IsRight a T) analyst (IsTake T segment) before after is were
    (take_right T segment) (λ i a ne right. right)
tried_right T (Merge target source) before after is were =
    changed (λ i a. IsRight a T) (λ i a. IsRight a T) target (IsMergeFrom before source) before after is were
    (λ old new from right. merge_right T old from.0 new from.2 right (were source from.0 from.1)) (λ i a ne right. right)
tried_right T (Compact analyst) before after is were =
    changed (λ i a. IsRight a T) (λ i a. IsRight a T) analyst IsTriedCompaction before after is were
    (λ old new tried right. tried.right T right) (λ i a ne right. right)

-- the keys of an analyst that a step changes, and of one that it doesn't change
is_reached : (i : ℕ) (had more : Bool) → (had || ((i == i) && more)) ≡ (had || more)
is_reached i had more = rw (eq-eqb i i refl) refl

not_reached : (i j : ℕ) (had more : Bool) → i ≢ j → (had || ((i == j) && more)) ≡ had
not_reached i j had more ne = rw (ne_eqb i j ne) (or-false had)

-- the keys of each analyst are those of its set
abbrev pub HaveKeys : (ℕ → ℕ → ℕ → Bool) → List State → Type 0
HaveKeys sets states = (i : ℕ) (a : State) → slice_get states i ≡ Some a → (p n : ℕ) → keys a p n ≡ sets i p n

module _ (T : Trace) (sets : ℕ → ℕ → ℕ → Bool) (before after : List State) (right : AreRight T before) (have : HaveKeys sets before) where
  abbrev HasReached : ℕ → State → Type 0
  HasReached i a = IsRight a T × ((p n : ℕ) → keys a p n ≡ sets i p n)

  known : (i : ℕ) (a : State) → slice_get before i ≡ Some a → HasReached i a
  known i a at = (right i a at, have i a at)

  -- after a step each analyst has the keys of its set, which the step changed
  pub tried_keys : (step : Step) → IsTriedStep T step before after → HaveKeys (after_step T sets step) after
  tried_keys (Take analyst segment) is =
      changed HasReached (λ i a. (p n : ℕ) → keys a p n ≡ after_step T sets (Take analyst segment) i p n)
      analyst (IsTake T segment) before after is known
      (λ old new taken was p n. take_keys T segment old new taken was.0 p n
      ∙ ap (λ (b : Bool). b || is_key_at T segment p n) (was.1 p n)
      ∙ sym (is_reached analyst (sets analyst p n) (is_key_at T segment p n)))
      (λ i a ne was p n. was.1 p n ∙ sym (not_reached i analyst (sets i p n) (is_key_at T segment p n) ne))
  tried_keys (Merge target source) is =
      changed HasReached (λ i a. (p n : ℕ) → keys a p n ≡ after_step T sets (Merge target source) i p n)
      target (IsMergeFrom before source) before after is known
      (λ old new from was p n.
      let theirs = known source from.0 from.1 in
      merge_keys T old from.0 new from.2 was.0 theirs.0 p n
      ∙ ap (λ (b : Bool). b || keys from.0 p n) (was.1 p n) ∙ ap (λ (b : Bool). sets target p n || b) (theirs.1 p n)
      ∙ sym (is_reached target (sets target p n) (sets source p n)))
      (λ i a ne was p n. was.1 p n ∙ sym (not_reached i target (sets i p n) (sets source p n) ne))
  tried_keys (Compact analyst) is =
      changed HasReached (λ i a. (p n : ℕ) → keys a p n ≡ sets i p n) analyst IsTriedCompaction before after is known
      (λ old new tried was p n. key_kept new.taken old.taken p n (tried.keys p n) ∙ was.1 p n) (λ i a ne was. was.1)
