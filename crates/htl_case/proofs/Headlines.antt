-- The headline holds of the states that histories leave.
use Rattle.std.proofs.Common.{◌≡◌, ℕ, ◌<◌, Bool, List, [], ◌∷◌, length, Some, refl, sym, ap, ◌∙◌, subst, inl, inr, arith}
use Rattle.std.proofs.Math.Path.{fun_ext}
use Rattle.std.specs.Prelude.{◌||◌, slice_get, fold}
use Rattle.std.specs.List.{AllByRecursion}
use Rattle.std.proofs.lemmas.Bool.{cases_Bool, both_ways}
use Rattle.std.proofs.lemmas.Option.{slice_get_cases}
use Rattle.htl_segment.specs.Content.{Content}
use Rattle.htl_segment.specs.Traces.{Trace}
use Rattle.htl_analyst.specs.States.{State}
use Rattle.htl_analyst.specs.Keys.{keys}
use Rattle.htl_analyst.specs.Right.{IsRight, KeysAreIn, IsBelow}
use Rattle.htl_analyst.specs.Same.{IsSame}
use Rattle.htl_analyst.specs.Steps.{new_state, with_segment, IsMerge}
use Rattle.htl_analyst.specs.declared.fault.Took.TheVariants.{New, Repeat}
use Rattle.htl_analyst.proofs.KeyEvents.{keys_taken, taken_keys}
use Rattle.htl_analyst.proofs.MergeLaws as laws
use Rattle.htl_case.specs.declared.question.AnalystQuestion.{AnalystQuestion}
use Rattle.htl_case.specs.declared.question.AnalystAnswer.{AnalystAnswer}
use Rattle.htl_case.specs.Answers.{IsAnswer}
use Rattle.htl_case.specs.Questions.{AnalystAnswers}
use Rattle.htl_case.specs.Histories.{History, begun, took, IsTake, Leaves, IsReachedBy, IsCompacted}
use Rattle.htl_case.specs.Headline.{Headline, AnySegmentsCanBeTaken, HasAll, AreSameOnceWhole}
use Rattle.htl_case.proofs.Stepped.{merge_keys}
use Rattle.htl_case.proofs.Histories.{leaves_right, leaves_keys, leaves_standing}
use Rattle.htl_case.proofs.Determined.{stated, one_answer}
use Rattle.htl_case.proofs.Sizes.{key_of_trace}

module _ (T : Trace) (S : ℕ → ℕ → Bool) (a : State) (is : IsReachedBy T S a) where
  pub is_right : IsRight a T
  is_right = leaves_right T is.trace is.history a is.leaves

  pub keys_are : (p n : ℕ) → keys a p n ≡ S p n
  keys_are p n = leaves_keys T is.trace is.history a is.leaves p n ∙ is.set p n

  pub answers_are : (q : AnalystQuestion) (x : AnalystAnswer) → AnalystAnswers a q x → IsAnswer T S q x
  answers_are q x answers =
      let same : keys a ≡ S = fun_ext λ p. fun_ext λ n. keys_are p n in
      subst (λ (R : ℕ → ℕ → Bool). IsAnswer T R q x) same (answers T (stated q T is.trace) is_right)

-- the same keys, as facts
within : (S : ℕ → ℕ → Bool) (a b : State) → ((p n : ℕ) → keys a p n ≡ S p n) → ((p n : ℕ) → keys b p n ≡ S p n) → KeysAreIn a b
within S a b ka kb p n h = keys_taken b p n (kb p n ∙ sym (ka p n) ∙ taken_keys a p n h)

equal : (T : Trace) (S : ℕ → ℕ → Bool) (a b : State) (ra : IsReachedBy T S a) (rb : IsReachedBy T S b)
    → IsCompacted ra.history → IsCompacted rb.history → IsSame a b
equal T S a b ra rb ca cb =
    laws.equal_once_compacted T a b ra.trace
    (leaves_standing T ra.trace ra.history a ra.leaves ca) (leaves_standing T rb.trace rb.history b rb.leaves cb)
    (within S a b (keys_are T S a ra) (keys_are T S b rb)) (within S b a (keys_are T S b rb) (keys_are T S a ra))

below_both_ways : (T : Trace) (S R : ℕ → ℕ → Bool) (a b : State) (ra : IsReachedBy T S a) (rb : IsReachedBy T R b)
    → IsCompacted ra.history → IsCompacted rb.history → IsBelow T a b → IsBelow T b a → IsSame a b
below_both_ways T S R a b ra rb ca cb up down =
    laws.equal_once_compacted T a b ra.trace
    (leaves_standing T ra.trace ra.history a ra.leaves ca) (leaves_standing T rb.trace rb.history b rb.leaves cb) up.keys down.keys

united : (T : Trace) (S R : ℕ → ℕ → Bool) (a b c : State) → IsReachedBy T S a → IsReachedBy T R b → IsMerge a b c
    → (p n : ℕ) → keys c p n ≡ (S p n || R p n)
united T S R a b c ra rb merge p n =
    merge_keys T a b c merge (is_right T S a ra) (is_right T R b rb) p n
    ∙ ap (λ (h : Bool). h || keys b p n) (keys_are T S a ra p n) ∙ ap (λ (h : Bool). S p n || h) (keys_are T R b rb p n)

-- the headline holds: keys, answers, equality once compacted, and merges
pub the_headline : Headline
the_headline = record {
  taken = keys_are;
  answers = answers_are;
  alike = λ T S a b ra rb q x y ax by. one_answer T ra.trace S q x y (answers_are T S a ra q x ax) (answers_are T S b rb q y by);
  equal = equal;
  united = united;
  order = λ T S R a b ab ba ra rb one other. laws.commutative T a b ab ba ra.trace (is_right T S a ra) (is_right T R b rb) one other;
  grouping = λ T S R Q a b c ab bc left right ra rb rc m n l r.
      laws.associative T a b c ab bc left right ra.trace (is_right T S a ra) (is_right T R b rb) (is_right T Q c rc) m n l r;
  repetition = λ T S a c ra merge. laws.idempotent T a c ra.trace (is_right T S a ra) merge;
  above = λ T S R a b c ra rb merge.
      let least = laws.least T a b c (is_right T S a ra) (is_right T R b rb) merge in (least.left, least.right);
  least = λ T S R a b c d ra rb merge.
      (laws.least T a b c (is_right T S a ra) (is_right T R b rb) merge).least d;
  below_both_ways = below_both_ways;
}

-- ---- any segments can be taken

not_new : Repeat ≡ New → ⊥
not_new e = cc

-- at each place of a trace's list stands a segment
pub some_segment : (T : Trace) (place : ℕ) → place < length T.segments → (s : Content) × (slice_get T.segments place ≡ Some s)
some_segment T place lt =
    elim (slice_get_cases T.segments place).1 [
      | inl s ↦ (s.0, s.2)
      | inr past ↦ (let le = past.0 in let never : ⊥ = omega (arith, le, lt) in absurd never)
    ]

-- in any state
pub taken_there : (T : Trace) (place : ℕ) (old : State) (segment : Content) → slice_get T.segments place ≡ Some segment
    → (new : State) × IsTake T place old new
taken_there T place old segment here =
    elim (cases_Bool (keys old segment.processor segment.number)) [
      | inl t ↦ (
        old,
        record {
          segment = segment;
          here = here;
          took = Repeat;
          is_new = (λ e. absurd (not_new e), λ fresh. absurd (fresh (keys_taken old segment.processor segment.number t)));
          state = refl;
        },
      )
      | inr f ↦ (
        with_segment old segment,
        record {
          segment = segment;
          here = here;
          took = New;
          is_new =
              (λ e has. both_ways (keys old segment.processor segment.number) f (taken_keys old segment.processor segment.number has), λ fresh. refl);
          state = refl;
        },
      )
    ]

-- after any history that left a state
taken_after : (T : Trace) (before : History) (a : State) → Leaves T before a → (places : List ℕ)
    → AllByRecursion (λ place. place < length T.segments) places → (b : State) × Leaves T (fold took before places) b
taken_after T before a left [] there = (a, left)
taken_after T before a left (place ∷ places) there =
    let segment = some_segment T place there.0 in
    let next = taken_there T place a segment.0 segment.1 in
    taken_after T (took before place) next.0 (a, left, next.1) places there.1

-- segments of a trace can be taken in any order and with repeats
pub any_segments_can_be_taken : AnySegmentsCanBeTaken
any_segments_can_be_taken T trace some few places there =
    taken_after T begun (new_state T.id T.processors) (record { some = some; few = few; state = refl }) places there

-- ---- what follows where all is known

-- an analyst that all segments reached has the keys of each other
all_within : (T : Trace) (R : ℕ → ℕ → Bool) (a b : State) → IsRight a T → ((p n : ℕ) → keys b p n ≡ R p n) → HasAll T R → KeysAreIn a b
all_within T R a b right kb all p n h = keys_taken b p n (kb p n ∙ all p n (key_of_trace T a right p n h))

-- two analysts that all segments reached are the same once compacted
pub same_once_whole : AreSameOnceWhole
same_once_whole T S R a b ra rb all_a all_b ca cb =
    laws.equal_once_compacted T a b ra.trace
    (leaves_standing T ra.trace ra.history a ra.leaves ca) (leaves_standing T rb.trace rb.history b rb.leaves cb)
    (all_within T R a b (is_right T S a ra) (keys_are T R b rb) all_b) (all_within T S b a (is_right T R b rb) (keys_are T S a ra) all_a)
