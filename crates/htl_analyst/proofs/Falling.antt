-- The least of the last folded sequences says up to which moment a trace is complete, and it never falls.
use Rattle.std.proofs.Common.{◌≡◌, ℕ, ◌+◌, ◌<◌, ◌≤◌, min, ltb, eqb, sym, ap, ◌∙◌, subst, arith, inl, inr}
use Rattle.std.specs.Prelude.{Contains}
use Rattle.std.proofs.lemmas.Bool.{cases_Bool, false≢true, cases_lt, lt-ltb, ltb-true, and_from, and_parts, eqb-true, eq-eqb}
use Rattle.htl_event.specs.Events.{Event}
use Rattle.htl_event.specs.Handles.{IsGreatestSequence}
use Rattle.htl_event.proofs.Members.{at_member}
use Rattle.htl_event.proofs.Determined.{IsGreatestSequence-unique}
use Rattle.htl_segment.specs.Content.{Content, Fits}
use Rattle.htl_segment.specs.Keys.{run_below}
use Rattle.htl_segment.specs.Traces.{Trace}
use Rattle.htl_segment.proofs.Spans.{above}
use Rattle.htl_segment.proofs.Traces.{members_agree}
use Rattle.htl_taken.specs.Numbers.{front_at}
use Rattle.htl_analyst.specs.States.{State, folded_at}
use Rattle.htl_analyst.specs.Keys.{keys}
use Rattle.htl_analyst.specs.Laws.{NothingComesLater}
use Rattle.htl_analyst.specs.Right.{IsRight, run_events}
use Rattle.htl_analyst.specs.Steps.{IsMerge}
use Rattle.htl_segment.specs.Rising.{SequencesRise}
use Rattle.htl_analyst.specs.Moments.{IsLastFolded, IsLeastKept, IsLeastLastFolded, NothingMissing, NeverFalls}
use Rattle.htl_analyst.proofs.KeyEvents.{taken_keys}
use Rattle.htl_analyst.proofs.Takes.{of_trace}

-- ---- the least of the first n

-- the number is the least of the first n values of a function
pub record LeastOf (f : ℕ → ℕ) (n m : ℕ) : Type 0 where
  pub bound : (p : ℕ) → p < n → m ≤ f p
  pub place : ℕ
  pub within : place < n
  pub reached : m ≡ f place

-- the first value is the least of the first one
pub LeastOf-first : (f : ℕ → ℕ) (m : ℕ) → m ≡ f 0 → LeastOf f 1 m
LeastOf-first f m e = record {
  bound = λ p lt. (let z : p ≡ 0 = omega (arith, lt) in let g : f p ≡ f 0 = ap f z in omega (arith, g, e));
  place = 0;
  within = omega arith;
  reached = e;
}

-- the lesser of the least so far and the next value is the least of one value more
pub LeastOf-more : (f : ℕ → ℕ) (n old here new : ℕ) → LeastOf f n old → here ≡ f n → new ≡ min old here → LeastOf f (n + 1) new
LeastOf-more f n old here new least e is =
    elim (cases_lt here old) [
      | inl lt ↦ record { bound = bound; place = n; within = omega arith; reached = omega (arith, is, lt, e) }
      | inr le ↦ record {
        bound = bound;
        place = least.place;
        within = (let w = least.within in omega (arith, w));
        reached =
            (let r = least.reached in omega (arith, is, le, r));
      }
    ] where
      bound : (p : ℕ) → p < n + 1 → new ≤ f p
      bound p lt =
          elim (cases_lt p n) [
            | inl before ↦ let b = least.bound p before in omega (arith, is, b)
            | inr le ↦ let z : p ≡ n = omega (arith, lt, le) in let g : f p ≡ f n = ap f z in omega (arith, is, g, e)
          ]

-- ---- what it says of a trace

-- the least of the kept sequences is that of the last folded sequences of the trace
pub complete : (T : Trace) (a : State) (n : ℕ) → IsRight a T → IsLeastKept a n → IsLeastLastFolded T a n
complete T a n right kept = record {
  bound = λ p m lt last.
      let own = (right.each p lt).folded.last in
      let same = IsGreatestSequence-unique (Contains (run_events T p (front_at a.taken p))) (folded_at a.parts p).last_sequence m own last in
      let b = kept.bound p lt in
      omega (arith, b, same);
  processor = kept.processor;
  within = kept.within;
  reached = subst (λ (m : ℕ). IsLastFolded T a kept.processor m) (sym kept.reached) (right.each kept.processor kept.within).folded.last;
}

-- an event below a front is of a segment below it
below_front : (T : Trace) (p front : ℕ) (x : Event) → Contains (run_events T p front) x
    → (s : Content) × Contains T.segments s × (s.processor ≡ p) × (s.number < front) × Contains s.events x
below_front T p front x h =
    let r = (members_agree (run_below p front) T.segments x).0 h in
    let both = and_parts (eqb (r.0).processor p) (ltb (r.0).number front) r.2 in
    (r.0, r.1, eqb-true (r.0).processor p both.0, ltb-true (r.0).number front both.1, r.3)

-- no segment that wasn't taken has an event at or below the least of the kept sequences
pub nothing_missing : (T : Trace) (a : State) (n : ℕ) → IsRight a T → IsLeastKept a n → SequencesRise T.segments → NothingMissing T a n
nothing_missing T a n right kept rise s h absent e is =
    let fits = at_member Fits T.segments s right.collection.fit h in
    let lt : s.processor < a.processors = (let f = fits.processor in let c = (of_trace a T right s h).processors in omega (arith, f, c)) in
    let last = (right.each s.processor lt).folded.last in
    let b = kept.bound s.processor lt in
    let high : front_at a.taken s.processor ≤ s.number = not_below (λ low. absent (inl low)) in
    elim last.reached [
      | inl zero_is ↦ let pos = above s.version 0 s.events fits.events e is in omega (arith, b, zero_is, pos)
      | inr r ↦
          let f = below_front T s.processor (front_at a.taken s.processor) r.0 r.1 in
          let up = rise s f.0 h f.1 f.2 (let low = f.3 in omega (arith, low, high)) e r.0 is f.4 in
          let same = r.2 in
          omega (arith, b, same, up)
    ] where
      not_below : (s.number < front_at a.taken s.processor → ⊥) → front_at a.taken s.processor ≤ s.number
      not_below never = omega (arith, never)

-- what any state has taken at or below the moment, this one has
pub nothing_comes_later : NothingComesLater
nothing_comes_later T a b n right rise kept e h le =
    let r = (members_agree (keys b) T.segments e).0 h in
    elim (cases_Bool (keys a (r.0).processor (r.0).number)) [
      | inl taken ↦ (members_agree (keys a) T.segments e).1 (r.0, r.1, taken, r.3)
      | inr absent ↦
          let above = nothing_missing T a n right kept rise r.0 r.1
          (λ has. false≢true (sym absent ∙ taken_keys a (r.0).processor (r.0).number has)) e r.3 in
          absurd (omega (arith, above, le))
    ]

-- ---- it never falls

pub last_rises : (T : Trace) (p f g n m : ℕ) → f ≤ g → IsGreatestSequence (Contains (run_events T p f)) n
    → IsGreatestSequence (Contains (run_events T p g)) m → n ≤ m
last_rises T p f g n m le x y =
    elim x.reached [
      | inl zero_is ↦ omega (arith, zero_is)
      | inr r ↦
          let k = below_front T p f r.0 r.1 in
          let there : Contains (run_events T p g) r.0 = (members_agree (run_below p g) T.segments r.0).1 (
            k.0,
            k.1,
            and_from (eqb (k.0).processor p) (ltb (k.0).number g) (eq-eqb (k.0).processor p k.2)
                (lt-ltb (k.0).number g (let low = k.3 in omega (arith, low, le))),
            k.4,
          ) in
          let b = y.bound r.0 there in
          let same = r.2 in
          omega (arith, b, same)
    ]

-- where no front is lower in the second state, the least of the kept sequences isn't either
pub never_falls : (T : Trace) (a b : State) → IsRight a T → IsRight b T → ((p : ℕ) → front_at a.taken p ≤ front_at b.taken p)
    → NeverFalls a b
never_falls T a b ra rb rise n m x y =
    let lt : y.processor < a.processors = (let w = y.within in let e = ra.processors in let f = rb.processors in omega (arith, w, e, f)) in
    let low = x.bound y.processor lt in
    let up =
    last_rises T y.processor (front_at a.taken y.processor) (front_at b.taken y.processor) (folded_at a.parts y.processor).last_sequence
    (folded_at b.parts y.processor).last_sequence
    (rise y.processor) (ra.each y.processor lt).folded.last (rb.each y.processor y.within).folded.last in
    let r = y.reached in
    omega (arith, low, up, r)

-- from a state to itself the least of the kept sequences doesn't fall
pub never_falls-same : (T : Trace) (a : State) → IsRight a T → NeverFalls a a
never_falls-same T a right = never_falls T a a right right (λ p. omega arith)

-- from a state to its merge with another the least of the kept sequences doesn't fall
pub never_falls-merged : (T : Trace) (a b c : State) → IsRight a T → IsRight c T → IsMerge a b c → NeverFalls a c
never_falls-merged T a b c ra rc is = never_falls T a c ra rc (λ p. (let f = (is.taken p).front in omega (arith, f)))
