-- The runs of all processors can be folded one after another, and then no front can move.
use Rattle.std.proofs.Common.{◌≡◌, ℕ, ◌+◌, ◌*◌, ◌<◌, ◌≤◌, List, ◌++◌, length, take, drop, slice_set, append-nil, refl, sym, ap, ◌∙◌}
use Rattle.std.proofs.Common.{subst, arith, inl, inr}
use Rattle.std.specs.Prelude.{Contains, ◌↔◌}
use Rattle.std.proofs.lemmas.Bool.{cases_eq, cases_lt}
use Rattle.htl_segment.specs.Content.{Content}
use Rattle.htl_segment.specs.Traces.{Trace}
use Rattle.htl_taken.specs.NumberSets.{Has}
use Rattle.htl_taken.specs.Numbers.{Numbers, numbers_at, no_numbers, settled, reach_of, front_at}
use Rattle.htl_taken.proofs.Numbers.{Has-settled, reach_least}
use Rattle.htl_taken.proofs.NumberSets.{numbers_at-past, Has-no_numbers}
use Rattle.std.proofs.lemmas.List.{set-get_or}
use Rattle.htl_segment.specs.Traces.{all_events}
use Rattle.htl_taken.proofs.Reaching.{reach_from-ge}
use Rattle.htl_taken.proofs.Numbers.{same_numbers, settled-drop}
use Rattle.htl_analyst.specs.States.{Part, part, no_part, part_at, held_at, State, state}
use Rattle.htl_analyst.specs.Keys.{HasTaken, number_taken}
use Rattle.htl_analyst.specs.Right.{IsFolded, IsState, IsRight, IsStanding}
use Rattle.htl_analyst.specs.StepParts.{run_length, run_of, IsCompactedAt}
use Rattle.htl_analyst.proofs.Counted.{number-compacted}
use Rattle.htl_analyst.proofs.Folds.{IsState-compacted, IsRight-compacted, place-compacted, place-compacted_other, held-compacted}
use Rattle.htl_analyst.proofs.Folds.{HasTaken-compacted, IsWithin-above}

-- an empty run leaves the state as it is
pub nothing_to_fold : (a : State) (p : ℕ) → IsState a → p < a.processors → run_length a p ≡ 0 → IsCompactedAt a a p
nothing_to_fold a p is lt none =
    let q : Numbers = numbers_at a.taken p in
    let k : Part = part_at a.parts p in
    let ge = reach_from-ge q.front q.loose in
    let front : reach_of q ≡ q.front = omega (arith, none, ge) in
    let place : settled q ≡ q =
    same_numbers (settled q) q front (sym (settled-drop q (is.each p lt).proper) ∙ ap (λ (n : ℕ). drop n q.loose) none) in
    let held : part (drop (run_length a p) k.held) k.folded ≡ k = ap (λ (n : ℕ). part (drop n k.held) k.folded) none in
    record {
      folded = k.folded;
      is = sym (
          ap (λ (x : Numbers). state a.trace_id a.processors (slice_set a.taken p x)
          (slice_set a.parts p (part (drop (run_length a p) k.held) k.folded))) place
          ∙ ap (λ (x : Part). state a.trace_id a.processors (slice_set a.taken p q) (slice_set a.parts p x)) held
          ∙ ap (λ (ps : List Numbers). state a.trace_id a.processors ps (slice_set a.parts p k)) (set-get_or a.taken p no_numbers)
          ∙ ap (λ (ks : List Part). state a.trace_id a.processors a.taken ks) (set-get_or a.parts p no_part));
      joins = λ events old.
          let empty : events ++ run_of a p ≡ events = ap (λ (n : ℕ). events ++ all_events (take n k.held)) none ∙ append-nil events in
          subst (IsFolded k.folded) (sym empty) old;
      bounded = λ most old. IsWithin-above most (most + 4096 * run_length a p) k.folded old (omega arith);
    }

-- the runs of the first processors are folded
pub record AreCompacted (a b : State) (n : ℕ) : Type 0 where
  pub state : IsState b
  pub trace_id : b.trace_id ≡ a.trace_id
  pub processors : b.processors ≡ a.processors
  pub keys : (p m : ℕ) → HasTaken b p m ↔ HasTaken a p m
  pub right : (T : Trace) → IsRight a T → IsRight b T
  pub fronts : (p : ℕ) → front_at a.taken p ≤ front_at b.taken p
  pub held : (p : ℕ) (s : Content) → Contains (held_at b.parts p) s → Contains (held_at a.parts p) s
  pub number : number_taken b ≡ number_taken a
  pub least : (p : ℕ) → p < n → HasTaken b p (front_at b.taken p) → ⊥

-- before the first processor, the state is compacted as it is
pub AreCompacted-none : (a : State) → IsState a → AreCompacted a a 0
AreCompacted-none a is = record {
  state = is;
  trace_id = refl;
  processors = refl;
  keys = λ p m. (λ h. h, λ h. h);
  right = λ T r. r;
  fronts = λ p. omega arith;
  held = λ p s h. h;
  number = refl;
  least = λ p lt. absurd (omega arith);
}

-- the reach of a settled place isn't taken
settled_least : (q : Numbers) → (Has q (reach_of q) → ⊥) → Has (settled q) (settled q).front → ⊥
settled_least q absent h = absent ((Has-settled q (reach_of q)).0 h)

-- with the next processor's run folded, one processor more is compacted
pub AreCompacted-more : (a b d : State) (n : ℕ) → AreCompacted a b n → n < b.processors → IsCompactedAt b d n → AreCompacted a d (n + 1)
AreCompacted-more a b d n old lt f = record {
  state = IsState-compacted b d n old.state lt f;
  trace_id = ap (λ (x : State). x.trace_id) f.is ∙ old.trace_id;
  processors = ap (λ (x : State). x.processors) f.is ∙ old.processors;
  keys = λ p m. let now = HasTaken-compacted b d n old.state lt f p m in let was =
      old.keys p m in (λ h. was.0 (now.0 h), λ h. now.1 (was.1 h));
  right = λ T r. IsRight-compacted b d n old.state lt f T (old.right T r);
  fronts = λ p. let was = old.fronts p in elim (cases_eq p n) [
    | inl e ↦
        let q : Numbers = numbers_at b.taken n in
        let ge = reach_from-ge q.front q.loose in
        let now : front_at d.taken p ≡ reach_of q =
        ap (λ (x : ℕ). front_at d.taken x) e ∙ ap (λ (x : Numbers). x.front) (place-compacted b d n old.state lt f) in
        let then : front_at b.taken p ≡ q.front = ap (λ (x : ℕ). front_at b.taken x) e in
        omega (arith, was, ge, now, then)
    | inr ne ↦ let same = ap (λ (x : Numbers). x.front) (place-compacted_other b d n old.state lt f p ne) in omega (arith, was, same)
  ];
  held = λ p s h. old.held p s (held-compacted b d n old.state lt f p s h);
  number = number-compacted b d n old.state lt f ∙ old.number;
  least = λ p below. elim (cases_eq p n) [
    | inl e ↦
        let q : Numbers = numbers_at b.taken n in
        let here : Has (settled q) (settled q).front → ⊥ = settled_least q (reach_least q (old.state.each n lt).proper) in
        subst (λ (x : ℕ). HasTaken d x (front_at d.taken x) → ⊥) (sym e)
        (subst (λ (x : Numbers). Has x x.front → ⊥) (sym (place-compacted b d n old.state lt f)) here)
    | inr ne ↦ subst (λ (x : Numbers). Has x x.front → ⊥) (sym (place-compacted_other b d n old.state lt f p ne))
        (old.least p (omega (arith, ne, below)))
  ];
}

-- once all runs are folded, no front is taken
pub fronts_are_least : (a b : State) (n : ℕ) → AreCompacted a b n → a.processors ≤ n → (p : ℕ) → HasTaken b p (front_at b.taken p) → ⊥
fronts_are_least a b n c le p =
    elim (cases_lt p n) [
      | inl lt ↦ c.least p lt
      | inr past ↦
          let e = c.processors in
          let f = c.state.places in
          let out : length b.taken ≤ p = omega (arith, e, f, past, le) in
          subst (λ (q : Numbers). Has q q.front → ⊥) (sym (numbers_at-past b.taken p out)) (Has-no_numbers 0)
    ]

-- once all processors are compacted, a state that is right about a trace stands
pub IsStanding-compacted : (a b : State) (n : ℕ) → AreCompacted a b n → a.processors ≤ n → (T : Trace) → IsRight a T → IsStanding b T
IsStanding-compacted a b n c le T right = record { right = c.right T right; least = fronts_are_least a b n c le }
