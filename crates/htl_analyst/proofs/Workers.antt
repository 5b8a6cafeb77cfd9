-- Parts that several workers folded, and the fronts moved over them, make a state that is further and otherwise the same.
use Rattle.std.proofs.Common.{◌≡◌, ℕ, ◌-◌, ◌*◌, ◌<◌, ◌≤◌, List, length, drop}
use Rattle.std.proofs.Common.{refl, sym, ap, ◌∙◌, subst, arith, inl, inr, ◌⊎◌}
use Rattle.std.specs.Prelude.{Contains, ◌↔◌}
use Rattle.std.proofs.lemmas.Bool.{cases_lt, lt-ltb, le-ltb}
use Rattle.std.proofs.lemmas.List.{length-drop, get_or_past}
use Rattle.htl_segment.specs.Content.{Content}
use Rattle.htl_segment.specs.Traces.{Trace}
use Rattle.htl_taken.specs.NumberSets.{Has}
use Rattle.htl_taken.specs.Numbers.{Numbers, numbers_at, front_at, reach_of, settled, size_of}
use Rattle.htl_taken.proofs.Members.{Contains-drop}
use Rattle.htl_taken.proofs.NumberSets.{numbers_at-past}
use Rattle.htl_taken.proofs.Numbers.{Has-settled}
use Rattle.htl_taken.proofs.Reaching.{reach_from-ge}
use Rattle.htl_analyst.specs.States.{Part, no_part, part_at, held_at, State, state}
use Rattle.htl_analyst.specs.Keys.{HasTaken}
use Rattle.htl_analyst.specs.Right.{IsPart, IsState, IsRightAt, IsRight}
use Rattle.htl_analyst.specs.StepParts.{run_length, CanFold, IsRunFolded, IsWorked, IsFurtherAt, IsFurther, run_at, moved}
use Rattle.htl_analyst.proofs.Held.{length-numbers}
use Rattle.htl_analyst.proofs.Folds.{run_within, run_few, totals_fit, settled_part, within_reach, IsRightAt-settled}
use Rattle.htl_analyst.proofs.Counted.{size-settled, sum_by-agree}
use Rattle.htl_analyst.proofs.Compacts.{AreCompacted}

-- the run of a part may be folded
pub can_fold : (id count p : ℕ) (q : Numbers) (k : Part) → IsPart id count p q k → CanFold (run_at q) k
can_fold id count p q k is = record {
  within = run_within id count p q k is;
  few = run_few id count p q k is;
  most = 4096 * q.front;
  bounded = is.bounded;
  fits = totals_fit id count p q k is;
}

-- the run that was read of the state's fields is that of the state
module _ {old : State} (a : State) (p reach front : ℕ) where
  -- the distance of a reach and a front that were read of the state is the length of the run
  pub run_read : old ≡ a → reach ≡ reach_of (numbers_at old.taken p) → front ≡ front_at old.taken p → reach - front ≡ run_length a p
  run_read is r f =
      ap (λ (n : ℕ). n - front) r ∙ ap (λ (n : ℕ). reach_of (numbers_at old.taken p) - n) f
      ∙ ap (λ (x : State). run_length x p) is

-- ---- the fronts

-- the fronts of the first processors are moved
pub record AreMoved (old new : List Numbers) (parts : List Part) (n : ℕ) : Type 0 where
  pub len : length new ≡ length old
  pub each : (p : ℕ) → p < n → p < length old → numbers_at new p ≡ moved (numbers_at old p) (part_at parts p)
  pub rest : (p : ℕ) → n ≤ p → numbers_at new p ≡ numbers_at old p

-- a part that a worker had, and its front
pub further_at : (id count p : ℕ) (q : Numbers) (k l : Part) → IsPart id count p q k → IsWorked q k l → IsFurtherAt q k (moved q l) l
further_at id count p q k l is worked =
    let same = ap length is.numbers in
    let len = length-numbers k.held in
    elim worked [
      | inl kept ↦
          let held : length l.held ≡ length k.held = ap (λ (x : Part). length x.held) kept in
          inl (rw (le-ltb (length l.held) (length q.loose) (omega (arith, held, same, len))) refl, kept)
      | inr f ↦
          let held : length l.held ≡ length (drop (run_at q) k.held) = ap (λ (x : Part). length x.held) f.1.is in
          let rest = length-drop (run_at q) k.held in
          let within = run_within id count p q k is in
          let some = f.0 in
          inr (rw (lt-ltb (length l.held) (length q.loose) (omega (arith, held, rest, within, some, same, len))) refl, f.1)
    ]

-- ---- the state

-- parts that workers had, and fronts that were moved accordingly
pub IsFurther-made : (a : State) (ts : List Numbers) (ls : List Part) → IsState a → length ls ≡ length a.parts
    → ((p : ℕ) → p < length a.parts → IsWorked (numbers_at a.taken p) (part_at a.parts p) (part_at ls p))
    → length ts ≡ length a.taken
    → ((p : ℕ) → p < a.processors → p < length a.taken → numbers_at ts p ≡ moved (numbers_at a.taken p) (part_at ls p))
    → IsFurther a (state a.trace_id a.processors ts ls)
IsFurther-made a ts ls is parts worked places fronts = record {
  trace_id = refl;
  processors = refl;
  places = places;
  parts = parts;
  each = λ p lt.
      let k : Part = part_at a.parts p in
      let q : Numbers = numbers_at a.taken p in
      let in_parts = is.parts in
      let in_places = is.places in
      let here = fronts p lt (omega (arith, lt, in_places)) in
      subst (λ (r : Numbers). IsFurtherAt q k r (part_at ls p)) (sym here)
      (further_at a.trace_id a.processors p q k (part_at ls p) (is.each p lt) (worked p (omega (arith, lt, in_parts))));
}

module _ (a b : State) (is : IsState a) (f : IsFurther a b) where
  -- a processor that isn't there has nothing before and after
  everywhere : (p : ℕ) → ((numbers_at b.taken p ≡ numbers_at a.taken p) × (part_at b.parts p ≡ part_at a.parts p))
      ⊎ ((p < a.processors) × (numbers_at b.taken p ≡ settled (numbers_at a.taken p))
      × IsRunFolded (run_at (numbers_at a.taken p)) (part_at a.parts p) (part_at b.parts p))
  everywhere p =
      elim (cases_lt p a.processors) [
        | inl lt ↦ elim (f.each p lt) [ inl kept ↦ inl kept | inr more ↦ inr (lt, more.0, more.1) ]
        | inr past ↦
            let la = is.places in
            let lb = f.places in
            let ka = is.parts in
            let kb = f.parts in
            inl (
              numbers_at-past b.taken p (omega (arith, la, lb, past)) ∙ sym (numbers_at-past a.taken p (omega (arith, la, past))),
              get_or_past b.parts p no_part (omega (arith, ka, kb, past)) ∙ sym (get_or_past a.parts p no_part (omega (arith, ka, past))),
            )
      ]

  part_further : (p : ℕ) → p < a.processors → IsPart a.trace_id a.processors p (numbers_at b.taken p) (part_at b.parts p)
  part_further p lt =
      elim (everywhere p) [
        | inl kept ↦ rw (kept.0, kept.1) (is.each p lt)
        | inr more ↦
            let d = more.2.folded in
            rw (more.1, more.2.is) (settled_part a p is lt d (within_reach a p is lt d more.2.bounded))
      ]

  -- a state some of whose runs were folded and whose fronts moved over them is a state
  pub IsState-further : IsState b
  IsState-further =
      let same = f.processors in
      let some = is.some in
      let few = is.few in
      record {
        some = omega (arith, same, some);
        few = omega (arith, same, few);
        places = f.places ∙ is.places ∙ sym f.processors;
        parts = f.parts ∙ is.parts ∙ sym f.processors;
        each = λ p lt. rw (f.trace_id, f.processors) (part_further p (omega (arith, lt, same)));
      }

  right_further : (T : Trace) → IsRight a T → (p : ℕ) → p < a.processors → IsRightAt T p (numbers_at b.taken p) (part_at b.parts p)
  right_further T right p lt =
      elim (everywhere p) [
        | inl kept ↦ rw (kept.0, kept.1) (right.each p lt)
        | inr more ↦ rw (more.1, more.2.is) (IsRightAt-settled a p is lt more.2.folded T right more.2.joins)
      ]

  IsRight-further : (T : Trace) → IsRight a T → IsRight b T
  IsRight-further T right = record {
    collection = right.collection;
    id = right.id ∙ sym f.trace_id;
    processors = right.processors ∙ sym f.processors;
    state = IsState-further;
    each = λ p lt. right_further T right p (let same = f.processors in omega (arith, lt, same));
  }

  HasTaken-further : (p n : ℕ) → HasTaken b p n ↔ HasTaken a p n
  HasTaken-further p n =
      elim (everywhere p) [
        | inl kept ↦ subst (λ (q : Numbers). Has q n ↔ HasTaken a p n) (sym kept.0) (λ h. h, λ h. h)
        | inr more ↦ subst (λ (q : Numbers). Has q n ↔ HasTaken a p n) (sym more.1) (Has-settled (numbers_at a.taken p) n)
      ]

  fronts-further : (p : ℕ) → front_at a.taken p ≤ front_at b.taken p
  fronts-further p =
      elim (everywhere p) [
        | inl kept ↦ let same = ap (λ (q : Numbers). q.front) kept.0 in omega (arith, same)
        | inr more ↦
            let q : Numbers = numbers_at a.taken p in
            let same : front_at b.taken p ≡ reach_of q = ap (λ (r : Numbers). r.front) more.1 in
            let ge = reach_from-ge q.front q.loose in
            omega (arith, same, ge)
      ]

  held-further : (p : ℕ) (s : Content) → Contains (held_at b.parts p) s → Contains (held_at a.parts p) s
  held-further p s h =
      elim (everywhere p) [
        | inl kept ↦ subst (λ (k : Part). Contains k.held s) kept.1 h
        | inr more ↦
            Contains-drop (run_at (numbers_at a.taken p)) (held_at a.parts p) s (subst (λ (k : Part). Contains k.held s) more.2.is h)
      ]

  size-further : (p : ℕ) → size_of (numbers_at b.taken p) ≡ size_of (numbers_at a.taken p)
  size-further p =
      elim (everywhere p) [
        | inl kept ↦ ap (λ (q : Numbers). size_of q) kept.0
        | inr more ↦
            ap (λ (q : Numbers). size_of q) more.1
            ∙ size-settled a.trace_id a.processors p (numbers_at a.taken p) (part_at a.parts p) (is.each p more.0)
      ]

  -- all that a compaction keeps
  pub AreCompacted-further : AreCompacted a b 0
  AreCompacted-further = record {
    state = IsState-further;
    trace_id = f.trace_id;
    processors = f.processors;
    keys = HasTaken-further;
    right = IsRight-further;
    fronts = fronts-further;
    held = held-further;
    number = sum_by-agree b.taken a.taken f.places size-further;
    least = λ p lt. absurd (omega (arith, lt));
  }
