-- A segment can be taken, which keeps the state right and adds its key.
use Rattle.std.proofs.Common.{◌≡◌, ℕ, ◌<◌, ◌≤◌, List, length, map, insert, refl, sym, ap, ◌∙◌, subst, arith, inl, inr, ◌⊎◌}
use Rattle.std.specs.Prelude.{Contains, ◌↔◌}
use Rattle.std.proofs.lemmas.Bool.{cases_eq}
use Rattle.htl_event.proofs.Members.{at_member, Contains-map}
use Rattle.htl_segment.specs.Content.{Content, Fits}
use Rattle.htl_segment.specs.Traces.{Trace}
use Rattle.htl_taken.specs.declared.TheConstants.{MAX_FRONT}
use Rattle.htl_taken.specs.NumberSets.{Has}
use Rattle.htl_taken.specs.Numbers.{Numbers, numbers_at, with_loose}
use Rattle.htl_taken.specs.Rising.{gap_of}
use Rattle.htl_taken.proofs.Numbers.{IsProper-with_loose, Has-with_loose}
use Rattle.htl_analyst.specs.States.{Part, part, part_at, held_at, State}
use Rattle.htl_analyst.specs.Keys.{HasTaken}
use Rattle.htl_analyst.specs.Right.{IsOwned, IsPart, IsState, IsRight}
use Rattle.htl_analyst.specs.declared.fault.TakeFault.{TakeFault}
use Rattle.htl_analyst.specs.declared.fault.TakeFault.TheVariants.{OtherTrace, OtherProcessors, Conflict, NoMemory}
use Rattle.htl_analyst.specs.Refusals.{HoldsOther, IsOfState, TakeRefused}
use Rattle.htl_analyst.specs.Steps.{with_segment}
use Rattle.htl_analyst.proofs.Lists.{map-insert, all-insert}
use Rattle.htl_analyst.proofs.Held.{number, one_segment, one_held, length-numbers}
use Rattle.htl_taken.specs.Rising.{Rises}
use Rattle.htl_taken.proofs.Rising.{Rises-member, length-Rises}
use Rattle.htl_analyst.proofs.Updates.{place-set_other, IsState-updated, IsRight-updated}
use Rattle.htl_taken.proofs.NumberSets.{numbers_at-set_same}

module _ (a : State) (s : Content) (is : IsState a) (fits : Fits s) (of_state : IsOfState a s) (new : HasTaken a s.processor s.number
    → ⊥) where
  -- the segment's processor is one of the state's
  pub here : s.processor < a.processors
  here = let lt = fits.processor in let e = of_state.processors in omega (arith, lt, e)

  abbrev q : Numbers
  q = numbers_at a.taken s.processor

  abbrev k : Part
  k = part_at a.parts s.processor

  abbrev with_held : Part
  with_held = part (insert k.held (gap_of s.number q.loose) s) k.folded

  was : IsPart a.trace_id a.processors s.processor q k
  was = is.each s.processor here

  part_with : IsPart a.trace_id a.processors s.processor (with_loose q s.number) with_held
  part_with =
      let low : s.number < MAX_FRONT = (let le = fits.number in omega (arith, le)) in
      record {
        proper = IsProper-with_loose q s.number was.proper (not_below (λ lt. new (inl lt))) low (λ h. new (inr h));
        numbers = map-insert number k.held (gap_of s.number q.loose) s
            ∙ ap (λ (ns : List ℕ). insert ns (gap_of s.number q.loose) s.number) was.numbers;
        owned = all-insert (IsOwned a.trace_id a.processors s.processor) k.held (gap_of s.number q.loose) s was.owned
            (record { fits = fits; trace_id = of_state.trace_id; processors = of_state.processors; processor = refl });
        bounded = was.bounded;
      } where
        not_below : (s.number < q.front → ⊥) → q.front ≤ s.number
        not_below never = omega (arith, never)

  -- a state with a new segment held is a state
  pub IsState-with_segment : IsState (with_segment a s)
  IsState-with_segment = IsState-updated a s.processor (with_loose q s.number) with_held is here part_with

  -- a state that holds a new segment of a trace, about which it is right, stays right about it
  pub IsRight-with_segment : (T : Trace) → IsRight a T → Contains T.segments s → IsRight (with_segment a s) T
  IsRight-with_segment T right in_trace =
      let old = right.each s.processor here in
      IsRight-updated a s.processor (with_loose q s.number) with_held is here T right part_with
      (record {
        complete = old.complete;
        held =
            all-insert (Contains T.segments) k.held (gap_of s.number q.loose) s old.held in_trace;
        folded = old.folded;
      })

  -- the keys with one more
  pub HasTaken-with_segment : (p n : ℕ) → HasTaken (with_segment a s) p n ↔ (HasTaken a p n ⊎ ((p ≡ s.processor) × (n ≡ s.number)))
  HasTaken-with_segment p n =
      let places : s.processor < length a.taken = (let e = is.places in let lt = here in omega (arith, e, lt)) in
      elim (cases_eq p s.processor) [
        | inl e ↦ subst (λ (r : ℕ). HasTaken (with_segment a s) r n ↔ (HasTaken a r n ⊎ ((r ≡ s.processor) × (n ≡ s.number)))) (sym e)
            (subst (λ (x : Numbers). Has x n ↔ (Has q n ⊎ ((s.processor ≡ s.processor) × (n ≡ s.number))))
            (sym (numbers_at-set_same a.taken s.processor (with_loose q s.number) places))
            (let w = Has-with_loose q s.number n in (
              (λ h. elim (w.0 h) [ inl old ↦ inl old | inr same ↦ inr (refl, same) ]),
              (λ h. elim h [ inl old ↦ w.1 (inl old) | inr both ↦ w.1 (inr both.1) ]),
            )))
        | inr ne ↦ subst (λ (x : Numbers). Has x n ↔ (HasTaken a p n ⊎ ((p ≡ s.processor) × (n ≡ s.number))))
            (sym (place-set_other a.taken s.processor p (with_loose q s.number) ne))
            ((λ h. inl h), (λ h. elim h [ inl old ↦ old | inr both ↦ absurd (ne both.0) ]))
      ]

  -- no front moves
  pub fronts-with_segment : (p : ℕ) → (numbers_at a.taken p).front ≡ (numbers_at (with_segment a s).taken p).front
  fronts-with_segment p =
      let places : s.processor < length a.taken = (let e = is.places in let lt = here in omega (arith, e, lt)) in
      elim (cases_eq p s.processor) [
        | inl e ↦ subst (λ (r : ℕ). (numbers_at a.taken r).front ≡ (numbers_at (with_segment a s).taken r).front) (sym e)
            (sym (ap (λ (x : Numbers). x.front) (numbers_at-set_same a.taken s.processor (with_loose q s.number) places)))
        | inr ne ↦ sym (ap (λ (x : Numbers). x.front) (place-set_other a.taken s.processor p (with_loose q s.number) ne))
      ]

-- ---- a segment of a trace that the state is right about

-- a segment of a trace that the state is right about has the state's trace id and processor count
pub of_trace : (a : State) (T : Trace) → IsRight a T → (s : Content) → Contains T.segments s → IsOfState a s
of_trace a T right s in_trace =
    let same = at_member (λ (x : Content). (x.trace_id ≡ T.id) × (x.processors ≡ T.processors)) T.segments s right.collection.same in_trace in
    record { trace_id = same.0 ∙ right.id; processors = same.1 ∙ right.processors }

-- a segment of a trace that the state is right about fits the format
pub fits_of_trace : (a : State) (T : Trace) → IsRight a T → (s : Content) → Contains T.segments s → Fits s
fits_of_trace a T right s in_trace = at_member Fits T.segments s right.collection.fit in_trace

-- what is held of its key is that segment
pub agrees : (a : State) (T : Trace) → IsRight a T → (s : Content) → Contains T.segments s → HoldsOther a s → ⊥
agrees a T right s in_trace other =
    let lt : s.processor < a.processors =
    (let f = (fits_of_trace a T right s in_trace).processor in let e = (of_trace a T right s in_trace).processors in omega (arith, f, e)) in
    let held = held_at a.parts s.processor in
    let owned =
    at_member (IsOwned a.trace_id a.processors s.processor) held other.held (right.state.each s.processor lt).owned other.here in
    let there = at_member (Contains T.segments) held other.held (right.each s.processor lt).held other.here in
    other.other (one_segment T.segments right.collection.in_order other.held s there in_trace owned.processor other.number)

-- ---- what is held

-- a held segment's number is at or above the front, and leaves room for a front above it
pub held_above : (id count p : ℕ) (q : Numbers) (k : Part) → IsPart id count p q k → (s : Content) → Contains k.held s
    → (q.front ≤ s.number) × (s.number < MAX_FRONT)
held_above id count p q k is s h =
    Rises-member q.front MAX_FRONT q.loose s.number is.proper.rises
    (subst (λ (ns : List ℕ). Contains ns s.number) is.numbers (Contains-map number k.held s h))

-- two held segments with one number are one
pub held_once : (id count p : ℕ) (q : Numbers) (k : Part) → IsPart id count p q k → (s t : Content) → Contains k.held s
    → Contains k.held t → s.number ≡ t.number → s ≡ t
held_once id count p q k is s t =
    one_held q.front MAX_FRONT k.held (subst (Rises q.front MAX_FRONT) (sym is.numbers) is.proper.rises) s t

-- where no held segment has the number, it isn't loose
pub not_loose_not_held : (id count p : ℕ) (q : Numbers) (k : Part) → IsPart id count p q k → (n : ℕ) → (Contains q.loose n → ⊥)
    → (s : Content)
    → Contains k.held s → s.number ≡ n → ⊥
not_loose_not_held id count p q k is n absent s h e =
    absent (subst (λ (ns : List ℕ). Contains ns n) is.numbers (subst (Contains (map number k.held)) e (Contains-map number k.held s h)))

-- no more segments are held than the greatest front
pub held_few : (id count p : ℕ) (q : Numbers) (k : Part) → IsPart id count p q k → length k.held ≤ MAX_FRONT
held_few id count p q k is =
    let long = length-Rises q.front MAX_FRONT q.loose is.proper.rises in
    let same = ap length is.numbers in
    let len = length-numbers k.held in
    omega (arith, long, same, len)

-- ---- refusals and repeats

-- taking a segment of a trace that the state is right about is refused for want of memory alone
pub take_lawful : (a : State) (T : Trace) → IsRight a T → (s : Content) → Contains T.segments s → (fault : TakeFault)
    → TakeRefused a s fault
    → fault ≡ NoMemory
take_lawful a T right s in_trace OtherTrace r = absurd (r (of_trace a T right s in_trace).trace_id)
take_lawful a T right s in_trace OtherProcessors r = absurd (r.1 (of_trace a T right s in_trace).processors)
take_lawful a T right s in_trace (Conflict p n) r = absurd (agrees a T right s in_trace r.3)
take_lawful a T right s in_trace NoMemory r = refl

-- a repeat of a segment that was taken adds no key
pub repeat_keys : (a : State) (s : Content) → HasTaken a s.processor s.number → (p n : ℕ)
    → HasTaken a p n ↔ (HasTaken a p n ⊎ ((p ≡ s.processor) × (n ≡ s.number)))
repeat_keys a s taken p n = (
  (λ h. inl h),
  (λ h. elim h [
    | inl old ↦ old
    | inr both ↦ subst (λ (q : ℕ). HasTaken a q n) (sym both.0) (subst (λ (m : ℕ). HasTaken a s.processor m) (sym both.1) taken)
  ]),
)
