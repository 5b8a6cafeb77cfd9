-- The run of one processor can be folded, which keeps the state right and its keys as they are.
use Rattle.std.proofs.Common.{◌≡◌, ◌≢◌, ℕ, ◌+◌, ◌-◌, ◌*◌, ◌^◌, ◌<◌, ◌≤◌, List, [], ◌∷◌, ◌++◌, length, length-append, take, drop}
use Rattle.std.proofs.Common.{sym, ap, ◌∙◌, subst, arith, inl, inr}
use Rattle.std.specs.Prelude.{Contains, ◌↔◌}
use Rattle.std.specs.List.{AllByRecursion}
use Rattle.std.proofs.lemmas.Bool.{cases_eq, cases_lt}
use Rattle.std.proofs.lemmas.List.{drop-map}
use Rattle.htl_event.specs.Events.{Event}
use Rattle.htl_event.proofs.Members.{at_member, AllByRecursion-weaker}
use Rattle.htl_segment.specs.Content.{Content}
use Rattle.htl_segment.specs.Traces.{Trace, HasKey, all_events}
use Rattle.htl_taken.specs.NumberSets.{Has}
use Rattle.htl_taken.specs.Numbers.{Numbers, numbers_at, reach_of, settled}
use Rattle.htl_taken.specs.Rising.{reach_from}
use Rattle.htl_taken.specs.declared.TheConstants.{MAX_FRONT}
use Rattle.htl_taken.proofs.Reaching.{reach_from-ge, reach_from-le}
use Rattle.htl_taken.proofs.Rising.{length-Rises}
use Rattle.htl_taken.proofs.Numbers.{IsProper-settled, Has-settled, settled-drop}
use Rattle.htl_analyst.specs.States.{Folded, Part, part, part_at, held_at, folded_at, State}
use Rattle.htl_analyst.specs.Keys.{HasTaken}
use Rattle.htl_analyst.specs.Right.{IsOwned, IsFolded, IsWithin, run_events, IsPart, IsState, IsRightAt, IsRight}
use Rattle.htl_analyst.specs.StepParts.{run_length, run_of, settled_with, IsCompactedAt}
use Rattle.htl_analyst.proofs.Lists.{all-drop, all-take, length-take-le}
use Rattle.htl_analyst.proofs.Held.{number}
use Rattle.htl_analyst.proofs.Runs.{IsRunFrom, events_of-run, run_taken, run_has}
use Rattle.htl_taken.proofs.Members.{Contains-drop}
use Rattle.htl_analyst.proofs.Updates.{place-set_other, part-set_same, part-set_other, IsState-updated, IsRight-updated}
use Rattle.htl_taken.proofs.NumberSets.{numbers_at-set_same}

pub run_reaches : (q : Numbers) → q.front + (reach_of q - q.front) ≡ reach_of q
run_reaches q = let ge = reach_from-ge q.front q.loose in omega (arith, ge)

owned_by : (id count p : ℕ) (hs : List Content) → AllByRecursion (IsOwned id count p) hs → AllByRecursion (λ s. s.processor ≡ p) hs
owned_by id count p hs all = AllByRecursion-weaker (IsOwned id count p) (λ s. s.processor ≡ p) hs (λ s o. o.processor) all

-- the held segments of the run
pub run_is : (id count p : ℕ) (q : Numbers) (k : Part) → IsPart id count p q k
    → IsRunFrom p q.front (take (reach_of q - q.front) k.held) × (length (take (reach_of q - q.front) k.held) ≡ reach_of q - q.front)
run_is id count p q k is =
    run_taken p q.front (reach_of q - q.front) k.held (owned_by id count p k.held is.owned)
    (run_reaches q ∙ ap (λ (ns : List ℕ). reach_from q.front ns) (sym is.numbers))

-- no run is longer than the list of held segments
pub run_within : (id count p : ℕ) (q : Numbers) (k : Part) → IsPart id count p q k → reach_of q - q.front ≤ length k.held
run_within id count p q k is =
    let r = (run_is id count p q k is).1 in
    let t = length-take-le (reach_of q - q.front) k.held in
    omega (arith, r, t)

-- a segment has 4,096 events at most
pub events_few : (id count p : ℕ) (hs : List Content) → AllByRecursion (IsOwned id count p) hs → length (all_events hs) ≤ 4096 * length hs
events_few id count p [] all = omega arith
events_few id count p (h ∷ hs) all =
    let ih = events_few id count p hs all.1 in
    let here = all.0.fits.count in
    let both = length-append h.events (all_events hs) in
    omega (arith, ih, here, both)

-- its segments have 4,096 events each at most
pub run_few : (id count p : ℕ) (q : Numbers) (k : Part) → IsPart id count p q k
    → length (all_events (take (reach_of q - q.front) k.held)) ≤ 4096 * (reach_of q - q.front)
run_few id count p q k is =
    let few =
    events_few id count p (take (reach_of q - q.front) k.held) (all-take (IsOwned id count p) (reach_of q - q.front) k.held is.owned) in
    let len = (run_is id count p q k is).1 in
    omega (arith, few, len)

-- what is within a bound is within each above it
pub IsWithin-above : (n m : ℕ) (f : Folded) → IsWithin n f → n ≤ m → IsWithin m f
IsWithin-above n m f is le =
    let counts = is.counts in
    let events = is.events in
    record { counts = omega (arith, counts, le); events = omega (arith, events, le) }

-- no count outgrows 64 bits
pub totals_fit : (id count p : ℕ) (q : Numbers) (k : Part) → IsPart id count p q k
    → 4096 * q.front + 4096 * (reach_of q - q.front) < 2 ^ 64
totals_fit id count p q k is =
    let reach = reach_from-le q.front q.loose in
    let high = length-Rises q.front MAX_FRONT q.loose is.proper.rises in
    let r = run_reaches q in
    omega (arith, reach, high, r)

module _ (a : State) (p : ℕ) (is : IsState a) (lt : p < a.processors) (folded : Folded) where
  abbrev q : Numbers
  q = numbers_at a.taken p

  abbrev hs : List Content
  hs = held_at a.parts p

  abbrev k : ℕ
  k = run_length a p

  was : IsPart a.trace_id a.processors p q (part_at a.parts p)
  was = is.each p lt

  run : IsRunFrom p q.front (take k hs) × (length (take k hs) ≡ k)
  run = run_is a.trace_id a.processors p q (part_at a.parts p) was

  -- a part without its run, over a fold that is within bounds, belongs to the settled numbers
  pub settled_part : IsWithin (4096 * reach_of q) folded → IsPart a.trace_id a.processors p (settled q) (part (drop k hs) folded)
  settled_part bounded = record {
    proper = IsProper-settled q was.proper;
    numbers = sym (drop-map number k hs) ∙ ap (drop k) was.numbers ∙ settled-drop q was.proper;
    owned = all-drop (IsOwned a.trace_id a.processors p) k hs was.owned;
    bounded = bounded;
  }

  -- a state whose front moved to its reach, over a fold that is within bounds, is a state
  pub IsState-settled : IsWithin (4096 * reach_of q) folded → IsState (settled_with a p folded)
  IsState-settled bounded = IsState-updated a p (settled q) (part (drop k hs) folded) is lt (settled_part bounded)

  module _ (T : Trace) (right : IsRight a T) where
    old : IsRightAt T p q (part_at a.parts p)
    old = right.each p lt

    run_in_trace : AllByRecursion (Contains T.segments) (take k hs)
    run_in_trace = all-take (Contains T.segments) k hs old.held

    -- what lies below the new front is what lay below the old one, and then the run
    pub grown : run_events T p (reach_of q) ≡ run_events T p q.front ++ run_of a p
    grown =
        let e : q.front + length (take k hs) ≡ reach_of q = (let r = run.1 in let s = run_reaches q in omega (arith, r, s)) in
        ap (λ (f : ℕ). run_events T p f) (sym e)
        ∙ events_of-run T.segments right.collection.in_order p q.front (take k hs) run.0 run_in_trace

    complete : (n : ℕ) → n < reach_of q → HasKey T p n
    complete n below_reach =
        elim (cases_lt n q.front) [
          | inl low ↦ old.complete n low
          | inr le ↦
              let s = run_has p q.front n (take k hs) run.0 le (let r = run.1 in let t = run_reaches q in omega (arith, r, t)) in
              (s.0, at_member (Contains T.segments) (take k hs) s.0 run_in_trace s.1, s.2, s.3)
        ]

    -- what is right about a processor stays so where its run is folded and its front moved
    pub IsRightAt-settled : ((events : List Event) → IsFolded (folded_at a.parts p) events → IsFolded folded (events ++ run_of a p))
        → IsRightAt T p (settled q) (part (drop k hs) folded)
    IsRightAt-settled joins = record {
      complete = complete;
      held = all-drop (Contains T.segments) k hs old.held;
      folded = subst (IsFolded folded) (sym grown) (joins (run_events T p q.front) old.folded);
    }

    pub IsRight-settled : IsWithin (4096 * reach_of q) folded
        → ((events : List Event) → IsFolded (folded_at a.parts p) events → IsFolded folded (events ++ run_of a p))
        → IsRight (settled_with a p folded) T
    IsRight-settled bounded joins =
        IsRight-updated a p (settled q) (part (drop k hs) folded) is lt T right (settled_part bounded) (IsRightAt-settled joins)

-- ---- the fold as a step

-- no more is folded than all below the reach
pub within_reach : (a : State) (p : ℕ) → IsState a → p < a.processors → (d : Folded)
    → ((most : ℕ) → IsWithin most (folded_at a.parts p) → IsWithin (most + 4096 * run_length a p) d)
    → IsWithin (4096 * reach_of (numbers_at a.taken p)) d
within_reach a p is lt d more =
    let q : Numbers = numbers_at a.taken p in
    let r = run_reaches q in
    IsWithin-above (4096 * q.front + 4096 * run_length a p) (4096 * reach_of q) d (more (4096 * q.front) (is.each p lt).bounded)
    (omega (arith, r))

module _ (a b : State) (p : ℕ) (is : IsState a) (lt : p < a.processors) (f : IsCompactedAt a b p) where
  bounded : IsWithin (4096 * reach_of (numbers_at a.taken p)) f.folded
  bounded = within_reach a p is lt f.folded f.bounded

  -- a state with one processor's run folded is a state
  pub IsState-compacted : IsState b
  IsState-compacted = subst IsState (sym f.is) (IsState-settled a p is lt f.folded bounded)

  -- a state with one processor's run folded stays right about each trace
  pub IsRight-compacted : (T : Trace) → IsRight a T → IsRight b T
  IsRight-compacted T right = subst (λ (x : State). IsRight x T) (sym f.is) (IsRight-settled a p is lt f.folded T right bounded f.joins)

  in_places : p < length a.taken
  in_places = let e = is.places in omega (arith, e)

  in_parts : p < length a.parts
  in_parts = let e = is.parts in omega (arith, e)

  -- the numbers of the folded processor are settled
  pub place-compacted : numbers_at b.taken p ≡ settled (numbers_at a.taken p)
  place-compacted = ap (λ (x : State). numbers_at x.taken p) f.is ∙ numbers_at-set_same a.taken p (settled (numbers_at a.taken p)) in_places

  -- the numbers of each other processor stay
  pub place-compacted_other : (r : ℕ) → r ≢ p → numbers_at b.taken r ≡ numbers_at a.taken r
  place-compacted_other r ne =
      ap (λ (x : State). numbers_at x.taken r) f.is ∙ place-set_other a.taken p r (settled (numbers_at a.taken p)) ne

  pub part-compacted : part_at b.parts p ≡ part (drop (run_length a p) (held_at a.parts p)) f.folded
  part-compacted =
      ap (λ (x : State). part_at x.parts p) f.is
      ∙ part-set_same a.parts p (part (drop (run_length a p) (held_at a.parts p)) f.folded) in_parts

  pub part-compacted_other : (r : ℕ) → r ≢ p → part_at b.parts r ≡ part_at a.parts r
  part-compacted_other r ne =
      ap (λ (x : State). part_at x.parts r) f.is
      ∙ part-set_other a.parts p r (part (drop (run_length a p) (held_at a.parts p)) f.folded) ne

  -- what is held was held before
  pub held-compacted : (r : ℕ) (s : Content) → Contains (held_at b.parts r) s → Contains (held_at a.parts r) s
  held-compacted r s h =
      elim (cases_eq r p) [
        | inl e ↦
            subst (λ (x : ℕ). Contains (held_at a.parts x) s) (sym e)
            (Contains-drop (run_length a p) (held_at a.parts p) s
            (subst (λ (k : Part). Contains k.held s) part-compacted (subst (λ (x : ℕ). Contains (held_at b.parts x) s) e h)))
        | inr ne ↦ subst (λ (k : Part). Contains k.held s) (part-compacted_other r ne) h
      ]

  -- folding a run leaves which segments are taken as it is
  pub HasTaken-compacted : (r n : ℕ) → HasTaken b r n ↔ HasTaken a r n
  HasTaken-compacted r n =
      elim (cases_eq r p) [
        | inl e ↦
            subst (λ (x : ℕ). HasTaken b x n ↔ HasTaken a x n) (sym e)
            (subst (λ (x : Numbers). Has x n ↔ HasTaken a p n) (sym place-compacted) (Has-settled (numbers_at a.taken p) n))
        | inr ne ↦ subst (λ (x : Numbers). Has x n ↔ HasTaken a r n) (sym (place-compacted_other r ne)) (λ h. h, λ h. h)
      ]
