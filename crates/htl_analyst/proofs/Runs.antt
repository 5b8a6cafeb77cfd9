-- A run of segments that goes on from a front without a gap ends at the reach.
use Rattle.std.proofs.Common.{◌≡◌, ℕ, zero, suc, ◌+◌, ◌<◌, ◌≤◌, List, [], ◌∷◌, ◌++◌, length, take, map, refl, sym, ap, ◌∙◌, subst}
use Rattle.std.proofs.Common.{arith, append_assoc, append-nil, inl, inr}
use Rattle.std.specs.Prelude.{Contains}
use Rattle.std.specs.List.{AllByRecursion}
use Rattle.std.proofs.lemmas.Bool.{cases_eq}
use Rattle.htl_event.specs.Events.{Event}
use Rattle.htl_event.proofs.Members.{Contains-here, Contains-there}
use Rattle.htl_segment.specs.Content.{Content}
use Rattle.htl_segment.specs.Keys.{run_below}
use Rattle.htl_segment.specs.Traces.{AreInOrder, all_events, events_of}
use Rattle.htl_segment.proofs.Traces.{runs_grow}
use Rattle.htl_taken.specs.Rising.{reach_from}
use Rattle.htl_analyst.proofs.Held.{number}
use Rattle.htl_taken.proofs.Reaching.{reach-stop, reach-next}

-- segments of the processor whose numbers go on from n without a gap
abbrev pub IsRunFrom : ℕ → ℕ → List Content → Type 0
IsRunFrom p n [] = Unit {0}
IsRunFrom p n (s ∷ ss) = (s.processor ≡ p) × (s.number ≡ n) × IsRunFrom p (n + 1) ss

run_grows : (ss : List Content) (s : Content) (p n : ℕ) → AreInOrder ss → Contains ss s → s.processor ≡ p → s.number ≡ n
    → events_of (run_below p (n + 1)) ss ≡ events_of (run_below p n) ss ++ s.events
run_grows ss s p n ordered h ep en =
    subst (λ (q : ℕ). events_of (run_below q (n + 1)) ss ≡ events_of (run_below q n) ss ++ s.events) ep
    (subst (λ (m : ℕ). events_of (run_below s.processor (m + 1)) ss ≡ events_of (run_below s.processor m) ss ++ s.events) en
    (runs_grow ss s ordered h))

-- the events below the end of a run are those below its begin, and then the run's
pub events_of-run : (ss : List Content) → AreInOrder ss → (p n : ℕ) (hs : List Content) → IsRunFrom p n hs → AllByRecursion (Contains ss) hs
    → events_of (run_below p (n + length hs)) ss ≡ events_of (run_below p n) ss ++ all_events hs
events_of-run ss ordered p n [] run all =
    let e : n + 0 ≡ n = omega arith in ap (λ (k : ℕ). events_of (run_below p k) ss) e ∙ sym (append-nil (events_of (run_below p n) ss))
events_of-run ss ordered p n (h ∷ hs) run all =
    let e : n + length (h ∷ hs) ≡ (n + 1) + length hs = omega arith in
    ap (λ (k : ℕ). events_of (run_below p k) ss) e
    ∙ events_of-run ss ordered p (n + 1) hs run.2 all.1
    ∙ ap (λ (es : List Event). es ++ all_events hs) (run_grows ss h p n ordered all.0 run.0 run.1)
    ∙ append_assoc (events_of (run_below p n) ss) h.events (all_events hs)

-- the held segments up to the reach are a run
pub run_taken : (p n k : ℕ) (hs : List Content) → AllByRecursion (λ s. s.processor ≡ p) hs → n + k ≡ reach_from n (map number hs)
    → IsRunFrom p n (take k hs) × (length (take k hs) ≡ k)
run_taken p n zero hs owner e = (tt, refl)
run_taken p n (suc k) [] owner e = absurd (omega (arith, e))
run_taken p n (suc k) (h ∷ hs) owner e =
    elim (cases_eq h.number n) [
      | inl same ↦
          let at : (n + 1) + k ≡ reach_from (n + 1) (map number hs) =
          (let h' = e ∙ reach-next n h.number (map number hs) same in omega (arith, h')) in
          let rest = run_taken p (n + 1) k hs owner.1 at in
          ((owner.0, same, rest.0), ap suc rest.1)
      | inr other ↦ let at = e ∙ reach-stop n h.number (map number hs) other in absurd (omega (arith, at))
    ]

-- every number of a run is there
pub run_has : (p n m : ℕ) (hs : List Content) → IsRunFrom p n hs → n ≤ m → m < n + length hs
    → (s : Content) × Contains hs s × (s.processor ≡ p) × (s.number ≡ m)
run_has p n m [] run le lt = absurd (omega arith)
run_has p n m (h ∷ hs) run le lt =
    elim (cases_eq m n) [
      | inl same ↦ (h, Contains-here h hs, run.0, run.1 ∙ sym same)
      | inr other ↦
          let rest = run_has p (n + 1) m hs run.2 (omega (arith, other)) (omega arith) in
          (rest.0, Contains-there h hs rest.0 rest.1, rest.2, rest.3)
    ]
