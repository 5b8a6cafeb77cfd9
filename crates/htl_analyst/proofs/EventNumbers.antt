-- The number of events of the taken keys is what the parts keep.
use Rattle.std.proofs.Common.{◌≡◌, ℕ, suc, ◌+◌, ◌<◌, ◌≤◌, List, [], ◌∷◌, ◌++◌, length, length-append, sym, ap, ◌∙◌, arith}
use Rattle.std.specs.Prelude.{sum_by}
use Rattle.std.proofs.lemmas.List.Sums.{sum_by-cons}
use Rattle.htl_event.specs.Events.{Event}
use Rattle.htl_segment.specs.Traces.{Trace, all_events, events_of}
use Rattle.htl_taken.specs.declared.TheConstants.{MAX_FRONT}
use Rattle.htl_taken.proofs.Rising.{length-Rises}
use Rattle.htl_taken.specs.Numbers.{Numbers, front_at}
use Rattle.htl_analyst.specs.States.{Part, part_at, State}
use Rattle.htl_analyst.specs.Keys.{keys}
use Rattle.htl_analyst.specs.Right.{IsPart, IsRight, run_events}
use Rattle.htl_analyst.specs.TakenEvents.{taken_events, events_kept}
use Rattle.htl_analyst.proofs.Held.{length-numbers}
use Rattle.htl_analyst.proofs.Folds.{events_few}
use Rattle.htl_analyst.proofs.KeyEvents.{from_on, events_from, events_past, events_all}

-- of the parts from p on
number_from : (T : Trace) (a : State) → IsRight a T → (p : ℕ) (ks : List Part)
    → ((i : ℕ) → i < length ks → part_at ks i ≡ part_at a.parts (p + i)) → p + length ks ≡ a.processors
    → sum_by events_kept ks ≡ length (events_of (from_on p (keys a)) T.segments)
number_from T a right p [] same len = sym (ap length (events_past T a right p (omega (arith, len))))
number_from T a right p (k ∷ ks) same len =
    let lt : p < a.processors = omega (arith, len) in
    let zero_is : p + 0 ≡ p = omega arith in
    let here : k ≡ part_at a.parts p = same 0 (omega arith) ∙ ap (λ (n : ℕ). part_at a.parts n) zero_is in
    let run : List Event = run_events T p (front_at a.taken p) in
    let held : List Event = all_events (part_at a.parts p).held in
    let rest : List Event = events_of (from_on (p + 1) (keys a)) T.segments in
    let others : sum_by events_kept ks ≡ length rest = number_from T a right (p + 1) ks
    (λ i in_ks. (let e : p + suc i ≡ (p + 1) + i = omega arith in same (suc i) (omega (arith, in_ks))
    ∙ ap (λ (n : ℕ). part_at a.parts n) e)) (omega (arith, len)) in
    let own : events_kept k ≡ length run + length held =
    ap (λ (l : Part). events_kept l) here ∙ ap (λ (n : ℕ). n + length held) (right.each p lt).folded.number in
    let both = length-append run (held ++ rest) in
    let more = length-append held rest in
    let sum = sum_by-cons events_kept k ks in
    let all = ap length (events_from T a right p lt) in
    omega (arith, others, own, both, more, sum, all)

-- the events that the parts keep are as many as those of the taken keys
pub number_kept : (T : Trace) (a : State) → IsRight a T → sum_by events_kept a.parts ≡ length (taken_events T a)
number_kept T a right =
    number_from T a right 0 a.parts (λ i lt. (let e : i ≡ 0 + i = omega arith in ap (λ (n : ℕ). part_at a.parts n) e))
    (let e = right.state.parts in omega (arith, e))
    ∙ ap length (events_all T a)

-- of one processor there are fewer than 2^44
pub kept_few : (id count p : ℕ) (q : Numbers) (k : Part) → IsPart id count p q k → events_kept k ≤ 17592186040320
kept_few id count p q k is =
    let few = events_few id count p k.held is.owned in
    let long = length-Rises q.front MAX_FRONT q.loose is.proper.rises in
    let same = ap length is.numbers in
    let len = length-numbers k.held in
    let old = is.bounded.events in
    omega (arith, few, long, same, len, old)
