-- A take of a new segment takes one segment more, and a compaction takes as many as there were.
use Rattle.std.proofs.Common.{◌≡◌, ℕ, suc, ◌+◌, ◌-◌, ◌<◌, List, [], ◌∷◌, length, sum_by, refl, sym, ap, ◌∙◌, arith}
use Rattle.std.proofs.lemmas.List.{length-drop}
use Rattle.std.proofs.lemmas.List.Edits.{length-insert}
use Rattle.std.proofs.lemmas.List.Sums.{sum_by-set, sum_by-cons}
use Rattle.htl_segment.specs.Content.{Content}
use Rattle.htl_taken.specs.Numbers.{Numbers, no_numbers, numbers_at, with_loose, settled, reach_of, size_of}
use Rattle.htl_taken.specs.Rising.{gap_of}
use Rattle.htl_taken.proofs.Numbers.{settled-drop}
use Rattle.htl_taken.proofs.Reaching.{reach_from-ge}
use Rattle.htl_taken.proofs.Rising.{gap_within}
use Rattle.htl_analyst.specs.States.{Part, part_at, State}
use Rattle.htl_analyst.specs.Keys.{number_taken}
use Rattle.htl_analyst.specs.Right.{IsPart, IsState}
use Rattle.htl_analyst.specs.Steps.{with_segment}
use Rattle.htl_analyst.specs.StepParts.{IsCompactedAt}
use Rattle.htl_analyst.proofs.Held.{length-numbers}
use Rattle.htl_analyst.proofs.Folds.{run_within}

size-with_loose : (q : Numbers) (n : ℕ) → size_of (with_loose q n) ≡ size_of q + 1
size-with_loose q n =
    let len = length-insert q.loose (gap_of n q.loose) n (gap_within n q.loose) in
    omega (arith, len)

-- with a new segment held, one segment more is taken
pub number-with_segment : (a : State) (s : Content) → IsState a → s.processor < a.processors
    → number_taken (with_segment a s) ≡ number_taken a + 1
number-with_segment a s is lt =
    let q : Numbers = numbers_at a.taken s.processor in
    let within : s.processor < length a.taken = (let e = is.places in omega (arith, lt, e)) in
    let all = sum_by-set size_of a.taken s.processor (with_loose q s.number) no_numbers within in
    let one = size-with_loose q s.number in
    omega (arith, all, one)

-- as many numbers as the front moves are no longer loose
pub size-settled : (id count p : ℕ) (q : Numbers) (k : Part) → IsPart id count p q k → size_of (settled q) ≡ size_of q
size-settled id count p q k is =
    let ge = reach_from-ge q.front q.loose in
    let within = run_within id count p q k is in
    let same = ap length is.numbers in
    let len = length-numbers k.held in
    let rest : length (settled q).loose ≡ length q.loose - (reach_of q - q.front) =
    ap length (sym (settled-drop q is.proper)) ∙ length-drop (reach_of q - q.front) q.loose in
    omega (arith, ge, within, same, len, rest)

-- folding a processor's run leaves the number of taken segments as it is
pub number-compacted : (a b : State) (p : ℕ) → IsState a → p < a.processors → IsCompactedAt a b p → number_taken b ≡ number_taken a
number-compacted a b p is lt f =
    let q : Numbers = numbers_at a.taken p in
    let within : p < length a.taken = (let e = is.places in omega (arith, lt, e)) in
    let all = sum_by-set size_of a.taken p (settled q) no_numbers within in
    let one = size-settled a.trace_id a.processors p q (part_at a.parts p) (is.each p lt) in
    let now = ap (λ (x : State). number_taken x) f.is in
    omega (arith, all, one, now)

-- lists of numbers that are as many at each processor are as many together
pub sum_by-agree : (qs rs : List Numbers) → length qs ≡ length rs
    → ((p : ℕ) → size_of (numbers_at qs p) ≡ size_of (numbers_at rs p)) → sum_by size_of qs ≡ sum_by size_of rs
sum_by-agree [] [] len each = refl
sum_by-agree [] (r ∷ rs) len each = absurd (omega (arith, len))
sum_by-agree (q ∷ qs) [] len each = absurd (omega (arith, len))
sum_by-agree (q ∷ qs) (r ∷ rs) len each =
    let rest = sum_by-agree qs rs (omega (arith, len)) (λ p. each (suc p)) in
    let here = each 0 in
    let left = sum_by-cons size_of q qs in
    let right = sum_by-cons size_of r rs in
    omega (arith, rest, here, left, right)
