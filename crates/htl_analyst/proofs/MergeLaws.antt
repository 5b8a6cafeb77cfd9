-- Merges commute, associate and change nothing when repeated, and standing states with the same keys are the same.
use Rattle.std.proofs.Common.{◌≡◌, ℕ, ◌≤◌, length, sym, ◌∙◌, subst, arith, inl, inr}
use Rattle.std.proofs.lemmas.Bool.{cases_lt}
use Rattle.htl_segment.specs.Traces.{Trace}
use Rattle.htl_taken.specs.Numbers.{Numbers, numbers_at, front_at, IsProper, reach_of}
use Rattle.htl_taken.specs.Laws.{AreUnion, AreProper, AreSettled}
use Rattle.htl_taken.proofs.Numbers.{Has-before_reach}
use Rattle.htl_taken.proofs.Reaching.{reach_from-ge}
use Rattle.htl_taken.proofs.NumberSets.{numbers_at-past, IsProper-no_numbers}
use Rattle.htl_taken.proofs.Keys.{keys_within}
use Rattle.htl_taken.proofs.SetLaws as sets
use Rattle.htl_analyst.specs.States.{State}
use Rattle.htl_analyst.specs.Keys.{HasTaken}
use Rattle.htl_analyst.specs.Right.{IsState, IsRight}
use Rattle.htl_analyst.specs.Steps.{IsMerge}
use Rattle.htl_analyst.specs.Laws.{IsCommutative, IsAssociative, IsIdempotent, IsLeastMerge, AreEqualOnceCompacted}
use Rattle.htl_analyst.proofs.Merges.{of_one_trace, IsRight-merged, HasTaken-merged}
use Rattle.htl_analyst.proofs.Determined.{determined}

are_union : (a b c : State) → IsState a → IsMerge a b c → AreUnion a.taken b.taken c.taken
are_union a b c is m = record { len = m.places ∙ sym is.places; each = m.taken }

as_many_places : (T : Trace) (a b : State) → IsRight a T → IsRight b T → length a.taken ≡ length b.taken
as_many_places T a b ra rb = ra.state.places ∙ sym ra.processors ∙ rb.processors ∙ sym rb.state.places

right_merged : (T : Trace) (a b c : State) → IsRight a T → IsRight b T → IsMerge a b c → IsRight c T
right_merged T a b c ra rb m = IsRight-merged a b c (of_one_trace T a b ra rb) m T ra rb

are_proper : (a : State) → IsState a → AreProper a.taken
are_proper a is p =
    elim (cases_lt p a.processors) [
      | inl lt ↦ (is.each p lt).proper
      | inr le ↦
          let past : length a.taken ≤ p = (let e = is.places in omega (arith, e, le)) in
          subst IsProper (sym (numbers_at-past a.taken p past)) (IsProper-no_numbers p)
    ]

-- either of two analysts may be merged into the other
pub commutative : IsCommutative
commutative T a b ab ba trace ra rb m w =
    determined T ab ba trace (right_merged T a b ab ra rb m) (right_merged T b a ba rb ra w)
    (sets.commutative a.taken b.taken ab.taken ba.taken (as_many_places T a b ra rb) (are_union a b ab ra.state m)
    (are_union b a ba rb.state w))

-- any two of three may be merged first
pub associative : IsAssociative
associative T a b c ab bc l r trace ra rb rc mab mbc ml mr =
    let rab = right_merged T a b ab ra rb mab in
    let rbc = right_merged T b c bc rb rc mbc in
    determined T l r trace (right_merged T ab c l rab rc ml) (right_merged T a bc r ra rbc mr)
    (sets.associative a.taken b.taken c.taken ab.taken bc.taken l.taken r.taken
    (are_union a b ab ra.state mab) (are_union b c bc rb.state mbc) (are_union ab c l rab.state ml) (are_union a bc r ra.state mr))

-- merged with itself an analyst stays the same
pub idempotent : IsIdempotent
idempotent T a c trace ra m =
    determined T c a trace (right_merged T a a c ra ra m) ra
    (sets.idempotent a.taken c.taken (are_proper a ra.state) (are_union a a c ra.state m))

-- the merge is the least state above both
pub least : IsLeastMerge
least T a b m ra rb is =
    let rm = right_merged T a b m ra rb is in
    record {
      left = record { lower = ra; upper = rm; keys = λ p n h. (HasTaken-merged a b m is p n).1 (inl h) };
      right = record { lower = rb; upper = rm; keys = λ p n h. (HasTaken-merged a b m is p n).1 (inr h) };
      least = λ c x y. record {
        lower = rm;
        upper = x.upper;
        keys = λ p n h. elim ((HasTaken-merged a b m is p n).0 h) [ inl l ↦ x.keys p n l | inr r ↦ y.keys p n r ];
      };
    }

are_settled : (a : State) → ((p : ℕ) → HasTaken a p (front_at a.taken p) → ⊥) → AreSettled a.taken
are_settled a absent p =
    let q : Numbers = numbers_at a.taken p in
    let ge = reach_from-ge q.front q.loose in
    elim (cases_lt q.front (reach_of q)) [
      | inl lt ↦ absurd (absent p (Has-before_reach q q.front lt))
      | inr le ↦ omega (arith, le, ge)
    ]

-- analysts with the same segments are equal once compacted
pub equal_once_compacted : AreEqualOnceCompacted
equal_once_compacted T a b trace sa sb into from =
    determined T a b trace sa.right sb.right
    (sets.determined a.taken b.taken (as_many_places T a b sa.right sb.right) (are_proper a sa.right.state) (are_proper b sb.right.state)
    (are_settled a sa.least) (are_settled b sb.least) (keys_within a.taken b.taken into) (keys_within b.taken a.taken from))
