-- Sets of runs are truth values, one for each processor, and segments and states have such sets.
use Rattle.std.proofs.Common.{◌≡◌, ◌≢◌, ℕ, zero, suc, ◌<◌, Bool, true, false, true≢false, not, ◌&&◌, ◌||◌, nat_lt, eqb}
use Rattle.std.proofs.Common.{List, [], ◌∷◌, map, sym, refl, ap, ◌∙◌, subst, inl, inr, arith}
use Rattle.std.specs.Prelude.{Contains}
use Rattle.std.proofs.lemmas.Bool.{eqb-true, eq-eqb, or_cases, or_left, or_right}
use Rattle.std.proofs.lemmas.Bool.Decides.{nat_tests}
use mathlib.Core.Bool.{or-false, and-true}
use lib.Dec.{eqb-zero-suc, eqb-suc-zero, eqb-suc-suc}
use Rattle.htl_event.proofs.Members.{Contains-here, Contains-there, Contains-nil, Contains-cases}
use Rattle.htl_segment.specs.Content.{Content}
use Rattle.htl_taken.specs.Numbers.{Numbers, numbers_at, front_at, loose_at}
use Rattle.htl_analyst.specs.States.{State}
use Rattle.htl_analyst.specs.Keys.{HasTaken}
use Rattle.htl_exchange.specs.Runs.{has, union, without, one, runs_of, some_number, runs_taken}

-- ---- sets

-- a run is in a union where it is in either set
pub has-union : (xs ys : List Bool) (p : ℕ) → has (union xs ys) p ≡ (has xs p || has ys p)
has-union [] ys p = refl
has-union (x ∷ xs) [] p = sym (or-false (has (x ∷ xs) p))
has-union (x ∷ xs) (y ∷ ys) zero = refl
has-union (x ∷ xs) (y ∷ ys) (suc p) = has-union xs ys p

-- a run is in a set without another where it is in the first and not in the second
pub has-without : (xs ys : List Bool) (p : ℕ) → has (without xs ys) p ≡ (has xs p && not (has ys p))
has-without [] ys p = refl
has-without (x ∷ xs) [] p = sym (and-true (has (x ∷ xs) p))
has-without (x ∷ xs) (y ∷ ys) zero = refl
has-without (x ∷ xs) (y ∷ ys) (suc p) = has-without xs ys p

-- the set of one run has the run of this processor and no other
pub has-one : (k p : ℕ) → has (one k) p ≡ eqb k p
has-one zero zero = refl
has-one zero (suc p) = sym (eqb-zero-suc p)
has-one (suc k) zero = sym (eqb-suc-zero k)
has-one (suc k) (suc p) = has-one k p ∙ sym (eqb-suc-suc k p)

-- the set of one run has this run
pub one-same : (p : ℕ) → has (one p) p ≡ true
one-same p = has-one p p ∙ eq-eqb p p refl

-- a run in the set of one run is this run
pub one-only : (k p : ℕ) → has (one k) p ≡ true → k ≡ p
one-only k p h = eqb-true k p (sym (has-one k p) ∙ h)

union-one : (p : ℕ) → union (one p) (one p) ≡ one p
union-one zero = refl
union-one (suc p) = ap (λ bs. false ∷ bs) (union-one p)

union-nil : (xs : List Bool) → union xs [] ≡ xs
union-nil [] = refl
union-nil (x ∷ xs) = refl

-- ---- the runs of segments

-- the run of each segment of a list is one of the list's runs
pub run_of_member : (ss : List Content) (s : Content) → Contains ss s → has (runs_of ss) s.processor ≡ true
run_of_member [] s h = absurd (Contains-nil s h)
run_of_member (t ∷ ss) s h =
    has-union (one t.processor) (runs_of ss) s.processor
    ∙ elim (Contains-cases t ss s h) [
      | inl is ↦ or_left (has (one t.processor) s.processor) (has (runs_of ss) s.processor)
          (subst (λ (x : Content). has (one t.processor) x.processor ≡ true) is (one-same t.processor))
      | inr there ↦ or_right (has (one t.processor) s.processor) (has (runs_of ss) s.processor) (run_of_member ss s there)
    ]

-- each run of a list of segments is that of one of them
pub member_of_run : (ss : List Content) (p : ℕ) → has (runs_of ss) p ≡ true → (s : Content) × Contains ss s × (s.processor ≡ p)
member_of_run [] p h = absurd (true≢false (sym h))
member_of_run (t ∷ ss) p h =
    elim (or_cases (has (one t.processor) p) (has (runs_of ss) p) (sym (has-union (one t.processor) (runs_of ss) p) ∙ h)) [
      | inl here ↦ (t, Contains-here t ss, one-only t.processor p here)
      | inr there ↦ let r = member_of_run ss p there in (r.0, Contains-there t ss r.0 r.1, r.2)
    ]

-- segments of one processor are of one run
pub one_run : (ss : List Content) (p : ℕ) → ss ≢ [] → ((s : Content) → Contains ss s → s.processor ≡ p) → runs_of ss ≡ one p
one_run [] p some same = absurd (some refl)
one_run (t ∷ []) p some same = union-nil (one t.processor) ∙ ap one (same t (Contains-here t []))
one_run (t ∷ (u ∷ ss)) p some same =
    let rest : runs_of (u ∷ ss) ≡ one p = one_run (u ∷ ss) p (λ e. cc) (λ s h. same s (Contains-there t (u ∷ ss) s h)) in
    (λ i. union (one (same t (Contains-here t (u ∷ ss)) i)) (rest i)) ∙ union-one p

-- ---- the runs of states

some_member : (ns : List ℕ) → some_number ns ≡ true → (n : ℕ) × Contains ns n
some_member [] h = absurd (true≢false (sym h))
some_member (n ∷ ns) h = (n, Contains-here n ns)

member_some : (ns : List ℕ) (n : ℕ) → Contains ns n → some_number ns ≡ true
member_some [] n h = absurd (Contains-nil n h)
member_some (m ∷ ns) n h = refl

at_processor : (qs : List Numbers) (p : ℕ) → has (map (λ q. nat_lt 0 q.front || some_number q.loose) qs) p
    ≡ (nat_lt 0 (numbers_at qs p).front || some_number (numbers_at qs p).loose)
at_processor [] p = refl
at_processor (q ∷ qs) zero = refl
at_processor (q ∷ qs) (suc p) = at_processor qs p

positive : (n : ℕ) → nat_lt 0 n ≡ true → 0 < n
positive n h = grind (arith, nat_tests)

positive_back : (n m : ℕ) → m < n → nat_lt 0 n ≡ true
positive_back n m h = grind (arith, nat_tests)

-- a run of a state has a key that was taken
pub taken_of_run : (a : State) (p : ℕ) → has (runs_taken a) p ≡ true → (n : ℕ) × HasTaken a p n
taken_of_run a p h =
    elim (or_cases (nat_lt 0 (front_at a.taken p)) (some_number (loose_at a.taken p)) (sym (at_processor a.taken p) ∙ h)) [
      | inl below ↦ (0, inl (positive (front_at a.taken p) below))
      | inr loose ↦ let r = some_member (loose_at a.taken p) loose in (r.0, inr r.1)
    ]

-- the run of each segment that a state has taken is one of its runs
pub run_of_taken : (a : State) (p n : ℕ) → HasTaken a p n → has (runs_taken a) p ≡ true
run_of_taken a p n h =
    at_processor a.taken p
    ∙ elim h [
      | inl below ↦ or_left (nat_lt 0 (front_at a.taken p)) (some_number (loose_at a.taken p)) (positive_back (front_at a.taken p) n below)
      | inr loose ↦ or_right (nat_lt 0 (front_at a.taken p)) (some_number (loose_at a.taken p)) (member_some (loose_at a.taken p) n loose)
    ]
