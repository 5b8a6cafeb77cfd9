-- The queue is filled with one run after another, and at the end all runs of the trace were pushed.
use Rattle.std.proofs.Common.{◌≡◌, ◌≢◌, ℕ, zero, suc, ◌+◌, ◌<◌, ◌≤◌, Bool, true, false, true≢false, not, ◌&&◌, ◌||◌, eqb, leb}
use Rattle.std.proofs.Common.{List, [], ◌∷◌, IsPermutation, length, add-one, sym, refl, ap, ◌∙◌, subst, inl, inr, ⊎_elim, arith}
use Rattle.std.specs.Prelude.{Contains, ◌↔◌, cond, filter, if◌then◌else◌}
use Rattle.std.specs.List.{list_any}
use Rattle.std.proofs.lemmas.Bool.{eqb-true, eq-eqb, cases_Bool, and_right}
use Rattle.std.proofs.Math.Dec.{leb-zero}
use Rattle.std.proofs.lemmas.Bool.Decides.{eqb_tells, nat_tests}
use Rattle.std.proofs.lemmas.List.Sums.{sum_by-cons}
use Rattle.std.proofs.lemmas.List.Sorted.{Contains-permutation, IsPermutation-sym}
use mathlib.Core.Bool.{and-true}
use Rattle.crossbeam_queue.specs.Fifo.{Pushes, Held}
use Rattle.htl_event.proofs.Members.{at_member, Contains-filter, Contains-from_filter, Contains-nil, some_member}
use Rattle.htl_segment.specs.Content.{Content, Fits}
use Rattle.htl_segment.specs.Traces.{Trace, HasKey}
use Rattle.htl_case.specs.Cases.{IsCase}
use Rattle.htl_exchange.specs.declared.pass.Known.{Known}
use Rattle.htl_exchange.specs.declared.parcel.Parcel.{Parcel}
use Rattle.htl_exchange.specs.Runs.{has, size, one, without, runs_of, is_of, IsRunOf}
use Rattle.htl_exchange.specs.Parcels.{trace_of, runs_in, HasSegment, IsParcelOf}
use Rattle.htl_exchange.specs.Rule.{blank, MakesUp}
use Rattle.htl_exchange.specs.Moves.{left_of, Filled, CountsPushes}
use Rattle.htl_exchange.specs.Filling.{FillsTo, IsIdle, runs_below}
use Rattle.htl_exchange.proofs.Sets.{has-union, has-one, has-without, one-same, one-only, one_run, run_of_member, member_of_run}
use Rattle.htl_exchange.proofs.Keeping.{fills, left_of-known}

-- ---- a run as a parcel

-- the segments of one processor, in whatever order, are its run
pub turned_run : (T : Trace) (p : ℕ) (segments made run : List Content) → segments ≡ T.segments → made ≡ filter (is_of p) segments → IsPermutation made run
    → IsRunOf T p run
turned_run T p segments made run of made_is turned s = (
  (λ h.
      let h' : Contains made s = Contains-permutation run made s (IsPermutation-sym made run turned) h in
      let k = Contains-from_filter (is_of p) segments s (subst (λ l. Contains l s) made_is h') in
      (subst (λ l. Contains l s) of k.0, eqb-true s.processor p k.1)),
  (λ h. Contains-permutation made run s turned
      (subst (λ l. Contains l s) (sym made_is) (Contains-filter (is_of p) segments s (subst (λ l. Contains l s) (sym of) h.0) (eq-eqb s.processor p h.1)))),
)

-- the one run of these segments
pub is_one : (T : Trace) (p : ℕ) (run : List Content) → IsRunOf T p run → run ≢ [] → runs_of run ≡ one p
is_one T p run of_run some_segment = one_run run p some_segment (λ s h. ((of_run s).0 h).1)

-- the processor's run is one of the trace
pub run_is_there : (T : Trace) (p : ℕ) (run : List Content) → IsRunOf T p run → run ≢ [] → has (runs_of T.segments) p ≡ true
run_is_there T p run of_run some_segment =
    let s = some_member run some_segment in
    let k = (of_run s.0).0 s.1 in
    subst (λ q. has (runs_of T.segments) q ≡ true) k.1 (run_of_member T.segments s.0 k.0)

-- a run that isn't empty has all keys that the trace has in it, and no other
pub whole_run : (T : Trace) (p : ℕ) (run : List Content) → IsRunOf T p run → run ≢ [] → (q n : ℕ)
    → HasSegment run q n ↔ ((has (runs_of run) q ≡ true) × HasKey T q n)
whole_run T p run of_run some_segment q n = (
  (λ h. (subst (λ r. has (runs_of run) r ≡ true) h.2 (run_of_member run h.0 h.1), (h.0, ((of_run h.0).0 h.1).0, h.2, h.3))),
  (λ k.
      let same : p ≡ q = one-only p q (sym (ap (λ l. has l q) (is_one T p run of_run some_segment)) ∙ k.0) in
      (k.1.0, (of_run k.1.0).1 (k.1.1, k.1.2 ∙ sym same), k.1.2, k.1.3)),
)

-- ---- the runs that are left

here : (p : ℕ) → leb p p ≡ true
here p = grind (arith, nat_tests)

next_same : (p : ℕ) → leb (p + 1) p ≡ false
next_same p = grind (arith, nat_tests)

next_other : (p q : ℕ) → p ≢ q → leb p q ≡ leb (p + 1) q
next_other p q n = grind (arith, nat_tests)

one-other : (p q : ℕ) → p ≢ q → has (one p) q ≡ false
one-other p q n = elim (cases_Bool (has (one p) q)) [
  | inl is ↦ absurd (n (one-only p q is))
  | inr not_one ↦ not_one
]

-- one run fewer
next : (b : ℕ → Bool) (p q : ℕ) → ((b q && leb p q) && not (has (one p) q)) ≡ (b q && leb (p + 1) q)
next b p q = ⊎_elim
    (λ (x : (eqb p q ≡ true) × (p ≡ q)). subst (λ k. ((b k && leb p k) && not (has (one p) k)) ≡ (b k && leb (p + 1) k)) x.1
    (ap (λ t. (b p && leb p p) && not t) (one-same p) ∙ and_right (b p && leb p p) false refl
    ∙ sym (and_right (b p) false refl) ∙ ap (λ t. b p && t) (sym (next_same p))))
    (λ (x : (eqb p q ≡ false) × (p ≢ q)). ap (λ t. (b q && leb p q) && not t) (one-other p q x.1)
    ∙ and-true (b q && leb p q) ∙ ap (λ t. b q && t) (next_other p q x.1))
    (eqb_tells p q)

-- a processor without a run
without_run : (b : ℕ → Bool) (p q : ℕ) → b p ≡ false → (b q && leb p q) ≡ (b q && leb (p + 1) q)
without_run b p q none = ⊎_elim
    (λ (x : (eqb p q ≡ true) × (p ≡ q)). subst (λ k. (b k && leb p k) ≡ (b k && leb (p + 1) k)) x.1
    (ap (λ t. t && leb p p) none ∙ ap (λ t. t && leb (p + 1) p) (sym none)))
    (λ (x : (eqb p q ≡ false) × (p ≢ q)). ap (λ t. b q && t) (next_other p q x.1))
    (eqb_tells p q)

-- ---- how many runs there are

-- a run is there where one of the segments is of its processor
pub any_of_run : (ss : List Content) (p : ℕ) → list_any (is_of p) ss ≡ has (runs_of ss) p
any_of_run [] p = refl
any_of_run (s ∷ ss) p =
    (λ i. sym (has-one s.processor p) i || any_of_run ss p i) ∙ sym (has-union (one s.processor) (runs_of ss) p)

there_below : (runs : List Bool) (p : ℕ) → has runs p ≡ true → runs_below runs (suc p) ≡ runs_below runs p + 1
there_below runs p is = ap (λ b. runs_below runs p + (if b then 1 else 0)) is

none_below : (runs : List Bool) (p : ℕ) → has runs p ≡ false → runs_below runs (suc p) ≡ runs_below runs p + 0
none_below runs p is = ap (λ b. runs_below runs p + (if b then 1 else 0)) is

pub runs_below-there : (runs : List Bool) (p : ℕ) → has runs p ≡ true → runs_below runs (p + 1) ≡ runs_below runs p + 1
runs_below-there runs p is = rw add-one (there_below runs p is)

pub runs_below-none : (runs : List Bool) (p : ℕ) → has runs p ≡ false → runs_below runs (p + 1) ≡ runs_below runs p
runs_below-none runs p is =
    let e : runs_below runs (p + 1) ≡ runs_below runs p + 0 = rw add-one (none_below runs p is) in
    omega (arith, e)

size-cons : (b : Bool) (runs : List Bool) → size (b ∷ runs) ≡ (if b then 1 else 0) + size runs
size-cons b runs = sum_by-cons (λ there. cond there 1 0) b runs

runs_below-nil : (p : ℕ) → runs_below [] p ≡ 0
runs_below-nil zero = refl
runs_below-nil (suc p) =
    let e : runs_below [] (suc p) ≡ runs_below [] p + 0 = refl in
    omega (arith, e, runs_below-nil p)

runs_below-cons : (b : Bool) (runs : List Bool) (p : ℕ) → runs_below (b ∷ runs) (suc p) ≡ (if b then 1 else 0) + runs_below runs p
runs_below-cons b runs zero =
    let e : runs_below (b ∷ runs) (suc zero) ≡ 0 + (if b then 1 else 0) = refl in
    let none : runs_below runs zero ≡ 0 = refl in
    omega (arith, e, none)
runs_below-cons b runs (suc p) =
    let e : runs_below (b ∷ runs) (suc (suc p)) ≡ runs_below (b ∷ runs) (suc p) + (if has runs p then 1 else 0) = refl in
    let f : runs_below runs (suc p) ≡ runs_below runs p + (if has runs p then 1 else 0) = refl in
    omega (arith, e, f, runs_below-cons b runs p)

pub runs_below-most : (runs : List Bool) (p : ℕ) → runs_below runs p ≤ size runs
runs_below-most [] p = omega (arith, runs_below-nil p)
runs_below-most (b ∷ runs) zero = let none : runs_below (b ∷ runs) zero ≡ 0 = refl in omega (arith, none)
runs_below-most (b ∷ runs) (suc p) = omega (arith, size-cons b runs, runs_below-cons b runs p, runs_below-most runs p)

size-none : (runs : List Bool) → ((p : ℕ) → has runs p ≡ true → ⊥) → size runs ≡ 0
size-none [] none = refl
size-none (true ∷ runs) none = absurd (none 0 refl)
size-none (false ∷ runs) none =
    let e : size (false ∷ runs) ≡ 0 + size runs = size-cons false runs in
    omega (arith, e, size-none runs (λ p h. none (suc p) h))

runs_below-all : (runs : List Bool) (n : ℕ) → ((p : ℕ) → has runs p ≡ true → p < n) → runs_below runs n ≡ size runs
runs_below-all runs zero few = sym (size-none runs (λ p h. let lt = few p h in absurd (omega (arith, lt))))
runs_below-all [] (suc n) few = runs_below-nil (suc n)
runs_below-all (b ∷ runs) (suc n) few =
    omega (
      arith,
      size-cons b runs,
      runs_below-cons b runs n,
      runs_below-all runs n (λ p h. let lt : suc p < suc n = few (suc p) h in omega (arith, lt)),
    )

-- ---- the steps of the filling

-- before the first push, the runs below processor 0 are in the queue
pub nothing_put : (T : Trace) (v : Known) → v ≡ blank → FillsTo T 0 v
nothing_put T v is = subst (FillsTo T 0) (sym is)
    (record {
      parts = refl;
      log = refl;
      trace = inl refl;
      pushes = refl;
      left = λ q. sym (and-true (has (runs_of T.segments) q)) ∙ ap (λ t. has (runs_of T.segments) q && t) (sym (leb-zero q));
    })

-- where a processor's run is empty, filling goes on with the next processor
pub skips : (T : Trace) (p : ℕ) (run : List Content) (v : Known) → IsRunOf T p run → run ≡ [] → FillsTo T p v → FillsTo T (p + 1) v
skips T p run v of_run none f = record {
  parts = f.parts;
  log = f.log;
  trace = f.trace;
  pushes = f.pushes ∙ sym (runs_below-none (runs_of T.segments) p no_run);
  left = λ q. f.left q ∙ without_run (λ k. has (runs_of T.segments) k) p q no_run;
} where
  no_run : has (runs_of T.segments) p ≡ false
  no_run = elim (cases_Bool (has (runs_of T.segments) p)) [
    | inl there ↦
        let s = member_of_run T.segments p there in
        absurd (Contains-nil s.0 (subst (λ l. Contains l s.0) none ((of_run s.0).1 (s.1, s.2))))
    | inr is ↦ is
  ]

-- a push of the next run, of the trace and not in the queue yet, keeps the rule
pub may_fill : (n i : ℕ) (T : Trace) (p : ℕ) (v : Known) (x : Parcel) → T.segments ≢ [] → trace_of x ≡ T → IsParcelOf T x → runs_in x ≡ one p
    → has (runs_of T.segments) p ≡ true → FillsTo T p v → Pushes MakesUp n i v x (Filled v x)
may_fill n i T p v x some_segment of parcel only there f =
    fills n i v x f.parts (λ z. some_segment (ap (λ (t : Trace). t.segments) (sym of) ∙ z))
    (⊎_elim (λ (z : v.trace.segments ≡ []). inl z) (λ (z : v.trace ≡ T). inr (z ∙ sym of)) f.trace) (subst (λ t. IsParcelOf t x) (sym of) parcel)
    (λ q is. ap (λ t. has (left_of t v.trace.segments v.got) q) of ∙ f.left q ∙ inside q (one-only p q (ap (λ l. has l q) (sym only) ∙ is)))
  where
    inside : (q : ℕ) → p ≡ q → (has (runs_of T.segments) q && leb p q) ≡ true
    inside q same = subst (λ k. (has (runs_of T.segments) k && leb p k) ≡ true) same
        (ap (λ t. t && leb p p) there ∙ here p)

-- after a push of the next processor's run, the runs up to it are in the queue
pub filled : (T : Trace) (p : ℕ) (v w : Known) (x : Parcel) → T.segments ≢ [] → trace_of x ≡ T → runs_in x ≡ one p
    → has (runs_of T.segments) p ≡ true → Filled v x w → FillsTo T p v → FillsTo T (p + 1) w
filled T p v w x some_segment of only there is f = subst (FillsTo T (p + 1)) (sym now) (record {
  parts = f.parts;
  log = f.log;
  trace = inr refl;
  pushes = ap (λ n. n + 1) f.pushes ∙ sym (runs_below-there (runs_of T.segments) p there);
  left = λ q. ap (λ l. has l q) (left_of-known T T.segments still some_segment) ∙ has-without left (one p) q
      ∙ ap (λ t. t && not (has (one p) q)) (f.left q) ∙ next (λ k. has (runs_of T.segments) k) p q;
}) where
  left : List Bool
  left = left_of T v.trace.segments v.got

  still : List Bool
  still = without left (one p)

  now : w ≡ record v { trace = T; got = still; pushes = v.pushes + 1 }
  now = is ∙ (λ i. record v { trace = of i; got = without (left_of (of i) v.trace.segments v.got) (only i); pushes = v.pushes + 1 })

-- a queue with room for every run isn't full before the last run is in it
pub never_full : (T : Trace) (p room : ℕ) (v : Known) → size (runs_of T.segments) < room → FillsTo T p v → Held room (CountsPushes v) → ⊥
never_full T p room v enough f held =
    let len = held.1 in
    let few = held.2 f.parts in
    let put = f.pushes in
    let most = runs_below-most (runs_of T.segments) p in
    omega (arith, len, few, put, most, enough)

below : (n q : ℕ) (b : Bool) → (b ≡ true → q < n) → (b && leb n q) ≡ false
below n q true h = over (h refl)
  where
    over : q < n → leb n q ≡ false
    over l = grind (arith, nat_tests)
below n q false h = refl

-- a case's processors with a run are those that it counts
within : (T : Trace) → IsCase T → (p : ℕ) → has (runs_of T.segments) p ≡ true → p < T.processors
within T is_case p h =
    let s = member_of_run T.segments p h in
    let fits : Fits s.0 = at_member Fits T.segments s.0 is_case.trace.fit s.1 in
    let same = at_member (λ (t : Content). (t.trace_id ≡ T.id) × (t.processors ≡ T.processors)) T.segments s.0 is_case.trace.same s.1 in
    let lt = fits.processor in
    let count = same.1 in
    let own = s.2 in
    omega (arith, lt, count, own)

-- below the processor count of a case are as many runs as it has
pub all_below : (T : Trace) (n : ℕ) → IsCase T → T.processors ≤ n → runs_below (runs_of T.segments) n ≡ size (runs_of T.segments)
all_below T n is_case past = runs_below-all (runs_of T.segments) n (λ p h. let lt = within T is_case p h in omega (arith, lt, past))

-- once every processor was asked, as many parcels were pushed as the case has runs
pub all_pushed : (T : Trace) (n : ℕ) (v : Known) → IsCase T → T.processors ≤ n → FillsTo T n v → v.pushes ≡ size (runs_of T.segments)
all_pushed T n v is_case past f = f.pushes ∙ all_below T n is_case past

-- once every processor was asked, the pass knows the trace, has every part and has got nothing
pub all_put : (T : Trace) (n : ℕ) (v : Known) → IsCase T → T.processors ≤ n → FillsTo T n v → IsIdle T 8 v
all_put T n v is_case past f = record {
  trace = same;
  parts = f.parts;
  log = f.log;
  got = λ q. ap (λ l. has l q) (sym (left_of-known T v.trace.segments v.got some_known)) ∙ none q;
} where
  none : (q : ℕ) → has (left_of T v.trace.segments v.got) q ≡ false
  none q = f.left q ∙ below n q (has (runs_of T.segments) q) (λ h. let lt = within T is_case q h in omega (arith, lt, past))

  first : (s : Content) × Contains T.segments s
  first = some_member T.segments is_case.some

  not_blank : v.trace.segments ≡ [] → ⊥
  not_blank z = true≢false
      (sym (run_of_member T.segments first.0 first.1)
      ∙ (subst (λ l. has (left_of T l v.got) first.0.processor ≡ false) z (none first.0.processor)))

  same : v.trace ≡ T
  same = ⊎_elim (λ (z : v.trace.segments ≡ []). absurd (not_blank z)) (λ (z : v.trace ≡ T). z) f.trace

  some_known : v.trace.segments ≢ []
  some_known z = not_blank z

-- a list of length 0 is empty
pub empty : {A : Type 0} (l : List A) → length l ≡ 0 → l ≡ []
empty [] e = refl
empty (x ∷ l) e = absurd (omega (arith, e))
