-- Each atomic step keeps the rule of the exchange.
use Rattle.std.proofs.Common.{◌≡◌, ◌≢◌, ◌⊎◌, ℕ, zero, suc, ◌+◌, ◌-◌, ◌<◌, ◌≤◌}
use Rattle.std.proofs.Common.{Bool, true, false, true≢false, not, ◌&&◌, ◌||◌, List, [], ◌∷◌, ◌++◌, set, length}
use Rattle.std.proofs.Common.{sym, refl, ap, ◌∙◌, subst, ⊎_elim, arith}
use Rattle.std.proofs.lemmas.List.{length-append}
use mathlib.Core.Bool.{or-false}
use Rattle.std.proofs.lemmas.Bool.{or_parts}
use mathlib.Core.Option.{some, some-injective, some-ne-none}
use lib.ListN.{get_elem?}
use Rattle.crossbeam_queue.specs.Fifo.{Pushes, Pops, Forks, Merges, Learns}
use Rattle.crossbeam_queue.proofs.Lists.{at_set, at_snoc}
use Rattle.htl_segment.specs.Content.{Content}
use Rattle.htl_segment.specs.Traces.{Trace}
use Rattle.htl_exchange.specs.declared.pass.Known.{Known}
use Rattle.htl_exchange.specs.declared.parcel.Parcel.{Parcel}
use Rattle.htl_exchange.specs.Runs.{has, without, runs_of}
use Rattle.htl_exchange.specs.Parcels.{named, no_trace, trace_of, runs_in, IsParcelOf}
use Rattle.htl_exchange.specs.Rule.{blank, parts_of, pushes_of, any_got, any_in, IsPassAbout, MakesUp}
use Rattle.htl_exchange.specs.Moves.{left_of, Filled, pushed, Pushed, popped, Popped, split, part, joined, spent, KnowsRest, CountsPushes}
use Rattle.htl_exchange.proofs.Sets.{has-union, has-without}
use Rattle.htl_exchange.proofs.Passes.{others, any_got-set, any_got-at, any_got-last, any_in-last, any_got-join, others-none}
use Rattle.htl_exchange.proofs.Passes.{total-set, total-last, total-alone, parts-two}

-- ---- passes about one trace

has_part : (T : Trace) (v : Known) → 0 < v.parts → v.trace ≡ T → IsPassAbout T v
has_part T v part same = record {
  trace = λ _. same;
  spent = λ z. absurd (omega (arith, part, z));
  idle = λ z. absurd (omega (arith, part, z));
}

-- the other passes stay as they are
about-set : (T : Trace) (vs : List Known) (i : ℕ) (w : Known) → IsPassAbout T w
    → ((k : ℕ) (v : Known) → k ≢ i → get_elem? vs k ≡ some v → IsPassAbout T v) → (k : ℕ) (v : Known) → get_elem? (set vs i w) k ≡ some v → IsPassAbout T v
about-set T vs i w mine theirs k v e =
    ⊎_elim (λ (x : (k ≡ i) × (w ≡ v)). subst (IsPassAbout T) x.1 mine)
    (λ (x : (k ≢ i) × (get_elem? vs k ≡ some v)). theirs k v x.0 x.1) (at_set vs i k w v e)

about-last : (T : Trace) (vs : List Known) (w : Known) → ((k : ℕ) (v : Known) → get_elem? vs k ≡ some v → IsPassAbout T v) → IsPassAbout T w
    → (k : ℕ) (v : Known) → get_elem? (vs ++ w ∷ []) k ≡ some v → IsPassAbout T v
about-last T vs w theirs mine k v e =
    ⊎_elim (λ (was : get_elem? vs k ≡ some v). theirs k v was) (λ (is : w ≡ v). subst (IsPassAbout T) is mine) (at_snoc vs w v k e)

-- ---- the number of parcels

one_more : (items : List Parcel) (x : Parcel) → length (items ++ x ∷ []) ≡ length items + 1
one_more items x = length-append items (x ∷ [])

pushed_once : (items : List Parcel) (views : List Known) (i : ℕ) (v w : Known) (x : Parcel) → get_elem? views i ≡ some v
    → length items ≤ pushes_of views → w.pushes ≡ v.pushes + 1 → length (items ++ x ∷ []) ≤ pushes_of (set views i w)
pushed_once items views i v w x at few more =
    let sum : pushes_of (set views i w) + v.pushes ≡ pushes_of views + w.pushes = total-set (λ u. u.pushes) views i v w at in
    let len = one_more items x in
    omega (arith, few, more, sum, len)

-- ---- the steps

-- the empty queue and the first, blank pass keep the rule
pub begins : MakesUp [] (blank ∷ [])
begins = record {
  trace = no_trace;
  parts = refl;
  parcels = λ k x e. absurd (some-ne-none x (sym e));
  about = only;
  runs = λ p. refl;
  few = omega arith;
  begins = λ _. refl;
} where
  only : (k : ℕ) (v : Known) → get_elem? (blank ∷ []) k ≡ some v → IsPassAbout no_trace v
  only zero v e = subst (IsPassAbout no_trace) (some-injective _ _ e) (record {
    trace = λ _. refl;
    spent = λ z. absurd (omega (arith, z));
    idle = λ z. absurd (omega (arith, z));
  })
  only (suc k) v e = absurd (some-ne-none v (sym e))

pop_truth : (x i v r : Bool) → (i || ((v || x) || r)) ≡ ((x || i) || (v || r))
pop_truth true true v r = refl
pop_truth true false true r = refl
pop_truth true false false r = refl
pop_truth false i true r = refl
pop_truth false i false r = refl

-- a pop by a pass with a part keeps the rule
pub pops : (i : ℕ) (v : Known) → 0 < v.parts → Pops MakesUp i v (Popped v)
pops i v has_one x items views h at =
    let T : Trace = h.trace in
    let same : v.trace ≡ T = (h.about i v at).trace has_one in
    let parcel : IsParcelOf T x = h.parcels 0 x refl in
    let w : Known = popped v (named x) (runs_in x) in
    let sum : parts_of (set views i w) + v.parts ≡ parts_of views + w.parts = total-set (λ u. u.parts) views i v w at in
    let count : pushes_of (set views i w) + v.pushes ≡ pushes_of views + w.pushes = total-set (λ u. u.pushes) views i v w at in
    let all : parts_of views ≡ 8 = h.parts in
    let few : length (x ∷ items) ≤ pushes_of views = h.few in (
      w,
      record {
        trace = T;
        parts = omega (arith, sum, all);
        parcels = λ k y e. h.parcels (suc k) y e;
        about = about-set T views i w (has_part T w has_one same) (λ k u _ e. h.about k u e);
        runs = runs;
        few = omega (arith, count, few);
        begins = λ z. absurd (filled (h.begins z));
      },
      (subst (λ t. IsParcelOf t x) (sym same) parcel, refl),
    )
  where
    filled : (x ∷ items) ≡ [] → ⊥
    filled e = cc

    runs : (p : ℕ) → (any_in p items || any_got p (set views i (popped v (named x) (runs_in x)))) ≡ has (runs_of h.trace.segments) p
    runs p =
        let r : Bool = others p views i in
        let hx : Bool = has (runs_in x) p in
        ap (λ b. any_in p items || b) (any_got-set p views i v (popped v (named x) (runs_in x)) at ∙ ap (λ b. b || r) (has-union v.got (runs_in x) p))
        ∙ pop_truth hx (any_in p items) (has v.got p) r ∙ ap (λ b. (hx || any_in p items) || b) (sym (any_got-at p views i v at)) ∙ h.runs p

push_truth : (i v r : Bool) → ((i || v) || (v || r)) ≡ (i || (v || r))
push_truth true v r = refl
push_truth false true r = refl
push_truth false false r = refl

parcels-last : (T : Trace) (items : List Parcel) (x : Parcel) → ((k : ℕ) (y : Parcel) → get_elem? items k ≡ some y → IsParcelOf T y) → IsParcelOf T x
    → (k : ℕ) (y : Parcel) → get_elem? (items ++ x ∷ []) k ≡ some y → IsParcelOf T y
parcels-last T items x those this k y e =
    ⊎_elim (λ (was : get_elem? items k ≡ some y). those k y was) (λ (is : x ≡ y). subst (IsParcelOf T) is this) (at_snoc items x y k e)

-- a push of a parcel with just the runs that the pass has got keeps the rule
pub pushes : (n i : ℕ) (v : Known) (x : Parcel) → 0 < v.parts → v.trace.segments ≢ [] → IsParcelOf v.trace x
    → ((p : ℕ) → has (runs_in x) p ≡ has v.got p) → Pushes MakesUp n i v x (Pushed v x)
pushes n i v x has_one some_segment parcel own items views _ h at =
    let T : Trace = h.trace in
    let same : v.trace ≡ T = (h.about i v at).trace has_one in
    let w : Known = pushed v in
    let sum : parts_of (set views i w) + v.parts ≡ parts_of views + w.parts = total-set (λ u. u.parts) views i v w at in
    let all : parts_of views ≡ 8 = h.parts in (
      w,
      record {
        trace = T;
        parts = omega (arith, sum, all);
        parcels = parcels-last T items x h.parcels (subst (λ t. IsParcelOf t x) same parcel);
        about = about-set T views i w (has_part T w has_one same) (λ k u _ e. h.about k u e);
        runs = runs;
        few = pushed_once items views i v w x at h.few refl;
        begins = λ z. absurd (some_segment (ap (λ (t : Trace). t.segments) same ∙ z));
      },
      (refl, own),
    )
  where
    runs : (p : ℕ) → (any_in p (items ++ x ∷ []) || any_got p (set views i (pushed v))) ≡ has (runs_of h.trace.segments) p
    runs p =
        let r : Bool = others p views i in
        ap (λ b. b || any_got p (set views i (pushed v))) (any_in-last p items x ∙ ap (λ b. any_in p items || b) (own p))
        ∙ ap (λ b. (any_in p items || has v.got p) || b) (any_got-set p views i v (pushed v) at) ∙ push_truth (any_in p items) (has v.got p) r
        ∙ ap (λ b. any_in p items || b) (sym (any_got-at p views i v at)) ∙ h.runs p

-- who has every part is alone, and learns what the queue holds
pub learns_rest : (i : ℕ) (v : Known) → Learns MakesUp i v (KnowsRest v)
learns_rest i v items views h at whole p =
    let T : Trace = h.trace in
    let all : parts_of views ≡ 8 = h.parts in
    let same : v.trace ≡ T = (h.about i v at).trace (omega (arith, whole)) in
    let alone : others p views i ≡ false = others-none p views i v at (omega (arith, all, whole)) (λ k u e z. (h.about k u e).spent z p) in
    ap (λ b. any_in p items || b)
    (sym (or-false (has v.got p)) ∙ ap (λ b. has v.got p || b) (sym alone) ∙ sym (any_got-at p views i v at))
    ∙ h.runs p ∙ ap (λ (t : Trace). has (runs_of t.segments) p) (sym same)

-- and counts every push
pub counts_pushes : (i : ℕ) (v : Known) → Learns MakesUp i v (CountsPushes v)
counts_pushes i v items views h at whole =
    let all : parts_of views ≡ 8 = h.parts in
    let few : length items ≤ pushes_of views = h.few in
    let mine : pushes_of views ≡ v.pushes =
    total-alone (λ u. u.pushes) views i v at (omega (arith, all, whole)) (λ k u e z. (h.about k u e).idle z) in
    omega (arith, few, mine)

-- a look at the queue that learns nothing keeps the rule
pub learns_nothing : (i : ℕ) (v : Known) → Learns MakesUp i v (λ (items : List Parcel). Unit {0})
learns_nothing i v items views h at = tt

-- splitting a part off a pass with more than one keeps the rule
pub splits : (i : ℕ) (v : Known) → 1 < v.parts → Forks MakesUp i v (split v) (part v)
splits i v has_two items views h at =
    let T : Trace = h.trace in
    let same : v.trace ≡ T = (h.about i v at).trace (omega (arith, has_two)) in
    let vs : List Known = set views i (split v) in
    let sum : parts_of vs + v.parts ≡ parts_of views + (v.parts - 1) = total-set (λ u. u.parts) views i v (split v) at in
    let more : parts_of (vs ++ part v ∷ []) ≡ parts_of vs + 1 = total-last (λ u. u.parts) vs (part v) in
    let all : parts_of views ≡ 8 = h.parts in
    let left : 0 < (split v).parts = omega (arith, has_two) in
    let count : pushes_of vs + v.pushes ≡ pushes_of views + v.pushes = total-set (λ u. u.pushes) views i v (split v) at in
    let last : pushes_of (vs ++ part v ∷ []) ≡ pushes_of vs + 0 = total-last (λ u. u.pushes) vs (part v) in
    let few : length items ≤ pushes_of views = h.few in
    record {
      trace = T;
      parts = omega (arith, sum, more, all, has_two);
      parcels = h.parcels;
      about = about-last T vs (part v) (about-set T views i (split v) (has_part T (split v) left same) (λ k u _ e. h.about k u e))
          (has_part T (part v) (omega arith) same);
      runs = λ p. ap (λ b. any_in p items || b)
          (any_got-last p vs (part v) ∙ or-false (any_got p vs) ∙ any_got-set p views i v (split v) at ∙ sym (any_got-at p views i v at)) ∙ h.runs p;
      few = omega (arith, few, count, last);
      begins = h.begins;
    }

-- joining another pass into one with a part keeps the rule
pub joins : (i : ℕ) (v : Known) (j : ℕ) (u : Known) → 0 < v.parts → Merges MakesUp i v j u (joined v u) spent
joins i v j u has_one items views h at apart there =
    let T : Trace = h.trace in
    let same : v.trace ≡ T = (h.about i v at).trace has_one in
    let w : Known = joined v u in
    let vs : List Known = set views i w in
    let was : get_elem? views j ≡ some u =
    ⊎_elim (λ (x : (j ≡ i) × (w ≡ u)). absurd (apart x.0)) (λ (x : (j ≢ i) × (get_elem? views j ≡ some u)). x.1) (at_set views i j w u there) in
    let one : parts_of vs + v.parts ≡ parts_of views + (v.parts + u.parts) = total-set (λ u. u.parts) views i v w at in
    let two : parts_of (set vs j spent) + u.parts ≡ parts_of vs + 0 = total-set (λ x. x.parts) vs j u spent there in
    let all : parts_of views ≡ 8 = h.parts in
    let mine : pushes_of vs + v.pushes ≡ pushes_of views + (v.pushes + u.pushes) = total-set (λ x. x.pushes) views i v w at in
    let its : pushes_of (set vs j spent) + u.pushes ≡ pushes_of vs + 0 = total-set (λ x. x.pushes) vs j u spent there in
    let few : length items ≤ pushes_of views = h.few in
    record {
      trace = T;
      parts = omega (arith, one, two, all);
      parcels = h.parcels;
      about = about-set T vs j spent (record { trace = λ z. absurd (omega (arith, z)); spent = λ z p. refl; idle = λ z. refl })
          (λ k x _ e. about-set T views i w (has_part T w (omega (arith, has_one)) same) (λ l y _ t. h.about l y t) k x e);
      runs = λ p. ap (λ b. any_in p items || b)
          (any_got-join p views i j v u w spent apart at was (has-union v.got u.got p) refl) ∙ h.runs p;
      few = omega (arith, few, mine, its);
      begins = h.begins;
    }

-- ---- filling

fill_truth : (i x b r : Bool) → (x ≡ true → b ≡ true) → ((i || x) || ((b && not x) || r)) ≡ (i || (b || r))
fill_truth true x b r h = refl
fill_truth false true true r h = refl
fill_truth false true false r h = absurd (true≢false (sym (h refl)))
fill_truth false false true r h = refl
fill_truth false false false r h = refl

-- where the trace is known, the runs that are left are those that the pass has got
pub left_of-known : (T : Trace) (was : List Content) (got : List Bool) → was ≢ [] → left_of T was got ≡ got
left_of-known T [] got n = absurd (n refl)
left_of-known T (s ∷ was) got n = refl

-- a filling push of a parcel whose runs are left, by the pass with every part, keeps the rule
pub fills : (n i : ℕ) (v : Known) (x : Parcel) → v.parts ≡ 8 → (trace_of x).segments ≢ []
    → ((v.trace.segments ≡ []) ⊎ (v.trace ≡ trace_of x)) → IsParcelOf (trace_of x) x
    → ((p : ℕ) → has (runs_in x) p ≡ true → has (left_of (trace_of x) v.trace.segments v.got) p ≡ true) → Pushes MakesUp n i v x (Filled v x)
fills n i v x every some_segment blank_or_known parcel inside items views _ h at =
    let sum : parts_of (set views i w) + v.parts ≡ parts_of views + w.parts = total-set (λ u. u.parts) views i v w at in
    let all : parts_of views ≡ 8 = h.parts in (
      w,
      record {
        trace = N;
        parts = omega (arith, sum, all);
        parcels = parcels-last N items x those parcel;
        about = about-set N views i w (has_part N w (omega (arith, every)) refl) spent_others;
        runs = runs;
        few = pushed_once items views i v w x at h.few refl;
        begins = λ z. absurd (some_segment z);
      },
      refl,
    )
  where
    N : Trace
    N = trace_of x

    T : Trace
    T = h.trace

    same : v.trace ≡ T
    same = (h.about i v at).trace (omega (arith, every))

    left : List Bool
    left = left_of N v.trace.segments v.got

    w : Known
    w = record v { trace = N; got = without left (runs_in x); pushes = v.pushes + 1 }

    alone : (p : ℕ) → others p views i ≡ false
    alone p = others-none p views i v at (let all : parts_of views ≡ 8 = h.parts in omega (arith, all, every)) (λ k u e z. (h.about k u e).spent z p)

    no_segment : v.trace.segments ≡ [] → T.segments ≡ []
    no_segment new = ap (λ (t : Trace). t.segments) (sym same) ∙ new

    those : (k : ℕ) (y : Parcel) → get_elem? items k ≡ some y → IsParcelOf N y
    those k y was = ⊎_elim
        (λ (new : v.trace.segments ≡ []). absurd (some-ne-none y (sym (ap (λ (l : List Parcel). get_elem? l k) (sym (h.begins (no_segment new))) ∙ was))))
        (λ (old : v.trace ≡ N). subst (λ t. IsParcelOf t y) (sym same ∙ old) (h.parcels k y was))
        blank_or_known

    spent_others : (k : ℕ) (u : Known) → k ≢ i → get_elem? views k ≡ some u → IsPassAbout N u
    spent_others k u other e =
        let two : v.parts + u.parts ≤ parts_of views = parts-two views i k v u other at e in
        let all : parts_of views ≡ 8 = h.parts in
        record {
          trace = λ z. absurd (omega (arith, two, all, every, z));
          spent = λ z. (h.about k u e).spent z;
          idle = λ z. (h.about k u e).idle z;
        }

    before : (p : ℕ) → (any_in p items || (has left p || others p views i)) ≡ has (runs_of N.segments) p
    before p = ⊎_elim
        (λ (new : v.trace.segments ≡ []).
        let nothing : (any_in p items || any_got p views) ≡ false = h.runs p ∙ ap (λ l. has (runs_of l) p) (no_segment new) in
        (λ k. (or_parts (any_in p items) (any_got p views) nothing).0 k || (has (left_of N (new k) v.got) p || alone p k))
        ∙ or-false (has (runs_of N.segments) p))
        (λ (old : v.trace ≡ N).
        ap (λ (l : List Bool). any_in p items || (has l p || others p views i))
        (left_of-known N v.trace.segments v.got (λ z. some_segment (ap (λ (t : Trace). t.segments) (sym old) ∙ z)))
        ∙ ap (λ b. any_in p items || b) (sym (any_got-at p views i v at)) ∙ h.runs p
        ∙ ap (λ (t : Trace). has (runs_of t.segments) p) (sym same ∙ old))
        blank_or_known

    runs : (p : ℕ) → (any_in p (items ++ x ∷ []) || any_got p (set views i w)) ≡ has (runs_of N.segments) p
    runs p =
        let hx : Bool = has (runs_in x) p in
        ap (λ b. b || any_got p (set views i w)) (any_in-last p items x)
        ∙ ap (λ b. (any_in p items || hx) || b)
        (any_got-set p views i v w at ∙ ap (λ b. b || others p views i) (has-without left (runs_in x) p))
        ∙ fill_truth (any_in p items) hx (has left p) (others p views i) (inside p) ∙ before p
