-- A desk follows the rule of its exchange, whatever step is made with its pass or on its analyst.
use Rattle.std.proofs.Common.{◌≡◌, ◌≢◌, ◌⊎◌, ℕ, ◌<◌, true, false, true≢false, Bool, List, []}
use Rattle.std.proofs.Common.{Some, None, Option, Result, Ok, Err, sym, refl, ap, ◌∙◌, subst, inl, inr, arith}
use Rattle.std.specs.Prelude.{◌↔◌}
use Rattle.std.proofs.lemmas.Bool.{or_cases, or_left, or_right}
use Rattle.std.specs.Cmp.{both_ways}
use Rattle.crossbeam_queue.specs.Fifo.{Pushes}
use Rattle.htl_event.specs.declared.memory.NoMemory.{NoMemory}
use Rattle.htl_segment.specs.Traces.{Trace, HasKey}
use Rattle.htl_analyst.specs.States.{State}
use Rattle.htl_analyst.specs.Keys.{HasTaken}
use Rattle.htl_analyst.specs.Right.{IsRight, IsStanding}
use Rattle.htl_exchange.specs.declared.pass.Known.{Known}
use Rattle.htl_exchange.specs.declared.parcel.Parcel.{Parcel}
use Rattle.htl_exchange.specs.declared.parcel.Parcel.TheVariants as parcels
use Rattle.htl_exchange.specs.Runs.{has, union, one, runs_of, runs_taken}
use Rattle.htl_exchange.specs.Parcels.{named, runs_in, Brings, IsOf, IsParcelOf}
use Rattle.htl_exchange.specs.Rule.{MakesUp}
use Rattle.htl_exchange.specs.Moves.{popped, pushed, Pushed, joined}
use Rattle.htl_exchange.specs.Desks.{HandIsOf, HasGot, Follows, KeepsGot, IsWholeStanding}
use Rattle.htl_exchange.specs.declared.desk.Collected.{Collected}
use Rattle.htl_exchange.specs.declared.desk.Collected.TheVariants as collected
use Rattle.htl_exchange.specs.Collects.{CollectsAs, HasRest}
use Rattle.htl_exchange.proofs.Sets.{has-union, run_of_member, member_of_run, taken_of_run, run_of_taken}
use Rattle.htl_exchange.proofs.Keeping.{pushes}

-- ---- runs and keys

-- a key's run is one of the trace
pub run_of_key : (T : Trace) (p n : ℕ) → HasKey T p n → has (runs_of T.segments) p ≡ true
run_of_key T p n key = subst (λ q. has (runs_of T.segments) q ≡ true) key.2 (run_of_member T.segments key.0 key.1)

-- a run of the trace has a key
pub key_of_run : (T : Trace) (p : ℕ) → has (runs_of T.segments) p ≡ true → (n : ℕ) × HasKey T p n
key_of_run T p h = let r = member_of_run T.segments p h in (r.0.number, (r.0, r.1, r.2, refl))

-- a run of a parcel has a key that it brings
brings_of_run : (x : Parcel) (p : ℕ) → has (runs_in x) p ≡ true → (n : ℕ) × Brings x p n
brings_of_run (parcels.Run segments of) p h = let r = member_of_run segments.items p h in (r.0.number, (r.0, r.1, r.2, refl))
brings_of_run (parcels.State a) p h = taken_of_run a p h

runs_of_parcel : (T : Trace) (x : Parcel) → IsParcelOf T x → (p : ℕ) → has (runs_in x) p ≡ true → has (runs_of T.segments) p ≡ true
runs_of_parcel T x parcel p h =
    let b = brings_of_run x p h in
    run_of_key T p b.0 ((parcel.whole p b.0).0 b.1).1

-- ---- steps

-- a new analyst follows a pass that has got nothing
pub starts : (v : Known) (a : State) → v.trace.segments ≢ [] → 0 < v.parts → IsRight a v.trace → ((p : ℕ) → has v.got p ≡ false)
    → ((p n : ℕ) → HasTaken a p n → ⊥) → Follows v a None
starts v a some_segment part right nothing none = record {
  some = some_segment;
  part = part;
  right = right;
  in_hand = tt;
  runs = λ p h. absurd (true≢false (sym h ∙ nothing p));
  keys = λ p n. (never p n, λ h. absurd (true≢false (sym h.0 ∙ nothing p)));
} where
  never : (p n : ℕ) → HasGot a None p n → (has v.got p ≡ true) × HasKey v.trace p n
  never p n (inl taken) = absurd (none p n taken)
  never p n (inr nothing_there) = absurd nothing_there

-- the analyst and the hand have the same keys as before
pub moves : (v : Known) (a b : State) (h g : Option Parcel) → Follows v a h → IsRight b v.trace → HandIsOf v.trace g
    → ((p n : ℕ) → HasGot b g p n ↔ HasGot a h p n) → Follows v b g
moves v a b h g was right hand same = record {
  some = was.some;
  part = was.part;
  right = right;
  in_hand = hand;
  runs = was.runs;
  keys = λ p n. ((λ k. (was.keys p n).0 ((same p n).0 k)), (λ k. (same p n).1 ((was.keys p n).1 k)));
}

taken_only : (a : State) (p n : ℕ) → HasGot a None p n → HasTaken a p n
taken_only a p n (inl taken) = taken
taken_only a p n (inr nothing_there) = absurd nothing_there

-- what was in hand is taken in
pub takes_all : (v : Known) (a b : State) (x : Parcel) → Follows v a (Some x) → ((T : Trace) → IsRight a T → IsOf T x → IsRight b T)
    → ((p n : ℕ) → HasTaken b p n ↔ (HasTaken a p n ⊎ Brings x p n)) → Follows v b None
takes_all v a b x was right taken =
    moves v a b (Some x) None was (right v.trace was.right was.in_hand) tt
    (λ p n. ((λ k. (taken p n).0 (taken_only b p n k)), (λ k. inl ((taken p n).1 k))))

-- what is left of it stays in hand
pub takes_some : (v : Known) (a b : State) (x rest : Parcel) → Follows v a (Some x) → ((T : Trace) → IsRight a T → IsOf T x → IsRight b T)
    → ((T : Trace) → IsOf T x → IsOf T rest) → ((p n : ℕ) → (HasTaken b p n ⊎ Brings rest p n) ↔ (HasTaken a p n ⊎ Brings x p n))
    → Follows v b (Some rest)
takes_some v a b x rest was right left same =
    moves v a b (Some x) (Some rest) was (right v.trace was.right was.in_hand) (left v.trace was.in_hand) same

-- the analyst folds what it holds
pub compacts : (v : Known) (a b : State) (h : Option Parcel) → Follows v a h → ((T : Trace) → IsRight a T → IsRight b T)
    → ((p n : ℕ) → HasTaken b p n ↔ HasTaken a p n) → Follows v b h
compacts v a b h was right same = moves v a b h h was (right v.trace was.right) was.in_hand (λ p n. (there p n, back p n))
  where
    there : (p n : ℕ) → HasGot b h p n → HasGot a h p n
    there p n (inl taken) = inl ((same p n).0 taken)
    there p n (inr held) = inr held

    back : (p n : ℕ) → HasGot a h p n → HasGot b h p n
    back p n (inl taken) = inl ((same p n).1 taken)
    back p n (inr held) = inr held

-- a parcel comes into the hand
pub gets : (v : Known) (a : State) (x : Parcel) → Follows v a None → IsParcelOf v.trace x → Follows (popped v (named x) (runs_in x)) a (Some x)
gets v a x was parcel = record {
  some = was.some;
  part = was.part;
  right = was.right;
  in_hand = parcel.of;
  runs = runs;
  keys = λ p n. (there p n, λ k. back p n k.1 (or_cases (has v.got p) (has (runs_in x) p) (sym (has-union v.got (runs_in x) p) ∙ k.0)));
} where
  T : Trace
  T = v.trace

  runs : (p : ℕ) → has (union v.got (runs_in x)) p ≡ true → has (runs_of T.segments) p ≡ true
  runs p h = elim (or_cases (has v.got p) (has (runs_in x) p) (sym (has-union v.got (runs_in x) p) ∙ h)) [
    | inl mine ↦ was.runs p mine
    | inr its ↦ runs_of_parcel T x parcel p its
  ]

  there : (p n : ℕ) → HasGot a (Some x) p n → (has (union v.got (runs_in x)) p ≡ true) × HasKey T p n
  there p n (inl taken) =
      let k = (was.keys p n).0 (inl taken) in
      (has-union v.got (runs_in x) p ∙ or_left (has v.got p) (has (runs_in x) p) k.0, k.1)
  there p n (inr brought) =
      let k = (parcel.whole p n).0 brought in
      (has-union v.got (runs_in x) p ∙ or_right (has v.got p) (has (runs_in x) p) k.0, k.1)

  back : (p n : ℕ) → HasKey T p n → ((has v.got p ≡ true) ⊎ (has (runs_in x) p ≡ true)) → HasGot a (Some x) p n
  back p n key (inl mine) = inl (taken_only a p n ((was.keys p n).1 (mine, key)))
  back p n key (inr its) = inr ((parcel.whole p n).1 (its, key))

-- the desk's state is a parcel, whose runs are those that the pass has got
own_runs : (v : Known) (a : State) → Follows v a None → (p : ℕ) → has (runs_taken a) p ≡ has v.got p
own_runs v a was p = both_ways (has (runs_taken a) p) (has v.got p)
    (λ h. let t = taken_of_run a p h in ((was.keys p t.0).0 (inl t.1)).0)
    (λ h. let k = key_of_run v.trace p (was.runs p h) in run_of_taken a p k.0 (taken_only a p k.0 ((was.keys p k.0).1 (h, k.1))))

own_parcel : (v : Known) (a : State) → Follows v a None → IsParcelOf v.trace (parcels.State a)
own_parcel v a was = record {
  of = was.right;
  whole = λ p n. (
    (λ t. let k = (was.keys p n).0 (inl t) in (own_runs v a was p ∙ k.0, k.1)),
    (λ k. taken_only a p n ((was.keys p n).1 (sym (own_runs v a was p) ∙ k.0, k.1))),
  );
  one_run = tt;
}

-- a push of the desk's own state keeps the rule, where nothing is in hand
pub may_post : (n i : ℕ) (v : Known) (a b : State) → Follows v a None → b ≡ a → Pushes MakesUp n i v (parcels.State b) (Pushed v (parcels.State b))
may_post n i v a b was same =
    let now : Follows v b None = subst (λ x. Follows v x None) (sym same) was in
    pushes n i v (parcels.State b) now.part now.some (own_parcel v b now) (own_runs v b now)

-- another desk's analyst is merged in, and its pass joined
pub adopts : (v u : Known) (a b c : State) → Follows v a None → Follows u b None → u.trace ≡ v.trace
    → ((T : Trace) → IsRight a T → IsRight b T → IsRight c T) → ((p n : ℕ) → HasTaken c p n ↔ (HasTaken a p n ⊎ HasTaken b p n))
    → Follows (joined v u) c None
adopts v u a b c was other same right taken = record {
  some = was.some;
  part = (let some_part = was.part in omega (arith, some_part));
  right = right v.trace was.right (subst (λ t. IsRight b t) same other.right);
  in_hand = tt;
  runs = runs;
  keys = λ p n. (
    (λ k. there p n ((taken p n).0 (taken_only c p n k))),
    (λ k. inl ((taken p n).1 (back p n k.1 (or_cases (has v.got p) (has u.got p) (sym (has-union v.got u.got p) ∙ k.0))))),
  );
} where
  T : Trace
  T = v.trace

  theirs : (p n : ℕ) → HasKey u.trace p n → HasKey T p n
  theirs p n k = subst (λ t. HasKey t p n) same k

  runs : (p : ℕ) → has (union v.got u.got) p ≡ true → has (runs_of T.segments) p ≡ true
  runs p h = elim (or_cases (has v.got p) (has u.got p) (sym (has-union v.got u.got p) ∙ h)) [
    | inl mine ↦ was.runs p mine
    | inr its ↦ subst (λ t. has (runs_of t.segments) p ≡ true) same (other.runs p its)
  ]

  there : (p n : ℕ) → (HasTaken a p n ⊎ HasTaken b p n) → (has (union v.got u.got) p ≡ true) × HasKey T p n
  there p n (inl mine) =
      let k = (was.keys p n).0 (inl mine) in
      (has-union v.got u.got p ∙ or_left (has v.got p) (has u.got p) k.0, k.1)
  there p n (inr its) =
      let k = (other.keys p n).0 (inl its) in
      (has-union v.got u.got p ∙ or_right (has v.got p) (has u.got p) k.0, theirs p n k.1)

  back : (p n : ℕ) → HasKey T p n → ((has v.got p ≡ true) ⊎ (has u.got p ≡ true)) → HasTaken a p n ⊎ HasTaken b p n
  back p n key (inl mine) = inl (taken_only a p n ((was.keys p n).1 (mine, key)))
  back p n key (inr its) = inr (taken_only b p n ((other.keys p n).1 (its, subst (λ t. HasKey t p n) (sym same) key)))

-- who has got every run, and has folded all, has the standing state of the whole trace
pub has_whole : (v : Known) (a : State) (T : Trace) → v.trace ≡ T → v.parts ≡ 8 → Follows v a None → HasRest v → IsStanding a v.trace
    → IsWholeStanding T a
has_whole v a T same every follows rest standing = record {
  standing = subst (λ t. IsStanding a t) same standing;
  keys = λ p n key.
      let mine : HasKey v.trace p n = subst (λ t. HasKey t p n) (sym same) key in
      taken_only a p n ((follows.keys p n).1 (rest every p ∙ run_of_key v.trace p n mine, mine));
}

-- ---- what calls answer

pop_keeps : (v w : Known) (name : Collected) (runs : List Bool) (p : ℕ) → w ≡ popped v name runs → has v.got p ≡ true → has w.got p ≡ true
pop_keeps v w name runs p is h = ap (λ (u : Known). has u.got p) is ∙ has-union v.got runs p ∙ or_left (has v.got p) (has runs p) h

-- what was got is got still
pub collects_keeps : (hand : Option Parcel) (result : Result Collected NoMemory) (v w : Known) → CollectsAs hand result v w
    → KeepsGot v w
collects_keeps (Some x) (Ok c) v w is p h = ap (λ (u : Known). has u.got p) is.1 ∙ h
collects_keeps (Some x) (Err e) v w is p h = ap (λ (u : Known). has u.got p) is ∙ h
collects_keeps None (Ok collected.Run) v w is p h = pop_keeps v w collected.Run (one is.0) p is.1 h
collects_keeps None (Ok collected.State) v w is p h = pop_keeps v w collected.State is.0 p is.1 h
collects_keeps None (Ok collected.Nothing) v w is p h = ap (λ (u : Known). has u.got p) is ∙ h
collects_keeps None (Err e) v w is p h = pop_keeps v w is.0 is.1 p is.3 h

-- a push changes no key
pub posts_still : (v w : Known) (a : State) (hand : Option Parcel) → Follows v a hand → (w ≡ pushed v) ⊎ (w ≡ v) → Follows w a hand
posts_still v w a hand was (inl is) = subst (λ u. Follows u a hand) (sym is) (record {
  some = was.some;
  part = was.part;
  right = was.right;
  in_hand = was.in_hand;
  runs = was.runs;
  keys = was.keys;
})
posts_still v w a hand was (inr is) = subst (λ u. Follows u a hand) (sym is) was
