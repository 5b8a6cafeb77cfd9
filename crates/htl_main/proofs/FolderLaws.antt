-- Of the segments that were given one after the other, those before the first that is unfit were taken.
use Rattle.std.proofs.Common.{◌≡◌, ◌≢◌, ℕ, ◌+◌, ◌<◌, ◌-◌, ◌^◌, List, [], ◌∷◌, ◌++◌, min, refl, sym, ap, ◌∙◌, subst}
use Rattle.std.proofs.Common.{arith, append_assoc, append-nil, length-append, Some, None, Option, true, false}
use Rattle.std.specs.Prelude.{Contains, OnOk, Result, Ok, Err, is_some}
use Rattle.htl_event.proofs.Members.{Contains-here, Contains-nil}
use Rattle.std.proofs.lemmas.List.Elements.{Contains-append_right}
use Rattle.htl_segment.specs.Content.{Content}
use Rattle.htl_analyst.specs.States.{State}
use Rattle.htl_analyst.specs.TakenAll.{HasTakenAll}
use Rattle.htl_case.specs.declared.fault.CaseFault.{CaseFault}
use Rattle.htl_main.specs.Folders.{Folds, Keeps, KeepsAll, TookFit, TookNext}
use Rattle.htl_main.specs.Folding.{Accepts, AreAcceptedAfter, AreFolded, AreRising, AreTaken, IsOfPlace, IsUnfit, TakesUpTo}
use Rattle.htl_main.proofs.FoldLaws.{accepts_next}
use Rattle.htl_main.proofs.RisingLaws.{accepted_rise}

not_empty : (xs : List Content) (s : Content) → xs ++ s ∷ [] ≢ []
not_empty xs s none =
    Contains-nil s (subst (λ (ss : List Content). Contains ss s) none (Contains-append_right xs (s ∷ []) s (Contains-here s [])))

accepted_more : (before earlier more : List Content) (s : Content) → AreAcceptedAfter before earlier more
    → Accepts before (earlier ++ more) s → AreAcceptedAfter before earlier (more ++ s ∷ [])
accepted_more before earlier [] s all one = (subst (λ (e : List Content). Accepts before e s) (append-nil earlier) one, tt)
accepted_more before earlier (x ∷ more) s all one = (
  all.0,
  accepted_more before (earlier ++ x ∷ []) more s all.1
      (subst (λ (e : List Content). Accepts before e s) (sym (append_assoc earlier (x ∷ []) more)) one),
)

-- ---- what is kept

keeps_on : (first : Option State) (old new : State) → KeepsAll first (Some old) → Keeps old new → KeepsAll first (Some new)
keeps_on None old new before then = tt
keeps_on (Some first) old new before then = record {
  fronts = λ p. (let a = before.fronts p in let b = then.fronts p in omega (arith, a, b));
  number = (let a = before.number in let b = then.number in omega (arith, a, b));
}

-- what was taken rises
rise_so_far : (first now : Option State) (unfit : Option CaseFault) (n : ℕ) (given : List Content) (so_far : Folds first now unfit n given)
    (before : List Content) → AreFolded first before → AreRising (before ++ so_far.taken)
rise_so_far first now unfit n given so_far before was = accepted_rise before so_far.taken was.rising (so_far.takes before was).accepted

-- ---- one segment more

module _ (first : Option State) (old new : State) (given : List Content) (n m : ℕ) (s : Content)
    (so_far : Folds first (Some old) None n given) (more : m ≡ min (n + 1) (2 ^ 64 - 1))
    (next : (segments : List Content) → segments ≢ [] → HasTakenAll segments old → AreRising segments → TookNext segments s old new) where
  taken_next : (before : List Content) → AreFolded first before → TookNext (before ++ so_far.taken) s old new
  taken_next before was =
      (let kept = so_far.kept before was in
      next (before ++ so_far.taken) kept.0 kept.1 (rise_so_far first (Some old) None n given so_far before was))

  takes_next : (before : List Content) → AreFolded first before → TakesUpTo before (given ++ s ∷ []) (so_far.taken ++ s ∷ []) None
  takes_next before was =
      let takes = so_far.takes before was in
      let kept = so_far.kept before was in
      let took = taken_next before was in
      let all : given ≡ so_far.taken = takes.cut ∙ ap (λ (l : List Content). so_far.taken ++ l) takes.ends ∙ append-nil so_far.taken in
      record {
        later = [];
        cut = ap (λ (l : List Content). l ++ s ∷ []) all ∙ sym (append-nil (so_far.taken ++ s ∷ []));
        accepted = accepted_more before [] so_far.taken s takes.accepted
            (accepts_next before so_far.taken old s kept.0 kept.1 took.accepted took.rising);
        ends = refl;
      }

  kept_next : (before : List Content) → AreFolded first before → AreTaken (before ++ (so_far.taken ++ s ∷ [])) (Some new)
  kept_next before was =
      let took = taken_next before was in
      subst (λ (l : List Content). AreTaken l (Some new)) (append_assoc before so_far.taken (s ∷ []))
      (not_empty (before ++ so_far.taken) s, took.kept)

  pub took_next : Keeps old new → Folds first (Some new) None m (given ++ s ∷ [])
  took_next keeps = record {
    taken = so_far.taken ++ s ∷ [];
    takes = takes_next;
    kept = kept_next;
    number =
        (let so = so_far.number in
        let long = length-append so_far.taken (s ∷ []) in
        omega (arith, more, so, long));
    keeps = keeps_on first old new so_far.keeps keeps;
    same = λ none. absurd (omega (arith, none, more));
  }

-- A segment is the first that was taken.
module _ (first : Option State) (new : State) (given : List Content) (n : ℕ) (s : Content)
    (so_far : Folds first None None n given) (took : HasTakenAll (s ∷ []) new) where
  none_first : (first : Option State) → KeepsAll first None → first ≡ None
  none_first None keeps = refl
  none_first (Some state) keeps = absurd keeps

  none_taken : so_far.taken ≡ []
  none_taken = so_far.kept [] (record {
    taken = rw (none_first first so_far.keeps) refl;
    rising = λ s t first. absurd first;
    far = rw (none_first first so_far.keeps) tt;
  })

  -- the first segment begins what was taken
  pub took_first : Folds first (Some new) None 1 (given ++ s ∷ [])
  took_first = record {
    taken = s ∷ [];
    takes = λ before was.
        (let takes = so_far.takes before was in
        let nothing : before ≡ [] = (rw (none_first first so_far.keeps) at was).taken in
        let all : given ≡ [] = takes.cut ∙ ap (λ (l : List Content). so_far.taken ++ l) takes.ends
        ∙ append-nil so_far.taken ∙ none_taken in
        record {
          later = [];
          cut = ap (λ (l : List Content). l ++ s ∷ []) all;
          accepted = (
            rw nothing (record {
              trace = tt;
              content = λ t first. absurd first;
              rises = λ fresh t first. absurd first;
            }),
            tt,
          );
          ends = refl;
        });
    kept = λ before was.
        (let nothing : before ≡ [] = (rw (none_first first so_far.keeps) at was).taken in
        rw nothing (not_empty [] s, took));
    number = refl;
    keeps = rw (none_first first so_far.keeps) tt;
    same = λ none. cc;
  }

-- A segment is unfit.
module _ (first now : Option State) (given : List Content) (n : ℕ) (s : Content) (fault : CaseFault) where
  pub found_unfit : (so_far : Folds first now None n given)
      → ((before : List Content) → AreFolded first before → IsUnfit (before ++ so_far.taken) s fault × IsOfPlace fault n)
      → Folds first now (Some fault) n (given ++ s ∷ [])
  found_unfit so_far unfit = record {
    taken = so_far.taken;
    takes = λ before was.
        (let takes = so_far.takes before was in
        let all : given ≡ so_far.taken = takes.cut ∙ ap (λ (l : List Content). so_far.taken ++ l) takes.ends ∙ append-nil so_far.taken in
        let is = unfit before was in
        record {
          later = s ∷ [];
          cut = ap (λ (l : List Content). l ++ s ∷ []) all;
          accepted = takes.accepted;
          ends = (s, [], refl, is.0, subst (IsOfPlace fault) so_far.number is.1);
        });
    kept = so_far.kept;
    number = so_far.number;
    keeps = so_far.keeps;
    same = so_far.same;
  }

  pub stays_unfit : Folds first now (Some fault) n given → Folds first now (Some fault) n (given ++ s ∷ [])
  stays_unfit so_far = record {
    taken = so_far.taken;
    takes = λ before was.
        (let takes = so_far.takes before was in
        let ends = takes.ends in
        record {
          later = takes.later ++ s ∷ [];
          cut = ap (λ (l : List Content). l ++ s ∷ []) takes.cut ∙ append_assoc so_far.taken takes.later (s ∷ []);
          accepted = takes.accepted;
          ends = (ends.0, ends.1 ++ s ∷ [], ap (λ (l : List Content). l ++ s ∷ []) ends.2, ends.3, ends.4);
        });
    kept = so_far.kept;
    number = so_far.number;
    keeps = so_far.keeps;
    same = so_far.same;
  }

-- What was taken is folded.
pub folded_too : (first : Option State) (old new : State) (unfit : Option CaseFault) (n : ℕ) (given : List Content)
    → Folds first (Some old) unfit n given → 0 < n → Keeps old new
    → ((segments : List Content) → HasTakenAll segments old → HasTakenAll segments new) → Folds first (Some new) unfit n given
folded_too first old new unfit n given so_far some keeps took = record {
  taken = so_far.taken;
  takes = so_far.takes;
  kept = λ before was. (let kept = so_far.kept before was in (kept.0, took (before ++ so_far.taken) kept.1));
  number = so_far.number;
  keeps = keeps_on first old new so_far.keeps keeps;
  same = λ none. absurd (omega (arith, none, some));
}

-- What came of one segment more: it was taken, or is unfit and changed nothing.
module _ (first : Option State) (old new : State) (given : List Content) (n : ℕ) (s : Content)
    (so_far : Folds first (Some old) None n given) where
  -- the next segment is unfit, and the analyst stays as it was
  pub unfit_next : (unfit : Option CaseFault) → is_some unfit ≡ true → (is_some unfit ≡ true → new ≡ old)
      → ((segments : List Content) → segments ≢ [] → HasTakenAll segments old → AreRising segments → TookFit segments s n old new unfit)
      → Folds first (Some new) unfit n (given ++ s ∷ [])
  unfit_next None is same next = absurd (cc is)
  unfit_next (Some fault) is same next =
      rw (same is) (found_unfit first (Some old) given n s fault so_far
      (λ before was.
      (let kept = so_far.kept before was in
      next (before ++ so_far.taken) kept.0 kept.1 (rise_so_far first (Some old) None n given so_far before was))))

  -- the next segment was taken behind those before it
  pub fit_next : (unfit : Option CaseFault) (m : ℕ) → is_some unfit ≡ false → m ≡ min (n + 1) (2 ^ 64 - 1) → Keeps old new
      → ((segments : List Content) → segments ≢ [] → HasTakenAll segments old → AreRising segments → TookFit segments s n old new unfit)
      → Folds first (Some new) unfit m (given ++ s ∷ [])
  fit_next None m is more keeps next = took_next first old new given n m s so_far more next keeps
  fit_next (Some fault) m is more keeps next = absurd (cc is)

-- behind a segment that is unfit, none more is taken
pub stays : (first now : Option State) (unfit : Option CaseFault) (given : List Content) (n : ℕ) (s : Content) → is_some unfit ≡ true
    → Folds first now unfit n given → Folds first now unfit n (given ++ s ∷ [])
stays first now None given n s is so_far = absurd (cc is)
stays first now (Some fault) given n s is so_far = stays_unfit first now given n s fault so_far

-- what holds holds where something is Ok
pub whatever : {S E : Type 0} {P : Type 0} (result : Result S E) → P → OnOk result P
whatever (Ok value) is = is
whatever (Err fault) is = tt
