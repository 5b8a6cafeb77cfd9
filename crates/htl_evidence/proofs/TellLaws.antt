-- What is kept in each way tells the answers.
use Rattle.std.proofs.Common.{◌≡◌, ◌∙◌, ◌<◌, ℕ, Bool, true, false, cond, List, [], ◌∷◌, Option, None, Some, length, refl, sym, ap, subst, inl}
use Rattle.std.proofs.Common.{IsPermutation, arith, inr, map}
use mathlib.Core.List.{map-id}
use Rattle.std.specs.Prelude.{Contains, ◌↔◌, ◌==◌, count_by, filter}
use Rattle.std.proofs.lemmas.Bool.{and_from, eq-eqb}
use Rattle.std.proofs.lemmas.List.{append-nil}
use Rattle.std.proofs.lemmas.List.Sorted.{IsPermutation-refl}
use Rattle.std.proofs.lemmas.List.Sums.{sum_by-cons}
use Rattle.htl_event.specs.Events.{Event}
use Rattle.htl_event.specs.Handles.{HaveOwnSequences, IsGreatestSequence, IsListing, IsOfHandle}
use Rattle.htl_event.specs.Interests.{wanted}
use Rattle.htl_event.specs.Moments.{counted_events}
use Rattle.htl_event.specs.Slots.{base_of}
use Rattle.htl_event.specs.declared.interest.Interest.TheVariants as interests
use Rattle.htl_event.specs.declared.growth.Span.{Span}
use Rattle.htl_event.proofs.Members.{Contains-filter, Contains-from_filter, Contains-here, Contains-there}
use Rattle.htl_segment.specs.Content.{Content}
use Rattle.htl_segment.specs.Traces.{Trace, HasKey, all_events, key_is_in}
use Rattle.htl_taken.specs.Gaps.{IsGaps}
use Rattle.htl_taken.specs.declared.gap.Gap.{Gap}
use Rattle.htl_taken.specs.Numbers.{front_at}
use Rattle.htl_taken.proofs.Gaps.{gaps_agree}
use Rattle.htl_answers.specs.Parts.{Contents, IsFoldOf, AreEventsOf}
use Rattle.htl_answers.proofs.JoinedTables.{tables_none}
use Rattle.htl_analyst.specs.Keys.{HasTaken, keys, number_taken}
use Rattle.htl_analyst.specs.Moments.{IsLeastLastFolded}
use Rattle.htl_analyst.specs.Right.{IsRight, run_events}
use Rattle.htl_analyst.specs.States.{State}
use Rattle.htl_analyst.specs.TakenEvents.{contents_of}
use Rattle.htl_analyst.proofs.Answered.{are_events_read}
use Rattle.htl_analyst.proofs.EventNumbers.{number_kept}
use Rattle.htl_analyst.proofs.KeyEvents.{taken_keys}
use Rattle.htl_case.specs.Cases.{IsCase}
use Rattle.htl_case.specs.Complete.{IsCompleteTo, IsFirstMissing}
use Rattle.htl_case.proofs.Counted.{own_filtered, own_until}
use Rattle.htl_case.proofs.Pickings.{picked_own}
use Rattle.htl_case.proofs.Sizes.{size_is}
use Rattle.htl_question.specs.Answers.{IsAnswerOver, Suffice}
use Rattle.htl_question.specs.Bases.{Extent, basis, extent}
use Rattle.htl_question.specs.declared.question.Question.{Question}
use Rattle.htl_question.specs.declared.question.Question.TheVariants as questions
use Rattle.htl_question.proofs.Wanted.{wanted_suffice}
use Rattle.htl_evidence.specs.Bases.{IsExtentOf}
use Rattle.htl_evidence.specs.Kept.{Tells, one_by_one, unfolded}
use Rattle.htl_evidence.specs.Told.{AreEnough, AreFoldsOf, ArePicksFor, AsOf, HasFolded, IsOfCase, PicksUntil, counted_own, folds, is_own}
use Rattle.htl_evidence.specs.Told.{own_events}
use Rattle.htl_evidence.specs.declared.owner.Owner.{Owner}
use Rattle.htl_evidence.specs.declared.owner.Owner.TheVariants.{Process, Object, Handle}
use Rattle.htl_evidence.proofs.Covered.{one_first}

-- ---- events as a part of which nothing was folded

nothing_folded : (events : List Event) → IsFoldOf (unfolded events) []
nothing_folded events = record { tree = λ slot stack. refl; tables = tables_none }

-- a part of events that weren't folded stands for these events
are_events_of : (part : Contents) (events : List Event) → part ≡ unfolded events → AreEventsOf (part ∷ []) events
are_events_of part events is = rw is ([], [], nothing_folded events, refl, sym (append-nil events))

-- ---- each way of keeping

-- the listing of a handle over its own events is the one over all
listing_of_own : (process base handle : ℕ) (es rows : List Event) → base_of handle ≡ base
    → IsListing (Contains (filter (is_own (Handle process base)) es)) process handle rows → IsListing (Contains es) process handle rows
listing_of_own process base handle es rows is over = record {
  rising = over.rising;
  members = λ e. (
    λ here. let own = (over.members e).0 here in ((Contains-from_filter (is_own (Handle process base)) es e own.0).0, own.1),
    λ own. (over.members e).1 (Contains-filter (is_own (Handle process base)) es e own.0 (is_its e own.1), own.1),
  );
} where
  is_its : (e : Event) → IsOfHandle process (base_of handle) e → is_own (Handle process base) e ≡ true
  is_its e of = and_from (e.process == process) (base_of e.handle == base) (eq-eqb e.process process of.owner)
      (eq-eqb (base_of e.handle) base (of.handle ∙ is))

-- no two of them have one sequence, where no two of all have
own_sequences : (owner : Option Owner) (es : List Event) → HaveOwnSequences es → HaveOwnSequences (own_events owner es)
own_sequences None es own = own
own_sequences (Some owner) es own = own_filtered (is_own owner) es own

-- they are enough where they are all, or all that can tell the answer
own_suffice : (owner : Option Owner) (question : Question) (es : List Event) (span : Option Span) (extent : Extent)
    → AreEnough owner question → HaveOwnSequences es → Suffice (own_events owner es) question (basis es span extent)
own_suffice None question es span extent enough own = λ answer over. over
own_suffice (Some (Process process)) question es span extent enough own =
    let all : IsPermutation (wanted (interests.Process process) es) (own_events (Some (Process process)) es) = subst (IsPermutation _)
    (map-id _) (IsPermutation-refl _) in
    wanted_suffice question (interests.Process process) (basis es span extent) (own_events (Some (Process process)) es) (inr enough) all own
own_suffice (Some (Object object)) question es span extent enough own =
    let all : IsPermutation (wanted (interests.Object object) es) (own_events (Some (Object object)) es) = subst (IsPermutation _)
    (map-id _) (IsPermutation-refl _) in
    wanted_suffice question (interests.Object object) (basis es span extent) (own_events (Some (Object object)) es) (inr enough) all own
own_suffice (Some (Handle process base)) question es span extent (handle, asked, is) own =
    rw asked (λ answer over. record {
      asked = over.asked;
      since = over.since;
      rows = (let listed = over.rows in
          (listed.0, listed.1, listing_of_own process base handle es listed.0 is listed.2));
    })

-- the events of a case up to a moment, or those of a process, object or handle
pub told_as_of : (e : AsOf) (question : Question) (T : Trace) (until : Option ℕ) → IsCase e.trace → IsOfCase e question T until
    → Tells true (one_by_one (counted_own e)) question T until
told_as_of e question T until case of =
    let counted = counted_events e.until (all_events e.trace.segments) in
    let own = own_until e.until (all_events e.trace.segments) case.trace.sequences in
    rw (of.trace, of.moment) (
      counted_own e,
      record {
        are = are_events_of _ _ refl;
        number = refl;
        ordered = λ latest. own_sequences e.owner counted own;
        one_part = λ keeps. refl;
        enough = λ span extent. own_suffice e.owner question counted span extent of.enough own;
      },
    )

-- the events that were picked for a question
pub told_picks : (picks : PicksUntil) (question : Question) (T : Trace) (until : Option ℕ) → ArePicksFor picks question T until
    → Tells true (one_by_one picks.picked.events) question T until
told_picks picks question T until of = (
  picks.picked.events,
  record {
    are = are_events_of _ _ refl;
    number = refl;
    ordered = λ latest. picked_own of.interest T until picks.picked of.is_case.trace of.are;
    one_part = λ keeps. refl;
    enough = λ span extent. wanted_suffice question of.interest (basis (counted_events until (all_events T.segments)) span extent)
        picks.picked.events of.serves of.are.events (own_until until (all_events T.segments) of.is_case.trace.sequences);
  },
)

-- what an analyst folded and holds
pub told_folds : (a : State) (question : Question) (T : Trace) (until : Option ℕ) → AreFoldsOf a question T until
    → Tells false (folds a) question T until
told_folds a question T until of =
    let right = of.folded.right in
    let all = of.folded.events in (
      all_events T.segments,
      record {
        are = subst (AreEventsOf (map contents_of a.parts)) all (are_events_read T a a a.parts refl refl right);
        number = number_kept T a right ∙ ap length all;
        ordered = of.ordered;
        one_part = λ keeps. absurd (cc keeps);
        enough = λ span extent answer over. rw of.moment over;
      },
    )

-- ---- the extent of what an analyst took

count_all : (p : Content → Bool) (ss : List Content) → ((s : Content) → Contains ss s → p s ≡ true) → count_by p ss ≡ length ss
count_all p [] each = refl
count_all p (s ∷ ss) each =
    let one = sum_by-cons (λ t. cond (p t) 1 0) s ss in
    let first = ap {B = ℕ} (λ (b : Bool). cond b 1 0) (each s (Contains-here s ss)) in
    let rest = count_all p ss (λ t h. each t (Contains-there s ss t h)) in
    omega (arith, one, first, rest)

-- where exactly its segments were taken, each was taken once
pub taken_all : (a : State) (T : Trace) → IsRight a T → ((p n : ℕ) → HasTaken a p n ↔ HasKey T p n) → number_taken a ≡ length T.segments
taken_all a T right same = size_is T a right ∙ count_all (key_is_in (keys a)) T.segments
    (λ s h. taken_keys a s.processor s.number ((same s.processor s.number).1 (s, h, refl, refl)))

module _ (a : State) (T : Trace) (folded : HasFolded a T) where
  -- a front is the first missing number
  pub front_missing : (p : ℕ) → IsFirstMissing T p (front_at a.taken p)
  front_missing p = record {
    below = λ n lt. (folded.keys p n).0 (inl lt);
    missing = λ has. folded.far p ((folded.keys p (front_at a.taken p)).1 has);
  }

  complete_to : (n : ℕ) → IsLeastLastFolded T a n → IsCompleteTo T n
  complete_to n least = record {
    bound = λ p m within unbroken.
        (let first = one_first T p unbroken.0 (front_at a.taken p) unbroken.1 (front_missing p) in
        least.bound p m (subst (λ (x : ℕ). p < x) folded.right.processors within)
        (subst (λ (f : ℕ). IsGreatestSequence (Contains (run_events T p f)) m) first unbroken.2));
    processor = least.processor;
    within = subst (λ (x : ℕ). least.processor < x) (sym folded.right.processors) least.within;
    reached = (front_at a.taken least.processor, front_missing least.processor, least.reached);
  }

  pub folds_extent : (processors segments complete : ℕ) (gaps : List Gap) → processors ≡ a.processors → segments ≡ number_taken a
      → IsGaps (HasTaken a) a.processors gaps → IsLeastLastFolded T a complete → IsExtentOf T (extent processors segments gaps complete)
  folds_extent processors segments complete gaps count number listed least = record {
    processors = count ∙ sym folded.right.processors;
    segments = number ∙ taken_all a T folded.right folded.keys;
    gaps = gaps_agree (HasTaken a) (HasKey T) T.processors gaps (λ p n within. folded.keys p n)
        (subst (λ (n : ℕ). IsGaps (HasTaken a) n gaps) (sym folded.right.processors) listed);
    complete_to = complete_to complete least;
  }
