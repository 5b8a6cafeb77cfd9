-- The events until a moment are, segment after segment, those of each segment until it.
use Rattle.std.proofs.Common.{◌≡◌, ℕ, zero, suc, ◌+◌, ◌<◌, Bool, List, [], ◌∷◌, ◌++◌, map, length, get_or, take, Option, Some, None}
use Rattle.std.proofs.Common.{IsPermutation, refl, sym, ap, ◌∙◌, subst, inl, inr, arith}
use Rattle.std.specs.Prelude.{Contains, filter, flat_map, nat_le}
use Rattle.std.specs.List.{AllByRecursion}
use Rattle.std.specs.List.Sorted.{IsNonDecreasingBy}
use Rattle.std.proofs.lemmas.Bool.{cases_Bool}
use Rattle.std.proofs.lemmas.Grind.{flat_map-append}
use Rattle.std.proofs.lemmas.List.{append-nil}
use Rattle.std.proofs.lemmas.List.Elements.{Contains-get_or, filter-append}
use Rattle.htl_event.proofs.Members.{at_member, filter-pass, filter-skip}
use Rattle.htl_event.proofs.WantedLists.{unseen}
use Rattle.htl_event.specs.Events.{Event}
use Rattle.htl_event.specs.Handles.{HaveOwnSequences}
use Rattle.htl_event.specs.Interests.{as_needed, wants, wanted}
use Rattle.htl_event.specs.Moments.{events_until, counted_events}
use Rattle.htl_event.specs.declared.interest.Interest.{Interest}
use Rattle.htl_segment.specs.Content.{Content, EventsFit, Fits}
use Rattle.htl_segment.specs.Traces.{all_events}
use Rattle.htl_segment.specs.declared.version.Version.{Version}
use Rattle.htl_segment.proofs.Greatest.{all_events-more}
use Rattle.htl_segment.proofs.Spans.{above}
use Rattle.htl_case.proofs.Listings.{fewer}
use Rattle.htl_case.proofs.Moved.{kept_moved}
use Rattle.htl_case.proofs.Twice.{own_from_times, times_from_own}

-- ---- of one segment

rises : (version : Version) (low : ℕ) (es : List Event) → EventsFit version low es → IsNonDecreasingBy (λ e. e.sequence) es
rises version low [] fit i j d le within = absurd (omega (arith, within))
rises version low (e ∷ es) fit zero zero d le within = omega arith
rises version low (e ∷ es) fit zero (suc j) d le within =
    let up = above version e.sequence es fit.2 (get_or es j d) (Contains-get_or es j d (omega (arith, within))) in omega (arith, up)
rises version low (e ∷ es) fit (suc i) zero d le within = absurd (omega (arith, le))
rises version low (e ∷ es) fit (suc i) (suc j) d le within =
    rises version e.sequence es fit.2 i j d (omega (arith, le)) (omega (arith, within))

-- the sequences of a segment's events rise
pub events_rise : (s : Content) → Fits s → IsNonDecreasingBy (λ e. e.sequence) s.events
events_rise s fit = rises s.version 0 s.events fit.events

-- the segment at a place fits, where all do
pub fits_at : (ss all : List Content) (i : ℕ) (s : Content) → ss ≡ all → AllByRecursion Fits all → i < length ss → s ≡ get_or ss i s → Fits s
fits_at ss all i s same fit lt is = at_member Fits all s fit (subst (λ (l : List Content). Contains l s) same (i, lt, sym is))

-- ---- of one segment more

-- of two lists put together, the events until a moment are those of the first, and then those of the second
pub counted-append : (until : Option ℕ) (xs ys : List Event) → counted_events until (xs ++ ys) ≡ counted_events until xs ++ counted_events until ys
counted-append None xs ys = refl
counted-append (Some moment) xs ys = filter-append (λ e. nat_le e.sequence moment) xs ys

pub counted_more : (until : Option ℕ) (ss : List Content) (i : ℕ) (s : Content) → i < length ss → s ≡ get_or ss i s
    → counted_events until (all_events (take (i + 1) ss)) ≡ counted_events until (all_events (take i ss)) ++ counted_events until s.events
counted_more until ss i s lt is = ap (counted_events until) (all_events-more ss i s lt is) ∙ counted-append until (all_events (take i ss)) s.events

-- the same of lists, where each has those of one segment
pub lists_more : {X : Type 0} (f : X → List Event) (until : Option ℕ) (ss : List Content) (i : ℕ) (s : Content) (old new : List X) (x : X)
    → i < length ss → s ≡ get_or ss i s → f x ≡ counted_events until s.events
    → flat_map f old ≡ counted_events until (all_events (take i ss)) → new ≡ old ++ x ∷ []
    → flat_map f new ≡ counted_events until (all_events (take (i + 1) ss))
lists_more f until ss i s old new x lt is own so_far pushed =
    ap (flat_map f) pushed ∙ flat_map-append f old (x ∷ []) ∙ ap (λ (l : List Event). flat_map f old ++ l) (append-nil (f x) ∙ own)
    ∙ ap (λ (l : List Event). l ++ counted_events until s.events) so_far ∙ sym (counted_more until ss i s lt is)

-- where no sequence comes twice, none does among the events that pass a test
pub own_filtered : (p : Event → Bool) (es : List Event) → HaveOwnSequences es → HaveOwnSequences (filter p es)
own_filtered p es own = own_from_times (filter p es) (λ n. omega (arith, fewer p n es, times_from_own es own n))

-- so none comes twice among the events until a moment
pub own_until : (until : Option ℕ) (es : List Event) → HaveOwnSequences es → HaveOwnSequences (counted_events until es)
own_until None es own = own
own_until (Some moment) es own = own_filtered (λ (e : Event). nat_le e.sequence moment) es own

-- ---- of those that are asked about

-- two tests may change places
turned : {X : Type 0} (p q : X → Bool) (xs : List X) → filter p (filter q xs) ≡ filter q (filter p xs)
turned p q [] = refl
turned p q (x ∷ xs) =
    elim (cases_Bool (p x)) [
      | inl kept ↦ elim (cases_Bool (q x)) [
        | inl here ↦ ap (filter p) (filter-pass q x xs here) ∙ filter-pass p x (filter q xs) kept ∙ ap (λ l. x ∷ l) (turned p q xs)
            ∙ sym (ap (filter q) (filter-pass p x xs kept) ∙ filter-pass q x (filter p xs) here)
        | inr other ↦ ap (filter p) (filter-skip q x xs other) ∙ turned p q xs
            ∙ sym (ap (filter q) (filter-pass p x xs kept) ∙ filter-skip q x (filter p xs) other)
      ]
      | inr dropped ↦ elim (cases_Bool (q x)) [
        | inl here ↦ ap (filter p) (filter-pass q x xs here) ∙ filter-skip p x (filter q xs) dropped ∙ turned p q xs
            ∙ sym (ap (filter q) (filter-skip p x xs dropped))
        | inr other ↦ ap (filter p) (filter-skip q x xs other) ∙ turned p q xs ∙ sym (ap (filter q) (filter-skip p x xs dropped))
      ]
    ]

-- a moment leaves of what is needed of events what is needed of those that it leaves
kept_needed : (moment : ℕ) (interest : Interest) (es : List Event)
    → events_until moment (map (as_needed interest) es) ≡ map (as_needed interest) (events_until moment es)
kept_needed moment interest [] = refl
kept_needed moment interest (e ∷ es) =
    let test : Event → Bool = λ x. nat_le x.sequence moment in
    let same = unseen test (λ x. refl) interest e in
    let rest = map (as_needed interest) es in
    elim (cases_Bool (test e)) [
      | inl kept ↦ filter-pass test (as_needed interest e) rest (same ∙ kept)
          ∙ ap (λ (l : List Event). as_needed interest e ∷ l) (kept_needed moment interest es)
          ∙ sym (ap (map (as_needed interest)) (filter-pass test e es kept))
      | inr dropped ↦ filter-skip test (as_needed interest e) rest (same ∙ dropped) ∙ kept_needed moment interest es
          ∙ sym (ap (map (as_needed interest)) (filter-skip test e es dropped))
    ]

-- of the events until a moment, those that are asked about are what the moment leaves of all that are
pub wanted_until : (interest : Interest) (until : Option ℕ) (es own : List Event) → IsPermutation (wanted interest es) own
    → IsPermutation (wanted interest (counted_events until es)) (counted_events until own)
wanted_until interest None es own moved = moved
wanted_until interest (Some moment) es own moved =
    let test : Event → Bool = λ e. nat_le e.sequence moment in
    subst (λ (l : List Event). IsPermutation l (events_until moment own))
    (kept_needed moment interest (filter (wants interest) es) ∙ ap (map (as_needed interest)) (turned test (wants interest) es))
    (kept_moved test (wanted interest es) own moved)
