-- What is found of a question's subject among the events that are asked about is found among all events.
use Rattle.std.proofs.Common.{◌≡◌, ◌⊎◌, ℕ, Bool, true, false, List, [], ◌∷◌, Option, None, Some, IfNone, IsPermutation, inl, inr, refl, sym, ap, ◌∙◌}
use Rattle.std.specs.Prelude.{◌&&◌, Contains, filter, not}
use Rattle.std.specs.List.{list_any}
use Rattle.std.proofs.lemmas.Bool.{cases_Bool}
use Rattle.std.proofs.lemmas.List.Folds.{Any-from_list_any}
use Rattle.std.proofs.lemmas.List.Sorted.{Contains-permutation, IsPermutation-sym}
use Rattle.htl_event.specs.Events.{Event}
use Rattle.htl_event.specs.Interests.{wants, as_needed, wanted}
use Rattle.htl_event.specs.declared.interest.Interest.{Interest}
use Rattle.htl_event.specs.declared.interest.Interest.TheVariants.{OpenHandles}
use Rattle.htl_event.specs.Moments.{counted_events}
use Rattle.htl_event.proofs.Members.{Contains-here, Contains-filter, Contains-from_filter, Contains-map, Contains-from_map}
use Rattle.htl_event.proofs.WantedLists.{unseen}
use Rattle.htl_segment.specs.Content.{Content}
use Rattle.htl_segment.specs.Traces.{Trace, all_events}
use Rattle.htl_case.specs.Cases.{IsCaseOf}
use Rattle.htl_case.specs.Picked.{Picked, IsPickedUntil}
use Rattle.htl_command.specs.declared.question.Job.{Job}
use Rattle.htl_question.specs.Questions.{Serves, is_of_all_handles, subject_of}
use Rattle.htl_question.specs.Subjects.{is_about}
use Rattle.htl_question.specs.declared.question.Question.{Question}
use Rattle.htl_question.proofs.About.{about_is_wanted, all_of_subject, unseen_stack, wanted_is_about}
use Rattle.htl_evidence.specs.Told.{ArePicksFor, PicksUntil, picks_until}
use Rattle.htl_symbols.proofs.Searches.{list_any-true, list_any-false}
use Rattle.htl_main.specs.Picked.{TellsOfNoHandle}
use Rattle.htl_main.specs.Picking.{is_of_open_handles, IsPickedAsOf}
use Rattle.htl_main.specs.Subjects.{has_subject}
use Rattle.htl_main.specs.Moments.{IsNamedMoment}

-- ---- what the question is about

empty : {X : Type 0} (xs : List X) → ((x : X) → Contains xs x → ⊥) → xs ≡ []
empty [] none = refl
empty (x ∷ xs) none = absurd (none x (Contains-here x xs))

-- an event that the question is about is wanted, unless only open handles are
is_wanted : (question : Question) (interest : Interest) (e : Event) → Serves question interest → is_of_all_handles question ≡ false
    → is_of_open_handles interest ≡ false → is_about (subject_of question) e ≡ true → wants interest e ≡ true
is_wanted question interest e serves some other about =
    let all = all_of_subject question interest serves some (λ p opens. cc (sym (ap is_of_open_handles opens) ∙ other)) in
    rw all (about_is_wanted (subject_of question) e about)

handles_of : (interest : Interest) → is_of_open_handles interest ≡ true → (p : ℕ) × (interest ≡ OpenHandles p)
handles_of (OpenHandles p) is = (p, refl)
handles_of interest is = absurd (cc is)

module _ (question : Question) (interest : Interest) (es own : List Event) (serves : Serves question interest)
    (moved : IsPermutation (wanted interest es) own) where
  abbrev about : Event → Bool
  about = is_about (subject_of question)

  -- each event in hand stands for one of all events
  behind : (x : Event) → Contains own x → (e : Event) × Contains es e × (wants interest e ≡ true) × (about x ≡ about e)
  behind x here =
      let there = Contains-permutation own (wanted interest es) x (IsPermutation-sym (wanted interest es) own moved) here in
      let (e, kept, same) = Contains-from_map (as_needed interest) (filter (wants interest) es) x there in
      let of = Contains-from_filter (wants interest) es e kept in
      (e, of.0, of.1, ap about (sym same) ∙ unseen about (unseen_stack (subject_of question)) interest e)

  -- where one in hand is of what the question is about, one of all is
  pub found_among_all : list_any about own ≡ true → list_any about es ≡ true
  found_among_all found =
      let some = Any-from_list_any about own found in
      let (e, here, wants_it, same) = behind some.1 (some.0, some.2, some.3) in
      list_any-true about es e here (sym same ∙ some.4)

  -- and where none in hand is, none of all is, unless only open handles are wanted
  pub none_among_all : is_of_all_handles question ≡ false → is_of_open_handles interest ≡ false → list_any about own ≡ false
      → list_any about es ≡ false
  none_among_all some other none = list_any-false about es (λ e here. elim (cases_Bool (about e)) [
    | inl passes ↦
        let kept = Contains-filter (wants interest) es e here (is_wanted question interest e serves some other passes) in
        let there = Contains-permutation (wanted interest es) own (as_needed interest e) moved
        (Contains-map (as_needed interest) (filter (wants interest) es) e kept) in
        let found = list_any-true about own (as_needed interest e) there (unseen about (unseen_stack (subject_of question)) interest e ∙ passes) in
        absurd cc
    | inr fails ↦ fails
  ])

  -- where none is, and only open handles are wanted, nothing is
  pub nothing_wanted : is_of_open_handles interest ≡ true → list_any about own ≡ false → wanted interest es ≡ []
  nothing_wanted opens none = empty (wanted interest es) (λ x there.
      let here = Contains-permutation (wanted interest es) own x moved there in
      let (e, in_all, wants_it, same) = behind x here in
      let of = handles_of interest opens in
      let found = list_any-true about own x here (same ∙ wanted_is_about question interest of.0 e serves of.1 wants_it) in
      absurd cc)

-- one of the picked events is of what the question is about where one of all is, unless none is found and only open handles are wanted
about_among : (question : Question) (interest : Interest) (es own : List Event) (found : Bool) → Serves question interest
    → is_of_all_handles question ≡ false → IsPermutation (wanted interest es) own → found ≡ list_any (is_about (subject_of question)) own
    → (found ≡ true) ⊎ (is_of_open_handles interest ≡ false) → found ≡ list_any (is_about (subject_of question)) es
about_among question interest es own found serves not_all moved is told =
    elim (cases_Bool found) [
      | inl some ↦ some ∙ sym (found_among_all question interest es own serves moved (sym is ∙ some))
      | inr none ↦ elim told [
        | inl some ↦ absurd cc
        | inr other ↦ none ∙ sym (none_among_all question interest es own serves moved not_all other (sym is ∙ none))
      ]
    ]

-- and so is what the question asks about, which for the open handles of all processes it always is
pub subject_among : (question : Question) (interest : Interest) (es own : List Event) (found : Bool) → Serves question interest
    → IsPermutation (wanted interest es) own → found ≡ has_subject question own
    → (found ≡ true) ⊎ (is_of_open_handles interest ≡ false) → found ≡ has_subject question es
subject_among question interest es own found serves moved is told =
    elim (cases_Bool (is_of_all_handles question)) [
      | inl all ↦ let there : found ≡ true = rw all at is in rw all there
      | inr not_all ↦
          let about : found ≡ list_any (is_about (subject_of question)) own = rw not_all at is in
          rw not_all (about_among question interest es own found serves not_all moved about told)
    ]

-- where what a question asks about isn't among events, none is about it
no_event : (question : Question) (events : List Event) → has_subject question events ≡ false
    → list_any (is_about (subject_of question)) events ≡ false
no_event question events absent =
    elim (cases_Bool (is_of_all_handles question)) [
      | inl all ↦ let never : true ≡ false = rw all at absent in absurd (cc never)
      | inr not_all ↦ rw not_all at absent
    ]

-- where none of the picked events up to a moment is found, and only open handles are wanted, no event that counts tells of them
pub tells_of_no_handle : (job : Job) (segments : List Content) (T : Trace) (until : Option ℕ) (interest : Interest) (own : List Event)
    → IsCaseOf segments T → IsNamedMoment T job.until until → Serves job.question interest
    → IsPermutation (wanted interest (counted_events until (all_events T.segments))) own
    → has_subject job.question own ≡ false → is_of_open_handles interest ≡ true → TellsOfNoHandle interest segments job
tells_of_no_handle job segments T until interest own case named serves moved absent opens =
    let es = counted_events until (all_events T.segments) in
    let of = handles_of interest opens in
    let none = no_event job.question own absent in
    record {
      trace = T;
      case_of = case;
      until = until;
      named = named;
      process = of.0;
      about = of.1;
      none = nothing_wanted job.question interest es own serves moved opens none;
    }

-- what was picked of a case up to a moment was picked of the segments that it is of
abbrev pub picked_as_of : {interest : Interest} {until : Option ℕ} {case : Picked} (segments : List Content) (T : Trace) → IsCaseOf segments T
    → IsPickedUntil interest T until case → IsPickedAsOf interest until case segments
picked_as_of segments T case_of picked = record { trace = T; case_of = case_of; picked = picked }

-- and tells what is asked of it
pub told_by : (question : Question) (interest : Interest) (until : Option ℕ) (case : Picked) (segments : List Content)
    (evidence : PicksUntil) → evidence ≡ picks_until case until → Serves question interest
    → (is : IsPickedAsOf interest until case segments) → ArePicksFor evidence question is.trace until
told_by question interest until case segments evidence made serves is = rw made record {
  is_case = is.case_of.is_case;
  moment = refl;
  interest = interest;
  serves = serves;
  are = is.picked;
}

-- ---- where picks fall short

-- what is said of no value holds where there is none
pub none_left : {X P : Type 0} (found : Option X) → IfNone found P → ((x : X) → found ≡ Some x → ⊥) → P
none_left None of_none other = of_none
none_left (Some x) of_none other = absurd (other x refl)

-- they don't: one was found, or not only open handles are wanted
pub falls_not_short : (found of : Bool) → (not found && of) ≡ false → (found ≡ true) ⊎ (of ≡ false)
falls_not_short true of is = inl refl
falls_not_short false of is = inr is

-- they do: none was found, and only open handles are wanted
pub falls_short : (found of : Bool) → (not found && of) ≡ true → (found ≡ false) × (of ≡ true)
falls_short true of is = absurd (cc is)
falls_short false of is = (refl, is)
