-- Which events are of what a question is about, and which are wanted for it.
use Rattle.std.proofs.Common.{◌≡◌, ◌⊎◌, ◌∙◌, ℕ, Bool, true, false, Option, Some, None, inl, inr, refl, sym, ap}
use Rattle.std.specs.Prelude.{◌==◌, if◌then◌else◌}
use Rattle.std.proofs.lemmas.Bool.{and_parts, cases_Bool}
use Rattle.htl_event.specs.Events.{Event}
use Rattle.htl_event.specs.Interests.{names_object, tracks_handles, wants, without_stack}
use Rattle.htl_event.specs.declared.interest.Interest.{Interest}
use Rattle.htl_event.specs.declared.interest.Interest.TheVariants as interests
use Rattle.htl_question.specs.Subjects.{interest_in, is_about, names_handle}
use Rattle.htl_question.specs.Questions.{Serves, is_of_all_handles, is_of_open_handles, narrowed, subject_of, widest, widest_in}
use Rattle.htl_question.specs.declared.question.Question.{Question}
use Rattle.htl_question.specs.declared.question.Question.TheVariants as questions
use Rattle.htl_question.specs.declared.subject.Subject.{Subject}
use Rattle.htl_question.specs.declared.subject.Subject.TheVariants.{Process, Object, Tag, Handle}

-- a subject doesn't see stacks
pub unseen_stack : (subject : Option Subject) (e : Event) → is_about subject (without_stack e) ≡ is_about subject e
unseen_stack None e = refl
unseen_stack (Some (Process p)) e = refl
unseen_stack (Some subject) e = refl

-- an event of the subject is among all that tell of it
pub about_is_wanted : (subject : Option Subject) (e : Event) → is_about subject e ≡ true → wants (interest_in subject) e ≡ true
about_is_wanted None e is = refl
about_is_wanted (Some (Object o)) e is = (and_parts (names_object e.kind) _ is).1
about_is_wanted (Some (Tag o tag)) e is = (and_parts _ _ (and_parts (names_object e.kind) _ is).1).0
about_is_wanted (Some (Handle p handle)) e is = (and_parts (names_handle e.kind) _ is).1
about_is_wanted (Some subject) e is = is

-- ---- where only open handles are wanted

-- a question about the open handles of all processes needs what tells of them
of_all : (question : Question) (interest : Interest) → is_of_all_handles question ≡ true → Serves question interest
    → interest ≡ interests.AllHandles
of_all (questions.Sites since least) interest is (inl asked) = asked
of_all (questions.Sites since least) interest is (inr wider) = wider
of_all question interest is serves = absurd (cc is)

-- all events of what another question is about
of_subject : (question : Question) → is_of_all_handles question ≡ false → widest question ≡ interest_in (subject_of question)
of_subject question other = go (subject_of question)
  where
    go : (subject : Option Subject) → widest_in question subject ≡ interest_in subject
    go None = rw other refl
    go (Some subject) = refl

-- a question about open handles, not of all processes, is about a process
of_process : (question : Question) → is_of_open_handles question ≡ true → is_of_all_handles question ≡ false
    → (p : ℕ) × (subject_of question ≡ Some (Process p))
of_process (questions.Outstanding p) is other = (p, refl)
of_process (questions.Diff p since) is other = (p, refl)
of_process (questions.Leaks p since least) is other = (p, refl)
of_process (questions.Growth p count) is other = (p, refl)
of_process (questions.Sites since least) is other = absurd (cc other)
of_process question is other = absurd (cc is)

-- all that tells of a subject is more than open handles
never_open : (subject : Option Subject) (p : ℕ) → interest_in subject ≡ interests.OpenHandles p → ⊥
never_open None p is = cc is
never_open (Some (Process q)) p is = cc is
never_open (Some subject) p is = cc is

-- the events that a question needs, by whether it is of open handles
served : (question : Question) (is : Bool) → is_of_open_handles question ≡ is → (interest : Interest) → Serves question interest
    → (interest ≡ (if is then narrowed (widest question) else widest question)) ⊎ (interest ≡ widest question)
served question is same interest (inl asked) = inl (rw same at asked)
served question is same interest (inr wider) = inr wider

module _ (question : Question) (interest : Interest) (serves : Serves question interest) (other : is_of_all_handles question ≡ false) where
  -- a question that is served by what tells of the open handles of a process is about the process
  about_process : (p : ℕ) → interest ≡ interests.OpenHandles p → subject_of question ≡ Some (Process p)
  about_process p opens =
      elim (cases_Bool (is_of_open_handles question)) [
        | inl of ↦
            let subject = of_process question of other in
            let needs = of_subject question other ∙ ap (λ (s : Option Subject). interest_in s) subject.1 in
            elim (served question true of interest serves) [
              | inl asked ↦
                  let same : interests.OpenHandles (subject.0) ≡ interests.OpenHandles p = sym (ap narrowed needs) ∙ sym asked ∙ opens in
                  let process : subject.0 ≡ p = cc same in
                  subject.1 ∙ ap (λ (q : ℕ). Some (Process q)) process
              | inr wider ↦ absurd (never_open (subject_of question) p (sym (of_subject question other) ∙ sym wider ∙ opens))
            ]
        | inr others ↦ elim (served question false others interest serves) [
          | inl asked ↦ absurd (never_open (subject_of question) p (sym (of_subject question other) ∙ sym asked ∙ opens))
          | inr wider ↦ absurd (never_open (subject_of question) p (sym (of_subject question other) ∙ sym wider ∙ opens))
        ]
      ]

  -- where not only open handles are wanted, all events are of what the question is about
  pub all_of_subject : ((p : ℕ) → interest ≡ interests.OpenHandles p → ⊥) → interest ≡ interest_in (subject_of question)
  all_of_subject never =
      elim (cases_Bool (is_of_open_handles question)) [
        | inl of ↦
            let subject = of_process question of other in
            let needs = of_subject question other ∙ ap (λ (s : Option Subject). interest_in s) subject.1 in
            elim (served question true of interest serves) [
              | inl asked ↦ absurd (never (subject.0) (asked ∙ ap narrowed needs))
              | inr wider ↦ wider ∙ of_subject question other
            ]
        | inr others ↦ elim (served question false others interest serves) [
          | inl asked ↦ asked ∙ of_subject question other
          | inr wider ↦ wider ∙ of_subject question other
        ]
      ]

-- the question is about each event that is wanted for open handles of a process
pub wanted_is_about : (question : Question) (interest : Interest) (p : ℕ) (e : Event) → Serves question interest
    → interest ≡ interests.OpenHandles p → wants interest e ≡ true → is_about (subject_of question) e ≡ true
wanted_is_about question interest p e serves opens wants_it =
    elim (cases_Bool (is_of_all_handles question)) [
      | inl all ↦ absurd (cc (sym (of_all question interest all serves) ∙ opens))
      | inr other ↦
          let owner = (and_parts (e.process == p) (tracks_handles e.kind) (rw opens at wants_it)).0 in
          rw (about_process question interest serves other p opens) owner
    ]
