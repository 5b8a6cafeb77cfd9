-- A question that a line asks is one that what is kept answers, since where events are forgotten one that needs them is wrong; and a state is
-- merged or saved only where they are forgotten, since elsewhere that is wrong.
use Rattle.std.proofs.Common.{◌≡◌, ◌∙◌, Bool, ap, false, refl, true}
use Rattle.std.specs.Prelude.{if◌then◌else◌}
use Rattle.htl_command.specs.Needs.{needs_events}
use Rattle.htl_command.specs.declared.question.Job.{Job}
use Rattle.htl_dialogue.specs.Sayings.{Saying, Turn, asks, heard, merges, nothing, quits, reads, saves, saying, saying_in, saying_of, uses}
use Rattle.htl_dialogue.specs.Sayings.{wrong}
use Rattle.htl_dialogue.specs.declared.saying.Said.{Said}
use Rattle.htl_dialogue.specs.declared.saying.Said.TheVariants as said
use Rattle.htl_ask.specs.Loads.{IsOfForm}

-- what is heard where events are forgotten needs none
needs_none : (job : Job) (of : Saying) → asks job ≡ heard true of → needs_events job ≡ false
needs_none job (asks other) is = answered (needs_events other) refl is
  where
    answered : (needs : Bool) → needs_events other ≡ needs → asks job ≡ (if needs then wrong else asks other) → needs_events job ≡ false
    answered true known is = absurd (cc is)
    answered false known is = let same : job ≡ other = cc is in rw same known
needs_none job nothing is = absurd (cc is)
needs_none job quits is = absurd (cc is)
needs_none job (reads files) is = absurd (cc is)
needs_none job (uses process) is = absurd (cc is)
needs_none job (merges name) is = absurd (cc is)
needs_none job (saves name) is = absurd (cc is)
needs_none job wrong is = absurd (cc is)

abbrev is_of_state : Saying → Bool
is_of_state (merges name) = true
is_of_state (saves name) = true
is_of_state other = false

-- nothing of a state is heard where events are kept
none_of_state : (of : Saying) → is_of_state (heard false of) ≡ false
none_of_state nothing = refl
none_of_state quits = refl
none_of_state (asks job) = refl
none_of_state (reads files) = refl
none_of_state (uses process) = refl
none_of_state (merges name) = refl
none_of_state (saves name) = refl
none_of_state wrong = refl

-- what is said of a state is heard only where events are forgotten
forgets_for_state : (forgets : Bool) (of heard_of : Saying) → is_of_state of ≡ true → of ≡ heard forgets heard_of → forgets ≡ true
forgets_for_state true of heard_of is same = refl
forgets_for_state false of heard_of is same =
    let known = ap is_of_state same ∙ none_of_state heard_of in absurd (cc (known, is))

-- what is heard of a line, where events are forgotten or not, is of this form
pub of_form : (forgets : Bool) (of : Said) (line : Turn) → saying of ≡ saying_in forgets line → IsOfForm forgets of
of_form forgets (said.Asks job) line is = λ forgotten. needs_none job (saying_of line) (rw forgotten at is)
of_form forgets said.Nothing line is = tt
of_form forgets said.Quits line is = tt
of_form forgets (said.Reads files) line is = tt
of_form forgets (said.Uses process) line is = tt
of_form forgets (said.Merges name) line is = forgets_for_state forgets (saying (said.Merges name)) (saying_of line) refl is
of_form forgets (said.Saves name) line is = forgets_for_state forgets (saying (said.Saves name)) (saying_of line) refl is
of_form forgets (said.Wrong fault) line is = tt
