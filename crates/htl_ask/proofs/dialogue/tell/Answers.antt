-- A speaker that wants to know is told of the question and of its answer.
use Rattle.std.proofs.Common.{◌≡◌, ◌∙◌, [], ◌∷◌, Ok, ap, false, refl, sym, true}
use Rattle.htl_dialogue.specs.Notes.{told_of}
use Rattle.htl_dialogue.specs.declared.note.Note.TheVariants as hear
use Rattle.htl_main.specs.declared.remarks.Remarks.{Remarks}
use Rattle.htl_ask.proofs.dialogue.tell.Goals as goal

pub returns-then-wants_notes-clause-told : goal.returns-then-wants_notes-clause-told
returns-then-wants_notes-clause-told g c =
    let wanted : g.S.Speaker.wants_notes c.args.speaker.now ≡ true = sym c.wants_notes.ensures ∙ c.if-wants_notes.true in
    let job = c.args.job.now in
    let absence = c.absence-absence.result in
    record {
      late = hear.Answered job absence (told_of c.args.has_table c.args.remarks) ∷ [];
      is = λ answer same. rw wanted (
        Ok answer,
        refl,
        absence,
        c.absence-absence.ensures,
        ap (λ (r : Remarks). hear.Answered job absence (told_of c.args.has_table r) ∷ []) (sym same),
      );
      heard = rw c.told_of.ensures at c.hears.ensures.told;
    }

pub returns-else-wants_notes-clause-told : goal.returns-else-wants_notes-clause-told
returns-else-wants_notes-clause-told g c =
    let unwanted : g.S.Speaker.wants_notes c.args.speaker.now ≡ false = sym c.wants_notes.ensures ∙ c.if-wants_notes.false in
    record { late = []; is = λ answer same. rw unwanted refl; heard = refl }
