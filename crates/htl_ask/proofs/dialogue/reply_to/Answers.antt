-- A question gets its answer, of which the speaker is told after it, or isn't answered, for which the speaker is told why before the reply.
use Rattle.std.proofs.Common.{◌≡◌, ◌∙◌, ◌++◌, ◌∷◌, [], Ok, Err, false, refl, subst, sym}
use Rattle.std.specs.Prelude.{Result}
use Rattle.std.proofs.lemmas.Result.{err_from_is_err_and}
use Rattle.htl_inputs.specs.declared.fault.RunFault.{RunFault}
use Rattle.htl_dialogue.specs.declared.note.Note.TheVariants as hear
use Rattle.htl_dialogue.proofs.Noting.{told_of_such}
use Rattle.htl_main.specs.declared.printing.AnswerText.{AnswerText}
use Rattle.htl_ask.specs.Loads.{HasAbsenceIn, HasOutcomeIn, is_memory}
use Rattle.htl_ask.proofs.StateOutcomes.{late_refused, not_memory}
use Rattle.htl_ask.proofs.dialogue.reply_to.Goals as goal

pub returns-in_ok-write-in-Ok-clause-ok : goal.returns-in_ok-write-in-Ok-clause-ok
returns-in_ok-write-in-Ok-clause-ok g c = λ world whole.
    let kept = c.args.kept.now in
    let complete = c.args.files.now.dialogue.now.setting.complete in
    let answer = c.in-Ok.field-0 in
    let noted = c.tell.ensures.told in
    let has = c.in-Ok.ensures (λ e. cc e) in
    record {
      reply = answer.lines.items ++ 10 ∷ [];
      early = [];
      late = noted.late;
      replied = (refl {a = kept}, Ok answer, has, refl, refl);
      told_late = told_of_such c.args.has_table (λ job (outcome : Result AnswerText RunFault). outcome ≡ Ok answer) (HasOutcomeIn complete kept)
          (HasAbsenceIn kept) (g.S.Speaker.wants_notes c.args.speaker.now) c.args.job.now noted.late
          (λ outcome is. subst (HasOutcomeIn complete kept c.args.job.now) (sym is) has) (noted.is answer refl);
      written = rw (c.deref.ensures.value, c.in_ok-push-in-Ok.ensures.items) at c.in_ok-write-in-Ok.ensures.ok;
      all = noted.heard;
      wrong = c.fine.ensures.wrong;
      first = c.fine.ensures.first;
    }

pub returns-in_ok-write-in-Err-clause-ok : goal.returns-in_ok-write-in-Err-clause-ok
returns-in_ok-write-in-Err-clause-ok g c = λ world whole.
    let other : is_memory c.in-Err.fault ≡ false = sym c.is_memory.ensures ∙ c.if-is_memory.false in
    let has = c.in-Err.ensures (not_memory c.in-Err.fault other) in
    record {
      reply = 10 ∷ [];
      early = hear.Declines c.in-Err.fault ∷ [];
      late = [];
      replied = (refl {a = c.args.kept.now}, Err c.in-Err.fault, has, refl, refl);
      told_late = late_refused c.args.files.now.dialogue.now.setting.complete (g.S.Speaker.wants_notes c.args.speaker.now) c.args.has_table
          c.args.kept.now c.args.job.now c.in-Err.fault has;
      written = c.in_ok-write-in-Err.ensures.ok;
      all = c.hears.ensures.told;
      wrong = refl;
      first = refl;
    }

pub returns-in_err-write-in-Err-clause-err : goal.returns-in_err-write-in-Err-clause-err
returns-in_err-write-in-Err-clause-err g c = λ world whole.
    let p = err_from_is_err_and c.from_residual-in_err-write-in-Err.result c.from_residual-in_err-write-in-Err.ensures.1 in
    let failed = c.in_err-write-in-Err.ensures.err in
    let other : is_memory c.in-Err.fault ≡ false = sym c.is_memory.ensures ∙ c.if-is_memory.false in
    rw (p.1, p.2, failed.0) (
      failed.1,
      record {
        after = c.args.kept.now;
        reply = 10 ∷ [];
        early = hear.Declines c.in-Err.fault ∷ [];
        replied = (refl {a = c.args.kept.now}, Err c.in-Err.fault, c.in-Err.ensures (not_memory c.in-Err.fault other), refl, refl);
        written = failed.2;
        all = c.hears.ensures.told;
      },
    )
