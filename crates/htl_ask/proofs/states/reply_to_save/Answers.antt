-- What is replied and told is what is said of a line that saves, also where the reply could not be written.
use Rattle.std.proofs.Common.{[], append-nil, refl, string_bytes}
use Rattle.std.proofs.lemmas.Result.{err_from_is_err_and}
use Rattle.htl_dialogue.specs.Dialogues.{saving_reply}
use Rattle.htl_dialogue.specs.Notes.{unsaved_note}
use Rattle.htl_ask.proofs.Written.{written_file}
use Rattle.htl_ask.proofs.states.reply_to_save.Goals as goal

pub returns-clause-ok : goal.returns-clause-ok
returns-clause-ok g c =
    let ended = c.in_ok-ended.ended in
    λ known whole has_table part.
    let saved = written_file _ whole part c.args.kept.now (string_bytes c.args.name.now) ended
    (rw c.deref.ensures at c.in_ok-ended.ensures.saved) in
    record {
      reply = saving_reply ended;
      early = unsaved_note ended;
      late = [];
      replied = (refl, ended, saved, refl, refl);
      told_late = refl;
      written = rw (c.as_bytes.ensures.value, c.in_ok-text.ensures) at c.in_ok-write.ensures.ok;
      all = rw (append-nil (unsaved_note ended)) c.tell_unsaved-first_fault.ensures.told;
      wrong = refl;
      first = c.tell_unsaved-first_fault.ensures.fault;
    }

pub returns-in_err-write-clause-err : goal.returns-in_err-write-clause-err
returns-in_err-write-clause-err g c =
    let p = err_from_is_err_and c.from_residual-in_err-write.result c.from_residual-in_err-write.ensures.1 in
    let failed = rw (c.as_bytes.ensures.value, c.in_ok-text.ensures) at c.in_err-write.ensures.err in
    let ended = c.in_ok-ended.ended in
    λ known whole has_table part.
    let saved = written_file _ whole part c.args.kept.now (string_bytes c.args.name.now) ended
    (rw c.deref.ensures at c.in_ok-ended.ensures.saved) in
    rw (p.1, p.2, failed.0) (
      failed.1,
      record {
        after = c.args.kept.now;
        reply = saving_reply ended;
        early = unsaved_note ended;
        replied = (refl, ended, saved, refl, refl);
        written = failed.2;
        all = c.tell_unsaved-first_fault.ensures.told;
      },
    )
