-- What is replied and told is what is said of a line that merges a state, also where the reply could not be written.
use Rattle.std.proofs.Common.{◌∙◌, [], ◌∷◌, refl, string_bytes}
use Rattle.std.proofs.lemmas.Result.{err_from_is_err_and}
use Rattle.htl_dialogue.specs.Dialogues.{merging_reply}
use Rattle.htl_dialogue.specs.declared.note.Note.TheVariants as hear
use Rattle.htl_ask.proofs.FirstFaults.{fault_is_first}
use Rattle.htl_ask.proofs.states.reply_to_merge.Goals as goal

pub returns-clause-ok : goal.returns-clause-ok
returns-clause-ok g c =
    let ended = c.in_ok-ended.ended in
    let files = string_bytes c.args.name.now ∷ [] in
    λ whole has_table. record {
      reply = merging_reply ended;
      early = hear.Reads files ended ∷ [];
      late = [];
      replied = (ended, rw (c.deref.ensures) at c.in_ok-ended.ensures.merged, refl, refl);
      told_late = refl;
      written = rw (c.as_bytes.ensures.value, c.in_ok-text.ensures) at c.in_ok-write.ensures.ok;
      all = rw (c.from_ref.ensures.value) at c.hears.ensures.told;
      wrong = refl;
      first = c.fault_of.ensures ∙ fault_is_first files ended;
    }

pub returns-in_err-write-clause-err : goal.returns-in_err-write-clause-err
returns-in_err-write-clause-err g c =
    let p = err_from_is_err_and c.from_residual-in_err-write.result c.from_residual-in_err-write.ensures.1 in
    let failed = rw (c.as_bytes.ensures.value, c.in_ok-text.ensures) at c.in_err-write.ensures.err in
    let ended = c.in_ok-ended.ended in
    λ whole has_table. rw (p.1, p.2, failed.0) (
      failed.1,
      record {
        after = c.merge.new.kept;
        reply = merging_reply ended;
        early = hear.Reads (string_bytes c.args.name.now ∷ []) ended ∷ [];
        replied = (ended, rw (c.deref.ensures) at c.in_ok-ended.ensures.merged, refl, refl);
        written = failed.2;
        all = rw (c.from_ref.ensures.value) at c.hears.ensures.told;
      },
    )
