-- What is replied and told is what is said of the line, also where the reply could not be written.
use Rattle.std.proofs.Common.{◌∙◌, [], ◌∷◌, inl, inr, map, refl, string_bytes}
use Rattle.std.proofs.KnownBytes.{Appends-nil}
use Rattle.std.proofs.lemmas.Result.{err_from_is_err_and}
use Rattle.htl_dialogue.specs.Dialogues.{reading_reply, using_reply}
use Rattle.htl_dialogue.specs.declared.note.Note.TheVariants as hear
use Rattle.htl_ask.proofs.FirstFaults.{fault_is_first}
use Rattle.htl_ask.proofs.LinesAsked.{asks_nothing}
use Rattle.htl_ask.proofs.dialogue.reply.Goals as goal
use Rattle.htl_dialogue.specs.Sayings.{saying}

pub returns-in-Nothing-clause-ok : goal.returns-in-Nothing-clause-ok
returns-in-Nothing-clause-ok g c = λ whole part.
    elim c.in-Nothing.is [
      | inl is ↦ rw is (record {
        reply = [];
        early = [];
        late = [];
        replied = (refl, refl, refl);
        told_late = refl;
        written = Appends-nil (g.O.Sink.state c.args.out.now).contents;
        all = refl;
        wrong = c.fine-in-Nothing.ensures.wrong;
        first = c.fine-in-Nothing.ensures.first;
      })
      | inr is ↦ rw is (record {
        reply = [];
        early = [];
        late = [];
        replied = (refl, refl, refl);
        told_late = refl;
        written = Appends-nil (g.O.Sink.state c.args.out.now).contents;
        all = refl;
        wrong = c.fine-in-Nothing.ensures.wrong;
        first = c.fine-in-Nothing.ensures.first;
      })
    ]

pub returns-in_ok-write-in-Wrong-clause-ok : goal.returns-in_ok-write-in-Wrong-clause-ok
returns-in_ok-write-in-Wrong-clause-ok g c =
    λ whole part. rw (c.in-Wrong.is) (record {
      reply = 10 ∷ [];
      early = hear.Refuses c.in-Wrong.fault ∷ [];
      late = [];
      replied = (refl, refl, (c.in-Wrong.fault, refl, refl));
      told_late = refl;
      written = c.in_ok-write-in-Wrong.ensures.ok;
      all = c.hears.ensures.told;
      wrong = refl;
      first = refl;
    })

pub returns-in_err-write-in-Wrong-clause-err : goal.returns-in_err-write-in-Wrong-clause-err
returns-in_err-write-in-Wrong-clause-err g c =
    let p = err_from_is_err_and c.from_residual.result c.from_residual.ensures.1 in
    let failed = c.in_err-write-in-Wrong.ensures.err in
    λ whole part. rw (p.1, p.2, failed.0, c.in-Wrong.is) (
      failed.1,
      record {
        after = c.args.kept.now;
        reply = 10 ∷ [];
        early = hear.Refuses c.in-Wrong.fault ∷ [];
        replied = (refl, refl, (c.in-Wrong.fault, refl, refl));
        written = failed.2;
        all = c.hears.ensures.told;
      },
    )

pub returns-in_ok-write-in-Reads-clause-ok : goal.returns-in_ok-write-in-Reads-clause-ok
returns-in_ok-write-in-Reads-clause-ok g c =
    let ended = c.in_ok-ended-in-Reads.ended in
    let files = map string_bytes c.in-Reads.names.items in
    λ whole part. rw (c.in-Reads.is) (record {
      reply = reading_reply ended;
      early = hear.Reads files ended ∷ [];
      late = [];
      replied = (ended, rw (c.deref.ensures.value) at c.in_ok-ended-in-Reads.ensures.read, refl, refl);
      told_late = refl;
      written = rw (c.as_bytes.ensures.value, c.in_ok-text-in-Reads.ensures) at c.in_ok-write-in-Reads.ensures.ok;
      all = rw (c.deref-in-Reads.ensures.value) at c.hears-in-Reads.ensures.told;
      wrong = refl;
      first = c.fault_of.ensures ∙ fault_is_first files ended;
    })

pub returns-in_err-write-in-Reads-clause-err : goal.returns-in_err-write-in-Reads-clause-err
returns-in_err-write-in-Reads-clause-err g c =
    let p = err_from_is_err_and c.from_residual-in_err-write-in-Reads.result c.from_residual-in_err-write-in-Reads.ensures.1 in
    let failed = rw (c.as_bytes.ensures.value, c.in_ok-text-in-Reads.ensures) at c.in_err-write-in-Reads.ensures.err in
    let ended = c.in_ok-ended-in-Reads.ended in
    let files = map string_bytes c.in-Reads.names.items in
    λ whole part. rw (p.1, p.2, failed.0, c.in-Reads.is) (
      failed.1,
      record {
        after = c.read.new.kept;
        reply = reading_reply ended;
        early = hear.Reads files ended ∷ [];
        replied = (ended, rw (c.deref.ensures.value) at c.in_ok-ended-in-Reads.ensures.read, refl, refl);
        written = failed.2;
        all = rw (c.deref-in-Reads.ensures.value) at c.hears-in-Reads.ensures.told;
      },
    )

pub returns-in_err-write-in-Wrong-clause-asked : goal.returns-in_err-write-in-Wrong-clause-asked
returns-in_err-write-in-Wrong-clause-asked g c =
    asks_nothing (g.W.World.state c.args.world.now) (saying c.args.said.now) (rw c.in-Wrong.is refl)

pub returns-in_ok-write-in-Wrong-clause-asked : goal.returns-in_ok-write-in-Wrong-clause-asked
returns-in_ok-write-in-Wrong-clause-asked g c =
    asks_nothing (g.W.World.state c.args.world.now) (saying c.args.said.now) (rw c.in-Wrong.is refl)

pub returns-in-Nothing-clause-asked : goal.returns-in-Nothing-clause-asked
returns-in-Nothing-clause-asked g c =
    elim c.in-Nothing.is [
      | inl is ↦ asks_nothing (g.W.World.state c.args.world.now) (saying c.args.said.now) (rw is refl)
      | inr is ↦ asks_nothing (g.W.World.state c.args.world.now) (saying c.args.said.now) (rw is refl)
    ]

pub returns-in-Asks-clause-ok : goal.returns-in-Asks-clause-ok
returns-in-Asks-clause-ok g c =
    λ whole part. rw c.in-Asks.is (c.reply_to.ensures.ok (g.W.World.state c.args.world.now).known whole)

pub returns-in-Asks-clause-err : goal.returns-in-Asks-clause-err
returns-in-Asks-clause-err g c =
    λ whole part. rw c.in-Asks.is (c.reply_to.ensures.err (g.W.World.state c.args.world.now).known whole)

pub returns-in-Asks-clause-asked : goal.returns-in-Asks-clause-asked
returns-in-Asks-clause-asked g c =
    asks_nothing (g.W.World.state c.args.world.now) (saying c.args.said.now) (rw c.in-Asks.is refl)

pub returns-in_err-ended-in-Reads-clause-asked : goal.returns-in_err-ended-in-Reads-clause-asked
returns-in_err-ended-in-Reads-clause-asked g c = rw c.in-Reads.is (rw c.deref.ensures.value at c.read.ensures.asked)

pub returns-in_err-text-in-Reads-clause-asked : goal.returns-in_err-text-in-Reads-clause-asked
returns-in_err-text-in-Reads-clause-asked g c = rw c.in-Reads.is (rw c.deref.ensures.value at c.read.ensures.asked)

pub returns-in_ok-write-in-Reads-clause-asked : goal.returns-in_ok-write-in-Reads-clause-asked
returns-in_ok-write-in-Reads-clause-asked g c = rw c.in-Reads.is (rw c.deref.ensures.value at c.read.ensures.asked)

pub returns-in_err-write-in-Reads-clause-asked : goal.returns-in_err-write-in-Reads-clause-asked
returns-in_err-write-in-Reads-clause-asked g c = rw c.in-Reads.is (rw c.deref.ensures.value at c.read.ensures.asked)

pub returns-in_ok-write-in-Uses-clause-ok : goal.returns-in_ok-write-in-Uses-clause-ok
returns-in_ok-write-in-Uses-clause-ok g c =
    λ whole part. rw (c.in-Uses.is) (record {
      reply = using_reply c.in-Uses.process;
      early = [];
      late = [];
      replied = (refl, refl, refl);
      told_late = refl;
      written = rw (c.as_bytes-in-Uses.ensures.value, c.in_ok-text-in-Uses.ensures) at c.in_ok-write-in-Uses.ensures.ok;
      all = refl;
      wrong = c.fine.ensures.wrong;
      first = c.fine.ensures.first;
    })

pub returns-in_err-write-in-Uses-clause-err : goal.returns-in_err-write-in-Uses-clause-err
returns-in_err-write-in-Uses-clause-err g c =
    let p = err_from_is_err_and c.from_residual-in_err-write-in-Uses.result c.from_residual-in_err-write-in-Uses.ensures.1 in
    let failed = rw (c.as_bytes-in-Uses.ensures.value, c.in_ok-text-in-Uses.ensures) at c.in_err-write-in-Uses.ensures.err in
    λ whole part. rw (p.1, p.2, failed.0, c.in-Uses.is) (
      failed.1,
      record {
        after = c.args.kept.now;
        reply = using_reply c.in-Uses.process;
        early = [];
        replied = (refl, refl, refl);
        written = failed.2;
        all = refl;
      },
    )

pub returns-in_err-text-in-Uses-clause-asked : goal.returns-in_err-text-in-Uses-clause-asked
returns-in_err-text-in-Uses-clause-asked g c =
    asks_nothing (g.W.World.state c.args.world.now) (saying c.args.said.now) (rw c.in-Uses.is refl)

pub returns-in_ok-write-in-Uses-clause-asked : goal.returns-in_ok-write-in-Uses-clause-asked
returns-in_ok-write-in-Uses-clause-asked g c =
    asks_nothing (g.W.World.state c.args.world.now) (saying c.args.said.now) (rw c.in-Uses.is refl)

pub returns-in_err-write-in-Uses-clause-asked : goal.returns-in_err-write-in-Uses-clause-asked
returns-in_err-write-in-Uses-clause-asked g c =
    asks_nothing (g.W.World.state c.args.world.now) (saying c.args.said.now) (rw c.in-Uses.is refl)

pub reply_to_merge-requires-clause-form : goal.reply_to_merge-requires-clause-form
reply_to_merge-requires-clause-form g c = λ lifetimes outlive. rw c.in-Merges.is at c.requires.asks

pub returns-in-Merges-clause-ok : goal.returns-in-Merges-clause-ok
returns-in-Merges-clause-ok g c = λ whole part. rw c.in-Merges.is (c.reply_to_merge.ensures.ok whole c.args.has_table)

pub returns-in-Merges-clause-err : goal.returns-in-Merges-clause-err
returns-in-Merges-clause-err g c = λ whole part. rw c.in-Merges.is (c.reply_to_merge.ensures.err whole c.args.has_table)

pub returns-in-Merges-clause-asked : goal.returns-in-Merges-clause-asked
returns-in-Merges-clause-asked g c = rw c.in-Merges.is c.reply_to_merge.ensures.asked

pub reply_to_save-requires-clause-form : goal.reply_to_save-requires-clause-form
reply_to_save-requires-clause-form g c = λ lifetimes outlive. rw c.in-Saves.is at c.requires.asks

pub returns-in-Saves-clause-ok : goal.returns-in-Saves-clause-ok
returns-in-Saves-clause-ok g c =
    λ whole part. rw c.in-Saves.is (c.reply_to_save.ensures.ok (g.W.World.state c.args.world.now).known whole c.args.has_table part)

pub returns-in-Saves-clause-err : goal.returns-in-Saves-clause-err
returns-in-Saves-clause-err g c =
    λ whole part. rw c.in-Saves.is (c.reply_to_save.ensures.err (g.W.World.state c.args.world.now).known whole c.args.has_table part)

pub returns-in-Saves-clause-asked : goal.returns-in-Saves-clause-asked
returns-in-Saves-clause-asked g c = rw c.in-Saves.is c.reply_to_save.ensures.asked
