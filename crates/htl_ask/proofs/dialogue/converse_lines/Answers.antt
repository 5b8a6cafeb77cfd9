-- One line after the other gets its reply and its notes, up to the last.
use Rattle.std.proofs.Common.{◌≡◌, ◌∙◌, ℕ, Bool, List, Option, true, false, None, Err, refl, sym, ap, rules, inl, inr}
use Rattle.std.specs.Io.KnownBytes.{prepend_known}
use Rattle.std.proofs.KnownBytes.{prepend_known-nil}
use Rattle.std.proofs.lemmas.Result.{err_from_is_err_and}
use Rattle.htl_device.specs.declared.whole.TheConstants.{MAX_READS}
use Rattle.htl_dialogue.specs.Dialogues.{Answers, AreRead, is_end}
use Rattle.htl_dialogue.specs.Notes.{OwnNote}
use Rattle.htl_dialogue.specs.Replying.{IsRefusedReply}
use Rattle.htl_dialogue.specs.Sayings.{saying, turn}
use Rattle.htl_dialogue.specs.declared.dialogue.DialogueFault.{DialogueFault}
use Rattle.htl_dialogue.specs.declared.dialogue.DialogueFault.TheVariants as stops
use Rattle.htl_dialogue.specs.declared.saying.Said.{Said}
use Rattle.htl_dialogue.proofs.Conversing.{begins, ended, replied, replied_last}
use Rattle.htl_dialogue.proofs.Stopping.{all_read, before_read, read_failed, stopped, stopped_between, too_many, unreplied}
use Rattle.htl_world.specs.Worlds.{change}
use Rattle.htl_ask.specs.Loads.{is_state}
use Rattle.htl_ask.proofs.LinesAsked.{all_so_far, last_so_far, line_so_far, none_so_far}
use Rattle.htl_ask.proofs.OfForm.{of_form}
use Rattle.htl_ask.proofs.Written.{back_of, front_of, whole_itself}
use Rattle.htl_ask.proofs.dialogue.converse_lines.Goals as goal

-- a line got no reply since memory was refused or a write failed
module _ {S Speaker : Type 0} (answers : Answers S) (of : Said) (before : S) (old new : Option (List ℕ)) (failed : Bool)
    (told : Speaker → OwnNote → Speaker) (speaker heard : Speaker) where
  no_questions : (fault : DialogueFault) → IsRefusedReply answers of before old new failed told speaker heard fault
      → fault ≡ stops.Questions → ⊥
  no_questions stops.NoMemory is other = absurd (cc other)
  no_questions stops.Write is other = absurd (cc other)
  no_questions stops.Questions is other = absurd is

  write_told : (fault : DialogueFault) → IsRefusedReply answers of before old new failed told speaker heard fault → failed ≡ true
      → fault ≡ stops.Write
  write_told stops.NoMemory is fails = absurd (let bad = sym is.1 ∙ fails in cc)
  write_told stops.Write is fails = refl
  write_told stops.Questions is fails = absurd is

  write_failed : (fault : DialogueFault) → IsRefusedReply answers of before old new failed told speaker heard fault
      → fault ≡ stops.Write → failed ≡ true
  write_failed stops.NoMemory is other = absurd (cc other)
  write_failed stops.Write is other = is.0
  write_failed stops.Questions is other = absurd is

pub loop-line-init : goal.loop-line-init
loop-line-init g c = record {
  readable = c.requires.questions.fine;
  inside = c.requires.questions.inside;
  writable = c.requires.out;
  form = refl;
  wants = refl;
  asked = none_so_far _ (g.Q.Source.state c.args.questions.now).remaining _ (g.W.World.state c.args.world.now)
      (rw (c.in_ok-held.ensures, prepend_known-nil (g.Q.Source.state c.args.questions.now).remaining) refl);
  so_far = λ whole part text known. begins c.fine-conversed.result
      (rw (c.in_ok-held.ensures, prepend_known-nil (g.Q.Source.state c.args.questions.now).remaining) known)
      c.fine-conversed.ensures.wrong c.fine-conversed.ensures.first;
}

pub loop-line-preserved : goal.loop-line-preserved
loop-line-preserved g c =
    let inv = c.loop-line.invariant in
    let alike : c.forgets.result ≡ is_state c.args.kept.now = c.forgets.ensures ∙ inv.form in
    let goes_on : is_end (saying c.in_ok-said.said) ≡ false = sym (c.ends.ensures) ∙ c.if-ends.false in
    let same = c.hears.ensures.same ∙ inv.wants in
    record {
      readable = search rules;
      inside = c.in_ok-next.ensures.inside c.if-next.false;
      writable = search rules;
      form = c.in_ok-line.ensures.form ∙ inv.form;
      wants = c.reply.ensures.same ∙ same;
      asked = line_so_far inv.asked
          (record { found = c.in_ok-next.ensures.ok; says = rw alike at c.in_ok-said.ensures.said; keeps = rw alike at c.in_ok-said.ensures.fault })
          goes_on c.reply.ensures.asked c.used-process.result c.used-process.ensures c.if-next.false;
      so_far = λ whole part text known. replied (inv.so_far whole (front_of part c.reply.ensures.asked.1) text known)
          (record { found = c.in_ok-next.ensures.ok; says = rw alike at c.in_ok-said.ensures.said; keeps = rw alike at c.in_ok-said.ensures.fault }) goes_on
          c.used-process.ensures (record {
            waiting = c.hears.new.self;
            waited = c.hears.ensures.told;
            line = c.in_ok-line.line;
            replies = rw (inv.form, same, inv.asked.1.known) at c.in_ok-line.ensures.ok whole (back_of part inv.asked.1);
            wrong = c.then-conversed.ensures.wrong;
            first = c.then-conversed.ensures.first;
          }) c.if-next.false;
    }

pub reply-requires-clause-asks : goal.reply-requires-clause-asks
reply-requires-clause-asks g c =
    let next = c.in_ok-next.ensures.ok in
    λ lifetimes outlive. of_form (is_state c.loop-line.kept) c.in_ok-said.said (turn c.loop-line.process next.bytes)
    (rw c.forgets.ensures at c.in_ok-said.ensures.said next.bytes next.line)

pub returns-then-next-clause-ok : goal.returns-then-next-clause-ok
returns-then-next-clause-ok g c =
    let inv = c.loop-line.invariant in
    let alike : c.forgets.result ≡ is_state c.args.kept.now = c.forgets.ensures ∙ inv.form in
    let goes_on : is_end (saying c.in_ok-said.said) ≡ false = sym (c.ends.ensures) ∙ c.if-ends.false in
    let same = c.hears.ensures.same ∙ inv.wants in
    λ whole part text known. replied_last (inv.so_far whole (front_of part c.reply.ensures.asked.1) text known)
    (record { found = c.in_ok-next.ensures.ok; says = rw alike at c.in_ok-said.ensures.said; keeps = rw alike at c.in_ok-said.ensures.fault }) goes_on
    (record {
      waiting = c.hears.new.self;
      waited = c.hears.ensures.told;
      line = c.in_ok-line.line;
      replies = rw (inv.form, same, inv.asked.1.known) at c.in_ok-line.ensures.ok whole (back_of part inv.asked.1);
      wrong = c.then-conversed.ensures.wrong;
      first = c.then-conversed.ensures.first;
    }) c.if-next.true

pub returns-then-ends-clause-ok : goal.returns-then-ends-clause-ok
returns-then-ends-clause-ok g c =
    let inv = c.loop-line.invariant in
    let alike : c.forgets.result ≡ is_state c.args.kept.now = c.forgets.ensures ∙ inv.form in
    let ends : is_end (saying c.in_ok-said.said) ≡ true = sym (c.ends.ensures) ∙ c.if-ends.true in
    λ whole part text known. ended {after = prepend_known c.next_line.new.held (g.Q.Source.state c.next_line.new.source).remaining}
    (inv.so_far whole part text known) c.hears.ensures.told
    (record { found = c.in_ok-next.ensures.ok; says = rw alike at c.in_ok-said.ensures.said; keeps = rw alike at c.in_ok-said.ensures.fault }) ends

pub returns-in_err-held-clause-stops : goal.returns-in_err-held-clause-stops
returns-in_err-held-clause-stops g c =
    let p = err_from_is_err_and c.from_residual.result c.from_residual.ensures.1 in
    λ whole part text known. rw (p.1, p.2) (stopped_between (begins (record { has_wrong = false; first_fault = None }) known refl refl)
    (g.Q.Source.state c.args.questions.now).remaining (g.Q.Source.state c.args.questions.now).failed _ tt c.requires.questions.fine)

pub returns-in_err-next-clause-stops : goal.returns-in_err-next-clause-stops
returns-in_err-next-clause-stops g c =
    let p = err_from_is_err_and c.from_residual-in_err-next.result c.from_residual-in_err-next.ensures.1 in
    let inv = c.loop-line.invariant in
    let left = (g.Q.Source.state c.next_line.new.source).remaining in
    let failed = (g.Q.Source.state c.next_line.new.source).failed in
    λ whole part text known.
    let so_far = inv.so_far whole part text known in
    let in_time : failed ≡ true → AreRead text left so_far.lines = λ fails. all_read so_far left
    (rw (c.in_err-next.ensures.all fails, prepend_known-nil left) at c.in_err-next.ensures.begun) in
    rw (p.1, p.2) (stopped so_far left c.hears.new.self failed _ c.hears.ensures.told (before_read c.in_err-next.field-0.0) in_time)

pub returns-in_err-next-clause-questions : goal.returns-in_err-next-clause-questions
returns-in_err-next-clause-questions g c =
    let p = err_from_is_err_and c.from_residual-in_err-next.result c.from_residual-in_err-next.ensures.1 in
    λ is.
    let failed = read_failed c.in_err-next.field-0.0 (let same = sym p.1 ∙ is in sym p.2 ∙ cc) in
    elim (c.in_err-next.ensures.failed (ap (λ f. Err f) failed)) [
      | inl bad ↦ inl bad
      | inr many ↦ inr (inl many)
    ]

pub returns-in_err-said-clause-stops : goal.returns-in_err-said-clause-stops
returns-in_err-said-clause-stops g c =
    let p = err_from_is_err_and c.from_residual-in_err-said.result c.from_residual-in_err-said.ensures.1 in
    let failed = (g.Q.Source.state c.next_line.new.source).failed in
    let fine : failed ≡ false = search rules in
    λ whole part text known. rw (p.1, p.2) (stopped (c.loop-line.invariant.so_far whole part text known) (g.Q.Source.state c.next_line.new.source).remaining
    c.hears.new.self failed _ c.hears.ensures.told tt (λ fails. absurd (let bad = sym fine ∙ fails in cc)))

pub returns-in_err-line-clause-stops : goal.returns-in_err-line-clause-stops
returns-in_err-line-clause-stops g c =
    let p = err_from_is_err_and c.from_residual-in_err-line.result c.from_residual-in_err-line.ensures.1 in
    let inv = c.loop-line.invariant in
    let alike : c.forgets.result ≡ is_state c.args.kept.now = c.forgets.ensures ∙ inv.form in
    let goes_on : is_end (saying c.in_ok-said.said) ≡ false = sym (c.ends.ensures) ∙ c.if-ends.false in
    let failed = (g.Q.Source.state c.next_line.new.source).failed in
    let fine : failed ≡ false = search rules in
    λ whole part text known. rw (p.1, p.2) (unreplied (inv.so_far whole (front_of part c.reply.ensures.asked.1) text known)
    (g.Q.Source.state c.next_line.new.source).remaining
    (g.O.Sink.state c.reply.new.out).contents c.hears.new.self c.reply.new.speaker failed (g.O.Sink.state c.reply.new.out).failed
    c.in_err-line.field-0.0 c.hears.ensures.told
    (record { found = c.in_ok-next.ensures.ok; says = rw alike at c.in_ok-said.ensures.said; keeps = rw alike at c.in_ok-said.ensures.fault }) goes_on
    (rw (inv.form, inv.asked.1.known) at c.in_err-line.ensures.err whole (back_of part inv.asked.1)) fine)

pub returns-in_err-line-clause-questions : goal.returns-in_err-line-clause-questions
returns-in_err-line-clause-questions g c =
    let p = err_from_is_err_and c.from_residual-in_err-line.result c.from_residual-in_err-line.ensures.1 in
    let own = change (g.W.World.state c.loop-line.world) (g.W.World.state c.reply.new.world) in
    λ is. absurd (no_questions _ _ _ _ _ _ _ _ _ c.in_err-line.field-0.0 (c.in_err-line.ensures.err own (whole_itself own))
    (let same = sym p.1 ∙ is in sym p.2 ∙ cc))

pub returns-in_err-line-clause-write : goal.returns-in_err-line-clause-write
returns-in_err-line-clause-write g c =
    let p = err_from_is_err_and c.from_residual-in_err-line.result c.from_residual-in_err-line.ensures.1 in
    let own = change (g.W.World.state c.loop-line.world) (g.W.World.state c.reply.new.world) in
    λ fails. rw (p.1, p.2) (ap (λ f. Err f)
    (write_told _ _ _ _ _ _ _ _ _ c.in_err-line.field-0.0 (c.in_err-line.ensures.err own (whole_itself own)) fails))

pub returns-in_err-line-clause-failed : goal.returns-in_err-line-clause-failed
returns-in_err-line-clause-failed g c =
    let p = err_from_is_err_and c.from_residual-in_err-line.result c.from_residual-in_err-line.ensures.1 in
    let own = change (g.W.World.state c.loop-line.world) (g.W.World.state c.reply.new.world) in
    λ is. write_failed _ _ _ _ _ _ _ _ _ c.in_err-line.field-0.0 (c.in_err-line.ensures.err own (whole_itself own))
    (let same = sym p.1 ∙ is in sym p.2 ∙ cc)

pub returns-clause-stops : goal.returns-clause-stops
returns-clause-stops g c =
    let inv = c.loop-line.invariant in
    λ whole part text known. stopped_between (inv.so_far whole part text known) (g.Q.Source.state c.loop-line.questions).remaining
    (g.Q.Source.state c.loop-line.questions).failed _ tt inv.readable

pub returns-clause-questions : goal.returns-clause-questions
returns-clause-questions g c =
    λ _. inr (inr (too_many (g.Q.Source.state c.args.questions.now).remaining MAX_READS
    (c.loop-line.invariant.so_far (change (g.W.World.state c.args.world.now) (g.W.World.state c.loop-line.world)) (whole_itself _))
    c.loop-line-test.false))

pub returns-then-next-clause-asked : goal.returns-then-next-clause-asked
returns-then-next-clause-asked g c =
    let inv = c.loop-line.invariant in
    let alike : c.forgets.result ≡ is_state c.args.kept.now = c.forgets.ensures ∙ inv.form in
    last_so_far inv.asked
    (record { found = c.in_ok-next.ensures.ok; says = rw alike at c.in_ok-said.ensures.said; keeps = rw alike at c.in_ok-said.ensures.fault })
    (sym (c.ends.ensures) ∙ c.if-ends.false) c.reply.ensures.asked

pub returns-in_err-line-clause-asked : goal.returns-in_err-line-clause-asked
returns-in_err-line-clause-asked g c =
    let inv = c.loop-line.invariant in
    let alike : c.forgets.result ≡ is_state c.args.kept.now = c.forgets.ensures ∙ inv.form in
    last_so_far inv.asked
    (record { found = c.in_ok-next.ensures.ok; says = rw alike at c.in_ok-said.ensures.said; keeps = rw alike at c.in_ok-said.ensures.fault })
    (sym (c.ends.ensures) ∙ c.if-ends.false) c.reply.ensures.asked

pub returns-in_err-held-clause-asked : goal.returns-in_err-held-clause-asked
returns-in_err-held-clause-asked g c =
    all_so_far (none_so_far (is_state c.args.kept.now) (g.Q.Source.state c.args.questions.now).remaining
    (g.Q.Source.state c.args.questions.now).remaining (g.W.World.state c.args.world.now) refl)

pub returns-then-ends-clause-asked : goal.returns-then-ends-clause-asked
returns-then-ends-clause-asked g c = all_so_far c.loop-line.invariant.asked

pub returns-in_err-next-clause-asked : goal.returns-in_err-next-clause-asked
returns-in_err-next-clause-asked g c = all_so_far c.loop-line.invariant.asked

pub returns-in_err-said-clause-asked : goal.returns-in_err-said-clause-asked
returns-in_err-said-clause-asked g c = all_so_far c.loop-line.invariant.asked

pub returns-clause-asked : goal.returns-clause-asked
returns-clause-asked g c = all_so_far c.loop-line.invariant.asked
