-- What ends the opening of the files ends the question, and what was opened is read and answered.
use Rattle.std.proofs.Common.{◌≡◌, ◌∙◌, [], inl, inr, map, option_map, refl, string_bytes}
use Rattle.htl_main.specs.Origins.{by_fault}
use Rattle.htl_world.proofs.Asked.{all_ended, all_then}
use Rattle.htl_world.proofs.NamesRead.{inputs_unread, lefts_of, unread_asks}
use Rattle.htl_world.proofs.PassedOn.{ends_so, no_end}
use Rattle.htl_ask.specs.LineRounds.{ReadsStates}
use Rattle.htl_ask.specs.OverStates.{beginning_of}
use Rattle.htl_ask.proofs.RestoringLaws.{behind_read}
use Rattle.htl_ask.proofs.Unread.{about_no_two, no_failed_write}
use Rattle.htl_ask.proofs.over_states.answer_over_states.Goals as goal

pub returns-in-Ok : goal.returns-in-Ok
returns-in-Ok g c =
    let old = (g.W.World.state c.args.world.now).known in
    let run = c.args.run.now in
    let is = c.in-Ok.ensures in
    let sources = rw c.deref.ensures.value at is.sources in
    let bytes = lefts_of sources in
    let known : (g.W.World.state c.open_named.new.world).known ≡ old = is.asked.known in
    let held = rw known at c.answer_opened.ensures in
    let ended = by_fault c.answer_opened.result in
    let reading = rw sources at held.reading in
    record {
      ends = λ texts table all has states.
          rw (is.read table (rw (← c.as_ref.ensures.value) at has), ← c.as_bytes-symbols.ensures) (held.ends texts (bytes ∙ all) states);
      between = held.between;
      states = held.states;
      absent = rw (← c.deref.ensures.value) (λ place absent. no_end c.in-Ok.table (is.absent place absent));
      untabled = rw (← c.deref.ensures.value, ← c.as_ref.ensures.value)
          (λ texts all gone. no_end c.in-Ok.table (is.untabled texts all gone));
      reads = λ states. record { reading = inl (reading states); read = behind_read old states (beginning_of run) _ ended (reading states) };
      readers = rw sources at held.readers;
      sink = held.sink;
      asked = all_then (map string_bytes run.files.items) (option_map string_bytes run.symbols) ended
          (ReadsStates (map string_bytes run.states.items) ended (λ more. more ≡ [])) _ _ _ c.in-Ok.table
          (rw (c.deref.ensures.value, c.as_ref.ensures.value) at is.asked) held.asked;
    }

pub returns-in-Err : goal.returns-in-Err
returns-in-Err g c =
    let old = (g.W.World.state c.args.world.now).known in
    let run = c.args.run.now in
    let fault = c.in-Err.fault in
    let is = c.in-Err.ensures in
    let unread = rw c.deref.ensures.value at is.unread in
    record {
      ends = λ texts table all has states.
          inr (inl (inr (is.known texts table (rw (← c.deref.ensures.value) at all) (rw (← c.as_ref.ensures.value) at has))));
      between = about_no_two _ _ _ _ fault unread;
      states = tt;
      absent = rw (← c.deref.ensures.value) (λ place absent. ends_so _ fault refl (is.absent place absent));
      untabled = rw (← c.deref.ensures.value, ← c.as_ref.ensures.value) (λ texts all gone. ends_so _ fault refl (is.untabled texts all gone));
      reads = λ states. record {
        reading = inr (fault, refl, unread);
        read = (inputs_unread old run.job.setting.form.hex run.files.items _ _ fault refl unread).read;
      };
      readers = unread_asks run.job.setting _ _ _ _ fault unread;
      sink = record { untouched = λ other. refl; failed = λ told. absurd (no_failed_write _ _ _ _ fault unread (cc told)); fine = tt };
      asked = all_ended (map string_bytes run.files.items) (option_map string_bytes run.symbols) _ _ _ _ fault refl
          (rw (c.deref.ensures.value, c.as_ref.ensures.value) at is.asked);
    }
