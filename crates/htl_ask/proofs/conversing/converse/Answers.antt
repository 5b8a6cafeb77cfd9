-- What ends the opening of the files ends the dialogue, and so does a state that is refused.
use Rattle.std.proofs.Common.{◌≡◌, ◌∙◌, Bool, List, Option, false, inl, inr, map, option_map, refl, rules, string_bytes, true, ℕ}
use Rattle.htl_command.specs.declared.question.Setting.{Setting}
use Rattle.htl_device.specs.States.{SourceState}
use Rattle.htl_inputs.specs.declared.fault.RunFault.{RunFault}
use Rattle.htl_main.specs.Origins.{by_fault}
use Rattle.htl_main.specs.declared.origin.Between.TheVariants.{Nothing}
use Rattle.htl_world.specs.Readings.{AreUnread}
use Rattle.htl_world.specs.Worlds.{change}
use Rattle.htl_world.proofs.Asked.{all_ended, all_then}
use Rattle.htl_world.proofs.NamesRead.{inputs_unread, lefts_of, unread_asks}
use Rattle.htl_world.proofs.PassedOn.{ends_so, no_end}
use Rattle.htl_ask.specs.Asking.{before_dialogue}
use Rattle.htl_ask.specs.Beginnings.{IsBeginsBetween, forgets}
use Rattle.htl_ask.specs.LineRounds.{AsksLater, ReadsStates}
use Rattle.htl_ask.proofs.RestoringLaws.{behind_read}
use Rattle.htl_ask.proofs.Unread.{about_no_two}
use Rattle.htl_ask.proofs.Written.{back_of, whole_itself}
use Rattle.htl_ask.proofs.conversing.converse.Goals as goal

-- what could not be opened is about no two segments
about_none : (folds : Bool) (setting : Setting) (texts : List (List ℕ)) (known holds : List (Option (List ℕ))) (absences : List Bool)
    (now : List SourceState) (fault : RunFault) → AreUnread known holds absences now fault → IsBeginsBetween folds setting texts fault Nothing
about_none false setting texts known holds absences now fault (inl (none, inl memory)) = rw memory refl
about_none false setting texts known holds absences now fault (inl (none, inr (place, told, first))) = rw told refl
about_none false setting texts known holds absences now fault (inr (same, inl symbols)) = rw symbols refl
about_none false setting texts known holds absences now fault (inr (same, inr memory)) = rw memory refl
about_none true setting texts known holds absences now fault unread = about_no_two known holds absences now fault unread

pub returns-in-Ok-clause-conversed : goal.returns-in-Ok-clause-conversed
returns-in-Ok-clause-conversed g c =
    let old = (g.W.World.state c.args.world.now).known in
    let of = c.args.files.now.dialogue.now in
    let is = c.in-Ok.ensures in
    let sources = rw c.deref.ensures.value at is.sources in
    let bytes = lefts_of sources in
    let known : (g.W.World.state c.open_named.new.world).known ≡ old = is.asked.known in
    let held = c.ask_opened.ensures in
    let ended = before_dialogue c.ask_opened.result in
    let reading = rw (known, sources) at held.reading in
    let whole = change (g.W.World.state c.args.world.now) (g.W.World.state c.ask_opened.new.world) in
    record {
      outcome = λ texts table all has states.
          rw (is.read table (rw (← c.as_ref.ensures.value) at has), ← c.as_bytes-symbols.ensures)
          ((rw known at held.outcome whole (back_of (whole_itself whole) is.asked)) texts (bytes ∙ all) states);
      devices = held.devices;
      between = λ texts all. held.between texts (bytes ∙ all);
      states = rw known at held.states;
      absent = rw (← c.deref.ensures.value) (λ place absent. no_end c.in-Ok.table (is.absent place absent));
      untabled = rw (← c.deref.ensures.value, ← c.as_ref.ensures.value)
          (λ texts all gone. no_end c.in-Ok.table (is.untabled texts all gone));
      reads = λ states. record { reading = inl (reading states); read = behind_read old states of _ (by_fault ended) (reading states) };
      readers = rw sources at held.readers;
      asked = all_then (map string_bytes of.files.items) (option_map string_bytes of.symbols) (by_fault ended)
          (ReadsStates (map string_bytes of.states.items) (by_fault ended)
          (AsksLater (forgets of) (g.Q.Source.state c.args.questions.now).remaining ended)) _ _ _ c.in-Ok.table
          (rw (c.deref.ensures.value, c.as_ref.ensures.value) at is.asked) held.asked;
    }

pub returns-in-Err-clause-conversed : goal.returns-in-Err-clause-conversed
returns-in-Err-clause-conversed g c =
    let old = (g.W.World.state c.args.world.now).known in
    let of = c.args.files.now.dialogue.now in
    let fault = c.in-Err.fault in
    let is = c.in-Err.ensures in
    let unread = rw c.deref.ensures.value at is.unread in
    record {
      outcome = rw (← c.deref.ensures.value, ← c.as_ref.ensures.value)
          (λ texts table all has states. inr (inr (is.known texts table all has)));
      devices = search rules;
      between = λ texts all. about_none (forgets of) of.setting texts _ _ _ _ fault is.unread;
      states = tt;
      absent = rw (← c.deref.ensures.value) (λ place absent. ends_so _ fault refl (is.absent place absent));
      untabled = rw (← c.deref.ensures.value, ← c.as_ref.ensures.value) (λ texts all gone. ends_so _ fault refl (is.untabled texts all gone));
      reads = λ states. record {
        reading = inr (fault, refl, unread);
        read = (inputs_unread old of.setting.form.hex of.files.items _ _ fault refl unread).read;
      };
      readers = unread_asks of.setting _ _ _ _ fault unread;
      asked = all_ended (map string_bytes of.files.items) (option_map string_bytes of.symbols) _ _ _ _ fault refl
          (rw (c.deref.ensures.value, c.as_ref.ensures.value) at is.asked);
    }
