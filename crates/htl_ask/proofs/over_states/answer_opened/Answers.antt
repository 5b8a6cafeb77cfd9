-- States are merged, inputs are folded behind them, and the answer over all of that is printed; or it ends at one of these steps.
use Rattle.std.proofs.Common.{◌≡◌, drop, inl, inr, length, map, refl, rules, string_bytes}
use Rattle.std.specs.Option.{option_copied}
use Rattle.std.proofs.lemmas.Result.{err_from_is_err_and}
use Rattle.htl_lemmas.proofs.Lists.{take_front}
use Rattle.htl_inputs.proofs.ReadingLaws.{ends_too, ill, read_then, well}
use Rattle.htl_inputs.proofs.SourceLaws.{none_asked}
use Rattle.htl_main.proofs.AfterDecoding.{refused_is}
use Rattle.htl_main.proofs.LateFaults.{read_late}
use Rattle.htl_ask.specs.OverStates.{told_of_states}
use Rattle.htl_ask.proofs.Answered.{about_none, answered_over, comes_late, refused_over, state_unwritten}
use Rattle.htl_ask.proofs.RestoringLaws.{states_alone, states_ended}
use Rattle.htl_ask.proofs.over_states.answer_opened.Goals as goal

pub returns-in_err-folded : goal.returns-in_err-folded
returns-in_err-folded g c =
    let p = err_from_is_err_and c.from_residual.result c.from_residual.ensures.1 in
    let known = (g.W.World.state c.args.world.now).known in
    let run = c.args.run.now in
    let is = rw c.deref.ensures.value at c.in_err-folded.ensures in
    let fault = c.in_err-folded.field-0.0.fault in
    rw (p.1, p.2) (record {
      ends = λ texts all states. inr (inl (is.refused states));
      between = is.between;
      states = tt;
      reading = λ states. inr (fault, refl, refl, is.refused states);
      readers = none_asked run.job.setting.form.hex run.job.setting.workers (map g.W.Input.Source.state c.args.inputs.now.items);
      sink = record {
        untouched = λ other. refl;
        failed = λ told. absurd (state_unwritten known (map string_bytes run.states.items) fault is.refused (cc told));
        fine = tt;
      };
      asked = states_ended _ (g.W.World.state c.args.world.now) _ _ _ _ fault refl is.asked;
    })

pub returns-in_err-begun : goal.returns-in_err-begun
returns-in_err-begun g c =
    let p = err_from_is_err_and c.from_residual-in_err-begun.result c.from_residual-in_err-begun.ensures.1 in
    let kept : length c.begin.new.inputs ≡ c.args.inputs.now.len = search rules in
    let back = take_front c.begin.new.inputs (drop (length c.begin.new.inputs) c.args.inputs.now.items) c.args.inputs.now.len kept in
    let run = c.args.run.now in
    let before = rw c.deref.ensures.value at c.in_ok-folded.ensures in
    let is = c.in_err-begun.ensures in
    rw (back, ← c.deref_mut.ensures.value, p.1, p.2) (record {
      ends = λ texts all states. inl (is.outcome (told_of_states states run) (before.told states) texts all).0;
      between = is.between refl;
      states = tt;
      reading = λ states. inl (
        before.states,
        before.fit states,
        ends_too run.job.setting.form.hex (map g.W.Input.Source.state c.deref_mut.result.now)
            (map g.W.Input.Source.state c.begin.new.inputs) c.in_err-begun.field-0.0.fault is.reading,
      );
      readers = is.readers;
      sink = record { untouched = λ other. refl; failed = λ told. absurd (is.no_write (cc told)); fine = tt };
      asked = states_alone _ _ (g.W.World.state c.args.world.now) _ _ _ before.asked refl;
    })

pub returns-in_err-completed : goal.returns-in_err-completed
returns-in_err-completed g c =
    let p = err_from_is_err_and c.from_residual-in_err-completed.result c.from_residual-in_err-completed.ensures.1 in
    let kept : length c.begin.new.inputs ≡ c.args.inputs.now.len = search rules in
    let back = take_front c.begin.new.inputs (drop (length c.begin.new.inputs) c.args.inputs.now.items) c.args.inputs.now.len kept in
    let known = (g.W.World.state c.args.world.now).known in
    let run = c.args.run.now in
    let symbols = option_copied c.args.symbols in
    let before = rw c.deref.ensures.value at c.in_ok-folded.ensures in
    let begun = c.in_ok-begun.begun in
    let is = c.in_ok-begun.ensures in
    let printed = c.in_err-completed.ensures in
    let fault = c.in_err-completed.field-0.0 in
    let old = (g.O.Sink.state c.args.out.now).contents in
    let new = (g.O.Sink.state c.print_begun.new.out).contents in
    let now = map g.W.Input.Source.state c.begin.new.inputs in
    rw (back, ← c.deref_mut.ensures.value, p.1, refused_is p.0 p.2.0 p.2.1) (record {
      ends = λ texts all states.
          refused_over run symbols begun is.coverage old new known states texts
          (is.outcome (told_of_states states run) (before.told states) texts all) now fault printed.outcome;
      between = about_none begun.kept run.job old new fault printed.outcome;
      states = tt;
      reading = λ states. inl (
        before.states,
        before.fit states,
        read_late run.job.setting.form.hex (map g.W.Input.Source.state c.deref_mut.result.now) now begun (ill fault) is.reading
            (comes_late begun.kept run.job old new fault printed.outcome),
      );
      readers = is.readers;
      sink = record { untouched = printed.sink.untouched; failed = λ told. printed.sink.failed (cc told); fine = tt };
      asked = states_alone _ _ (g.W.World.state c.args.world.now) _ _ _ before.asked refl;
    })

pub returns : goal.returns
returns g c =
    let kept : length c.begin.new.inputs ≡ c.args.inputs.now.len = search rules in
    let back = take_front c.begin.new.inputs (drop (length c.begin.new.inputs) c.args.inputs.now.items) c.args.inputs.now.len kept in
    let known = (g.W.World.state c.args.world.now).known in
    let run = c.args.run.now in
    let symbols = option_copied c.args.symbols in
    let before = rw c.deref.ensures.value at c.in_ok-folded.ensures in
    let begun = c.in_ok-begun.begun in
    let is = c.in_ok-begun.ensures in
    let printed = c.in_ok-completed.ensures in
    let completed = c.in_ok-completed.completed in
    rw (back, ← c.deref_mut.ensures.value) (record {
      ends = λ texts all states.
          answered_over run symbols begun is.coverage (g.O.Sink.state c.args.out.now).contents (g.O.Sink.state c.print_begun.new.out).contents
          known states texts (is.outcome (told_of_states states run) (before.told states) texts all) completed printed.outcome;
      between = tt;
      states = before.states;
      reading = λ states. inl (
        before.states,
        before.fit states,
        read_then run.job.setting.form.hex (map g.W.Input.Source.state c.deref_mut.result.now)
            (map g.W.Input.Source.state c.begin.new.inputs) begun (well completed) is.reading (λ at told. cc told) tt,
      );
      readers = is.readers;
      sink = record { untouched = tt; failed = λ told. absurd (cc told); fine = printed.sink.fine };
      asked = states_alone _ _ (g.W.World.state c.args.world.now) _ _ _ before.asked refl;
    })
