-- States are merged, and then inputs are read as by a run; each line's reply is that of a run over what was read by then.
use Rattle.std.proofs.Common.{◌≡◌, ◌∙◌, Bor, Option, None, drop, inl, inr, length, map, refl, rules, Some, string_bytes}
use Rattle.std.specs.Prelude.{is_some}
use Rattle.std.proofs.lemmas.Result.{err_from_is_err_and}
use Rattle.std.specs.Option.{option_copied}
use Rattle.htl_lemmas.proofs.Lists.{take_front}
use Rattle.htl_inputs.proofs.ReadingLaws.{ends_too, read_then, well}
use Rattle.htl_dialogue.specs.declared.note.Opening.{Opening}
use Rattle.htl_dialogue.proofs.Simulated.{converses_too, stops_too}
use Rattle.htl_ask.specs.Asking.{answers_over}
use Rattle.htl_ask.specs.Beginnings.{forgets}
use Rattle.htl_ask.specs.Loads.{IsOfTold, answers_from, is_state, opening_of}
use Rattle.htl_ask.specs.Outcomes.{told_before}
use Rattle.htl_main.specs.declared.folding.Folded.{Folded}
use Rattle.htl_ask.proofs.Begun.{converses_begun, stops_begun}
use Rattle.htl_ask.proofs.KeptLaws.{Holds, holds_absence, holds_outcome, reading_more}
use Rattle.htl_ask.proofs.RestoringLaws.{states_alone, states_ended, states_then}
use Rattle.htl_ask.proofs.StateLaws.{merging_one, saving_one}
use Rattle.htl_ask.proofs.Written.{back_of}
use Rattle.htl_ask.proofs.conversing.ask_opened.Goals as goal

-- a copied option is one where there is one
some_copied : {X : Type 0} (of : Option (Bor X)) → is_some of ≡ is_some (option_copied of)
some_copied None = refl
some_copied (Some x) = refl

-- nothing is said of what was folded
none_told : (before : Option Folded) → IsOfTold before None
none_told None = tt
none_told (Some folded) = tt

pub returns-in_err-before-clause-reading : goal.returns-in_err-before-clause-reading
returns-in_err-before-clause-reading g c =
    let p = err_from_is_err_and c.from_residual.result c.from_residual.ensures.1 in
    rw (p.1, p.2) (λ states. inr (c.in_err-before.field-0.0.fault, refl, refl, c.in_err-before.ensures.refused states))

pub returns-in_err-kept-clause-reading : goal.returns-in_err-kept-clause-reading
returns-in_err-kept-clause-reading g c =
    let p = err_from_is_err_and c.from_residual-in_err-kept.result c.from_residual-in_err-kept.ensures.1 in
    let kept : length c.begin.new.inputs ≡ c.args.inputs.now.len = search rules in
    let back = take_front c.begin.new.inputs (drop (length c.begin.new.inputs) c.args.inputs.now.items) c.args.inputs.now.len kept in
    rw (back, ← c.deref_mut.ensures.value, p.1, p.2) (λ states.
    inl (
      c.in_ok-before.ensures.states,
      c.in_ok-before.ensures.fit states,
      ends_too c.args.files.now.dialogue.now.setting.form.hex
          (map g.W.Input.Source.state c.deref_mut.result.now) (map g.W.Input.Source.state c.begin.new.inputs) c.in_err-kept.field-0.0.fault
          c.in_err-kept.ensures.reading,
    ))

pub returns-in_err-conversed-clause-reading : goal.returns-in_err-conversed-clause-reading
returns-in_err-conversed-clause-reading g c =
    let p = err_from_is_err_and c.from_residual-in_err-conversed.result c.from_residual-in_err-conversed.ensures.1 in
    let kept : length c.begin.new.inputs ≡ c.args.inputs.now.len = search rules in
    let back = take_front c.begin.new.inputs (drop (length c.begin.new.inputs) c.args.inputs.now.items) c.args.inputs.now.len kept in
    rw (back, ← c.deref_mut.ensures.value, p.1, p.2) (λ states. inl (
      c.in_ok-before.ensures.states,
      c.in_ok-before.ensures.fit states,
      read_then c.args.files.now.dialogue.now.setting.form.hex
          (map g.W.Input.Source.state c.deref_mut.result.now) (map g.W.Input.Source.state c.begin.new.inputs) c.in_ok-kept.field-0 (well (tt {0}))
          c.in_ok-kept.ensures.reading (λ at told. cc told) (tt {0}),
    ))

pub returns-clause-reading : goal.returns-clause-reading
returns-clause-reading g c =
    let kept : length c.begin.new.inputs ≡ c.args.inputs.now.len = search rules in
    let back = take_front c.begin.new.inputs (drop (length c.begin.new.inputs) c.args.inputs.now.items) c.args.inputs.now.len kept in
    rw (back, ← c.deref_mut.ensures.value) (λ states. inl (
      c.in_ok-before.ensures.states,
      c.in_ok-before.ensures.fit states,
      read_then c.args.files.now.dialogue.now.setting.form.hex
          (map g.W.Input.Source.state c.deref_mut.result.now) (map g.W.Input.Source.state c.begin.new.inputs) c.in_ok-kept.field-0 (well (tt {0}))
          c.in_ok-kept.ensures.reading (λ at told. cc told) (tt {0}),
    ))

pub returns-in_err-conversed-clause-states : goal.returns-in_err-conversed-clause-states
returns-in_err-conversed-clause-states g c =
    let p = err_from_is_err_and c.from_residual-in_err-conversed.result c.from_residual-in_err-conversed.ensures.1 in
    rw (p.1, p.2) c.in_ok-before.ensures.states

pub returns-clause-states : goal.returns-clause-states
returns-clause-states g c =
    c.in_ok-before.ensures.states

pub returns-in_err-kept-clause-readers : goal.returns-in_err-kept-clause-readers
returns-in_err-kept-clause-readers g c =
    let kept : length c.begin.new.inputs ≡ c.args.inputs.now.len = search rules in
    let back = take_front c.begin.new.inputs (drop (length c.begin.new.inputs) c.args.inputs.now.items) c.args.inputs.now.len kept in
    rw (back, ← c.deref_mut.ensures.value) c.in_err-kept.ensures.readers

pub returns-in_err-conversed-clause-readers : goal.returns-in_err-conversed-clause-readers
returns-in_err-conversed-clause-readers g c =
    let kept : length c.begin.new.inputs ≡ c.args.inputs.now.len = search rules in
    let back = take_front c.begin.new.inputs (drop (length c.begin.new.inputs) c.args.inputs.now.items) c.args.inputs.now.len kept in
    rw (back, ← c.deref_mut.ensures.value) c.in_ok-kept.ensures.readers

pub returns-clause-readers : goal.returns-clause-readers
returns-clause-readers g c =
    let kept : length c.begin.new.inputs ≡ c.args.inputs.now.len = search rules in
    let back = take_front c.begin.new.inputs (drop (length c.begin.new.inputs) c.args.inputs.now.items) c.args.inputs.now.len kept in
    rw (back, ← c.deref_mut.ensures.value) c.in_ok-kept.ensures.readers

pub returns-in_err-before-clause-outcome : goal.returns-in_err-before-clause-outcome
returns-in_err-before-clause-outcome g c =
    let p = err_from_is_err_and c.from_residual.result c.from_residual.ensures.1 in
    λ whole part. rw (p.1, p.2) (λ texts all states. inr (c.in_err-before.ensures.refused states))

pub returns-in_err-kept-clause-outcome : goal.returns-in_err-kept-clause-outcome
returns-in_err-kept-clause-outcome g c =
    let p = err_from_is_err_and c.from_residual-in_err-kept.result c.from_residual-in_err-kept.ensures.1 in
    let kept : length c.begin.new.inputs ≡ c.args.inputs.now.len = search rules in
    let back = take_front c.begin.new.inputs (drop (length c.begin.new.inputs) c.args.inputs.now.items) c.args.inputs.now.len kept in
    let of = c.args.files.now.dialogue.now in
    let outcome = rw c.in_ok-before.ensures.form at c.in_err-kept.ensures.outcome in
    λ whole part. rw (back, ← c.deref_mut.ensures.value, p.1, p.2) (λ texts all states.
    inl (outcome (told_before states of) (c.in_ok-before.ensures.told states) texts all).0)

pub returns-in_err-conversed-clause-outcome : goal.returns-in_err-conversed-clause-outcome
returns-in_err-conversed-clause-outcome g c =
    let p = err_from_is_err_and c.from_residual-in_err-conversed.result c.from_residual-in_err-conversed.ensures.1 in
    let world = (g.W.World.state c.args.world.now).known in
    let of = c.args.files.now.dialogue.now in
    let symbols = option_copied c.args.symbols in
    let begun = c.in_ok-kept.field-0 in
    let opening : Opening = opening_of (forgets of) begun in
    let form : is_state begun.kept ≡ forgets of = c.in_ok-kept.ensures.form ∙ c.in_ok-before.ensures.form in
    let told = c.forgets.ensures ∙ form in
    let known : (g.W.World.state c.folded_before.new.world).known ≡ world = c.in_ok-before.ensures.asked.known in
    let outcome = rw c.in_ok-before.ensures.form at c.in_ok-kept.ensures.outcome in
    let same_table : c.is_some.result ≡ is_some symbols = c.is_some.ensures ∙ some_copied c.args.symbols in
    let fault = c.in_err-conversed.field-0.0 in
    let left = (g.Q.Source.state c.converse_lines.new.questions).remaining in
    let failed = (g.Q.Source.state c.converse_lines.new.questions).failed in
    λ whole part. rw (p.1, p.2) (λ texts all states.
    let one = answers_from world whole of.setting (is_state begun.kept) c.is_some.result in
    let other = answers_over world states whole of.setting (forgets of) symbols in
    let are = outcome (told_before states of) (c.in_ok-before.ensures.told states) texts (rw c.deref_mut.ensures.value all) in (
      are.read,
      opening,
      refl,
      are.opens,
      λ lines asked. stops_begun other (g.S.Speaker.wants_notes c.args.speaker.now) are.read lines
          (g.O.Sink.state c.args.out.now).contents (g.O.Sink.state c.converse_lines.new.out).contents g.S.Speaker.told c.args.speaker.now
          c.hears.new.self c.converse_lines.new.speaker (map string_bytes of.files.items) opening
          (rw (c.deref.ensures.value, told) at c.hears.ensures.told) left failed fault
          (stops_too one other form same_table (Holds of.setting symbols)
          (λ before known job outcome holds has. holds_outcome of.setting symbols before known job outcome holds has)
          (λ before known job absence holds has. holds_absence of.setting symbols before known job absence holds has)
          (λ before known names after ended holds reads. reading_more world of.setting symbols names before known after ended holds reads)
          (λ before known name after ended holds is. merging_one world states of.setting symbols name before known after ended holds is)
          (λ before known name ended holds is. saving_one whole of.setting symbols before known name ended holds is)
          (g.S.Speaker.wants_notes c.args.speaker.now) begun.kept are.read lines left failed _ fault
          (record { covered = c.in_ok-kept.ensures.coverage; are = are.kept })
          (rw (c.hears.ensures.same, known) at c.in_err-conversed.ensures.stops whole (back_of part c.in_ok-before.ensures.asked) lines asked)),
    ))

pub returns-clause-outcome : goal.returns-clause-outcome
returns-clause-outcome g c =
    let world = (g.W.World.state c.args.world.now).known in
    let of = c.args.files.now.dialogue.now in
    let symbols = option_copied c.args.symbols in
    let begun = c.in_ok-kept.field-0 in
    let opening : Opening = opening_of (forgets of) begun in
    let form : is_state begun.kept ≡ forgets of = c.in_ok-kept.ensures.form ∙ c.in_ok-before.ensures.form in
    let told = c.forgets.ensures ∙ form in
    let known : (g.W.World.state c.folded_before.new.world).known ≡ world = c.in_ok-before.ensures.asked.known in
    let outcome = rw c.in_ok-before.ensures.form at c.in_ok-kept.ensures.outcome in
    let same_table : c.is_some.result ≡ is_some symbols = c.is_some.ensures ∙ some_copied c.args.symbols in
    let conversed = c.in_ok-conversed.conversed in
    λ whole part texts all states.
    let one = answers_from world whole of.setting (is_state begun.kept) c.is_some.result in
    let other = answers_over world states whole of.setting (forgets of) symbols in
    let are = outcome (told_before states of) (c.in_ok-before.ensures.told states) texts (rw c.deref_mut.ensures.value all) in (
      are.read,
      opening,
      refl,
      are.opens,
      λ lines asked. converses_begun other (g.S.Speaker.wants_notes c.args.speaker.now) are.read lines
          (g.O.Sink.state c.args.out.now).contents (g.O.Sink.state c.converse_lines.new.out).contents g.S.Speaker.told c.args.speaker.now
          c.hears.new.self c.converse_lines.new.speaker (map string_bytes of.files.items) opening
          (rw (c.deref.ensures.value, told) at c.hears.ensures.told) conversed
          (converses_too one other form same_table (Holds of.setting symbols)
          (λ before known job outcome holds has. holds_outcome of.setting symbols before known job outcome holds has)
          (λ before known job absence holds has. holds_absence of.setting symbols before known job absence holds has)
          (λ before known names after ended holds reads. reading_more world of.setting symbols names before known after ended holds reads)
          (λ before known name after ended holds is. merging_one world states of.setting symbols name before known after ended holds is)
          (λ before known name ended holds is. saving_one whole of.setting symbols before known name ended holds is)
          (g.S.Speaker.wants_notes c.args.speaker.now) begun.kept are.read lines _ conversed
          (record { covered = c.in_ok-kept.ensures.coverage; are = are.kept })
          (rw (c.hears.ensures.same, known) at c.in_ok-conversed.ensures.ok whole (back_of part c.in_ok-before.ensures.asked) lines asked)),
    )

pub returns-in_err-kept-clause-between : goal.returns-in_err-kept-clause-between
returns-in_err-kept-clause-between g c =
    let p = err_from_is_err_and c.from_residual-in_err-kept.result c.from_residual-in_err-kept.ensures.1 in
    let outcome = rw c.in_ok-before.ensures.form at c.in_err-kept.ensures.outcome in
    rw (← c.deref_mut.ensures.value, p.1, p.2) (λ texts all. (outcome None (none_told c.in_ok-before.before) texts all).1)

pub returns-in_err-before-clause-asked : goal.returns-in_err-before-clause-asked
returns-in_err-before-clause-asked g c =
    let p = err_from_is_err_and c.from_residual.result c.from_residual.ensures.1 in
    rw (p.1, p.2) (states_ended _ (g.W.World.state c.args.world.now) _ _ _ _ c.in_err-before.field-0.0.fault refl c.in_err-before.ensures.asked)

pub returns-in_err-kept-clause-asked : goal.returns-in_err-kept-clause-asked
returns-in_err-kept-clause-asked g c =
    let p = err_from_is_err_and c.from_residual-in_err-kept.result c.from_residual-in_err-kept.ensures.1 in
    rw (p.1, p.2) (states_alone _ _ (g.W.World.state c.args.world.now) _ _ _ c.in_ok-before.ensures.asked refl)

pub returns-in_err-conversed-clause-asked : goal.returns-in_err-conversed-clause-asked
returns-in_err-conversed-clause-asked g c =
    let p = err_from_is_err_and c.from_residual-in_err-conversed.result c.from_residual-in_err-conversed.ensures.1 in
    let form = c.in_ok-kept.ensures.form ∙ c.in_ok-before.ensures.form in
    rw (p.1, p.2) (states_then _ _ _ _ _ _ c.in_ok-before.ensures.asked (rw form at c.converse_lines.ensures.asked))

pub returns-clause-asked : goal.returns-clause-asked
returns-clause-asked g c =
    let form = c.in_ok-kept.ensures.form ∙ c.in_ok-before.ensures.form in
    states_then _ _ _ _ _ _ c.in_ok-before.ensures.asked (rw form at c.converse_lines.ensures.asked)
