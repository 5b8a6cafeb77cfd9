-- Where not all could be opened, the question ends so; and a run over what was opened is one over the names.
use Rattle.std.proofs.Common.{◌≡◌, ◌∙◌, ap, drop, inr, length, map, option_map, rules, string_bytes}
use Rattle.std.specs.Prelude.{Err, option_copied}
use Rattle.std.proofs.lemmas.Result.{err_from_is_err_and}
use Rattle.htl_lemmas.proofs.Lists.{take_front}
use Rattle.htl_main.specs.Origins.{by_fault}
use Rattle.htl_world.specs.Worlds.{of_inputs}
use Rattle.htl_world.proofs.Asked.{again, all_ended}
use Rattle.htl_world.proofs.NamesRead.{inputs_unread, unread_asks}
use Rattle.htl_world.proofs.PassedOn.{ends_so}
use Rattle.htl_program.proofs.Answered.{answered_once, answered_then, two_rounds}
use Rattle.htl_program.proofs.NamesRun.{ran_out, run_of_names}
use Rattle.htl_program.proofs.Picked.{picked_answer, picked_refusal}
use Rattle.htl_program.proofs.answering.answer.Goals as goal

pub returns-in_err-table : goal.returns-in_err-table
returns-in_err-table g c =
    let world = (g.W.World.state c.args.world.now).known in
    let names = c.deref.result.now in
    let table = option_copied c.as_ref.result in
    let fault = c.in_err-table.field-0.0 in
    let is = c.in_err-table.ensures in
    let p = err_from_is_err_and c.from_residual.result c.from_residual.ensures.1 in
    let ended : by_fault c.from_residual.result ≡ Err fault = ap by_fault p.1 ∙ ap Err p.2.0 in
    record {
      ends = rw (← c.deref.ensures.value, ← c.as_ref.ensures.value) (λ texts table all has.
          inr (ran_out c.from_residual.result p.0 p.1 (p.2.0 ∙ is.known texts table all has) p.2.1));
      absent = rw (← c.deref.ensures.value) (λ place absent. ends_so _ fault ended (is.absent place absent));
      untabled = rw (← c.deref.ensures.value, ← c.as_ref.ensures.value) (λ texts all gone. ends_so _ fault ended (is.untabled texts all gone));
      reads = rw (← c.deref.ensures.value) (inputs_unread world _ {known = of_inputs world.holds world.standard names} names _ _ fault ended is.unread);
      readers = rw (← c.deref.ensures.value) (unread_asks c.args.run.now.job.setting _ _ _ _ fault is.unread);
      sink = search rules;
      asked = rw (← c.deref.ensures.value, ← c.as_ref.ensures.value) (all_ended (map string_bytes names) (option_map string_bytes table)
          (by_fault c.from_residual.result) _ _ _ fault ended is.asked);
    }

pub returns-then-not-can_pick : goal.returns-then-not-can_pick
returns-then-not-can_pick g c =
    let opened = rw (c.deref.ensures.value, c.as_ref.ensures.value) at c.in_ok-table.ensures in
    let inputs = c.open_all.new.inputs in
    let kept : length c.run_from.new.inputs ≡ inputs.len = search rules in
    let back = take_front c.run_from.new.inputs (drop (length c.run_from.new.inputs) inputs.items) inputs.len kept in
    rw back (answered_once c.args.run.now _ _ c.in_ok-table.table _ _ _ _ _ opened
    (run_of_names (g.W.World.state c.args.world.now).known c.args.run.now _ g.W.Input.Source.state inputs.items c.run_from.new.inputs _ _ _
    opened.sources (rw (c.deref_mut.ensures.value, c.as_bytes-symbols.ensures) at c.run_from.ensures)))

pub returns-in-Ok : goal.returns-in-Ok
returns-in-Ok g c =
    let opened = rw (c.deref.ensures.value, c.as_ref.ensures.value) at c.in_ok-table.ensures in
    let inputs = c.open_all.new.inputs in
    let kept : length c.pick_from.new.inputs ≡ inputs.len = search rules in
    let back = take_front c.pick_from.new.inputs (drop (length c.pick_from.new.inputs) inputs.items) inputs.len kept in
    let can = c.can_pick.ensures c.if-not-can_pick.false in
    rw back (answered_once c.args.run.now _ _ c.in_ok-table.table _ _ _ _ _ opened
    (run_of_names (g.W.World.state c.args.world.now).known c.args.run.now _ g.W.Input.Source.state inputs.items c.pick_from.new.inputs _ _ _
    opened.sources (picked_answer c.args.run.now.job _ _ _ _ _ _ c.in-Ok.completed can.0
    (rw (c.deref_mut-2.ensures.value, c.as_bytes-symbols.ensures) at c.in-Ok.ensures))))

pub returns-in-Err-Refused : goal.returns-in-Err-Refused
returns-in-Err-Refused g c =
    let opened = rw (c.deref.ensures.value, c.as_ref.ensures.value) at c.in_ok-table.ensures in
    let inputs = c.open_all.new.inputs in
    let kept : length c.pick_from.new.inputs ≡ inputs.len = search rules in
    let back = take_front c.pick_from.new.inputs (drop (length c.pick_from.new.inputs) inputs.items) inputs.len kept in
    let can = c.can_pick.ensures c.if-not-can_pick.false in
    rw back (answered_once c.args.run.now _ _ c.in_ok-table.table _ _ _ _ _ opened
    (run_of_names (g.W.World.state c.args.world.now).known c.args.run.now _ g.W.Input.Source.state inputs.items c.pick_from.new.inputs _ _ _
    opened.sources (picked_refusal c.args.run.now.job _ _ _ _ _ _ c.in-Err-Refused.fault c.from.result can.0 c.from.ensures.0 c.from.ensures.1
    (rw (c.in-Err-Refused.field-0-is, c.deref_mut-2.ensures.value, c.as_bytes-symbols.ensures) at c.in-Err-Refused.ensures))))

pub returns-in-Err-Lacking-Process : goal.returns-in-Err-Lacking-Process
returns-in-Err-Lacking-Process g c =
    let opened = rw (c.deref.ensures.value, c.as_ref.ensures.value) at c.in_ok-table.ensures in
    let names = map string_bytes c.args.run.now.files.items in
    let known : (g.W.World.state c.open_all.new.world).known ≡ (g.W.World.state c.args.world.now).known = opened.asked.known in
    let can = c.can_pick.ensures c.if-not-can_pick.false in
    let unwritten = c.pick_from.ensures.unwritten c.in-Err-Lacking-Process.field-0-0
    (c.in-Err-Lacking-Process.is ∙ ap Err c.in-Err-Lacking-Process.field-0-is) in
    answered_then c.args.run.now _ _ c.in_ok-table.table _ _ _ _ _ opened
    (rw (known, c.as_bytes-symbols.ensures, unwritten) at c.pick_again.ensures.is) _
    (again names (by_fault c.pick_again.result) (g.W.World.state c.args.world.now).known _ _ _ can.0 (rw known at can.1) c.pick_again.ensures.asked)

pub returns : goal.returns
returns g c =
    let opened = rw (c.deref.ensures.value, c.as_ref.ensures.value) at c.in_ok-table.ensures in
    let names = map string_bytes c.args.run.now.files.items in
    let known : (g.W.World.state c.open_all.new.world).known ≡ (g.W.World.state c.args.world.now).known = opened.asked.known in
    let can = c.can_pick.ensures c.if-not-can_pick.false in
    let unwritten = c.pick_from.ensures.unwritten c.in-Err-Lacking-Segments.field-0-0
    (c.in-Err-Lacking-Segments.is ∙ ap Err c.in-Err-Lacking-Segments.field-0-is) in
    let ended = by_fault c.run_again.result in
    let asked = c.run_again.ensures.asked in
    answered_then c.args.run.now _ _ c.in_ok-table.table _ _ _ _ _ opened
    (rw (known, c.as_bytes-symbols.ensures, unwritten) at c.run_again.ensures.is) _
    (again names ended (g.W.World.state c.args.world.now).known _ _ _ can.0 (rw known at can.1) (asked.0, asked.1, two_rounds names ended asked.0 asked.2))
