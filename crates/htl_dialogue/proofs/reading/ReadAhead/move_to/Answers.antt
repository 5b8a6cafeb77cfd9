-- The bytes before the first line feed go over to the line.
use Rattle.std.proofs.Common.{◌≤◌, ◌+◌, ◌-◌, take, drop, sym, arith}
use Rattle.std.proofs.lemmas.List.{append-nil}
use Rattle.std.proofs.lemmas.Grind.{common_steps}
use Rattle.htl_dialogue.proofs.Feeds.{cut_at, left, no_feed}
use Rattle.htl_dialogue.proofs.reading.ReadAhead.move_to.Goals as goal

pub returns-in_ok-add-in-Some-clause-ok : goal.returns-in_ok-add-in-Some-clause-ok
returns-in_ok-add-in-Some-clause-ok c =
    let is = c.self.inside in
    let place = c.in-Some.place in
    let all = take (is.read - is.taken) (drop is.taken is.buffer.items) in
    let cut = cut_at all place (sym (rw (c.deref.ensures.value) at c.in-Some.ensures)) in
    let within : is.taken + (place + 1) ≤ is.read = grind (arith, common_steps, cut.within) in
    record {
      piece = take place all;
      no_feed = cut.before;
      held = rw (← c.self.view_is, ← left is.buffer.items is.taken is.read (place + 1) within) (cut.parts);
      all = λ bad. cc;
      grown = rw (c.deref.ensures.value) at (c.in_ok-add-in-Some.ensures);
    }

pub returns-in_ok-add-in-None-clause-ok : goal.returns-in_ok-add-in-None-clause-ok
returns-in_ok-add-in-None-clause-ok c =
    let is = c.self.inside in
    let all = take (is.read - is.taken) (drop is.taken is.buffer.items) in
    record {
      piece = all;
      no_feed = no_feed all (sym (rw (c.deref.ensures.value) at c.in-None.ensures));
      held = rw (← c.self.view_is) (sym (append-nil all));
      all = λ _. grind (arith, common_steps);
      grown = rw (c.deref.ensures.value) at (c.in_ok-add-in-None.ensures);
    }
