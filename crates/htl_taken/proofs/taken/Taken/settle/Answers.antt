-- Settling one processor keeps all keys, and one that isn't there changes nothing.
use Rattle.std.proofs.Common.{◌≤◌, map, length, slice_set, sym, ap, ◌∙◌, arith}
use Rattle.std.proofs.lemmas.List.{set_past}
use Rattle.htl_taken.specs.Numbers.{numbers_at, settled}
use Rattle.htl_taken.specs.NumberSets.{numbers_of}
use Rattle.htl_taken.proofs.Keys.{key_kept}
use Rattle.htl_taken.proofs.NumberSets.{numbers_at-set, length-view, sets_set, Has-settled_at}
use Rattle.htl_taken.proofs.taken.Taken.settle.Goals as goal
use Rattle.htl_taken.proofs.taken.Taken.settle.Goals.{in-Some, in_default}

pub returns-clause-value : goal.returns-clause-value
returns-clause-value g c =
    let sets = c.self.inside.sets.items in
    let ps = c.args.self.now in
    elim c.match-get_mut.branch [
      | in-Some w ↦
          let at = numbers_at-set sets c.from.result w.in-Some.numbers.now w.in-Some.ensures.item.3.0 (w.in-Some.ensures.item.1) in
          rw (w.self-inside-is, ← c.self.view_is, ← c.from.ensures)
          (sets_set sets c.from.result w.settle.new.self (settled (numbers_at (map numbers_of sets) c.from.result))
          (w.settle.ensures ∙ ap settled (sym at)))
      | in_default w ↦
          let past : length ps ≤ c.args.processor =
          omega (arith, w.in_default.ensures.item.3, c.from.ensures, length-view sets ps c.self.view_is) in
          rw w.self-inside-is (c.self.view_is ∙ sym (set_past ps c.args.processor (settled (numbers_at ps c.args.processor)) past))
    ]

pub returns-clause-keys : goal.returns-clause-keys
returns-clause-keys g c = rw (returns-clause-value g c) (λ q n.
    let ps = c.args.self.now in
    let p = c.args.processor in
    key_kept (slice_set ps p (settled (numbers_at ps p))) ps q n (Has-settled_at ps p q n))
