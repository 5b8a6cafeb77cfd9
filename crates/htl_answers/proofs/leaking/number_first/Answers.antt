-- A row more is pushed where its number is great enough, and else it is left out.
use Rattle.std.proofs.Common.{◌≡◌, ◌+◌, ◌∷◌, [], ◌++◌, List, map, take, sym, ap, ◌∙◌, refl}
use Rattle.std.specs.Prelude.{ℕ, filter}
use Rattle.std.proofs.lemmas.Bool.{le-leb, lt-leb}
use Rattle.std.proofs.lemmas.List.{map-append}
use Rattle.htl_event.specs.declared.slot.Slot.{Slot}
use Rattle.htl_event.specs.declared.slot.Count.{Count}
use Rattle.htl_answers.specs.Leaks.{opens_many, counted_first}
use Rattle.htl_answers.proofs.Filters.{one_added, none_added}
use Rattle.htl_answers.proofs.leaking.number_first.Goals as goal
use Rattle.htl_answers.proofs.leaking.number_first.Goals.{then-count-at_least+in_ok-copy+in_ok-push, else-count-at_least}

pub loop-stack-preserved : goal.loop-stack-preserved
loop-stack-preserved c =
    let counts = c.args.counts.now in
    let i = c.loop-stack.stack-index in
    let row = c.loop-stack-item.result in
    let least = c.args.at_least in
    let many = opens_many least in
    let so_far = filter many (take i counts) in
    let lt = c.loop-stack-test.true in
    let is = c.loop-stack-item.is in
    let old : List ((Slot × List ℕ) × Count) = [] in
    elim c.if-count-at_least.branch [
      | then-count-at_least+in_ok-copy+in_ok-push w ↦
          let kept : so_far ++ row ∷ [] ≡ filter many (take (i + 1) counts) = one_added many old counts i row lt is so_far (so_far ++ row ∷ []) refl
          (le-leb least row.1.plus w.if-count-at_least.true) refl in
          let more = sym (map-append counted_first so_far (row ∷ [])) ∙ ap (map counted_first) kept in
          rw (w.rows-is, w.in_ok-push.ensures.items, w.in_ok-copy.ensures, c.loop-stack.invariant) more
      | else-count-at_least w ↦
          let kept : so_far ≡ filter many (take (i + 1) counts) = none_added many old counts i row lt is so_far refl
          (lt-leb least row.1.plus w.if-count-at_least.false) in
          rw (w.rows-is, c.loop-stack.invariant) (ap (map counted_first) kept)
    ]
