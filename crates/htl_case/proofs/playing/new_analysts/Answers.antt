-- The processor count of a case is one that `new` takes.
use Rattle.std.proofs.Common.{◌≡◌, List, length, ap, ◌∙◌, subst, Some, arith}
use Rattle.std.specs.Prelude.{slice_get}
use Rattle.std.proofs.lemmas.List.{length-replicate}
use Rattle.htl_analyst.specs.States.{State}
use Rattle.htl_analyst.specs.Steps.{new_state}
use Rattle.htl_case.proofs.Played.{some_processors, few_processors, item_replicated}
use Rattle.htl_case.proofs.playing.new_analysts.Goals as goal

pub returns-clause-count : goal.returns-clause-count
returns-clause-count c =
    let turns : c.loop.counter ≡ c.args.analysts = omega arith in
    ap length c.loop.invariant ∙ length-replicate c.loop.counter (new_state c.args.case.now.id c.args.case.now.processors) ∙ turns

pub returns-clause-new : goal.returns-clause-new
returns-clause-new c i a at =
    record {
      some = some_processors c.args.case.now c.requires;
      few = few_processors c.args.case.now c.requires;
      state =
          item_replicated c.loop.counter i (new_state c.args.case.now.id c.args.case.now.processors) a
          (subst (λ (states : List State). slice_get states i ≡ Some a) c.loop.invariant at);
    }
