-- The copied segments of a processor, turned around, are its run.
use Rattle.std.proofs.Common.{◌++◌, List, ap, ◌∙◌}
use Rattle.std.specs.Prelude.{filter}
use Rattle.htl_segment.specs.Content.{Content}
use Rattle.htl_exchange.specs.Runs.{is_of}
use Rattle.htl_exchange.proofs.Fillings.{turned_run}
use Rattle.htl_exchange.proofs.start.copy_run.Goals as goal

pub returns : goal.returns
returns c =
    turned_run c.args.case.now c.args.processor c.segments.result.now c.push_run.new.run.items c.reverse.new.self.items c.segments.ensures.value
    (c.in_ok-push_run.ensures ∙ ap (λ (l : List Content). l ++ filter (is_of c.args.processor) c.segments.result.now) c.new-run.ensures.items)
    c.reverse.ensures.permutation
