-- The rows whose number isn't 0 are kept, and no other.
use Rattle.std.proofs.Common.{rules, tests}
use Rattle.std.specs.Prelude.{nat_lt}
use Rattle.std.proofs.lemmas.List.Elements.{filter_from_retain}
use Rattle.htl_summary.proofs.ranking.keep_counted.Goals as goal

pub returns : goal.returns
returns g c = filter_from_retain _ (λ row. nat_lt 0 (g.R.Ranked.number_of row)) (λ p x b q k. search (rules, tests)) _ _ _ c.retain.ensures.filtered
