-- What `dedup_by_key` keeps is what a test of equal keys keeps.
use Rattle.std.proofs.Common.{rules}
use Rattle.std.proofs.lemmas.Fn.{dedup_same}
use Rattle.htl_case.specs.Ordered.{same_key}
use Rattle.htl_case.proofs.ordering.drop_repeats.Goals as goal

pub returns : goal.returns
returns c = dedup_same _ same_key _ (λ x y b f' x' y' k. search rules) _ _ c.dedup_by_key.ensures.filtered
