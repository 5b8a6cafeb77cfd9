-- Each call of the closure answers whether the child's frame is another.
use Rattle.std.proofs.Common.{rules}
use Rattle.std.proofs.lemmas.Fn.{filter_same}
use Rattle.htl_tree.proofs.removing.remove_child.Goals as goal

pub returns : goal.returns
returns g c = filter_same _ _ _ (λ x b f' k. search rules) _ _ c.retain.ensures.filtered
