-- Merged counts are sums, slot by slot.
use Rattle.std.proofs.Common.{◌≡◌, ◌+◌, ◌<◌, ◌^◌, map, unwrap_or, sym, ap, ◌∙◌, subst}
use Rattle.std.specs.FinMap.Entries.{find}
use Rattle.std.proofs.lemmas.List.{map-id}
use Rattle.htl_event.specs.Tallies.{zero_count, plus_count, total_of}
use Rattle.htl_sorted.specs.Entries.{IsSorted, joined_at}
use Rattle.htl_event.specs.SlotOrder.{slot_cmp}
use Rattle.htl_tree.specs.Nodes.{count_in}
use Rattle.htl_tree.proofs.sums.plus_counts.Goals as goal

pub merge-requires-clause-left : goal.merge-requires-clause-left
merge-requires-clause-left g c = subst (λ es. IsSorted slot_cmp es) (sym (map-id c.args.left.now)) c.requires.left

pub merge-requires-clause-right : goal.merge-requires-clause-right
merge-requires-clause-right g c = subst (λ es. IsSorted slot_cmp es) (sym (map-id c.args.right.now)) c.requires.right

pub merge-requires-clause-fits : goal.merge-requires-clause-fits
merge-requires-clause-fits g c k x y left right =
    let at_left : count_in c.args.left.now k ≡ x = ap (λ es. count_in es k) (sym (map-id c.args.left.now))
    ∙ ap (λ (o : _). unwrap_or o zero_count) left in
    let at_right : count_in c.args.right.now k ≡ y = ap (λ es. count_in es k) (sym (map-id c.args.right.now))
    ∙ ap (λ (o : _). unwrap_or o zero_count) right in
    subst (λ b. total_of x + total_of b < 2 ^ 64) at_right
    (subst (λ a. total_of a + total_of (count_in c.args.right.now k) < 2 ^ 64) at_left (c.requires.fits k))

pub returns-clause-sorted : goal.returns-clause-sorted
returns-clause-sorted g c = subst (λ es. IsSorted slot_cmp es) (map-id c.in_ok-sums.sums.items) c.in_ok-sums.ensures.sorted

pub returns-clause-values : goal.returns-clause-values
returns-clause-values g c slot =
    ap (find slot_cmp slot) (sym (map-id c.in_ok-sums.sums.items)) ∙ c.in_ok-sums.ensures.values slot
    ∙ ap (λ es. joined_at plus_count (find slot_cmp slot es) (find slot_cmp slot (map (λ e. e) c.args.right.now))) (map-id c.args.left.now)
    ∙ ap (λ es. joined_at plus_count (find slot_cmp slot c.args.left.now) (find slot_cmp slot es)) (map-id c.args.right.now)
