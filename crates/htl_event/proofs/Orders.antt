-- The orders of answers are strict.
use Rattle.std.proofs.Common.{◌≡◌, ℕ, ◌<◌, List, arith}
use Rattle.std.specs.Cmp.{IsTotalOrder}
use Rattle.std.specs.declared.cmp.Ordering.{Ordering}
use Rattle.std.specs.declared.cmp.Ordering.TheVariants.{Less, Equal}
use Rattle.std.proofs.lemmas.Cmp.{tied_itself, nat_cmp_total, nat_list_cmp_total, on_total, then_total, back_total}
use Rattle.htl_event.specs.declared.slot.Count.{Count}
use Rattle.htl_event.specs.Members.{IsStrictOrder}
use Rattle.htl_event.specs.OrderLaws.{stack_total}
use Rattle.htl_event.specs.Handles.{ByBase, NewestFirst}
use Rattle.htl_event.specs.Growth.{EarlierFirst}
use Rattle.htl_event.specs.Tallies.{ByTag, ByStack, ByHandleAndStack, MostFirst}
use Rattle.htl_event.specs.Events.{Event}
use Rattle.htl_event.specs.Slots.{base_of}
use Rattle.htl_event.specs.Sites.{Site, ByProcessAndBase, MostHandlesFirst}

-- what a total order puts first comes strictly before
pub strict_from_total : {X : Type 0} {R : X → X → Ordering} → IsTotalOrder R → IsStrictOrder (λ x y. R x y ≡ Less)
strict_from_total {X} {R} total = record {
  irreflexive = λ x less. let tied : R x x ≡ Equal = tied_itself total x in cc;
  transitive = total.trans;
}

-- the order of events by base handle is strict
pub ByBase-strict : IsStrictOrder ByBase
ByBase-strict = record { irreflexive = λ x h. omega arith; transitive = λ x y z p q. omega arith }

-- the order of listings, the newest first, is strict
pub NewestFirst-strict : IsStrictOrder NewestFirst
NewestFirst-strict = record { irreflexive = λ x h. omega arith; transitive = λ x y z p q. omega arith }

-- the order of points, the earlier first, is strict
pub EarlierFirst-strict : IsStrictOrder EarlierFirst
EarlierFirst-strict = record { irreflexive = λ x h. omega arith; transitive = λ x y z p q. omega arith }

-- the order of numbers is strict
pub lower-strict : IsStrictOrder (λ (a b : ℕ). a < b)
lower-strict = record { irreflexive = λ x h. omega arith; transitive = λ x y z p q. omega arith }

-- the order of tags by their bytes is strict
pub ByTag-strict : IsStrictOrder ByTag
ByTag-strict = strict_from_total (on_total (λ (row : List ℕ × Count). row.0) nat_list_cmp_total)

-- the order of rows by stack is strict
pub ByStack-strict : {X : Type 0} → IsStrictOrder (ByStack {X = X})
ByStack-strict {X} = strict_from_total (on_total (λ (row : List ℕ × X). row.0) stack_total)

-- the order of bad references, by handle and then by stack, is strict
pub ByHandleAndStack-strict : IsStrictOrder ByHandleAndStack
ByHandleAndStack-strict =
    strict_from_total (then_total (on_total (λ (row : ℕ × List ℕ × ℕ). row.0) nat_cmp_total)
    (on_total (λ (row : ℕ × List ℕ × ℕ). row.1) stack_total))

-- the order of leaks, the greatest number first and then by stack, is strict
pub MostFirst-strict : IsStrictOrder MostFirst
MostFirst-strict =
    strict_from_total (then_total (back_total (on_total (λ (row : List ℕ × ℕ). row.1) nat_cmp_total))
    (on_total (λ (row : List ℕ × ℕ). row.0) stack_total))

-- the order of events by process and base handle is strict
pub ByProcessAndBase-strict : IsStrictOrder ByProcessAndBase
ByProcessAndBase-strict =
    strict_from_total (then_total (on_total (λ (e : Event). e.process) nat_cmp_total) (on_total (λ (e : Event). base_of e.handle) nat_cmp_total))

-- the order of sites, the greatest number of handles first and then by stack, is strict
pub MostHandlesFirst-strict : IsStrictOrder MostHandlesFirst
MostHandlesFirst-strict =
    strict_from_total (then_total (back_total (on_total (λ (site : Site). site.handles) nat_cmp_total))
    (on_total (λ (site : Site). site.stack) stack_total))
