-- The order of changes, by handle and of one handle by sequence, is strict.
use Rattle.std.proofs.Common.{◌≡◌, ◌<◌, ◌≤◌, ◌⊎◌, arith}
use Rattle.std.specs.Cmp.{IsTotalOrder}
use Rattle.std.specs.declared.cmp.Ordering.{Ordering}
use Rattle.std.specs.declared.cmp.Ordering.TheVariants.{Less}
use Rattle.std.proofs.lemmas.Bool.Decides.{nat_tests}
use Rattle.htl_event.specs.Members.{IsStrictOrder}
use Rattle.htl_event.proofs.Orders.{strict_from_total}
use Rattle.htl_answers.specs.declared.lives.Change.{Change}
use Rattle.htl_answers.specs.contracts.lives.ChangeOrd.TheImpl.{cmp-value}
use Rattle.htl_answers.specs.contracts.lives.ChangeOrd.TheImpl.Laws.{total-law}

abbrev pub change_cmp : Change → Change → Ordering
change_cmp = cmp-value.it

-- the first change is of a lower handle, or of the same one and earlier
abbrev pub ComesFirst : Change → Change → Type 0
ComesFirst a b = change_cmp a b ≡ Less

-- the order of changes is strict
pub change_order : IsStrictOrder ComesFirst
change_order = let total : IsTotalOrder change_cmp = total-law in strict_from_total total

-- the first of two is of a lower handle, or of the same one and comes no later
pub first_is : (a b : Change) → ComesFirst a b → (a.base < b.base) ⊎ ((a.base ≡ b.base) × (a.sequence ≤ b.sequence))
first_is a b first =
    let first' = first in
    grind (arith, nat_tests)

-- of two of one handle the earlier is the first
pub earlier_first : (a b : Change) → a.base ≡ b.base → a.sequence < b.sequence → ComesFirst a b
earlier_first a b base earlier = grind (arith, nat_tests)
