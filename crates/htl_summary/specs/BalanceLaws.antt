-- Laws of balances: what is counted of a tag over all objects adds up from its balances on each, and what is counted of all tags from
-- the unbalanced tags of each object.
use Rattle.std.specs.Prelude.{◌≡◌, ◌≢◌, ℕ, Bool, true, List, [], ◌∷◌, Contains}
use Rattle.std.specs.List.{sum_by}
use Rattle.htl_event.specs.Events.{Event}
use Rattle.htl_event.specs.declared.slot.Count.{Count}
use Rattle.htl_event.specs.declared.summary.ObjectRow.{ObjectRow}
use Rattle.htl_event.specs.Balances.{Balance, references_where, has_tag, AreBalances}
use Rattle.htl_event.specs.Interests.{names_object}
use Rattle.htl_event.specs.Members.{IsRising}
use Rattle.htl_event.specs.Summaries.{IsUnbalanced}
use Rattle.htl_event.specs.Tallies.{balance, plus_count, zero_count}

-- objects, each once, of which each reference and dereference under the tag names one
pub record AreObjectsOf (events : List Event) (tag objects : List ℕ) : Type 0 where
  pub apart : IsRising (λ a b. a ≢ b) objects
  pub all : (e : Event) → Contains events e → names_object e.kind ≡ true → e.tag ≡ tag → Contains objects e.object

-- the sum of the tag's balances on some objects
abbrev pub sum_of_balances : List Event → List ℕ → List ℕ → Count
sum_of_balances events tag [] = zero_count
sum_of_balances events tag (object ∷ objects) = plus_count (balance events object tag) (sum_of_balances events tag objects)

-- the references and dereferences under a tag are the sum of its balances on all objects
abbrev pub TagIsSumOfObjects : Type 0
TagIsSumOfObjects =
    (events : List Event) (tag objects : List ℕ) → AreObjectsOf events tag objects
    → references_where (has_tag tag) events ≡ sum_of_balances events tag objects

-- The objects of all balances are the unbalanced tags of all objects, whether or not tags that balance are listed.
abbrev pub BalancesAddUp : List Event → Type 0
BalancesAddUp events = (all : Bool) (tags : List Balance) (objects : List ObjectRow) → AreBalances events all tags
    → IsUnbalanced events objects → sum_by (λ (row : Balance). row.objects) tags ≡ sum_by (λ (row : ObjectRow). row.unbalanced) objects
