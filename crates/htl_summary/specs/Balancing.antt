-- Balances of slots, and those of one tag or of one stack made one.
use Rattle.std.specs.Prelude.{◌≡◌, ℕ, ◌+◌, ◌<◌, ◌^◌, nat_eq, nat_lt, Bool, true, false, List, Contains, Option, Some, None, filter}
use Rattle.std.specs.Prelude.{if◌then◌else◌}
use Rattle.std.specs.List.{sum_by}
use Rattle.std.specs.Ordering.{is_eq, nat_cmp}
use Rattle.std.specs.Cmp.{unsigned_Decides}
use Rattle.std.specs.Cmp.Lexicographic.{pointwise, pointwise_decides, slice_cmp, texts_ties}
use Rattle.std.specs.declared.cmp.Ordering.{Ordering}
use Rattle.std.specs.declared.cmp.Ordering.TheVariants.{Less, Equal}
use Rattle.std.proofs.Common.{ap, ◌∙◌}
use Rattle.htl_event.specs.declared.balance.Balance.{Balance}
use Rattle.htl_event.specs.Events.{Event}
use Rattle.htl_event.specs.declared.slot.Count.{Count}
use Rattle.htl_event.specs.declared.slot.Slot.{Slot}
use Rattle.htl_event.specs.declared.slot.Slot.TheVariants.{Tagged}
use Rattle.htl_event.specs.Members.{IsRising, Lists}
use Rattle.htl_event.specs.Tallies.{plus_count, total_of, tally, IsPositive}
use Rattle.htl_tree.specs.Trees.{ByStackAndSlot}
use Rattle.htl_summary.specs.ObjectTags.{one_if_unbalanced}

-- ---- tags

abbrev pub tag_cmp : List ℕ → List ℕ → Ordering
tag_cmp = slice_cmp nat_cmp

-- tags that tie are equal
pub tag_same : (x y : List ℕ) → tag_cmp x y ≡ Equal → x ≡ y
tag_same x y e = (pointwise_decides unsigned_Decides x y).0 (texts_ties x y ∙ ap is_eq e)

-- ---- balances of slots

-- the balance of a tag of one object
abbrev pub tag_balance : Slot → Count → Option (Balance (List ℕ))
tag_balance (Tagged object tag) count = Some (record { by = tag; count = count; objects = one_if_unbalanced count })
tag_balance other count = None

-- the slot is the tag's, of whatever object
abbrev pub is_tagged : List ℕ → Slot → Bool
is_tagged tag (Tagged object its) = pointwise nat_eq its tag
is_tagged tag other = false

-- the balance of a stack under a tag of one object
abbrev pub stack_balance : List ℕ → (Slot × List ℕ) × Count → Option (Balance (List ℕ))
stack_balance tag sum = if is_tagged tag sum.0.0 then Some (record { by = sum.0.1; count = sum.1; objects = 1 }) else None

-- each slot of the events with each of its stacks and how often they came together, by stack and then by slot
abbrev pub ListsStackSums : List Event → List ((Slot × List ℕ) × Count) → Type 0
ListsStackSums events sums =
    Lists ByStackAndSlot (λ sum. (sum.1 ≡ tally events sum.0.0 sum.0.1) × IsPositive sum.1) sums

-- the row counts an object
abbrev pub shows : Balance (List ℕ) → Bool
shows row = nat_lt 0 row.objects

-- all rows, or those that count an object
abbrev pub listed : Bool → List (Balance (List ℕ)) → List (Balance (List ℕ))
listed true rows = rows
listed false rows = filter shows rows

-- ---- balances of one key

-- two balances of one key, made one
abbrev pub plus_balance : {K : Type 0} → Balance K → Balance K → Balance K
plus_balance a b = record { by = a.by; count = plus_count a.count b.count; objects = a.objects + b.objects }

-- the number adds up where balances are made one
abbrev pub AddsUp : {K : Type 0} → (Balance K → ℕ) → Type 0
AddsUp {K} number = (a b : Balance K) → number (plus_balance a b) ≡ number a + number b

-- a number of the balance, where it has the key
abbrev pub at_key : {K : Type 0} → (K → K → Ordering) → K → (Balance K → ℕ) → Balance K → ℕ
at_key cmp k number row = if is_eq (cmp k row.by) then number row else 0

abbrev pub ByKey : {K : Type 0} → (K → K → Ordering) → Balance K → Balance K → Type 0
ByKey cmp a b = cmp a.by b.by ≡ Less

-- all counts of the balances add up to what a number holds, and so do their objects
pub record Fit {K : Type 0} (rows : List (Balance K)) : Type 0 where
  pub counts : sum_by (λ (row : Balance K). total_of row.count) rows < 2 ^ 64
  pub objects : sum_by (λ (row : Balance K). row.objects) rows < 2 ^ 64

-- one balance for each key, in the order of the keys: all that were given of it, made one
pub record AreAdded {K : Type 0} (cmp : K → K → Ordering) (given rows : List (Balance K)) : Type 0 where
  pub rising : IsRising (ByKey cmp) rows
  pub numbers : (number : Balance K → ℕ) → AddsUp number → (k : K)
      → sum_by (at_key cmp k number) rows ≡ sum_by (at_key cmp k number) given
  pub positive : ((row : Balance K) → Contains given row → IsPositive row.count)
      → (row : Balance K) → Contains rows row → IsPositive row.count

-- whether the row has the sum's key, and then is added to it
pub record IsAdded {K : Type 0} (cmp : K → K → Ordering) (row sum : Balance K) (is_added : Bool) (now : Balance K) : Type 0 where
  pub same : is_eq (cmp row.by sum.by) ≡ is_added
  pub added : is_added ≡ true → total_of sum.count + total_of row.count < 2 ^ 64 → sum.objects + row.objects < 2 ^ 64
      → now ≡ plus_balance sum row
  pub kept : is_added ≡ false → now ≡ sum
