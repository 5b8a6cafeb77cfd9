-- Which tags don't balance, over all objects, and which stacks used a tag (this project's own), over a list of events.
use Rattle.std.specs.Prelude.{◌≡◌, ℕ, ◌<◌, Bool, true, false, ◌&&◌, nat_eq, List, length, count_by}
use Rattle.std.specs.Ordering.{nat_cmp, ordering_then}
use Rattle.std.specs.Cmp.Lexicographic.{pointwise, slice_cmp}
use Rattle.std.specs.declared.cmp.Ordering.TheVariants.{Less}
use Rattle.htl_event.specs.Events.{Event}
use Rattle.htl_event.specs.declared.balance.Balance.{Balance as BalanceBy}
use Rattle.htl_event.specs.declared.kind.Kind.{Kind}
use Rattle.htl_event.specs.declared.kind.Kind.TheVariants.{Ref, Deref}
use Rattle.htl_event.specs.declared.slot.Count.{Count}
use Rattle.htl_event.specs.declared.slot.Slot.TheVariants.{Tagged}
use Rattle.htl_event.specs.Members.{Lists}
use Rattle.htl_event.specs.Stacks.{stack_cmp}
use Rattle.htl_event.specs.Summaries.{is_unbalanced}
use Rattle.htl_event.specs.Tallies.{balance, has_stack, tally, IsPositive}

-- A row as a value: its tag is the list of its bytes, or its stack that of its addresses.
abbrev pub Balance : Type 0
Balance = BalanceBy (List ℕ)

abbrev pub is_ref : Kind → Bool
is_ref Ref = true
is_ref other = false

abbrev pub is_deref : Kind → Bool
is_deref Deref = true
is_deref other = false

-- how many references and dereferences, of whatever object, pass
abbrev pub references_where : (Event → Bool) → List Event → Count
references_where passes events = record {
  plus = count_by (λ e. is_ref e.kind && passes e) events;
  minus = count_by (λ e. is_deref e.kind && passes e) events;
}

abbrev pub has_tag : List ℕ → Event → Bool
has_tag tag e = pointwise nat_eq e.tag tag

-- so many objects have the property
abbrev pub HaveObjects : (ℕ → Type 0) → ℕ → Type 0
HaveObjects P n = (objects : List ℕ) × Lists (λ a b. a < b) P objects × (n ≡ length objects)

-- ---- tags

-- the object's references under the tag differ from its dereferences
abbrev pub DiffersOn : List Event → List ℕ → ℕ → Type 0
DiffersOn events tag object = is_unbalanced (tag, balance events object tag) ≡ true

-- Balance of a tag over all objects: how often they were referenced and dereferenced under it, and on how many of them it doesn't
-- balance. What is missing on one object isn't made up for by another.
pub record IsTagBalance (events : List Event) (row : Balance) : Type 0 where
  pub used : row.count ≡ references_where (has_tag row.by) events
  pub named : IsPositive row.count
  pub differing : HaveObjects (DiffersOn events row.by) row.objects

-- all rows are listed, or those that count an object
abbrev pub IsListed : Bool → Balance → Type 0
IsListed true row = Unit {0}
IsListed false row = 0 < row.objects

abbrev pub MostObjectsFirst : Balance → Balance → Type 0
MostObjectsFirst a b = ordering_then (nat_cmp b.objects a.objects) (slice_cmp nat_cmp a.by b.by) ≡ Less

-- Balances: the tags that don't balance on some object, or all that an event names, those with the most such objects first, and then
-- by their bytes.
abbrev pub AreBalances : List Event → Bool → List Balance → Type 0
AreBalances events all rows = Lists MostObjectsFirst (λ row. IsTagBalance events row × IsListed all row) rows

-- ---- the stacks of a tag

-- Balance of a stack under a tag, over all objects: how often they were referenced and dereferenced with exactly this stack, and how
-- many of them were.
pub record IsStackBalance (events : List Event) (tag : List ℕ) (row : Balance) : Type 0 where
  pub used : row.count ≡ references_where (λ e. has_tag tag e && has_stack row.by e) events
  pub named : IsPositive row.count
  pub touched : HaveObjects (λ object. IsPositive (tally events (Tagged object tag) row.by)) row.objects

abbrev pub InStackOrder : Balance → Balance → Type 0
InStackOrder a b = stack_cmp a.by b.by ≡ Less

-- Stacks of a tag: those that referenced or dereferenced an object under it, in stack order.
abbrev pub AreTagStacks : List Event → List ℕ → List Balance → Type 0
AreTagStacks events tag rows = Lists InStackOrder (IsStackBalance events tag) rows

-- ---- laws

-- two lists with the same events at other places have one answer to each of these questions
pub record BalancesAreDetermined (xs ys : List Event) : Type 0 where
  pub tags : (all : Bool) (a b : List Balance) → AreBalances xs all a → AreBalances ys all b → a ≡ b
  pub stacks : (tag : List ℕ) (a b : List Balance) → AreTagStacks xs tag a → AreTagStacks ys tag b → a ≡ b
