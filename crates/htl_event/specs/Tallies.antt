-- How often slots came, over a list of events.
use Rattle.std.specs.Prelude.{◌≡◌, ℕ, ◌+◌, ◌<◌, ◌≤◌, Bool, true, ◌&&◌, nat_eq, List, Option, Some, None, count_by}
use Rattle.std.specs.List.{starts_with}
use Rattle.std.specs.Ordering.{nat_cmp, ordering_then}
use Rattle.std.specs.Cmp.Lexicographic.{pointwise, slice_cmp}
use Rattle.std.specs.declared.cmp.Ordering.TheVariants.{Less}
use Rattle.htl_event.specs.Events.{Event}
use Rattle.htl_event.specs.declared.slot.Slot.{Slot}
use Rattle.htl_event.specs.declared.slot.Slot.TheVariants.{Tagged, Bad}
use Rattle.htl_event.specs.declared.slot.Sign.{Sign}
use Rattle.htl_event.specs.declared.slot.Sign.TheVariants.{Plus, Minus}
use Rattle.htl_event.specs.declared.slot.Count.{Count}
use Rattle.htl_event.specs.Slots.{is_counted}
use Rattle.htl_event.specs.Stacks.{outer, stack_cmp}
use Rattle.htl_event.specs.Members.{Lists}
use Rattle.htl_event.specs.Handles.{IsOutstanding, IsDiff}

abbrev pub zero_count : Count
zero_count = record { plus = 0; minus = 0 }

abbrev pub plus_count : Count → Count → Count
plus_count c d = record { plus = c.plus + d.plus; minus = c.minus + d.minus }

abbrev pub total_of : Count → ℕ
total_of c = c.plus + c.minus

-- how often the slot came on one side, among the events that pass
abbrev pub times : (Event → Bool) → List Event → Slot → Sign → ℕ
times passes events slot sign = count_by (λ e. is_counted slot sign e && passes e) events

-- how often the slot came on each side, among the events that pass
abbrev pub count_where : (Event → Bool) → List Event → Slot → Count
count_where passes events slot =
    record { plus = times passes events slot Plus; minus = times passes events slot Minus }

abbrev pub has_stack : List ℕ → Event → Bool
has_stack stack e = pointwise nat_eq e.stack stack

-- Tally: how often the slot came with exactly this stack.
abbrev pub tally : List Event → Slot → List ℕ → Count
tally events slot stack = count_where (has_stack stack) events slot

-- Prefix tally: how often the slot came with a stack that begins with the path, read from the outermost call.
abbrev pub under : List Event → List ℕ → Slot → Count
under events path slot = count_where (λ e. starts_with nat_eq (outer e.stack) path) events slot

-- Balance of a tag (the WDK on reference tracing with tags): how often the object was referenced and
-- dereferenced under it. It is balanced where the two are equal.
abbrev pub balance : List Event → ℕ → List ℕ → Count
balance events object tag = count_where (λ e. true) events (Tagged object tag)

abbrev pub IsPositive : Count → Type 0
IsPositive c = 0 < total_of c

abbrev pub ByTag : List ℕ × Count → List ℕ × Count → Type 0
ByTag a b = slice_cmp nat_cmp a.0 b.0 ≡ Less

-- Tag balances: every tag with an event of the object, by its bytes (`!obtrace`).
abbrev pub IsTags : List Event → ℕ → List (List ℕ × Count) → Type 0
IsTags events object rows =
    Lists ByTag (λ row. (row.1 ≡ balance events object row.0) × IsPositive row.1) rows

abbrev pub ByStack : {X : Type 0} → List ℕ × X → List ℕ × X → Type 0
ByStack a b = stack_cmp a.0 b.0 ≡ Less

-- Reference stacks: the stacks with an event of the object and tag, each with its tally, in stack order (`!obtrace`).
abbrev pub IsStacks : List Event → ℕ → List ℕ → List (List ℕ × Count) → Type 0
IsStacks events object tag rows =
    Lists ByStack (λ row. (row.1 ≡ tally events (Tagged object tag) row.0) × IsPositive row.1) rows

abbrev pub ByHandleAndStack : ℕ × List ℕ × ℕ → ℕ × List ℕ × ℕ → Type 0
ByHandleAndStack a b = ordering_then (nat_cmp a.0 b.0) (stack_cmp a.1 b.1) ≡ Less

-- Bad references: each handle as written and each stack with a bad reference of the process, and how
-- often it came, by handle and then in stack order (`!htrace`).
abbrev pub IsBad : List Event → ℕ → List (ℕ × List ℕ × ℕ) → Type 0
IsBad events process rows =
    Lists ByHandleAndStack (λ row. (row.2 ≡ (tally events (Bad process row.0) row.1).plus) × (0 < row.2)) rows

abbrev pub MostFirst : List ℕ × ℕ → List ℕ × ℕ → Type 0
MostFirst a b = ordering_then (nat_cmp b.1 a.1) (stack_cmp a.0 b.0) ≡ Less

-- the outstanding handles, or those of them that were opened after a moment
abbrev pub AreOpenSince : (Event → Type 0) → ℕ → Option ℕ → List Event → Type 0
AreOpenSince among process None rows = IsOutstanding among process rows
AreOpenSince among process (Some moment) rows = IsDiff among process moment rows

-- Leaking stacks (this project's own): each stack that opened some of the handles that `AreOpenSince` names, and at least `at_least` of
-- them, with their number, the greatest number first and then in stack order.
pub record IsLeaksSince (among : Event → Type 0) (process : ℕ) (since : Option ℕ) (at_least : ℕ) (rows : List (List ℕ × ℕ)) : Type 0 where
  pub handles : List Event
  pub are : AreOpenSince among process since handles
  pub stacks :
      Lists MostFirst (λ row. (row.1 ≡ count_by (has_stack row.0) handles) × ((0 < row.1) × (at_least ≤ row.1))) rows

-- the leaking stacks of all outstanding handles
abbrev pub IsLeaks : (Event → Type 0) → ℕ → List (List ℕ × ℕ) → Type 0
IsLeaks among process rows = IsLeaksSince among process None 1 rows
