-- Laws of the definitions: an answer depends on the events alone, and answers over two lists put together
-- follow from the answers over each.
use Rattle.std.specs.Prelude.{◌≡◌, ◌≢◌, ℕ, List, [], ◌∷◌, ◌++◌, Option, Contains, ◌↔◌, ◌⊎◌, Bool, true, max, filter, nat_eq}
use Rattle.std.specs.List.{starts_with}
use Rattle.htl_event.specs.Events.{Event}
use Rattle.htl_event.specs.declared.slot.Slot.{Slot}
use Rattle.htl_event.specs.declared.slot.Slot.TheVariants.{Tagged}
use Rattle.htl_event.specs.declared.slot.Sign.{Sign}
use Rattle.htl_event.specs.declared.growth.Point.{Point}
use Rattle.htl_event.specs.declared.growth.Span.{Span}
use Rattle.htl_event.specs.declared.slot.Count.{Count}
use Rattle.htl_event.specs.Slots.{is_counted}
use Rattle.htl_event.specs.Stacks.{outer}
use Rattle.htl_event.specs.Members.{IsRising}
use Rattle.htl_event.specs.Handles.{LatestIs, later, IsGreatestSequence, IsMark, IsLastExit}
use Rattle.htl_event.specs.Handles.{IsOutstanding, IsDiff, IsListing, HaveOwnSequences}
use Rattle.htl_event.specs.Tallies.{zero_count, plus_count, count_where, tally, under, balance, IsTags, IsStacks, IsBad, IsLeaksSince}
use Rattle.htl_event.specs.Growth.{IsGrowth}
use Rattle.htl_event.specs.declared.since.Since.{Since}
use Rattle.htl_event.specs.Sites.{Site, IsSites}

-- the same events are in both lists, in whatever order
abbrev pub HaveSame : List Event → List Event → Type 0
HaveSame xs ys = (e : Event) → Contains xs e ↔ Contains ys e

-- the events of the third list are those of the first two, which may have some in common
abbrev pub IsUnion : List Event → List Event → List Event → Type 0
IsUnion xs ys zs = (e : Event) → Contains zs e ↔ (Contains xs e ⊎ Contains ys e)

-- two lists with the same events have one answer to each question about handles
pub record HandlesAreDetermined (xs ys : List Event) : Type 0 where
  pub latest : (process handle : ℕ) (a b : Option Event) → HaveOwnSequences xs
      → LatestIs (Contains xs) process handle a → LatestIs (Contains ys) process handle b → a ≡ b
  pub greatest : (a b : ℕ) → IsGreatestSequence (Contains xs) a → IsGreatestSequence (Contains ys) b → a ≡ b
  pub mark : (process a b : ℕ) → IsMark (Contains xs) process a → IsMark (Contains ys) process b → a ≡ b
  pub last_exit : (process a b : ℕ) → IsLastExit (Contains xs) process a → IsLastExit (Contains ys) process b → a ≡ b
  pub outstanding : (process : ℕ) (a b : List Event) → IsOutstanding (Contains xs) process a → IsOutstanding (Contains ys) process b → a ≡ b
  pub diff : (process since : ℕ) (a b : List Event) → IsDiff (Contains xs) process since a → IsDiff (Contains ys) process since b → a ≡ b
  pub listing : (process handle : ℕ) (a b : List Event)
      → IsListing (Contains xs) process handle a → IsListing (Contains ys) process handle b → a ≡ b
  pub leaks : (process : ℕ) (since : Option ℕ) (at_least : ℕ) (a b : List (List ℕ × ℕ))
      → IsLeaksSince (Contains xs) process since at_least a → IsLeaksSince (Contains ys) process since at_least b → a ≡ b
  pub growth : (process : ℕ) (span : Option Span) (points : ℕ) (a b : List Point)
      → IsGrowth span points xs process a → IsGrowth span points ys process b → a ≡ b
  pub sites : (since : Option Since) (at_least : ℕ) (a b : List Site)
      → IsSites (Contains xs) since at_least a → IsSites (Contains ys) since at_least b → a ≡ b

-- two lists with the same events at other places have the same counts, and one answer to each question about counts
pub record CountsAreDetermined (xs ys : List Event) : Type 0 where
  pub counts : (passes : Event → Bool) (slot : Slot) → count_where passes xs slot ≡ count_where passes ys slot
  pub tags : (object : ℕ) (a b : List (List ℕ × Count)) → IsTags xs object a → IsTags ys object b → a ≡ b
  pub stacks : (object : ℕ) (tag : List ℕ) (a b : List (List ℕ × Count)) → IsStacks xs object tag a → IsStacks ys object tag b → a ≡ b
  pub bad : (process : ℕ) (a b : List (ℕ × List ℕ × ℕ)) → IsBad xs process a → IsBad ys process b → a ≡ b

-- counts over two lists put together are sums
pub record CountsAddUp (xs ys : List Event) : Type 0 where
  pub tally : (slot : Slot) (stack : List ℕ) → tally (xs ++ ys) slot stack ≡ plus_count (tally xs slot stack) (tally ys slot stack)
  pub under : (path : List ℕ) (slot : Slot) → under (xs ++ ys) path slot ≡ plus_count (under xs path slot) (under ys path slot)
  pub balance : (object : ℕ) (tag : List ℕ) → balance (xs ++ ys) object tag ≡ plus_count (balance xs object tag) (balance ys object tag)

-- the latest event and the greatest sequence over a union are the later and the greater of both
pub record LaterOfBoth (xs ys zs : List Event) : Type 0 where
  pub latest : (process handle : ℕ) (a b : Option Event) → LatestIs (Contains xs) process handle a
      → LatestIs (Contains ys) process handle b → LatestIs (Contains zs) process handle (later a b)
  pub greatest : (a b : ℕ) → IsGreatestSequence (Contains xs) a → IsGreatestSequence (Contains ys) b
      → IsGreatestSequence (Contains zs) (max a b)
  pub mark : (process a b : ℕ) → IsMark (Contains xs) process a → IsMark (Contains ys) process b → IsMark (Contains zs) process (max a b)
  pub last_exit : (process a b : ℕ) → IsLastExit (Contains xs) process a → IsLastExit (Contains ys) process b
      → IsLastExit (Contains zs) process (max a b)

-- the sum of the tallies of a slot over some stacks
abbrev pub sum_of_tallies : List Event → Slot → List (List ℕ) → Count
sum_of_tallies events slot [] = zero_count
sum_of_tallies events slot (stack ∷ stacks) = plus_count (tally events slot stack) (sum_of_tallies events slot stacks)

-- the stacks that begin with a path, read from the outermost call
abbrev pub stacks_under : List ℕ → List (List ℕ) → List (List ℕ)
stacks_under path stacks = filter (λ stack. starts_with nat_eq (outer stack) path) stacks

-- stacks, each once, of which each event that is counted under the slot has one
pub record AreStacksOf (events : List Event) (slot : Slot) (stacks : List (List ℕ)) : Type 0 where
  pub apart : IsRising (λ a b. a ≢ b) stacks
  pub all : (e : Event) (sign : Sign) → Contains events e → is_counted slot sign e ≡ true → Contains stacks e.stack

-- the prefix tally is the sum of the tally over all stacks that begin with the path
abbrev pub PrefixTallyIsSum : Type 0
PrefixTallyIsSum = (events : List Event) (slot : Slot) (stacks : List (List ℕ)) (path : List ℕ) → AreStacksOf events slot stacks
    → under events path slot ≡ sum_of_tallies events slot (stacks_under path stacks)

-- the balance of a tag is the sum of its tally over all stacks
abbrev pub BalanceIsSum : Type 0
BalanceIsSum = (events : List Event) (object : ℕ) (tag : List ℕ) (stacks : List (List ℕ)) → AreStacksOf events (Tagged object tag) stacks
    → balance events object tag ≡ sum_of_tallies events (Tagged object tag) stacks
