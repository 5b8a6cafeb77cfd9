-- What laws cite: that the numbers of a row are in the ranges of their types, and that a value is of one row only.
use Rattle.std.specs.Prelude.{◌≡◌, ◌<◌, ◌^◌, ℕ, List}
use Rattle.std.specs.List.{AllByRecursion}
use Rattle.htl_event.specs.Balances.{Balance}
use Rattle.htl_event.specs.Events.{Event}
use Rattle.htl_event.specs.Ranges.{InRange}
use Rattle.htl_event.specs.Sites.{Site}
use Rattle.htl_event.specs.Slots.{base_of}
use Rattle.htl_event.specs.declared.growth.Point.{Point}
use Rattle.htl_event.specs.declared.slot.Count.{Count}
use Rattle.htl_event.specs.declared.summary.ObjectRow.{ObjectRow}
use Rattle.htl_event.specs.declared.summary.ProcessRow.{ProcessRow}
use Rattle.htl_symbols.specs.Ranges.{Range}
use Rattle.htl_taken.specs.declared.gap.Gap.{Gap}
use Rattle.htl_taken.specs.declared.gap.Gap.TheVariants.{Between, Absent}
use Rattle.htl_json.specs.Rows.{bad_reference, balance_row, counted_stack, leak, listed, missing, opened, point_row, process_row}
use Rattle.htl_json.specs.Rows.{site_row, tag_balance, tag_stack, unbalanced_object}

-- no type of a row has more than 64 bits
abbrev pub IsNumber : ℕ → Type 0
IsNumber n = n < 2 ^ 64

-- the addresses of a stack
abbrev pub AreAddresses : List ℕ → Type 0
AreAddresses stack = AllByRecursion IsNumber stack

-- the bytes of a tag
abbrev pub IsTag : List ℕ → Type 0
IsTag tag = AllByRecursion (λ b. b < 256) tag

abbrev pub IsCount : Count → Type 0
IsCount count = IsNumber count.plus × IsNumber count.minus

abbrev pub IsPoint : Point → Type 0
IsPoint point = IsNumber point.sequence × IsNumber point.outstanding

abbrev pub IsGap : Gap → Type 0
IsGap (Between processor from to) = IsNumber processor × IsNumber from × IsNumber to
IsGap (Absent processor) = IsNumber processor

abbrev pub IsSiteRow : Site → Type 0
IsSiteRow site = AreAddresses site.stack × IsNumber site.handles × IsNumber site.processes

abbrev pub IsTagRow : Balance → Type 0
IsTagRow row = IsTag row.by × IsCount row.count × IsNumber row.objects

abbrev pub IsTagStack : Balance → Type 0
IsTagStack row = AreAddresses row.by × IsCount row.count × IsNumber row.objects

pub record IsProcessRow (row : ProcessRow) : Type 0 where
  pub process : IsNumber row.process
  pub outstanding : IsNumber row.outstanding
  pub opens : IsNumber row.opens
  pub closes : IsNumber row.closes
  pub bad : IsNumber row.bad
  pub mark : IsNumber row.mark
  pub exit : IsNumber row.exit

pub record IsObjectRow (row : ObjectRow) : Type 0 where
  pub object : IsNumber row.object
  pub tags : IsNumber row.tags
  pub unbalanced : IsNumber row.unbalanced
  pub refs : IsNumber row.refs
  pub derefs : IsNumber row.derefs

-- Where two rows have the same value, and their numbers are in the ranges of their types, the rows agree in all that the value shows. Of
-- an outstanding handle that is the base handle, the sequence, the thread and the stack of its open, and of a listed event the kind, the
-- handle as it was written, the sequence, the thread and the stack. Rows of other kinds are the same.
pub record IsOneRow (symbols : List Range) : Type 0 where
  pub outstanding : (a b : Event) → InRange a → InRange b → opened symbols a ≡ opened symbols b
      → (base_of a.handle ≡ base_of b.handle) × (a.sequence ≡ b.sequence) × (a.thread ≡ b.thread) × (a.stack ≡ b.stack)
  pub listing : (a b : Event) → InRange a → InRange b → listed symbols a ≡ listed symbols b
      → (a.kind ≡ b.kind) × (a.handle ≡ b.handle) × (a.sequence ≡ b.sequence) × (a.thread ≡ b.thread) × (a.stack ≡ b.stack)
  pub bad : (handle other : ℕ) (stack frames : List ℕ) (times often : ℕ) → IsNumber handle → IsNumber other
      → AreAddresses stack → AreAddresses frames → IsNumber times → IsNumber often
      → bad_reference symbols (handle, stack, times) ≡ bad_reference symbols (other, frames, often)
      → (handle ≡ other) × (stack ≡ frames) × (times ≡ often)
  pub leaks : (stack frames : List ℕ) (handles other : ℕ) → AreAddresses stack → AreAddresses frames → IsNumber handles → IsNumber other
      → leak symbols (stack, handles) ≡ leak symbols (frames, other) → (stack ≡ frames) × (handles ≡ other)
  pub sites : (a b : Site) → IsSiteRow a → IsSiteRow b → site_row symbols a ≡ site_row symbols b → a ≡ b
  pub stacks : (stack frames : List ℕ) (count other : Count) → AreAddresses stack → AreAddresses frames → IsCount count → IsCount other
      → counted_stack symbols (stack, count) ≡ counted_stack symbols (frames, other) → (stack ≡ frames) × (count ≡ other)
  pub tags : (tag bytes : List ℕ) (count other : Count) → IsTag tag → IsTag bytes → IsCount count → IsCount other
      → tag_balance (tag, count) ≡ tag_balance (bytes, other) → (tag ≡ bytes) × (count ≡ other)
  pub balances : (a b : Balance) → IsTagRow a → IsTagRow b → balance_row a ≡ balance_row b → a ≡ b
  pub tag_stacks : (a b : Balance) → IsTagStack a → IsTagStack b → tag_stack symbols a ≡ tag_stack symbols b → a ≡ b
  pub growth : (a b : Point) → IsPoint a → IsPoint b → point_row a ≡ point_row b → a ≡ b
  pub gaps : (a b : Gap) → IsGap a → IsGap b → missing a ≡ missing b → a ≡ b
  pub processes : (a b : ProcessRow) → IsProcessRow a → IsProcessRow b → process_row a ≡ process_row b → a ≡ b
  pub objects : (a b : ObjectRow) → IsObjectRow a → IsObjectRow b → unbalanced_object a ≡ unbalanced_object b → a ≡ b
