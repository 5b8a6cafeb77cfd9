-- Rows of a key and a count, several of which may have one key.
use Rattle.std.specs.Prelude.{◌≡◌, ℕ, ◌+◌, ◌<◌, ◌^◌, Bool, true, false, List, Contains, Option, Some, None, if◌then◌else◌}
use Rattle.std.specs.List.{sum_by, filter_map}
use Rattle.std.specs.Option.{option_map}
use Rattle.std.specs.Ordering.{is_eq}
use Rattle.std.specs.declared.cmp.Ordering.{Ordering}
use Rattle.std.specs.declared.cmp.Ordering.TheVariants.{Less}
use Rattle.htl_event.specs.Events.{Event}
use Rattle.htl_event.specs.declared.slot.Slot.{Slot}
use Rattle.htl_event.specs.declared.slot.Sign.{Sign}
use Rattle.htl_event.specs.declared.slot.Count.{Count}
use Rattle.htl_event.specs.Slots.{slot_of}
use Rattle.htl_event.specs.Members.{IsRising}
use Rattle.htl_event.specs.Tallies.{plus_count, total_of, IsPositive}
use Rattle.htl_tree.specs.declared.slots.Slots.{Slots}
use Rattle.htl_tree.specs.HasSlot.{has_slot}
use Rattle.htl_answers.specs.Counts.{one_count}

-- a number of the row's count, where the row has the key
abbrev pub at_key : {K : Type 0} → (K → K → Ordering) → K → (Count → ℕ) → K × Count → ℕ
at_key cmp k side row = if is_eq (cmp k row.0) then side row.1 else 0

-- how often the key came, by all rows together
abbrev pub count_of : {K : Type 0} → (K → K → Ordering) → K → List (K × Count) → Count
count_of cmp k rows = record { plus = sum_by (at_key cmp k (λ c. c.plus)) rows; minus = sum_by (at_key cmp k (λ c. c.minus)) rows }

-- all counts of the rows together
abbrev pub total_in : {K : Type 0} → List (K × Count) → ℕ
total_in rows = sum_by (λ row. total_of row.1) rows

abbrev pub EachPositive : {K : Type 0} → List (K × Count) → Type 0
EachPositive {K} rows = (row : K × Count) → Contains rows row → IsPositive row.1

abbrev pub ByKey : {K : Type 0} → (K → K → Ordering) → K × Count → K × Count → Type 0
ByKey cmp a b = cmp a.0 b.0 ≡ Less

-- the rows in the order of their keys, those of one key made one
pub record AreSums {K : Type 0} (cmp : K → K → Ordering) (rows sums : List (K × Count)) : Type 0 where
  pub rising : IsRising (ByKey cmp) sums
  pub counts : (k : K) → count_of cmp k sums ≡ count_of cmp k rows
  pub total : total_in sums ≡ total_in rows
  pub positive : EachPositive rows → EachPositive sums

-- the rows count what the others do
pub record CountAlike {K : Type 0} (cmp : K → K → Ordering) (others rows : List (K × Count)) : Type 0 where
  pub counts : (k : K) → count_of cmp k rows ≡ count_of cmp k others
  pub total : total_in rows ≡ total_in others
  pub positive : EachPositive others → EachPositive rows

-- whether the row has the sum's key, and then is added to it
pub record IsAdded {K : Type 0} (cmp : K → K → Ordering) (row sum : K × Count) (is_added : Bool) (now : K × Count) : Type 0 where
  pub same : is_eq (cmp row.0 sum.0) ≡ is_added
  pub added : is_added ≡ true → total_of sum.1 + total_of row.1 < 2 ^ 64 → now ≡ (sum.0, plus_count sum.1 row.1)
  pub kept : is_added ≡ false → now ≡ sum

-- ---- rows of events

-- what an event is counted under, if that is asked for
abbrev pub if_asked : Slots → Option (Slot × Sign) → Option (Slot × Sign)
if_asked slots None = None
if_asked slots (Some x) = if has_slot slots x.0 then Some x else None

-- the row of the event, if its slot is asked for
abbrev pub row_of : {K : Type 0} → (Slot → List ℕ → K) → Slots → Event → Option (K × Count)
row_of key slots e = option_map (λ x. (key x.0 e.stack, one_count x.1)) (if_asked slots (slot_of e))

-- one row for each event whose slot is asked for
abbrev pub rows_of : {K : Type 0} → (Slot → List ℕ → K) → Slots → List Event → List (K × Count)
rows_of key slots events = filter_map (row_of key slots) events
