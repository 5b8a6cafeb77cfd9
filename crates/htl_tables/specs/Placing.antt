-- The rows of two tables on their way to become one, from the last row on.
use Rattle.std.specs.Prelude.{◌≡◌, ℕ, ◌+◌, ◌≤◌, List, ◌++◌, length, take, drop, fold, is_none, Option, count_by}
use Rattle.std.specs.Option.{option_or}
use Rattle.std.specs.FinMap.Entries.{find}
use Rattle.std.specs.declared.cmp.Ordering.{Ordering}
use Rattle.std.specs.declared.cmp.Ordering.TheVariants.{Less}
use Rattle.htl_event.specs.Events.{Event}
use Rattle.htl_event.specs.Handles.{later}
use Rattle.htl_sorted.specs.Entries.{IsSorted}
use Rattle.htl_tables.specs.Keys.{key_cmp, key_of, keyed}
use Rattle.htl_tables.specs.Latest.{event_at}

-- the number of newer rows for whose keys there is no older row
abbrev pub missing : List Event → List Event → ℕ
missing older newer = count_by (λ e. is_none (find key_cmp (key_of e) (keyed older))) newer

-- how the key of the last row compares with a key, and Less where there is no row
abbrev pub compare_last : List Event → ℕ × ℕ → Ordering
compare_last rows key = fold (λ r e. key_cmp (key_of e) key) Less rows

-- The older rows in front, the newer rows that are left and the rows in place make what the target has at each key. The rows in place come
-- behind all others.
pub record Make (target : ℕ → ℕ → Option Event) (front left placed : List Event) : Type 0 where
  pub older : IsSorted key_cmp (keyed (front ++ placed))
  pub newer : IsSorted key_cmp (keyed (left ++ placed))
  pub value : (process base : ℕ) → target process base ≡ option_or (event_at placed process base)
      (later (event_at front process base) (event_at left process base))

-- A join under way: the older rows in front, the newer rows that are left and the rows from `end` on make the target, and between the rows
-- in front and those from `end` on there is a free place for each newer row whose key no older row has.
pub record IsUnderWay (target : ℕ → ℕ → Option Event) (left rows : List Event) (older end : ℕ) : Type 0 where
  pub in_range : end ≤ length rows
  pub room : end ≡ older + missing (take older rows) left
  pub make : Make target (take older rows) left (drop end rows)

-- The first rows are those of a table, and behind them is a place for each newer row whose key none of them has.
pub record HasRoom (rows : List Event) (count : ℕ) (newer : List Event) : Type 0 where
  pub places : length rows ≡ count + missing (take count rows) newer
  pub older : IsSorted key_cmp (keyed (take count rows))
  pub sorted : IsSorted key_cmp (keyed newer)
