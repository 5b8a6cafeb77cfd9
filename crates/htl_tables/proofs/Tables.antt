-- The rows of a table are the events that it has at its keys.
use Rattle.std.proofs.Common.{◌≡◌, ℕ, suc, List, [], ◌∷◌, Option, Some, None, refl, sym, inl, inr, arith, nat_lt, T}
use Rattle.std.specs.Prelude.{Contains}
use Rattle.std.specs.List.{AllByRecursion}
use Rattle.std.specs.Ordering.{eq_by_cmp}
use Rattle.std.specs.FinMap.Entries.{below_all}
use Rattle.std.proofs.lemmas.Bool.{cases_Bool}
use Rattle.std.proofs.lemmas.Option.{same_Some, none-some}
use Rattle.htl_event.specs.Events.{Event}
use Rattle.htl_event.specs.Slots.{base_of}
use Rattle.htl_event.specs.Handles.{later}
use Rattle.htl_event.specs.Members.{Lists, IsRising}
use Rattle.htl_sorted.specs.Entries.{IsSorted, joined_at}
use Rattle.htl_lemmas.proofs.Tests.{both_left, both_right, less}
use Rattle.htl_sorted.proofs.Rows.{row_found}
use Rattle.htl_tables.specs.Keys.{key_cmp, key_of, keyed, ByKey}
use Rattle.htl_tables.specs.Latest.{event_at, later_of, HasEvent}
use Rattle.htl_tables.proofs.KeyOrder.{key_total}

-- the later of both tables' events, as a merge makes it
pub joined-later : (a b : Option Event) → joined_at later_of a b ≡ later a b
joined-later None b = refl
joined-later (Some x) None = refl
joined-later (Some x) (Some y) =
    elim (cases_Bool (nat_lt x.sequence y.sequence)) [
      | inl t ↦ rw t refl
      | inr f ↦ rw f refl
    ]

-- ---- the rows show the map

below_rising : (e : Event) (rows : List Event) → T (below_all key_cmp (key_of e) (keyed rows)) → AllByRecursion (ByKey e) rows
below_rising e [] h = tt
below_rising e (row ∷ rows) h = (less (key_cmp (key_of e) (key_of row)) (both_left _ _ h), below_rising e rows (both_right _ _ h))

rows_rising : (rows : List Event) → IsSorted key_cmp (keyed rows) → IsRising ByKey rows
rows_rising [] sorted = tt
rows_rising (row ∷ rows) sorted = (below_rising row rows (both_left _ _ sorted), rows_rising rows (both_right _ _ sorted))

-- a row is what its table has at its key
row_there : (rows : List Event) (e : Event) → IsSorted key_cmp (keyed rows) → Contains rows e → HasEvent rows e
row_there rows e sorted (k, lt, is) = row_found key_of (λ (x : Event). x) key_total rows sorted k e lt (sym is)

-- what is found in a table is one of its rows
found_row : (rows : List Event) (process base : ℕ) (e : Event) → event_at rows process base ≡ Some e → Contains rows e
found_row [] process base e found = absurd (none-some e found)
found_row (row ∷ rows) process base e found =
    elim (cases_Bool (eq_by_cmp key_cmp (process, base) (key_of row))) [
      | inl t ↦ (0, omega arith, same_Some row e (rw t at found))
      | inr f ↦ let there = found_row rows process base e (rw f at found) in (suc there.0, omega (arith, there.1), there.2)
    ]

-- the rows of a sorted table list the events that it has, by process and base handle
pub rows_listed : (rows : List Event) → IsSorted key_cmp (keyed rows) → Lists ByKey (HasEvent rows) rows
rows_listed rows sorted = record {
  rising = rows_rising rows sorted;
  members = λ e. (row_there rows e sorted, found_row rows e.process (base_of e.handle) e);
}
