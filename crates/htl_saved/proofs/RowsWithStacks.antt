-- One row more has its stack.
use Rattle.std.proofs.Common.{◌≡◌, ℕ, ◌+◌, ◌<◌, List, [], ◌∷◌, ◌++◌, length, map, take, get_or, sym, ◌∙◌, ap}
use Rattle.std.proofs.lemmas.List.{take_more, map_push, get_or_default}
use Rattle.htl_event.specs.Events.{Event}
use Rattle.htl_event.specs.declared.slot.Slot.{Slot}
use Rattle.htl_event.specs.declared.slot.Count.{Count}
use Rattle.htl_state.specs.declared.rows.CountRow.{CountRow}
use Rattle.htl_state.specs.declared.rows.LatestRow.{LatestRow}
use Rattle.htl_saved.specs.Restored.{stack_at, listed, event_of}

-- what was copied of the table is the stack at the place
pub copied : (table : List (List ℕ)) (place : ℕ) (found stack : List ℕ) → place < length table → found ≡ get_or table place found
    → stack ≡ found → stack ≡ stack_at table place
copied table place found stack lt is copy = copy ∙ is ∙ sym (get_or_default table place [] found lt)

-- a list mapped a place further
mapped_more : {X Y : Type 0} (f : X → Y) (rows : List X) (i : ℕ) (d : X) → i < length rows
    → map f (take i rows) ++ f (get_or rows i d) ∷ [] ≡ map f (take (i + 1) rows)
mapped_more f rows i d lt = sym (map_push f (take i rows) (get_or rows i d)) ∙ ap (map f) (sym (take_more rows i d lt))

-- one count more
pub listed_more : (table : List (List ℕ)) (rows : List CountRow) (i : ℕ) (d : CountRow) (made : List ((Slot × List ℕ) × Count)) (stack : List ℕ)
    → i < length rows → made ≡ map (listed table) (take i rows) → stack ≡ stack_at table (get_or rows i d).stack
    → made ++ (((get_or rows i d).slot, stack), (get_or rows i d).count) ∷ [] ≡ map (listed table) (take (i + 1) rows)
listed_more table rows i d made stack lt before is =
    let row = get_or rows i d in
    ap (λ (l : List ((Slot × List ℕ) × Count)). l ++ ((row.slot, stack), row.count) ∷ []) before
    ∙ ap (λ (s : List ℕ). map (listed table) (take i rows) ++ ((row.slot, s), row.count) ∷ []) is
    ∙ mapped_more (listed table) rows i d lt

-- the event of a row, with this stack
abbrev pub event_with : LatestRow → List ℕ → Event
event_with row stack = record {
  sequence = row.sequence;
  kind = row.kind;
  process = row.process;
  thread = row.thread;
  handle = row.handle;
  object = 0;
  tag = 0 ∷ 0 ∷ 0 ∷ 0 ∷ [];
  stack = stack;
}

-- one event more
pub event_more : (table : List (List ℕ)) (rows : List LatestRow) (i : ℕ) (d : LatestRow) (made : List Event) (stack : List ℕ)
    → i < length rows → made ≡ map (event_of table) (take i rows) → stack ≡ stack_at table (get_or rows i d).stack
    → made ++ event_with (get_or rows i d) stack ∷ [] ≡ map (event_of table) (take (i + 1) rows)
event_more table rows i d made stack lt before is =
    let row = get_or rows i d in
    ap (λ (l : List Event). l ++ event_with row stack ∷ []) before
    ∙ ap (λ (s : List ℕ). map (event_of table) (take i rows) ++ event_with row s ∷ []) is
    ∙ mapped_more (event_of table) rows i d lt
