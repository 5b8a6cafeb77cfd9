-- Each step of the join in place keeps what the rows on their way make, and once no newer row is left, all rows are in place.
use Rattle.std.proofs.Common.{◌≡◌, ℕ, ◌+◌, List, [], ◌∷◌, ◌++◌, Option, Some, None, append_assoc, arith, refl, sym, ap}
use Rattle.std.proofs.Common.{◌∙◌, subst, inl, inr, ◌≤◌, ◌<◌, ◌-◌, length, take, drop, set, get_or, zero, suc, ◌≢◌}
use Rattle.std.specs.List.{swap}
use Rattle.std.proofs.lemmas.List.{take_more, take-set-le, drop-set-lt, drop-set, get_or_default, length-set, take-append-drop}
use Rattle.std.proofs.lemmas.List.Edits.{swap_is, length-swap, swapped_from_swap}
use Rattle.std.proofs.lemmas.List.Sums.{fold-append}
use Rattle.std.specs.Option.{option_or}
use Rattle.std.specs.declared.cmp.Ordering.{Ordering}
use Rattle.std.specs.declared.cmp.Ordering.TheVariants.{Less, Equal, Greater}
use Rattle.std.proofs.lemmas.Bool.{cases_lt, lt-ltb, le-ltb}
use Rattle.htl_event.specs.Events.{Event}
use Rattle.htl_event.specs.Handles.{later}
use Rattle.htl_tables.specs.Keys.{key_cmp, key_of}
use Rattle.htl_tables.specs.KeyLaws.{key_cmp-equal}
use Rattle.htl_tables.specs.Latest.{event_at, later_of}
use Rattle.htl_tables.specs.Placing.{Make, IsUnderWay, missing, compare_last}
use Rattle.htl_tables.proofs.MissingRows.{missing_moved, missing_met, missing_one}
use Rattle.htl_tables.proofs.SortedRows.{Sorted, none_before, sorted_before, sorted_behind, sorted_insert}
use Rattle.htl_tables.proofs.PlacedRows.{found_together, last_below, make_moved, make_met, make_put}

-- ---- the last row

-- the last of some rows is what is compared
pub last_compares : (xs : List Event) (x : Event) (k : ℕ × ℕ) → compare_last (xs ++ x ∷ []) k ≡ key_cmp (key_of x) k
last_compares xs x k = fold-append (λ r e. key_cmp (key_of e) k) Less xs (x ∷ [])

-- what is neither Greater nor Equal is Less
pub only_less : (o : Ordering) → o ≢ Greater → o ≢ Equal → o ≡ Less
only_less Less g e = refl
only_less Equal g e = absurd (e refl)
only_less Greater g e = absurd (g refl)

-- where something is not Less, there is a last row
pub some_last : (rows : List Event) (n : ℕ) (k : ℕ × ℕ) → compare_last (take n rows) k ≢ Less → 0 < n
some_last rows zero k h = absurd (h refl)
some_last rows (suc n) k h = omega arith

-- ---- rows in a vector: the older ones in front, and those in place behind

module _ (rows : List Event) (i j : ℕ) (d : Event) (le : i ≤ j) (lt : j < length rows) where
  as_sets : swap rows i j ≡ set (set rows i (get_or rows j d)) j (get_or rows i d)
  as_sets = sym (swap_is rows i j d (omega (arith, le, lt)) lt)

  swap_front : take i (swap rows i j) ≡ take i rows
  swap_front = ap (take i) as_sets ∙ take-set-le i (set rows i (get_or rows j d)) j (get_or rows i d) le
      ∙ take-set-le i rows i (get_or rows j d) (omega arith)

  swap_behind : drop (j + 1) (swap rows i j) ≡ drop (j + 1) rows
  swap_behind = ap (drop (j + 1)) as_sets
      ∙ drop-set-lt (j + 1) (set rows i (get_or rows j d)) j (get_or rows i d) (omega arith)
      ∙ drop-set-lt (j + 1) rows i (get_or rows j d) (omega (arith, le))

  swap_back : drop j (swap rows i j) ≡ get_or rows i d ∷ drop (j + 1) rows
  swap_back =
      let same = length-set rows i (get_or rows j d) in
      ap (drop j) as_sets ∙ drop-set (set rows i (get_or rows j d)) j (get_or rows i d) (omega (arith, lt, same))
      ∙ ap (λ l. get_or rows i d ∷ l) (drop-set-lt (j + 1) rows i (get_or rows j d) (omega (arith, le)))

  -- what stands behind after a swap is what stood in front before it
  pub swapped_row : (y : Event) → y ≡ get_or (swap rows i j) j y → y ≡ get_or rows i d
  swapped_row y is =
      let len = length-swap rows i j in
      is ∙ get_or_default (swap rows i j) j y d (omega (arith, len, lt))
      ∙ (swapped_from_swap rows (swap rows i j) i j d (omega (arith, le, lt)) lt refl).1

module _ (target : ℕ → ℕ → Option Event) (left rows : List Event) (older end : ℕ) (e : Event)
    (h : IsUnderWay target (left ++ e ∷ []) rows older end) where
  -- where the last newer row's key is above those of all older rows in front, it comes between these and the rows in place
  above_all : compare_last (take older rows) (key_of e) ≡ Less → Sorted (take older rows ++ e ∷ drop end rows)
  above_all is = elim (cases_lt 0 older) [
    | inl some ↦
        let n = older - 1 in
        let x = get_or rows n e in
        let within = h.in_range in
        let room = h.room in
        let front : take older rows ≡ take n rows ++ x ∷ [] =
        ap (λ m. take m rows) (omega (arith, some)) ∙ take_more rows n e (omega (arith, within, room, some)) in
        let lt : key_cmp (key_of x) (key_of e) ≡ Less =
        sym (last_compares (take n rows) x (key_of e)) ∙ ap (λ l. compare_last l (key_of e)) (sym front) ∙ is in
        let sorted : Sorted (take n rows ++ x ∷ drop end rows) = subst Sorted (append_assoc (take n rows) (x ∷ []) (drop end rows))
        (subst (λ l. Sorted (l ++ drop end rows)) front h.make.older) in
        subst (λ l. Sorted (l ++ e ∷ drop end rows)) (sym front)
        (subst Sorted (sym (append_assoc (take n rows) (x ∷ []) (e ∷ drop end rows)))
        (sorted_insert (take n rows) x e (drop end rows) sorted lt (last_below left e (drop end rows) h.make.newer)))
    | inr none ↦
        let zero_is : older ≡ 0 = omega (arith, none) in
        subst (λ n. Sorted (take n rows ++ e ∷ drop end rows)) (sym zero_is)
        (sorted_behind left (e ∷ drop end rows) (subst Sorted (append_assoc left (e ∷ []) (drop end rows)) h.make.newer))
  ]

  -- then there is a free place for it
  pub free_place : compare_last (take older rows) (key_of e) ≡ Less → end ≡ older + missing (take older rows) left + 1
  free_place is =
      let room = h.room in
      let one = missing_one (take older rows) left e (none_before (take older rows) e (drop end rows) (above_all is)) in
      omega (arith, room, one)

module _ (target : ℕ → ℕ → Option Event) (left rows : List Event) (older end j : ℕ) (e : Event)
    (h : IsUnderWay target (left ++ e ∷ []) rows older end) (end_is : end ≡ j + 1) where
  sorted_left : Sorted (left ++ e ∷ [])
  sorted_left = sorted_before (left ++ e ∷ []) (drop end rows) h.make.newer

  j_in : j < length rows
  j_in = let within = h.in_range in omega (arith, within, end_is)

  -- the last newer row takes the last free place, where its key is above those of all older rows in front
  pub put_free : compare_last (take older rows) (key_of e) ≡ Less → IsUnderWay target left (set rows j e) older j
  put_free is =
      let room = free_place target left rows older end e h is in
      let lt = j_in in
      let len = length-set rows j e in
      let le : older ≤ j = omega (arith, room, end_is) in
      let before : take older (set rows j e) ≡ take older rows = take-set-le older rows j e le in
      let behind : drop j (set rows j e) ≡ e ∷ drop end rows =
      drop-set rows j e j_in ∙ ap (λ n. e ∷ drop n rows) (sym end_is) in
      record {
        in_range = omega (arith, lt, len);
        room = rw before (omega (arith, room, end_is));
        make = rw (before, behind)
            (make_put target (take older rows) left (drop end rows) e h.make (above_all target left rows older end e h is));
      }

  module _ (i : ℕ) (older_is : older ≡ i + 1) where
    -- the last older row
    abbrev x : Event
    x = get_or rows i e

    i_in : i < length rows
    i_in = let within = h.in_range in let room = h.room in omega (arith, within, room, older_is)

    front : take older rows ≡ take i rows ++ x ∷ []
    front = ap (λ n. take n rows) older_is ∙ take_more rows i e i_in

    made : Make target (take i rows ++ x ∷ []) (left ++ e ∷ []) (drop (j + 1) rows)
    made = subst (λ l. Make target l (left ++ e ∷ []) (drop (j + 1) rows)) front
        (subst (λ n. Make target (take older rows) (left ++ e ∷ []) (drop n rows)) end_is h.make)

    sorted_front : Sorted (take i rows ++ x ∷ [])
    sorted_front = sorted_before (take i rows ++ x ∷ []) (drop (j + 1) rows) made.older

    room : j + 1 ≡ i + 1 + missing (take i rows ++ x ∷ []) (left ++ e ∷ [])
    room = sym end_is ∙ h.room ∙ ap (λ n. n + missing (take older rows) (left ++ e ∷ [])) older_is
        ∙ ap (λ l. i + 1 + missing l (left ++ e ∷ [])) front

    ordered : i ≤ j
    ordered = let r = room in omega (arith, r)

    compared : (r : Ordering) → compare_last (take older rows) (key_of e) ≡ r → key_cmp (key_of x) (key_of e) ≡ r
    compared r is = sym (last_compares (take i rows) x (key_of e)) ∙ ap (λ l. compare_last l (key_of e)) (sym front) ∙ is

    -- the last older row is moved behind the free places, where its key is above that of the last newer row
    pub moved : compare_last (take older rows) (key_of e) ≡ Greater → IsUnderWay target (left ++ e ∷ []) (swap rows i j) i j
    moved is =
        let gt = compared Greater is in
        let same = missing_moved (take i rows) left x e sorted_front sorted_left gt in
        let r = room in
        let lt = j_in in
        let len = length-swap rows i j in
        let kept : missing (take i (swap rows i j)) (left ++ e ∷ []) ≡ missing (take i rows) (left ++ e ∷ []) =
        ap (λ l. missing l (left ++ e ∷ [])) (swap_front rows i j e ordered j_in) in
        record {
          in_range = omega (arith, lt, len);
          room = omega (arith, r, same, kept);
          make = rw (swap_front rows i j e ordered j_in, swap_back rows i j e ordered j_in)
              (make_moved target (take i rows) left (drop (j + 1) rows) x e made gt);
        }

    met_room : compare_last (take older rows) (key_of e) ≡ Equal → j ≡ i + missing (take i rows) left
    met_room is =
        let same = missing_met (take i rows) left x e sorted_front sorted_left (key_cmp-equal _ _ (compared Equal is)) in
        let r = room in
        omega (arith, r, same)

    -- the last rows with one key: the older row is moved behind the free places, and stays where it isn't the earlier one
    pub met_older : compare_last (take older rows) (key_of e) ≡ Equal → (y : Event) → y ≡ get_or (swap rows i j) j y
        → e.sequence ≤ y.sequence → IsUnderWay target left (swap rows i j) i j
    met_older is y there le =
        let lt = j_in in
        let len = length-swap rows i j in
        let same : y ≡ x = swapped_row rows i j e ordered j_in y there in
        let later : later_of x e ≡ x = subst (λ z. later_of z e ≡ z) same (rw (le-ltb y.sequence e.sequence le) refl) in
        record {
          in_range = omega (arith, lt, len);
          room = rw (swap_front rows i j e ordered j_in) (met_room is);
          make = rw (swap_front rows i j e ordered j_in, swap_back rows i j e ordered j_in)
              (subst (λ z. Make target (take i rows) left (z ∷ drop (j + 1) rows)) later
              (make_met target (take i rows) left (drop (j + 1) rows) x e made (key_cmp-equal _ _ (compared Equal is))));
        }

    -- the last rows with one key: the newer row takes the place where it is the later one
    pub met_newer : compare_last (take older rows) (key_of e) ≡ Equal → (y : Event) → y ≡ get_or (swap rows i j) j y
        → y.sequence < e.sequence → IsUnderWay target left (set (swap rows i j) j e) i j
    met_newer is y there less =
        let lt = j_in in
        let len = length-swap rows i j in
        let len' = length-set (swap rows i j) j e in
        let same : y ≡ x = swapped_row rows i j e ordered j_in y there in
        let later : later_of x e ≡ e = subst (λ z. later_of z e ≡ e) same (rw (lt-ltb y.sequence e.sequence less) refl) in
        let before : take i (set (swap rows i j) j e) ≡ take i rows =
        take-set-le i (swap rows i j) j e ordered ∙ swap_front rows i j e ordered j_in in
        let behind : drop j (set (swap rows i j) j e) ≡ e ∷ drop (j + 1) rows =
        drop-set (swap rows i j) j e (omega (arith, lt, len)) ∙ ap (λ l. e ∷ l) (swap_behind rows i j e ordered j_in) in
        record {
          in_range = omega (arith, lt, len, len');
          room = rw before (met_room is);
          make = rw (before, behind) (subst (λ z. Make target (take i rows) left (z ∷ drop (j + 1) rows)) later
              (make_met target (take i rows) left (drop (j + 1) rows) x e made (key_cmp-equal _ _ (compared Equal is))));
        }

-- once no newer row is left, all rows are in place
module _ (target : ℕ → ℕ → Option Event) (left rows : List Event) (older end : ℕ) (before : IsUnderWay target left rows older end)
    (none : length left ≡ 0) where
  h : IsUnderWay target [] rows older end
  h = subst (λ l. IsUnderWay target l rows older end) (empty left none) before
    where
      empty : (l : List Event) → length l ≡ 0 → l ≡ []
      empty [] e = refl
      empty (y ∷ l) e = absurd (omega (arith, e))

  whole : take older rows ++ drop end rows ≡ rows
  whole =
      let room : end ≡ older + 0 = h.room in
      let same : end ≡ older = omega (arith, room) in
      ap (λ n. take older rows ++ drop n rows) same ∙ take-append-drop older rows

  -- then the rows are in the order of their keys
  pub all_sorted : Sorted rows
  all_sorted = subst Sorted whole h.make.older

  -- then the rows have what was to be made
  pub all_made : (process base : ℕ) → event_at rows process base ≡ target process base
  all_made process base =
      let alone : (o : Option Event) → later o None ≡ o = λ o. elim o as (λ o. later o None ≡ o) [ None ↦ refl | Some y ↦ refl ] in
      ap (λ l. event_at l process base) (sym whole) ∙ found_together (process, base) (take older rows) (drop end rows) h.make.older
      ∙ ap (λ o. option_or (event_at (drop end rows) process base) o) (sym (alone (event_at (take older rows) process base)))
      ∙ sym (h.make.value process base)
