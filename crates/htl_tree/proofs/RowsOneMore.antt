-- Rows count one more of a slot at a stack: in a row that was there, or in one of its own.
use Rattle.std.proofs.Common.{◌≡◌, ℕ, zero, suc, ◌+◌, ◌<◌, ◌≤◌, List, [], ◌∷◌, ◌++◌}
use Rattle.std.proofs.Common.{length, get_or, set, true, false, cond, sym, ◌∙◌, ap, subst, arith}
use Rattle.std.specs.Ordering.{eq_by_cmp}
use Rattle.std.proofs.Math.ListN.{get_or-map}
use Rattle.std.proofs.lemmas.List.{map-set, map-append, length-map}
use Rattle.std.proofs.lemmas.List.Sums.{sum_by-set, sum_by-append, sum_by-cons}
use Rattle.htl_event.specs.declared.slot.Slot.{Slot}
use Rattle.htl_event.specs.declared.slot.Slot.TheVariants.{Tagged}
use Rattle.htl_event.specs.declared.slot.Sign.{Sign}
use Rattle.htl_event.specs.declared.slot.Sign.TheVariants.{Plus, Minus}
use Rattle.htl_event.specs.declared.slot.Count.{Count}
use Rattle.htl_event.specs.Tallies.{zero_count, plus_count, total_of, IsPositive}
use Rattle.htl_sorted.specs.Entries.{Each}
use Rattle.htl_tree.specs.declared.row.Row.{Row}
use Rattle.htl_tree.specs.Trees.{Tree, key_cmp, add_one, total_count, AllShort}
use Rattle.htl_tree.specs.Rows.{entries_of, sum_at, one_at, IsOneMore}
use Rattle.htl_tree.proofs.CountAdded.{add_one_positive}
use Rattle.htl_tree.proofs.CopiesAndSums.{zero_right}
use Rattle.htl_tree.proofs.TreesAsLists.{add_one_total}
use Rattle.htl_tree.proofs.SumsFromTally.{plus_assoc, sum_at-append, each-append}

-- what an index beyond all rows would give
abbrev pub no_row : Row
no_row = record { fingerprint = 0; stack = record { ref_ptr = (0, 0); now = [] }; slot = Tagged 0 []; count = zero_count }

abbrev Entry : Type 0
Entry = (List ℕ × Slot) × Count

-- a row as an entry of a tree
abbrev pub entry : Row → Entry
entry row = ((row.stack.now, row.slot), row.count)

add_one_sum : (sign : Sign) (c d : Count) → plus_count (add_one sign c) d ≡ plus_count (plus_count c d) (add_one sign zero_count)
add_one_sum Plus c d =
    let p : (c.plus + 1) + d.plus ≡ (c.plus + d.plus) + 1 = omega arith in
    let m : c.minus + d.minus ≡ (c.minus + d.minus) + 0 = omega arith in
    λ i. record { plus = p i; minus = m i }
add_one_sum Minus c d =
    let p : c.plus + d.plus ≡ (c.plus + d.plus) + 0 = omega arith in
    let m : (c.minus + 1) + d.minus ≡ (c.minus + d.minus) + 1 = omega arith in
    λ i. record { plus = p i; minus = m i }

module _ (stack : List ℕ) (slot : Slot) (sign : Sign) where
  raised_sum : (xs : Tree) (i : ℕ) (d e : Entry) → i < length xs → e.0 ≡ (stack, slot) → (get_or xs i d).0 ≡ (stack, slot)
      → e.1 ≡ add_one sign (get_or xs i d).1 → (s : Slot) (k : List ℕ)
      → sum_at (set xs i e) s k ≡ plus_count (sum_at xs s k) (one_at stack slot sign s k)
  raised_sum [] i d e lt new old count s k = absurd (omega arith)
  raised_sum (x ∷ xs) zero d e lt new old count s k =
      let S : Count = sum_at xs s k in
      let b = eq_by_cmp key_cmp (k, s) (stack, slot) in
      ap (λ (y : List ℕ × Slot). cond (eq_by_cmp key_cmp (k, s) y) (plus_count e.1 S) S) new
      ∙ (elim (eq_by_cmp key_cmp (k, s) (stack, slot))
      as (λ b. cond b (plus_count e.1 S) S ≡ plus_count (cond b (plus_count x.1 S) S) (cond b (add_one sign zero_count) zero_count)) [
        | true ↦ ap (λ c. plus_count c S) count ∙ add_one_sum sign x.1 S
        | false ↦ zero_right S
      ])
      ∙ ap (λ (y : List ℕ × Slot). plus_count (cond (eq_by_cmp key_cmp (k, s) y) (plus_count x.1 S) S) (one_at stack slot sign s k))
      (sym old)
  raised_sum (x ∷ xs) (suc i) d e lt new old count s k =
      let rest = raised_sum xs i d e (omega arith) new old count s k in
      elim (eq_by_cmp key_cmp (k, s) x.0) as (λ b. cond b (plus_count x.1 (sum_at (set xs i e) s k)) (sum_at (set xs i e) s k)
      ≡ plus_count (cond b (plus_count x.1 (sum_at xs s k)) (sum_at xs s k)) (one_at stack slot sign s k)) [
        | true ↦ ap (plus_count x.1) rest ∙ sym (plus_assoc x.1 (sum_at xs s k) (one_at stack slot sign s k))
        | false ↦ rest
      ]

  short_set : (xs : Tree) (i : ℕ) (e : Entry) → length e.0.0 ≤ 64 → AllShort xs → AllShort (set xs i e)
  short_set [] i e short h = h
  short_set (x ∷ xs) zero e short h = (short, h.1)
  short_set (x ∷ xs) (suc i) e short h = (h.0, short_set xs i e short h.1)

  each_set : (xs : Tree) (i : ℕ) (e : Entry) → IsPositive e.1 → Each IsPositive xs → Each IsPositive (set xs i e)
  each_set [] i e p h = h
  each_set (x ∷ xs) zero e p h = (p, h.1)
  each_set (x ∷ xs) (suc i) e p h = (h.0, each_set xs i e p h.1)

  pub short_append : (xs ys : Tree) → AllShort xs → AllShort ys → AllShort (xs ++ ys)
  short_append [] ys g h = h
  short_append (x ∷ xs) ys g h = (g.0, short_append xs ys g.1 h)

  -- in a row that was there
  pub one_more_there : (rows : List Row) (i : ℕ) (new : Row) → i < length rows → (get_or rows i no_row).stack.now ≡ stack
      → (get_or rows i no_row).slot ≡ slot → new.stack.now ≡ stack → new.slot ≡ slot
      → new.count ≡ add_one sign (get_or rows i no_row).count → IsOneMore stack slot sign rows (set rows i new)
  one_more_there rows i new lt old_stack old_slot new_stack new_slot count =
      let old : Row = get_or rows i no_row in
      let at : get_or (entries_of rows) i (entry no_row) ≡ entry old = get_or-map (λ row. entry row) rows i no_row in
      let is : entries_of (set rows i new) ≡ set (entries_of rows) i (entry new) = map-set (λ row. entry row) rows i new in
      let len : length (entries_of rows) ≡ length rows = length-map rows (λ row. entry row) in
      let key : (get_or (entries_of rows) i (entry no_row)).0 ≡ (stack, slot) =
      ap (λ (x : Entry). x.0) at ∙ (λ i. (old_stack i, old_slot i)) in
      let value : new.count ≡ add_one sign (get_or (entries_of rows) i (entry no_row)).1 = count
      ∙ ap (λ (x : Entry). add_one sign x.1) (sym at) in
      let total = sum_by-set (λ (x : Entry). total_of x.1) (entries_of rows) i (entry new) (entry no_row) (omega (arith, len)) in
      let was : total_of (get_or (entries_of rows) i (entry no_row)).1 ≡ total_of old.count = ap (λ (x : Entry). total_of x.1) at in
      let now : total_of new.count ≡ total_of old.count + 1 = ap total_of count ∙ add_one_total sign old.count in
      record {
        counts = λ s k. ap (λ (xs : Tree). sum_at xs s k) is ∙ raised_sum (entries_of rows) i (entry no_row) (entry new)
            (omega (arith, len)) (λ i. (new_stack i, new_slot i)) key value s k;
        total = ap total_count is ∙ omega (arith, total, was, now);
        each = λ short h. record {
          positive = subst (λ (xs : Tree). Each IsPositive xs) (sym is)
              (each_set (entries_of rows) i (entry new) (subst IsPositive (sym count) (add_one_positive sign old.count)) h.positive);
          short = subst (λ (xs : Tree). AllShort xs) (sym is)
              (short_set (entries_of rows) i (entry new) (subst (λ (l : List ℕ). length l ≤ 64) (sym new_stack) short) h.short);
        };
      }

  -- in a row of its own
  pub appended : (rows : List Row) (new : Row) → new.stack.now ≡ stack → new.slot ≡ slot → new.count ≡ add_one sign zero_count
      → IsOneMore stack slot sign rows (rows ++ new ∷ [])
  appended rows new new_stack new_slot count =
      let is : entries_of (rows ++ new ∷ []) ≡ entries_of rows ++ entry new ∷ [] = map-append (λ row. entry row) rows (new ∷ []) in
      let key : (new.stack.now, new.slot) ≡ (stack, slot) = λ i. (new_stack i, new_slot i) in
      let one : (s : Slot) (k : List ℕ) → sum_at (entry new ∷ []) s k ≡ one_at stack slot sign s k = λ s k.
      ap (λ (y : List ℕ × Slot). cond (eq_by_cmp key_cmp (k, s) y) (plus_count new.count zero_count) zero_count) key
      ∙ ap (λ c. cond (eq_by_cmp key_cmp (k, s) (stack, slot)) c zero_count) (sym (zero_right new.count) ∙ count) in
      let parts = sum_by-append (λ (x : Entry). total_of x.1) (entries_of rows) (entry new ∷ []) in
      let last = sum_by-cons (λ (x : Entry). total_of x.1) (entry new) [] in
      let now : total_of new.count ≡ 1 = ap total_of count ∙ add_one_total sign zero_count in
      record {
        counts = λ s k. ap (λ (xs : Tree). sum_at xs s k) is ∙ sum_at-append (entries_of rows) (entry new ∷ []) s k
            ∙ ap (plus_count (sum_at (entries_of rows) s k)) (one s k);
        total = ap total_count is ∙ omega (arith, parts, last, now);
        each = λ short h. record {
          positive = subst (λ (xs : Tree). Each IsPositive xs) (sym is)
              (each-append IsPositive (entries_of rows) (entry new ∷ []) h.positive
              (subst IsPositive (sym count) (add_one_positive sign zero_count), tt));
          short = subst (λ (xs : Tree). AllShort xs) (sym is)
              (short_append (entries_of rows) (entry new ∷ []) h.short (subst (λ (l : List ℕ). length l ≤ 64) (sym new_stack) short, tt));
        };
      }

-- a row that is there counts something
pub row_positive : (rows : List Row) (i : ℕ) → Each IsPositive (entries_of rows) → i < length rows
    → IsPositive (get_or rows i no_row).count
row_positive [] i h lt = absurd (omega arith)
row_positive (row ∷ rows) zero h lt = h.0
row_positive (row ∷ rows) (suc i) h lt = row_positive rows i h.1 (omega arith)
