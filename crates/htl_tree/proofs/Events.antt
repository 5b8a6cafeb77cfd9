-- A tree with the tally of some events has their prefix tallies.
use Rattle.std.proofs.Common.{◌≡◌, ℕ, ◌+◌, List, [], ◌∷◌, ◌++◌, Option, Some, None, Bool}
use Rattle.std.proofs.Common.{true, false, ◌&&◌, cond, nat_eq, refl, sym, ◌∙◌, ap, arith}
use Rattle.std.specs.Prelude.{count_by}
use Rattle.std.specs.Bool.{Decides}
use Rattle.std.specs.List.{starts_with, filter_map}
use Rattle.std.specs.Ordering.{eq_by_cmp, is_eq}
use Rattle.std.specs.Cmp.{tied_itself, unsigned_Decides, Equal-is}
use Rattle.std.specs.Cmp.Lexicographic.{pointwise, pointwise_decides}
use Rattle.std.proofs.lemmas.Bool.Decides.{same_from_decides, Decides-like, Decides-and}
use Rattle.std.proofs.lemmas.List.Sums.{sum_by-cons}
use Rattle.htl_event.specs.Events.{Event}
use Rattle.htl_event.specs.declared.slot.Slot.{Slot}
use Rattle.htl_event.specs.declared.slot.Sign.{Sign}
use Rattle.htl_event.specs.declared.slot.Sign.TheVariants.{Plus, Minus}
use Rattle.htl_event.specs.declared.slot.Count.{Count}
use Rattle.htl_event.specs.Slots.{slot_of, same_slot, same_sign, is_slot, is_counted}
use Rattle.htl_event.specs.Stacks.{outer}
use Rattle.htl_event.specs.Tallies.{zero_count, plus_count, count_where, has_stack, tally, under, IsPositive}
use Rattle.htl_event.proofs.Counts.{count_where-append}
use Rattle.htl_sorted.specs.Entries.{Each}
use Rattle.htl_tree.specs.Trees.{Tree, key_cmp, count_at, add_one, sum_where, count_under, IsTree, HasTally}
use Rattle.htl_tree.proofs.CountAdded.{add_one_positive}
use Rattle.htl_tree.proofs.TreesAsLists.{key_total, key_same}
use Rattle.htl_tree.proofs.CopiesAndSums.{zero_left}
use Rattle.htl_tree.specs.Rows.{sum_at, one_at}
use Rattle.htl_tree.proofs.SumsFromTally.{weigh, weigh_rows}
use Rattle.htl_tree.proofs.Under.{same_slot_Decides}

abbrev Row : Type 0
Row = (List ℕ × Slot) × Count

abbrev row_by : List ℕ → Option (Slot × Sign) → Option Row
row_by stack None = None
row_by stack (Some x) = Some ((stack, x.0), add_one x.1 zero_count)

-- what each event counts
abbrev event_rows : List Event → List Row
event_rows events = filter_map (λ e. row_by e.stack (slot_of e)) events

abbrev more : Option Row → List Row → List Row
more None rows = rows
more (Some row) rows = row ∷ rows

more_positive : (stack : List ℕ) (o : Option (Slot × Sign)) (rows : List Row) → Each IsPositive rows
    → Each IsPositive (more (row_by stack o) rows)
more_positive stack None rows h = h
more_positive stack (Some x) rows h = (add_one_positive x.1 zero_count, h)

rows_positive : (events : List Event) → Each IsPositive (event_rows events)
rows_positive [] = tt
rows_positive (e ∷ events) = more_positive e.stack (slot_of e) (event_rows events) (rows_positive events)

tie_Decides : (x y : List ℕ × Slot) → Decides (eq_by_cmp key_cmp x y) (x ≡ y)
tie_Decides x y = (
  λ e. key_same x y ((Equal-is (key_cmp x y)).0 e),
  λ e. ap (λ z. eq_by_cmp key_cmp x z) (sym e)
      ∙ ap is_eq (tied_itself key_total x),
)

-- an event stands at a key where it has the slot and the stack
here_is : (s t : Slot) (k stack : List ℕ) → eq_by_cmp key_cmp (k, s) (stack, t) ≡ (same_slot s t && pointwise nat_eq stack k)
here_is s t k stack =
    let x : List ℕ × Slot = (k, s) in
    let y : List ℕ × Slot = (stack, t) in
    let both : Decides (same_slot s t && pointwise nat_eq stack k) ((s ≡ t) × (stack ≡ k)) =
    Decides-and _ _ (same_slot_Decides s t) (pointwise_decides unsigned_Decides stack k) in
    let into : (s ≡ t) × (stack ≡ k) → x ≡ y = λ h i. (sym h.1 i, h.0 i) in
    let out : x ≡ y → (s ≡ t) × (stack ≡ k) = λ e. (ap (λ (z : List ℕ × Slot). z.1) e, sym (ap (λ (z : List ℕ × Slot). z.0) e)) in
    same_from_decides {P = x ≡ y} _ _ (tie_Decides x y) (Decides-like _ into out both)

count_one : (p : Event → Bool) (e : Event) → count_by p (e ∷ []) ≡ cond (p e) 1 0
count_one p e = let one : count_by p (e ∷ []) ≡ cond (p e) 1 0 + 0 = sum_by-cons (λ x. cond (p x) 1 0) e [] in omega (arith, one)

-- what one event adds on one side, where it stands at the key
abbrev tick : Bool → ℕ
tick b = cond b 1 0

once : (sign sg : Sign) (a b : Bool) → tick ((a && same_sign sign sg) && b) ≡ cond (a && b) (tick (same_sign sign sg)) 0
once sign sg true true = elim (same_sign sign sg) as (λ c. tick (c && true) ≡ tick c) [ true ↦ refl | false ↦ refl ]
once sign sg true false = elim (same_sign sign sg) as (λ c. tick (c && false) ≡ 0) [ true ↦ refl | false ↦ refl ]
once sign sg false b = refl

one_count : (sg : Sign) (b : Bool)
    → ◌≡◌ {A = Count} (record { plus = cond b (cond (same_sign Plus sg) 1 0) 0; minus = cond b (cond (same_sign Minus sg) 1 0) 0 })
    (cond b (add_one sg zero_count) zero_count)
one_count Plus true = refl
one_count Minus true = refl
one_count sg false = refl

-- the counts of one event
one_event : (passes : Event → Bool) (e : Event) (slot : Slot) (x : Slot × Sign) → slot_of e ≡ Some x
    → count_where passes (e ∷ []) slot ≡ cond (same_slot slot x.0 && passes e) (add_one x.1 zero_count) zero_count
one_event passes e slot x is =
    let side : (sign : Sign) → count_by (λ y. is_counted slot sign y && passes y) (e ∷ [])
    ≡ cond (same_slot slot x.0 && passes e) (cond (same_sign sign x.1) 1 0) 0 = λ sign.
    count_one (λ y. is_counted slot sign y && passes y) e ∙ ap (λ o. cond (is_slot slot sign o && passes e) 1 0) is
    ∙ once sign x.1 (same_slot slot x.0) (passes e) in
    (λ i. record { plus = side Plus i; minus = side Minus i }) ∙ one_count x.1 (same_slot slot x.0 && passes e)

no_event : (passes : Event → Bool) (e : Event) (slot : Slot) → slot_of e ≡ None → count_where passes (e ∷ []) slot ≡ zero_count
no_event passes e slot is =
    let side : (sign : Sign) → count_by (λ y. is_counted slot sign y && passes y) (e ∷ []) ≡ 0 = λ sign.
    count_one (λ y. is_counted slot sign y && passes y) e ∙ ap (λ o. cond (is_slot slot sign o && passes e) 1 0) is in
    λ i. record { plus = side Plus i; minus = side Minus i }

-- the rows of events have the events' tally
tally_event_rows : (events : List Event) (slot : Slot) (stack : List ℕ) → sum_at (event_rows events) slot stack ≡ tally events slot stack
tally_event_rows [] slot stack = refl
tally_event_rows (e ∷ events) slot stack =
    let rest = tally_event_rows events slot stack in
    let whole : tally (e ∷ events) slot stack ≡ plus_count (tally (e ∷ []) slot stack) (tally events slot stack) =
    count_where-append (has_stack stack) (e ∷ []) events slot in
    (elim (slot_of e) as (λ o. slot_of e ≡ o → sum_at (more (row_by e.stack o) (event_rows events)) slot stack
    ≡ plus_count (tally (e ∷ []) slot stack) (tally events slot stack)) [
      | None ↦ λ is. rest ∙ zero_left (tally events slot stack)
          ∙ ap (λ c. plus_count c (tally events slot stack)) (sym (no_event (has_stack stack) e slot is))
      | Some x ↦ λ is.
          ap (λ b. cond b (plus_count (add_one x.1 zero_count) (sum_at (event_rows events) slot stack))
          (sum_at (event_rows events) slot stack)) (here_is slot x.0 stack e.stack)
          ∙ ap (λ d. cond (same_slot slot x.0 && has_stack stack e) (plus_count (add_one x.1 zero_count) d) d) rest
          ∙ added (same_slot slot x.0 && has_stack stack e) (add_one x.1 zero_count) (tally events slot stack)
          ∙ ap (λ c. plus_count c (tally events slot stack)) (sym (one_event (has_stack stack) e slot x is))
    ]) refl ∙ sym whole
  where
    added : (b : Bool) (c d : Count) → cond b (plus_count c d) d ≡ plus_count (cond b c zero_count) d
    added true c d = refl
    added false c d = zero_left d

-- ---- sums at the stacks that pass

-- the number that a count has on one side
abbrev pub side : Sign → Count → ℕ
side Plus c = c.plus
side Minus c = c.minus

-- on each side, a sum of counts has the sum of their numbers
pub side_adds : (sign : Sign) (c d : Count) → side sign (plus_count c d) ≡ side sign c + side sign d
side_adds Plus c d = refl
side_adds Minus c d = refl

-- zero has 0 on each side
pub side_zero : (sign : Sign) → side sign zero_count ≡ 0
side_zero Plus = refl
side_zero Minus = refl

-- counts with the same number on each side are equal
pub same_sides : (c d : Count) → ((sign : Sign) → side sign c ≡ side sign d) → c ≡ d
same_sides c d same = λ i. record { plus = same Plus i; minus = same Minus i }

module _ (passes : List ℕ → Bool) (slot : Slot) (sign : Sign) where
  abbrev pub weight : List ℕ × Slot → Count → ℕ
  weight k c = cond (same_slot slot k.1 && passes k.0) (side sign c) 0

  pub weight_zero : (k : List ℕ × Slot) → weight k zero_count ≡ 0
  weight_zero k = elim (same_slot slot k.1 && passes k.0) as (λ b. cond b (side sign zero_count) 0 ≡ 0) [
    | true ↦ side_zero sign
    | false ↦ refl
  ]

  pub weight_adds : (k : List ℕ × Slot) (c d : Count) → weight k (plus_count c d) ≡ weight k c + weight k d
  weight_adds k c d = elim (same_slot slot k.1 && passes k.0)
      as (λ b. cond b (side sign (plus_count c d)) 0 ≡ cond b (side sign c) 0 + cond b (side sign d) 0) [
        | true ↦ side_adds sign c d
        | false ↦ refl
      ]

  abbrev pub weighed : List Row → ℕ
  weighed rows = weigh weight weight_zero weight_adds rows

  pub side_sum : (t : Tree) → side sign (sum_where passes slot t) ≡ weighed t
  side_sum [] = side_zero sign
  side_sum (row ∷ t) =
      let whole : weighed (row ∷ t) ≡ weight row.0 row.1 + weighed t = sum_by-cons (λ (r : Row). weight r.0 r.1) row t in
      let rest = side_sum t in
      (elim (same_slot slot row.0.1 && passes row.0.0)
      as (λ b. side sign (cond b (plus_count row.1 (sum_where passes slot t)) (sum_where passes slot t))
      ≡ cond b (side sign row.1) 0 + weighed t) [
        | true ↦ side_adds sign row.1 (sum_where passes slot t) ∙ ap (λ n. side sign row.1 + n) rest
        | false ↦ omega (arith, rest)
      ]) ∙ sym whole

  side_event : (e : Event) (x : Slot × Sign) → slot_of e ≡ Some x
      → side sign (count_where (λ y. passes y.stack) (e ∷ []) slot) ≡ weight (e.stack, x.0) (add_one x.1 zero_count)
  side_event e x is =
      ap (side sign) (one_event (λ y. passes y.stack) e slot x is)
      ∙ elim (same_slot slot x.0 && passes e.stack)
      as (λ b. side sign (cond b (add_one x.1 zero_count) zero_count) ≡ cond b (side sign (add_one x.1 zero_count)) 0) [
        | true ↦ refl
        | false ↦ side_zero sign
      ]

  weigh_events : (events : List Event) → weighed (event_rows events) ≡ side sign (count_where (λ e. passes e.stack) events slot)
  weigh_events [] = sym (side_zero sign)
  weigh_events (e ∷ events) =
      let rest = weigh_events events in
      let both : side sign (count_where (λ y. passes y.stack) (e ∷ events) slot)
      ≡ side sign (count_where (λ y. passes y.stack) (e ∷ []) slot) + side sign (count_where (λ y. passes y.stack) events slot) =
      ap (side sign) (count_where-append (λ y. passes y.stack) (e ∷ []) events slot)
      ∙ side_adds sign (count_where (λ y. passes y.stack) (e ∷ []) slot) (count_where (λ y. passes y.stack) events slot) in
      (elim (slot_of e) as (λ o. slot_of e ≡ o → weighed (more (row_by e.stack o) (event_rows events))
      ≡ side sign (count_where (λ y. passes y.stack) (e ∷ []) slot) + side sign (count_where (λ y. passes y.stack) events slot)) [
        | None ↦ λ is. let nothing : side sign (count_where (λ y. passes y.stack) (e ∷ []) slot) ≡ 0 =
            ap (side sign) (no_event (λ y. passes y.stack) e slot is) ∙ side_zero sign in omega (arith, nothing, rest)
        | Some x ↦ λ is.
            let whole = sum_by-cons (λ (r : Row). weight r.0 r.1) ((e.stack, x.0), add_one x.1 zero_count) (event_rows events) in
            let one = side_event e x is in
            omega (arith, whole, one, rest)
      ]) refl ∙ sym both

  side_same : (t : Tree) → IsTree t → (events : List Event) → HasTally t events
      → side sign (sum_where passes slot t) ≡ side sign (count_where (λ e. passes e.stack) events slot)
  side_same t h events tallied =
      side_sum t ∙ weigh_rows weight weight_zero weight_adds t h (event_rows events) (rows_positive events)
      (λ s k. tallied s k ∙ sym (tally_event_rows events s k)) ∙ weigh_events events

-- the prefix tally of a tree is that of the events whose tally it is
pub under_events : (t : Tree) → IsTree t → (events : List Event) → HasTally t events → (path : List ℕ) (slot : Slot)
    → count_under t path slot ≡ under events path slot
under_events t h events tallied path slot =
    same_sides _ _ (λ sign. side_same (λ stack. starts_with nat_eq (outer stack) path) slot sign t h events tallied)

-- ---- one event more

tally_push : (events : List Event) (e : Event) (slot : Slot) (stack : List ℕ)
    → tally (events ++ e ∷ []) slot stack ≡ plus_count (tally events slot stack) (tally (e ∷ []) slot stack)
tally_push events e slot stack = count_where-append (has_stack stack) events (e ∷ []) slot

-- an event that is counted adds one at its key
pub tally_one_more : (events : List Event) (e : Event) (slot : Slot) (sign : Sign) → slot_of e ≡ Some (slot, sign)
    → (s : Slot) (k : List ℕ) → tally (events ++ e ∷ []) s k ≡ plus_count (tally events s k) (one_at e.stack slot sign s k)
tally_one_more events e slot sign is s k =
    tally_push events e s k ∙ ap (plus_count (tally events s k))
    (one_event (has_stack k) e s (slot, sign) is ∙ ap (λ b. cond b (add_one sign zero_count) zero_count) (sym (here_is s slot k e.stack)))

-- ---- many events more

-- what more events count is counted too
pub tally_with : (s t : Tree) (rows : List Row) (events more : List Event) → HasTally t events
    → ((slot : Slot) (stack : List ℕ) → sum_at rows slot stack ≡ tally more slot stack)
    → ((slot : Slot) (stack : List ℕ) → count_at s slot stack ≡ plus_count (count_at t slot stack) (sum_at rows slot stack))
    → HasTally s (events ++ more)
tally_with s t rows events more before rest counts slot stack =
    counts slot stack ∙ ap (λ c. plus_count c (sum_at rows slot stack)) (before slot stack)
    ∙ ap (plus_count (tally events slot stack)) (rest slot stack)
    ∙ sym (count_where-append (has_stack stack) events more slot)
