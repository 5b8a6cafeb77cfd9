-- Over events that each open a handle of one process, a stack's count is how many handles it opened.
use Rattle.std.proofs.Common.{◌≡◌, ℕ, ◌<◌, ◌≤◌, Bool, true, false, cond, List, [], ◌∷◌, map, refl, sym, ap, subst, ◌∙◌, arith, ◌&&◌}
use Rattle.std.specs.Prelude.{Contains, ◌↔◌, count_by, filter, Option, Some, None}
use Rattle.std.specs.Ordering.{nat_cmp, ordering_then}
use Rattle.std.specs.FinMap.{nat_cmp-IsAntisymmetric}
use Rattle.std.specs.declared.cmp.Ordering.{Ordering}
use Rattle.std.specs.declared.cmp.Ordering.TheVariants.{Less, Equal}
use Rattle.std.specs.declared.cmp.Reverse.{Reverse}
use Rattle.std.proofs.lemmas.Bool.{and_from, and_right, leb-true, le-leb}
use Rattle.std.proofs.lemmas.Bool.Decides.{Decides-eqb}
use Rattle.std.proofs.lemmas.List.Sums.{sum_by-cons}
use Rattle.htl_event.specs.Events.{Event}
use Rattle.htl_event.specs.declared.kind.Kind.{Kind}
use Rattle.htl_event.specs.declared.kind.Kind.TheVariants.{Opened}
use Rattle.htl_event.specs.declared.slot.Slot.{Slot}
use Rattle.htl_event.specs.declared.slot.Slot.TheVariants.{Handles}
use Rattle.htl_event.specs.declared.slot.Sign.TheVariants.{Plus, Minus}
use Rattle.htl_event.specs.declared.slot.Count.{Count}
use Rattle.htl_event.specs.Slots.{slot_by_kind, is_slot, is_counted}
use Rattle.htl_event.specs.Members.{IsRising, Lists}
use Rattle.htl_event.specs.Stacks.{stack_cmp}
use Rattle.htl_event.specs.Tallies.{times, tally, has_stack, MostFirst, AreOpenSince, IsLeaksSince}
use Rattle.htl_tree.specs.declared.slots.Slots.TheVariants.{One}
use Rattle.htl_tree.proofs.Under.{same_slot_Decides}
use Rattle.htl_answers.specs.Rows.{rows_of, ByKey, AreSums}
pub use Rattle.htl_answers.specs.RowOrder.{both_tied, stack_same, row_cmp}
use Rattle.htl_answers.specs.Leaks.{opens_many, counted_first, stack_before_number}
use Rattle.htl_event.proofs.Members.{Contains-here, Contains-there, Contains-map, Contains-from_map, each_member, at_member}
use Rattle.htl_event.proofs.Members.{Contains-filter, Contains-from_filter}
use Rattle.htl_answers.proofs.EventRows.{rows_positive}
use Rattle.htl_answers.proofs.SlotLists.{IsCount, counts_listed}

-- each event opens a handle of the process
pub record AllOpen (process : ℕ) (events : List Event) : Type 0 where
  pub each : (e : Event) → Contains events e → (e.kind ≡ Opened) × (e.process ≡ process)

counted_open : (kind : Kind) (e : Event) (process : ℕ) → kind ≡ Opened → e.process ≡ process
    → is_slot (Handles process) Plus (slot_by_kind kind e) ≡ true
counted_open Opened e process k p = and_from _ _ ((Decides-eqb process e.process).1 (sym p)) refl
counted_open kind e process k p = absurd cc

not_closed : (kind : Kind) (e : Event) (process : ℕ) → kind ≡ Opened → is_slot (Handles process) Minus (slot_by_kind kind e) ≡ false
not_closed Opened e process k = and_right _ _ refl
not_closed kind e process k = absurd cc

tail : (process : ℕ) (e : Event) (es : List Event) → AllOpen process (e ∷ es) → AllOpen process es
tail process e es all = record { each = λ x h. all.each x (Contains-there e es x h) }

abbrev weight : Bool → ℕ
weight b = cond b 1 0

opened_times : (process : ℕ) (es : List Event) → AllOpen process es → (stack : List ℕ)
    → times (has_stack stack) es (Handles process) Plus ≡ count_by (has_stack stack) es
opened_times process [] all stack = refl
opened_times process (e ∷ es) all stack =
    let rest = opened_times process es (tail process e es all) stack in
    let is = all.each e (Contains-here e es) in
    let one : ◌≡◌ {A = ℕ} (cond (is_counted (Handles process) Plus e && has_stack stack e) 1 0) (cond (has_stack stack e) 1 0) =
    ap (λ (b : Bool). weight (b && has_stack stack e)) (counted_open e.kind e process is.0 is.1) in
    let left = sum_by-cons (λ x. cond (is_counted (Handles process) Plus x && has_stack stack x) 1 0) e es in
    let right = sum_by-cons (λ x. cond (has_stack stack x) 1 0) e es in
    omega (arith, rest, one, left, right)

closed_times : (process : ℕ) (es : List Event) → AllOpen process es → (stack : List ℕ)
    → times (has_stack stack) es (Handles process) Minus ≡ 0
closed_times process [] all stack = refl
closed_times process (e ∷ es) all stack =
    let rest = closed_times process es (tail process e es all) stack in
    let is = all.each e (Contains-here e es) in
    let none : ◌≡◌ {A = ℕ} (cond (is_counted (Handles process) Minus e && has_stack stack e) 1 0) 0 =
    ap (λ (b : Bool). weight (b && has_stack stack e)) (not_closed e.kind e process is.0) in
    let left = sum_by-cons (λ x. cond (is_counted (Handles process) Minus x && has_stack stack x) 1 0) e es in
    omega (arith, rest, none, left)

-- their tally has the opens of the stack alone
pub opens_tally : (process : ℕ) (es : List Event) → AllOpen process es → (stack : List ℕ)
    → tally es (Handles process) stack ≡ record { plus = count_by (has_stack stack) es; minus = 0 }
opens_tally process es all stack = rw (opened_times process es all stack, closed_times process es all stack) refl

-- where a function keeps the order of elements, it maps a rising list to a rising one
pub IsRising-map : {X Y : Type 0} (before : X → X → Type 0) (after : Y → Y → Type 0) (f : X → Y)
    → ((x y : X) → before x y → after (f x) (f y)) → (xs : List X)
    → IsRising before xs → IsRising after (map f xs)
IsRising-map before after f into [] rising = tt
IsRising-map before after f into (x ∷ xs) rising = (
  each_member (after (f x)) (map f xs) (λ y h.
      (let from = Contains-from_map f xs y h in subst (after (f x)) from.2
      (into x from.0 (at_member (before x) xs from.0 rising.0 from.1)))),
  IsRising-map before after f into xs rising.1,
)

-- ---- rows in order

row_of : ℕ → List ℕ → Reverse ℕ × List ℕ
row_of n s = (record { 0 = n }, s)

abbrev leak_cmp : Reverse ℕ × List ℕ → Reverse ℕ × List ℕ → Ordering
leak_cmp x y = ordering_then (nat_cmp y.0.0 x.0.0) (stack_cmp x.1 y.1)

-- rows that tie are equal
pub row_ties : (x y : Reverse ℕ × List ℕ) → leak_cmp x y ≡ Equal → x ≡ y
unfolding row_of
row_ties x y e =
    let tied = both_tied _ _ e in
    let number : y.0.0 ≡ x.0.0 = nat_cmp-IsAntisymmetric y.0.0 x.0.0 tied.0 in
    let stack : x.1 ≡ y.1 = stack_same x.1 y.1 tied.1 in
    ap (λ (n : ℕ). row_of n x.1) (sym number) ∙ ap (λ (s : List ℕ). row_of y.0.0 s) stack

abbrev IsLeak : ℕ → List Event → List ℕ × ℕ → Type 0
IsLeak least opens row = (row.1 ≡ count_by (has_stack row.0) opens) × ((0 < row.1) × (least ≤ row.1))

module _ (process least : ℕ) (opens : List Event) (all : AllOpen process opens) (rows : List ((Slot × List ℕ) × Count))
    (listed : Lists (ByKey row_cmp) (IsCount (One (Handles process)) opens) rows) where
  leak_from_row : (r : (Slot × List ℕ) × Count) → Contains rows r → opens_many least r ≡ true → IsLeak least opens (r.0.1, r.1.plus)
  leak_from_row r h many =
      let is = (listed.members r).0 h in
      let slot = (same_slot_Decides (Handles process) r.0.0).0 is.2 in
      let whole = is.0 ∙ ap (λ s. tally opens s r.0.1) (sym slot) ∙ opens_tally process opens all r.0.1 in
      let none : r.1.minus ≡ 0 = ap (λ (n : Count). n.minus) whole in
      let some = is.1 in
      (ap (λ (n : Count). n.plus) whole, (omega (arith, none, some), leb-true least r.1.plus many))

  abbrev opens_row : List ℕ × ℕ → (Slot × List ℕ) × Count
  opens_row row = ((Handles process, row.0), record { plus = row.1; minus = 0 })

  row_from_leak : (row : List ℕ × ℕ) → IsLeak least opens row → Contains rows (opens_row row)
  row_from_leak row h =
      let some = h.1.0 in
      let count : (opens_row row).1 ≡ tally opens (Handles process) row.0 = ap count_of h.0 ∙ sym (opens_tally process opens all row.0) in
      (listed.members (opens_row row)).1 (count, omega (arith, some), (same_slot_Decides (Handles process) (Handles process)).1 refl)
    where
      count_of : ℕ → Count
      count_of n = record { plus = n; minus = 0 }

  -- the rows with so many opens at least
  abbrev many_of : List ((Slot × List ℕ) × Count)
  many_of = filter (opens_many least) rows

  module _ (ordered : List (Reverse ℕ × List ℕ)) (rising : IsRising (λ a b. leak_cmp a b ≡ Less) ordered)
      (same : (row : Reverse ℕ × List ℕ) → Contains ordered row ↔ Contains (map counted_first many_of) row) where
    leak_from_ordered : (row : List ℕ × ℕ) → Contains (map stack_before_number ordered) row → IsLeak least opens row
    leak_from_ordered row h =
        let x = Contains-from_map stack_before_number ordered row h in
        let r = Contains-from_map counted_first many_of x.0 ((same x.0).0 x.1) in
        let kept = Contains-from_filter (opens_many least) rows r.0 r.1 in
        subst (IsLeak least opens) (ap stack_before_number r.2 ∙ x.2) (leak_from_row r.0 kept.0 kept.1)

    ordered_from_leak : (row : List ℕ × ℕ) → IsLeak least opens row → Contains (map stack_before_number ordered) row
    ordered_from_leak row h =
        let r = counted_first (opens_row row) in
        let kept = Contains-filter (opens_many least) rows (opens_row row) (row_from_leak row h) (le-leb least row.1 h.1.1) in
        Contains-map stack_before_number ordered r ((same r).1 (Contains-map counted_first many_of (opens_row row) kept))

    Lists-leaks : Lists MostFirst (IsLeak least opens) (map stack_before_number ordered)
    Lists-leaks = record {
      rising = IsRising-map (λ a b. leak_cmp a b ≡ Less) MostFirst stack_before_number (λ x y h. h) ordered rising;
      members = λ row. (leak_from_ordered row, ordered_from_leak row);
    }

-- the opens of outstanding handles open handles of the process
all_open : (among : Event → Type 0) (process : ℕ) (since : Option ℕ) (opens : List Event) → AreOpenSince among process since opens
    → AllOpen process opens
all_open among process None opens are = record { each = λ e h. (let o = (are.members e).0 h in (o.opens, o.latest.of_handle.owner)) }
all_open among process (Some moment) opens are =
    record { each = λ e h. (let o = (are.members e).0 h in (o.0.opens, o.0.latest.of_handle.owner)) }

-- the sums of the open handles, of so many opens at least, sorted and turned, are the leaking stacks
pub leaks_listed : (events : List Event) (process : ℕ) (since : Option ℕ) (least : ℕ) (opens : List Event)
    → AreOpenSince (Contains events) process since opens
    → (rows : List ((Slot × List ℕ) × Count)) → AreSums row_cmp (rows_of (λ s stack. (s, stack)) (One (Handles process)) opens) rows
    → (ordered : List (Reverse ℕ × List ℕ)) → IsRising (λ a b. leak_cmp a b ≡ Less) ordered
    → ((row : Reverse ℕ × List ℕ) → Contains ordered row ↔ Contains (map counted_first (filter (opens_many least) rows)) row)
    → IsLeaksSince (Contains events) process since least (map stack_before_number ordered)
leaks_listed events process since least opens are rows sums ordered rising same =
    let positive = sums.positive (rows_positive row_cmp (λ s stack. (s, stack)) (One (Handles process)) opens) in
    let listed = counts_listed (One (Handles process)) opens rows sums.rising positive sums.counts in
    let all = all_open (Contains events) process since opens are in
    record {
      handles = opens;
      are = are;
      stacks = Lists-leaks process least opens all rows listed ordered rising same;
    }
