-- Worked answers show what the definitions of balances say of given events. They come of functions that compute balances, wherever their rows rise.
use Rattle.std.proofs.Common.{◌≡◌, ℕ, ◌<◌, ◌+◌, Bool, true, false, not, List, [], ◌∷◌, length, refl, sym, ap, subst, ◌∙◌, arith, inl, inr, ◌&&◌}
use Rattle.std.proofs.Common.{nat_eq, map}
use Rattle.std.specs.Prelude.{Contains, ◌↔◌, ◌==◌, nat_lt, filter, count_by, codes}
use Rattle.std.specs.List.{list_all}
use Rattle.std.specs.Ordering.{nat_cmp, ordering_then}
use Rattle.std.specs.Cmp.Lexicographic.{slice_cmp}
use Rattle.std.specs.declared.cmp.Ordering.{Ordering}
use Rattle.std.specs.declared.cmp.Ordering.TheVariants.{Less}
use Rattle.std.proofs.lemmas.Bool.{and_parts, and_from, cases_lt, eqb-true, eq-eqb, ltb-true, lt-ltb}
use Rattle.htl_event.specs.Events.{Event}
use Rattle.htl_event.specs.declared.kind.Kind.{Kind}
use Rattle.htl_event.specs.declared.kind.Kind.TheVariants.{Ref, Deref}
use Rattle.htl_event.specs.declared.slot.Slot.TheVariants.{Tagged}
use Rattle.htl_event.specs.declared.slot.Sign.{Sign}
use Rattle.htl_event.specs.declared.slot.Sign.TheVariants.{Plus, Minus}
use Rattle.htl_event.specs.declared.slot.Count.{Count}
use Rattle.htl_event.specs.Slots.{slot_by_kind, is_slot, is_counted}
use Rattle.htl_event.specs.Stacks.{stack_cmp}
use Rattle.htl_event.specs.Members.{Lists}
use Rattle.htl_event.specs.Tallies.{total_of, times, count_where, has_stack, tally, balance, IsPositive}
use Rattle.htl_event.specs.Summaries.{is_unbalanced}
use Rattle.htl_event.specs.Balances.{Balance, is_ref, is_deref, references_where, has_tag, HaveObjects, DiffersOn, IsListed, AreBalances}
use Rattle.htl_event.specs.Balances.{AreTagStacks}
use Rattle.htl_event.proofs.Orders.{lower-strict}
use Rattle.htl_event.proofs.Members.{Contains-cases, Contains-map, Contains-nil, Lists-same}
use Rattle.htl_event.proofs.Ordered.{is_rising, ordered, rows_where, distinct, Contains-distinct, Contains-rows_where, Lists-ordered, Lists-filter}
use Rattle.htl_event.proofs.ComputedCounts.{comes_first, is_lt-Less, same_list, same_list-exact}
use Rattle.htl_event.proofs.Wanted.{lists_too}
use Rattle.htl_summary.proofs.Counting.{exists_one}

-- ---- keys and objects of what was counted

-- where some are counted under a key, it is the key of one
key_counted : {K X : Type 0} (p : K → X → Bool) (key : X → K) → ((k : K) (x : X) → p k x ≡ true → key x ≡ k)
    → (xs : List X) (k : K) → 0 < count_by (p k) xs → Contains (map key xs) k
key_counted p key has xs k h =
    let r = exists_one (p k) xs h in subst (Contains (map key xs)) (has k r.0 r.2) (Contains-map key xs r.0 r.1)

-- each element passes where all do
each_passes : {X : Type 0} (test : X → Bool) (xs : List X) (x : X) → list_all test xs ≡ true → Contains xs x → test x ≡ true
each_passes test [] x all h = absurd (Contains-nil x h)
each_passes test (y ∷ ys) x all h =
    let parts = and_parts _ _ all in
    elim (Contains-cases y ys x h) [
      | inl here ↦ subst (λ z. test z ≡ true) here parts.0
      | inr there ↦ each_passes test ys x parts.1 there
    ]

abbrev objects_in : List Event → List ℕ
objects_in es = map (λ e. e.object) es

-- what counts under an object's tag names the object
counted_object : (kind : Kind) (e : Event) (object : ℕ) (tag : List ℕ) (sign : Sign)
    → is_slot (Tagged object tag) sign (slot_by_kind kind e) ≡ true → e.object ≡ object
counted_object Ref e object tag sign h = sym (eqb-true object e.object (and_parts _ _ (and_parts _ _ h).0).0)
counted_object Deref e object tag sign h = sym (eqb-true object e.object (and_parts _ _ (and_parts _ _ h).0).0)
counted_object kind e object tag sign h = absurd cc

-- an object with a count is named
object_of_count : (passes : Event → Bool) (es : List Event) (tag : List ℕ) (object : ℕ)
    → 0 < total_of (count_where passes es (Tagged object tag)) → Contains (objects_in es) object
object_of_count passes es tag object h =
    elim (cases_lt 0 (times passes es (Tagged object tag) Plus)) [ inl some ↦ side Plus some | inr none ↦ side Minus (omega arith) ]
  where
    side : (sign : Sign) → 0 < times passes es (Tagged object tag) sign → Contains (objects_in es) object
    side sign =
        key_counted (λ o e. is_counted (Tagged o tag) sign e && passes e) (λ e. e.object)
        (λ o e c. counted_object e.kind e o tag sign (and_parts _ _ c).0) es object

-- numbers that differ aren't both zero
some_differ : (m n : ℕ) → not (m == n) ≡ true → 0 < m + n
some_differ m n h = elim (cases_lt 0 (m + n)) [
  | inl some ↦ some
  | inr none ↦ let same : (m == n) ≡ true = eq-eqb m n (omega (arith, none)) in absurd cc
]

-- a key with a reference or dereference is the key of an event
key_used : (passes : List ℕ → Event → Bool) (key : Event → List ℕ) → ((k : List ℕ) (e : Event) → passes k e ≡ true → key e ≡ k)
    → (es : List Event) (k : List ℕ) → 0 < total_of (references_where (passes k) es) → Contains (map key es) k
key_used passes key has es k h =
    elim (cases_lt 0 (references_where (passes k) es).plus) [
      | inl some ↦ side is_ref some
      | inr none ↦ side is_deref (omega (arith, h, none))
    ]
  where
    side : (of : Kind → Bool) → 0 < count_by (λ (e : Event). of e.kind && passes k e) es → Contains (map key es) k
    side of = key_counted (λ j e. of e.kind && passes j e) key (λ j e c. has j e (and_parts (of e.kind) (passes j e) c).1) es k

-- ---- rows of keys with what was counted under them, and on how many objects

abbrev is_listed : Bool → Balance → Bool
is_listed true row = true
is_listed false row = nat_lt 0 row.objects

listed-is : (all : Bool) (row : Balance) → (is_listed all row ≡ true) ↔ IsListed all row
listed-is true row = (λ h. tt, λ h. refl)
listed-is false row = (ltb-true 0 _, lt-ltb 0 _)

module _ (used : List ℕ → Count) (touches : List ℕ → ℕ → Bool) (objects : List ℕ) (keys : List (List ℕ)) where
  -- the objects that a key touches
  abbrev objects_at : List ℕ → List ℕ
  objects_at k = ordered nat_lt (filter (touches k) (distinct nat_eq objects))

  -- the objects of each key rise
  abbrev objects_rise : Bool
  objects_rise = list_all (λ k. is_rising nat_lt (objects_at k)) keys

  abbrev row_at : List ℕ → Balance
  row_at k = record { by = k; count = used k; objects = length (objects_at k) }

  abbrev is_row : Bool → List ℕ → Bool
  is_row all k = nat_lt 0 (total_of (used k)) && is_listed all (row_at k)

  abbrev rows_of : (Balance → Balance → Ordering) → Bool → List Balance
  rows_of cmp all = ordered (comes_first cmp) (rows_where same_list (is_row all) row_at keys)

  module _ (Touches : List ℕ → ℕ → Type 0) (says : (k : List ℕ) (o : ℕ) → (Contains objects o × (touches k o ≡ true)) ↔ Touches k o)
      (covers : (k : List ℕ) → 0 < total_of (used k) → Contains keys k) (rise : objects_rise ≡ true) where
    record IsRow (row : Balance) : Type 0 where
      used_so : row.count ≡ used row.by
      named : IsPositive row.count
      touched : HaveObjects (Touches row.by) row.objects

    objects_are : (k : List ℕ) → Contains keys k → HaveObjects (Touches k) (length (objects_at k))
    objects_are k h = (
      objects_at k,
      Lists-filter nat_lt (λ a b. a < b) (λ a b. ltb-true a b) (touches k) (Touches k) (distinct nat_eq objects) (λ o.
          let once = Contains-distinct nat_eq (λ x y. eqb-true x y) objects o in
          let of = says k o in
          (λ h. of.0 (once.0 h.0, h.1), λ h. let is = of.1 h in (once.1 is.0, is.1)))
          (each_passes (λ j. is_rising nat_lt (objects_at j)) keys k rise h),
      refl,
    )

    objects_same : (k : List ℕ) (m n : ℕ) → HaveObjects (Touches k) m → HaveObjects (Touches k) n → m ≡ n
    objects_same k m n (os, lists_os, is_m) (ps, lists_ps, is_n) =
        is_m ∙ ap length (Lists-same (λ (a b : ℕ). a < b) lower-strict _ _ os ps (λ o. (λ h. h, λ h. h)) lists_os lists_ps) ∙ sym is_n

    row_is : (k : List ℕ) → 0 < total_of (used k) → IsRow (row_at k)
    row_is k some = record { used_so = refl; named = some; touched = objects_are k (covers k some) }

    row_has_key : (row : Balance) → IsRow row → row_at row.by ≡ row
    row_has_key row is =
        let some : 0 < total_of (used row.by) = rw (← is.used_so) is.named in
        let number = objects_same row.by _ row.objects (row_is row.by some).touched is.touched in
        λ i. record { by = row.by; count = sym is.used_so i; objects = number i }

    Lists-rows_of : (cmp : Balance → Balance → Ordering) (all : Bool) → is_rising (comes_first cmp) (rows_of cmp all) ≡ true
        → Lists (λ x y. cmp x y ≡ Less) (λ row. IsRow row × IsListed all row) (rows_of cmp all)
    Lists-rows_of cmp all =
        Lists-ordered _ _ (λ x y. is_lt-Less (cmp x y)) _ _ (
        Contains-rows_where same_list same_list-exact (is_row all) row_at (λ row. IsRow row × IsListed all row) keys
        (λ k is.
        let parts = and_parts _ _ is in (row_is k (ltb-true 0 _ parts.0), (listed-is all (row_at k)).0 parts.1))
        (λ row is.
        let same = row_has_key row is.0 in
        let some : 0 < total_of (used row.by) = rw (← is.0.used_so) is.0.named in
        let listed = (listed-is all (row_at row.by)).1 (subst (IsListed all) (sym same) is.1) in
        (row.by, covers row.by some, and_from _ _ (lt-ltb 0 _ some) listed, same)))

-- ---- tags

abbrev most_objects_first : Balance → Balance → Ordering
most_objects_first a b = ordering_then (nat_cmp b.objects a.objects) (slice_cmp nat_cmp a.by b.by)

module _ (es : List Event) where
  abbrev tag_used : List ℕ → Count
  tag_used tag = references_where (has_tag tag) es

  abbrev differs_on : List ℕ → ℕ → Bool
  differs_on tag object = is_unbalanced (tag, balance es object tag)

  abbrev tags : List (List ℕ)
  tags = map (λ e. e.tag) es

  -- the objects on which each tag differs rise
  abbrev pub differing_rise : Bool
  differing_rise = objects_rise tag_used differs_on (objects_in es) tags

  abbrev pub balances_of : Bool → List Balance
  balances_of all = rows_of tag_used differs_on (objects_in es) tags most_objects_first all

  differs-is : (tag : List ℕ) (object : ℕ) → (Contains (objects_in es) object × (differs_on tag object ≡ true)) ↔ DiffersOn es tag object
  differs-is tag object = (
    λ h. h.1,
    λ differs. (object_of_count (λ e. true) es tag object (some_differ _ _ differs), differs),
  )

  -- the computed balances are those of the definition, where they rise in their order, and the objects on which each tag differs do
  pub AreBalances-balances_of : (all : Bool) → differing_rise ≡ true → is_rising (comes_first most_objects_first) (balances_of all) ≡ true
      → AreBalances es all (balances_of all)
  AreBalances-balances_of all rise rises =
      lists_too _ _ (balances_of all) (λ row. (
        λ h. (record { used = h.0.used_so; named = h.0.named; differing = h.0.touched }, h.1),
        λ h. (record { used_so = h.0.used; named = h.0.named; touched = h.0.differing }, h.1),
      ))
      (Lists-rows_of tag_used differs_on (objects_in es) tags (DiffersOn es) differs-is
      (key_used has_tag (λ e. e.tag) (λ tag e. same_list-exact e.tag tag) es) rise most_objects_first all rises)

-- ---- the stacks of a tag

abbrev in_stack_order : Balance → Balance → Ordering
in_stack_order a b = stack_cmp a.by b.by

module _ (es : List Event) (tag : List ℕ) where
  abbrev stack_used : List ℕ → Count
  stack_used stack = references_where (λ e. has_tag tag e && has_stack stack e) es

  abbrev touches_object : List ℕ → ℕ → Bool
  touches_object stack object = nat_lt 0 (total_of (tally es (Tagged object tag) stack))

  abbrev stacks : List (List ℕ)
  stacks = map (λ e. e.stack) es

  -- the objects that each stack touched rise
  abbrev pub touched_rise : Bool
  touched_rise = objects_rise stack_used touches_object (objects_in es) stacks

  abbrev pub tag_stacks_of : List Balance
  tag_stacks_of = rows_of stack_used touches_object (objects_in es) stacks in_stack_order true

  abbrev TouchedBy : List ℕ → ℕ → Type 0
  TouchedBy stack object = IsPositive (tally es (Tagged object tag) stack)

  touches-is : (stack : List ℕ) (object : ℕ) → (Contains (objects_in es) object × (touches_object stack object ≡ true)) ↔ TouchedBy stack object
  touches-is stack object = (
    λ h. ltb-true 0 _ h.1,
    λ some. (object_of_count (has_stack stack) es tag object some, lt-ltb 0 _ some),
  )

  -- the computed stacks of a tag are those of the definition, where they rise in stack order, and the objects that each touched do
  pub AreTagStacks-tag_stacks_of : touched_rise ≡ true → is_rising (comes_first in_stack_order) tag_stacks_of ≡ true
      → AreTagStacks es tag tag_stacks_of
  AreTagStacks-tag_stacks_of rise rises =
      lists_too _ _ tag_stacks_of (λ row. (
        λ h. record { used = h.0.used_so; named = h.0.named; touched = h.0.touched },
        λ h. (record { used_so = h.used; named = h.named; touched = h.touched }, tt),
      ))
      (Lists-rows_of stack_used touches_object (objects_in es) stacks TouchedBy touches-is
      (key_used (λ stack e. has_tag tag e && has_stack stack e) (λ e. e.stack)
      (λ stack e h. same_list-exact e.stack stack (and_parts _ _ h).1) es) rise in_stack_order true rises)

-- ==== worked answers, of events of three objects and three tags

abbrev in_open : List ℕ
in_open = 0x30 ∷ 0x10 ∷ []

abbrev in_close : List ℕ
in_close = 0x40 ∷ 0x10 ∷ []

abbrev event : Kind → ℕ → ℕ → List ℕ → List ℕ → Event
event kind sequence object tag stack =
    record { sequence = sequence; kind = kind; process = 4; thread = 12; handle = 0; object = object; tag = tag; stack = stack }

abbrev row : List ℕ → ℕ → ℕ → ℕ → Balance
row by plus minus objects = record { by = by; count = record { plus = plus; minus = minus }; objects = objects }

-- Lky8 is over on two objects, and Copy is over on one and under on another. Dflt balances on each of two.
abbrev events : List Event
events =
    event Ref 1 0x1000 (codes "Lky8") in_open
    ∷ event Ref 2 0x2000 (codes "Lky8") in_open
    ∷ event Ref 3 0x2000 (codes "Lky8") in_open
    ∷ event Deref 4 0x2000 (codes "Lky8") in_close
    ∷ event Ref 5 0x1000 (codes "Dflt") in_open
    ∷ event Deref 6 0x1000 (codes "Dflt") in_close
    ∷ event Ref 7 0x3000 (codes "Dflt") in_open
    ∷ event Deref 8 0x3000 (codes "Dflt") in_open
    ∷ event Deref 9 0x3000 (codes "Copy") in_close
    ∷ event Ref 10 0x2000 (codes "Copy") in_open
    ∷ []

-- Equal sums don't balance a tag that differs on its objects. As many objects: by bytes.
pub unbalanced : AreBalances events false (row (codes "Copy") 1 1 2 ∷ row (codes "Lky8") 3 1 2 ∷ [])
unbalanced = AreBalances-balances_of events false refl refl

-- a tag that balances on each object comes last, whatever its bytes
pub all_tags : AreBalances events true (row (codes "Copy") 1 1 2 ∷ row (codes "Lky8") 3 1 2 ∷ row (codes "Dflt") 2 2 0 ∷ [])
all_tags = AreBalances-balances_of events true refl refl

-- one stack touched two objects, one of them twice, and the other stack one
pub stacks_of_Lky8 : AreTagStacks events (codes "Lky8") (row in_open 3 0 2 ∷ row in_close 0 1 1 ∷ [])
stacks_of_Lky8 = AreTagStacks-tag_stacks_of events (codes "Lky8") refl refl

-- a stack that balances is there
pub stacks_of_Dflt : AreTagStacks events (codes "Dflt") (row in_open 2 1 2 ∷ row in_close 0 1 1 ∷ [])
stacks_of_Dflt = AreTagStacks-tag_stacks_of events (codes "Dflt") refl refl

-- with no event there is no row
pub no_balances : (all : Bool) → AreBalances [] all []
no_balances all = AreBalances-balances_of [] all refl refl

pub no_stacks : (tag : List ℕ) → AreTagStacks [] tag []
no_stacks tag = AreTagStacks-tag_stacks_of [] tag refl refl
