-- Sums of slots say how often objects were referenced under a tag, and how many differ. So the rows of tags are those of the definition.
use Rattle.std.proofs.Common.{◌≡◌, ℕ, ◌<◌, Bool, true, false, cond, ◌&&◌, List, length, Option, Some, None, refl, sym, ap, ◌∙◌, nat_eq, ◌≢◌, map}
use Rattle.std.proofs.Common.{zero, suc, ◌+◌, ◌≤◌, not, ◌==◌, subst, arith}
use Rattle.std.specs.Prelude.{Contains, ◌↔◌}
use Rattle.std.specs.List.{sum_by, filter_map}
use Rattle.std.specs.Ordering.{nat_cmp, ordering_then, is_eq}
use Rattle.std.specs.Cmp.{unsigned_Decides}
use Rattle.std.specs.Cmp.Lexicographic.{pointwise, pointwise_decides, slice_cmp, texts_ties}
use Rattle.std.specs.declared.cmp.Ordering.{Ordering}
use Rattle.std.specs.declared.cmp.Ordering.TheVariants.{Less, Equal, Greater}
use Rattle.std.proofs.Math.Bool.{and-true, and-false}
use Rattle.std.proofs.lemmas.Bool.{and_parts, and_from, ltb-true, lt-ltb}
use Rattle.std.proofs.lemmas.Cmp.{tied_itself, nat_list_cmp_total}
use Rattle.std.proofs.lemmas.Option.{same_Some}
use Rattle.htl_event.specs.Events.{Event}
use Rattle.htl_event.specs.declared.kind.Kind.{Kind}
use Rattle.htl_event.specs.declared.kind.Kind.TheVariants.{Opened, Closed, BadRef, Snapshot, Ref, Deref, Exited}
use Rattle.htl_event.specs.declared.slot.Slot.{Slot}
use Rattle.htl_event.specs.declared.slot.Slot.TheVariants.{Tagged, Handles, Bad}
use Rattle.htl_event.specs.declared.slot.Sign.TheVariants.{Plus, Minus}
use Rattle.htl_event.specs.declared.slot.Count.{Count}
use Rattle.htl_event.specs.Slots.{slot_of, slot_by_kind}
use Rattle.htl_event.specs.Members.{Lists, IsRising}
use Rattle.htl_event.specs.Tallies.{IsPositive, balance}
use Rattle.htl_event.specs.Balances.{is_ref, is_deref, references_where, has_tag, Balance, HaveObjects, DiffersOn, IsTagBalance, IsListed}
use Rattle.htl_event.specs.Balances.{MostObjectsFirst, AreBalances}
use Rattle.htl_lemmas.proofs.Tests.{lower}
use Rattle.htl_tree.specs.Trees.{BySlot}
use Rattle.htl_answers.specs.Sums.{times_of, ListsSlotSums}
use Rattle.htl_answers.proofs.FilterMaps.{Contains-filter_map, Contains-from_filter_map, IsRising-filter_map}
use Rattle.htl_answers.proofs.NumberSums.{amount, sum_same, sum_filter_map}
use Rattle.htl_summary.specs.Balancing.{is_tagged, tag_cmp, tag_same, tag_balance, listed, shows, at_key, ByKey, AreAdded}
use Rattle.htl_summary.proofs.ObjectRows.{length_is_sum}
use Rattle.htl_summary.proofs.SlotSums.{hits, sums_are_events}
use Rattle.std.proofs.lemmas.Bool.Decides.{same_from_decides}
use Rattle.htl_event.proofs.Orders.{lower-strict}
use Rattle.htl_event.proofs.Members.{Contains-filter, Contains-from_filter, Lists-same}
use Rattle.htl_answers.proofs.OpenLemmas.{rising-filter}
use Rattle.htl_answers.proofs.Opens.{IsRising-map}
use Rattle.htl_summary.specs.ObjectTags.{one_if_unbalanced}
use Rattle.htl_summary.proofs.Fitting.{one_at_most}
use Rattle.htl_summary.proofs.AddedBalances.{apart, given_positive, key_has_row, minus_of, objects_of, plus_of, row_is}

abbrev pub Sum : Type 0
Sum = Slot × Count

-- ---- references and dereferences

ref_test : (tag : List ℕ) (kind : Kind) (e : Event) → hits (is_tagged tag) Plus (slot_by_kind kind e) ≡ (is_ref kind && has_tag tag e)
ref_test tag Opened e = refl
ref_test tag Closed e = refl
ref_test tag BadRef e = refl
ref_test tag Snapshot e = refl
ref_test tag Ref e = and-true (has_tag tag e)
ref_test tag Deref e = and-false (has_tag tag e)
ref_test tag Exited e = refl

deref_test : (tag : List ℕ) (kind : Kind) (e : Event) → hits (is_tagged tag) Minus (slot_by_kind kind e) ≡ (is_deref kind && has_tag tag e)
deref_test tag Opened e = refl
deref_test tag Closed e = refl
deref_test tag BadRef e = refl
deref_test tag Snapshot e = refl
deref_test tag Ref e = and-false (has_tag tag e)
deref_test tag Deref e = and-true (has_tag tag e)
deref_test tag Exited e = refl

-- a number of the sum, where it is of the tag
abbrev pub of_tag : List ℕ → (Count → ℕ) → Sum → ℕ
of_tag tag number sum = cond (is_tagged tag sum.0) (number sum.1) 0

pub same_tags : (a b : List ℕ) → pointwise nat_eq a b ≡ true → a ≡ b
same_tags a b is = (pointwise_decides unsigned_Decides a b).0 is

pub own_tag : (tag : List ℕ) → pointwise nat_eq tag tag ≡ true
own_tag tag = (pointwise_decides unsigned_Decides tag tag).1 refl

-- ---- objects

-- the object of the slot, where it is of the tag and its count passes
abbrev object_if : List ℕ → (Count → Bool) → Slot → Count → Option ℕ
object_if tag test (Tagged object its) count = cond (pointwise nat_eq its tag && test count) (Some object) None
object_if tag test other count = None

record IsObjectOf (tag : List ℕ) (test : Count → Bool) (slot : Slot) (count : Count) (object : ℕ) : Type 0 where
  slot_is : slot ≡ Tagged object tag
  passes : test count ≡ true

object_is : (tag : List ℕ) (test : Count → Bool) (slot : Slot) (count : Count) (object : ℕ) → object_if tag test slot count ≡ Some object
    → IsObjectOf tag test slot count object
object_is tag test (Tagged o its) count object e = go (pointwise nat_eq its tag && test count) refl e
  where
    go : (b : Bool) → (pointwise nat_eq its tag && test count) ≡ b → cond b (Some o) None ≡ Some object
        → IsObjectOf tag test (Tagged o its) count object
    go true is e =
        let parts = and_parts _ _ is in
        let one : o ≡ object = same_Some o object e in
        record {
          slot_is = ap (λ (x : ℕ). Tagged x its) one ∙ ap (λ (t : List ℕ). Tagged object t) (same_tags its tag parts.0);
          passes = parts.1;
        }
    go false is e = absurd cc
object_is tag test (Handles p) count object e = absurd cc
object_is tag test (Bad p h) count object e = absurd cc

object_at : (tag : List ℕ) (test : Count → Bool) (object : ℕ) (count : Count) → test count ≡ true
    → object_if tag test (Tagged object tag) count ≡ Some object
object_at tag test object count passes =
    ap (λ (b : Bool). cond b (Some object) None) (and_from _ _ (own_tag tag) passes)

then_less : (r s : Ordering) → s ≡ Equal → ordering_then r s ≡ Less → r ≡ Less
then_less Less s tied e = refl
then_less Equal s tied e = absurd cc
then_less Greater s tied e = absurd cc

module _ (events : List Event) (sums : List Sum) (listed : ListsSlotSums events sums) (tag : List ℕ) where
  -- the references of all objects under the tag
  pub refs_are : sum_by (of_tag tag (λ count. count.plus)) sums ≡ (references_where (has_tag tag) events).plus
  refs_are =
      sums_are_events (is_tagged tag) Plus events sums listed
      ∙ sum_same (λ (e : Event). cond (hits (is_tagged tag) Plus (slot_of e)) 1 0) (λ (e : Event). cond (is_ref e.kind && has_tag tag e) 1 0) events
      (λ e h. ap (λ (b : Bool). cond b 1 0) (ref_test tag e.kind e))

  -- and the dereferences
  pub derefs_are : sum_by (of_tag tag (λ count. count.minus)) sums ≡ (references_where (has_tag tag) events).minus
  derefs_are =
      sums_are_events (is_tagged tag) Minus events sums listed
      ∙ sum_same (λ (e : Event). cond (hits (is_tagged tag) Minus (slot_of e)) 1 0) (λ (e : Event). cond (is_deref e.kind && has_tag tag e) 1 0) events
      (λ e h. ap (λ (b : Bool). cond b 1 0) (deref_test tag e.kind e))

  module _ (test : Count → Bool) where
    -- the objects that have a sum under the tag that passes
    abbrev pub objects : List ℕ
    objects = filter_map (λ (sum : Sum). object_if tag test sum.0 sum.1) sums

    rise : (s t : Sum) (x y : ℕ) → BySlot s.0 t.0 → object_if tag test s.0 s.1 ≡ Some x → object_if tag test t.0 t.1 ≡ Some y → x < y
    rise s t x y less at_s at_t =
        let one = object_is tag test s.0 s.1 x at_s in
        let two = object_is tag test t.0 t.1 y at_t in
        let both : ordering_then (nat_cmp x y) (slice_cmp nat_cmp tag tag) ≡ Less = rw (one.slot_is, two.slot_is) at less in
        lower x y (then_less (nat_cmp x y) (slice_cmp nat_cmp tag tag) (tied_itself nat_list_cmp_total tag) both)

    abbrev Passes : ℕ → Type 0
    Passes object = (test (times_of events (Tagged object tag)) ≡ true) × IsPositive (times_of events (Tagged object tag))

    -- they are the objects whose count under the tag passes
    pub objects_are : Lists (λ x y. x < y) Passes objects
    objects_are = record {
      rising = IsRising-filter_map (λ (s t : Sum). BySlot s.0 t.0) (λ x y. x < y) (λ (sum : Sum). object_if tag test sum.0 sum.1) rise sums listed.rising;
      members = λ object. (from object, into object);
    }
      where
        from : (object : ℕ) → Contains objects object → Passes object
        from object h =
            let of = Contains-from_filter_map (λ (sum : Sum). object_if tag test sum.0 sum.1) sums object h in
            let is = object_is tag test of.0.0 of.0.1 object of.2 in
            let sum = (listed.members of.0).0 of.1 in
            let count : of.0.1 ≡ times_of events (Tagged object tag) = sum.0 ∙ ap (times_of events) is.slot_is in
            (sym (ap test count) ∙ is.passes, rw count at sum.1)

        into : (object : ℕ) → Passes object → Contains objects object
        into object h =
            let sum : Sum = (Tagged object tag, times_of events (Tagged object tag)) in
            Contains-filter_map (λ (s : Sum). object_if tag test s.0 s.1) sums sum object ((listed.members sum).1 (refl, h.1))
            (object_at tag test object sum.1 h.0)

    one_of : (slot : Slot) (count : Count) → amount (λ (object : ℕ). 1) (object_if tag test slot count) ≡ of_tag tag (λ c. cond (test c) 1 0) (slot, count)
    one_of (Tagged object its) count = table (pointwise nat_eq its tag) (test count)
      where
        table : (a b : Bool) → amount (λ (x : ℕ). 1) (cond (a && b) (Some object) None) ≡ cond a (cond b 1 0) 0
        table true true = refl
        table true false = refl
        table false b = refl
    one_of (Handles p) count = refl
    one_of (Bad p h) count = refl

    -- and so many
    pub number_of_objects : sum_by (of_tag tag (λ count. cond (test count) 1 0)) sums ≡ length objects
    number_of_objects =
        sym (sum_same (λ (sum : Sum). amount (λ (object : ℕ). 1) (object_if tag test sum.0 sum.1)) (of_tag tag (λ count. cond (test count) 1 0)) sums
        (λ sum h. one_of sum.0 sum.1))
        ∙ sym (sum_filter_map (λ (object : ℕ). 1) (λ (sum : Sum). object_if tag test sum.0 sum.1) sums)
        ∙ length_is_sum objects

-- the balance of a slot's sum, if that is a tag's
abbrev pub row_of : Sum → Option Balance
row_of sum = tag_balance sum.0 sum.1

-- the balance of a sum has its count
pub made : (sum : Sum) (row : Balance) → row_of sum ≡ Some row → (row.count ≡ sum.1) × (row.objects ≤ 1)
made sum row = of_slot sum.0 sum.1
  where
    of_slot : (slot : Slot) (count : Count) → tag_balance slot count ≡ Some row → (row.count ≡ count) × (row.objects ≤ 1)
    of_slot (Tagged o t) count e =
        let is = same_Some (record { by = t; count = count; objects = one_if_unbalanced count }) row e in
        (sym (ap (λ (r : Balance). r.count) is), subst (λ (r : Balance). r.objects ≤ 1) is (one_at_most (count.plus == count.minus)))
    of_slot (Handles p) count e = absurd cc
    of_slot (Bad p h) count e = absurd cc

-- ---- numbers of a tag

tags_tied : (tag its : List ℕ) → is_eq (tag_cmp tag its) ≡ pointwise nat_eq its tag
tags_tied tag its =
    sym (texts_ties tag its) ∙ same_from_decides (pointwise nat_eq tag its) (pointwise nat_eq its tag) (pointwise_decides unsigned_Decides tag its)
    ((λ e. sym ((pointwise_decides unsigned_Decides its tag).0 e)), λ e. (pointwise_decides unsigned_Decides its tag).1 (sym e))

module _ (number : Balance → ℕ) (own : Count → ℕ)
    (is : (object : ℕ) (tag : List ℕ) (count : Count) → number (record { by = tag; count = count; objects = one_if_unbalanced count }) ≡ own count) where
  share : (tag : List ℕ) (slot : Slot) (count : Count) → amount (at_key tag_cmp tag number) (tag_balance slot count) ≡ of_tag tag own (slot, count)
  share tag (Tagged o its) count =
      ap (λ (b : Bool). cond b (number (record { by = its; count = count; objects = one_if_unbalanced count })) 0) (tags_tied tag its)
      ∙ ap (λ (n : ℕ). cond (pointwise nat_eq its tag) n 0) (is o its count)
  share tag (Handles p) count = refl
  share tag (Bad p h) count = refl

  at_tag : (tag : List ℕ) (sums : List Sum) → sum_by (at_key tag_cmp tag number) (filter_map row_of sums) ≡ sum_by (of_tag tag own) sums
  at_tag tag sums =
      sum_filter_map (at_key tag_cmp tag number) row_of sums
      ∙ sum_same (λ (sum : Sum). amount (at_key tag_cmp tag number) (row_of sum)) (of_tag tag own) sums (λ sum h. share tag sum.0 sum.1)

differs_one : (count : Count) → one_if_unbalanced count ≡ cond (not (count.plus == count.minus)) 1 0
differs_one count = go (count.plus == count.minus)
  where
    go : (b : Bool) → ◌≡◌ {A = ℕ} (cond b 0 1) (cond (not b) 1 0)
    go true = refl
    go false = refl

abbrev pub differing : Count → Bool
differing count = not (count.plus == count.minus)

-- what differs isn't zero
some_where_differing : (count : Count) → differing count ≡ true → IsPositive count
some_where_differing count is = go count.plus count.minus is
  where
    go : (p m : ℕ) → not (p == m) ≡ true → 0 < p + m
    go zero zero e = absurd cc
    go zero (suc m) e = omega arith
    go (suc p) m e = omega arith

-- a property has one number of objects
pub one_number : (P : ℕ → Type 0) (m n : ℕ) → HaveObjects P m → HaveObjects P n → m ≡ n
one_number P m n p q =
    p.2 ∙ ap length (Lists-same (λ (a b : ℕ). a < b) lower-strict P P p.0 q.0 (λ x. (λ h. h, λ h. h)) p.1 q.1) ∙ sym q.2

-- ---- rows

-- a tag has one row
pub one_row : (events : List Event) (a b : Balance) → IsTagBalance events a → IsTagBalance events b → a.by ≡ b.by → a ≡ b
one_row events a b p q e =
    let count : a.count ≡ b.count = p.used ∙ ap (λ (t : List ℕ). references_where (has_tag t) events) e ∙ sym q.used in
    let its : HaveObjects (DiffersOn events a.by) b.objects = subst (λ (t : List ℕ). HaveObjects (DiffersOn events t) b.objects) (sym e) q.differing in
    let number = one_number (DiffersOn events a.by) a.objects b.objects p.differing its in
    λ i. record { by = e i; count = count i; objects = number i }

module _ (events : List Event) (sums : List Sum) (counted : ListsSlotSums events sums) where
  -- the objects that differ are those whose sum does
  pub differ : (tag : List ℕ) → Lists (λ a b. a < b) (DiffersOn events tag) (objects events sums counted tag differing)
  differ tag =
      let are = objects_are events sums counted tag differing in
      record {
        rising = are.rising;
        members = λ object. (
          λ h. ((are.members object).0 h).0,
          λ is. (are.members object).1 (is, some_where_differing (balance events object tag) is),
        );
      }

module _ (events : List Event) (sums : List Sum) (rows : List Balance) (counted : ListsSlotSums events sums)
    (added : AreAdded tag_cmp (filter_map row_of sums) rows) where
  abbrev used : List ℕ → Count
  used tag = references_where (has_tag tag) events

  abbrev differing_on : List ℕ → List ℕ
  differing_on tag = objects events sums counted tag differing

  counts : (row : Balance) → Contains (filter_map row_of sums) row → IsPositive row.count
  counts = given_positive row_of (λ (sum : Sum). sum.1) made sums (λ sum h. ((counted.members sum).0 h).1)

  refs_at : (tag : List ℕ) → sum_by (at_key tag_cmp tag plus_of) (filter_map row_of sums) ≡ (used tag).plus
  refs_at tag = at_tag plus_of (λ count. count.plus) (λ o t count. refl) tag sums ∙ refs_are events sums counted tag

  derefs_at : (tag : List ℕ) → sum_by (at_key tag_cmp tag minus_of) (filter_map row_of sums) ≡ (used tag).minus
  derefs_at tag = at_tag minus_of (λ count. count.minus) (λ o t count. refl) tag sums ∙ derefs_are events sums counted tag

  objects_at : (tag : List ℕ) → sum_by (at_key tag_cmp tag objects_of) (filter_map row_of sums) ≡ length (differing_on tag)
  objects_at tag =
      at_tag objects_of (λ count. cond (differing count) 1 0) (λ o t count. differs_one count) tag sums
      ∙ number_of_objects events sums counted tag differing

  from_rows : (row : Balance) → Contains rows row → IsTagBalance events row
  from_rows row h =
      let is = row_is nat_list_cmp_total tag_same (filter_map row_of sums) rows added counts used (λ tag. length (differing_on tag))
      refs_at derefs_at objects_at row h in
      record { used = is.0; named = is.1; differing = (differing_on row.by, differ events sums counted row.by, is.2) }

  into_rows : (row : Balance) → IsTagBalance events row → Contains rows row
  into_rows row is =
      let r = key_has_row nat_list_cmp_total tag_same (filter_map row_of sums) rows added counts used (λ tag. length (differing_on tag))
      refs_at derefs_at objects_at row.by (subst IsPositive is.used is.named) in
      subst (Contains rows) (one_row events r.0 row (from_rows r.0 r.1) is r.2) r.1

  -- a row that is listed is one that is kept
  kept_row : (all : Bool) (row : Balance) → Contains (listed all rows) row ↔ (IsTagBalance events row × IsListed all row)
  kept_row true row = (λ h. (from_rows row h, tt), λ is. into_rows row is.0)
  kept_row false row = (
    λ h. (let kept = Contains-from_filter shows rows row h in (from_rows row kept.0, ltb-true 0 row.objects kept.1)),
    λ is. Contains-filter shows rows row (into_rows row is.0) (lt-ltb 0 row.objects is.1),
  )

  -- the rows that are listed, in order, are the balances of the definition
  pub are_balances : (all : Bool) (sorted : List Balance) → IsRising MostObjectsFirst sorted
      → ((row : Balance) → Contains sorted row ↔ Contains (listed all rows) row) → AreBalances events all sorted
  are_balances all sorted rising moved = record {
    rising = rising;
    members = λ row. (λ h. (kept_row all row).0 ((moved row).0 h), λ is. (moved row).1 ((kept_row all row).1 is));
  }

-- rows that are listed rise, where all do
rising_listed : (all : Bool) (rows : List Balance) → IsRising (ByKey tag_cmp) rows → IsRising (ByKey tag_cmp) (listed all rows)
rising_listed true rows rising = rising
rising_listed false rows rising = rising-filter (ByKey tag_cmp) shows rows rising

-- and their tags differ
pub tags_differ : (all : Bool) (rows : List Balance) → IsRising (ByKey tag_cmp) rows
    → IsRising (λ s t. s ≢ t) (map (λ (row : Balance). row.by) (listed all rows))
tags_differ all rows rising =
    IsRising-map (ByKey tag_cmp) (λ s t. s ≢ t) (λ (row : Balance). row.by) (λ x y less. apart nat_list_cmp_total tag_same x.by y.by less)
    (listed all rows) (rising_listed all rows rising)
