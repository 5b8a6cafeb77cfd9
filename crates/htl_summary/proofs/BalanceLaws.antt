-- What is counted under a tag is the sum of its balances on all objects, and the objects of all balances are the unbalanced tags of all objects.
use Rattle.std.proofs.Common.{◌≡◌, ◌≢◌, ℕ, Bool, true, false, cond, ◌&&◌, ◌==◌, List, [], ◌∷◌, refl, sym, ap, ◌∙◌, arith, nat_eq, inl, inr, ◌<◌, ◌≤◌}
use Rattle.std.proofs.Common.{length, Some, None, subst}
use Rattle.std.specs.Prelude.{Contains, count_by}
use Rattle.std.specs.List.{sum_by}
use Rattle.std.specs.Cmp.{unsigned_Decides}
use Rattle.std.specs.Cmp.Lexicographic.{pointwise, pointwise_decides}
use Rattle.std.proofs.lemmas.Bool.{cases_Bool, eqb-true, eq-eqb, and_parts}
use Rattle.std.proofs.lemmas.Bool.Decides.{same_from_decides}
use Rattle.std.proofs.lemmas.List.Sums.{sum_by-cons, get_or-le-sum_by}
use Rattle.htl_event.specs.Events.{Event}
use Rattle.htl_event.specs.declared.kind.Kind.{Kind}
use Rattle.htl_event.specs.declared.kind.Kind.TheVariants.{Opened, Closed, BadRef, Snapshot, Ref, Deref, Exited}
use Rattle.htl_event.specs.declared.slot.Slot.TheVariants.{Tagged, Handles, Bad}
use Rattle.htl_event.specs.declared.slot.Sign.{Sign}
use Rattle.htl_event.specs.declared.slot.Sign.TheVariants.{Plus, Minus}
use Rattle.htl_event.specs.Slots.{slot_by_kind, is_slot, is_counted}
use Rattle.htl_event.specs.Balances.{is_ref, is_deref, has_tag, Balance, references_where, DiffersOn, IsListed, MostObjectsFirst, AreBalances}
use Rattle.htl_event.specs.Interests.{names_object}
use Rattle.htl_event.specs.Members.{IsRising}
use Rattle.htl_event.specs.Tallies.{times, IsPositive}
use Rattle.htl_answers.proofs.NumberSums.{sum_same, sum_zero, sum_swap, none_or_none, amount, sum_filter_map}
use Rattle.htl_summary.proofs.Counting.{sum_where_one, positive_somewhere, count_one}
use Rattle.htl_summary.proofs.Placed.{rising_members}
use Rattle.htl_summary.specs.BalanceLaws.{AreObjectsOf, sum_of_balances, TagIsSumOfObjects, BalancesAddUp}
use Rattle.htl_event.specs.declared.slot.Slot.{Slot}
use Rattle.htl_event.specs.declared.slot.Count.{Count}
use Rattle.htl_event.specs.declared.summary.ObjectRow.{ObjectRow}
use Rattle.htl_event.specs.Summaries.{is_unbalanced, MostUnbalancedFirst, IsUnbalanced}
use Rattle.htl_event.proofs.Balanced.{MostObjectsFirst-strict}
use Rattle.htl_event.proofs.Summarized.{MostUnbalancedFirst-strict}
use Rattle.htl_answers.specs.Sums.{ListsSlotSums}
use Rattle.htl_answers.proofs.TagLemmas.{row_of}
use Rattle.htl_summary.proofs.ListedSums.{slot_sums}
use Rattle.htl_summary.proofs.ObjectRows.{no_member, balances, are_tags, same_tags as same_balances, one_row as one_object_row}
use Rattle.htl_summary.proofs.TagRows.{differing, differ, one_number, one_row as one_tag_row, of_tag, same_tags, own_tag, refs_are, derefs_are}
use Rattle.htl_summary.proofs.TagRows.{objects, number_of_objects}

-- ==== what is counted under a tag

-- ---- an object stands once

abbrev where_same : ℕ → ℕ → ℕ → ℕ
where_same k n object = cond (object == k) n 0

once : (k n : ℕ) (objects : List ℕ) → IsRising (λ a b. a ≢ b) objects → Contains objects k → sum_by (where_same k n) objects ≡ n
once k n objects apart h =
    sum_where_one (λ (object : ℕ). object == k) (λ object. n) objects
    (rising_members (λ a b. a ≢ b) _ objects (λ a b in_a in_b differ of_a of_b. differ (eqb-true a k of_a ∙ sym (eqb-true b k of_b))) apart) k h
    (eq-eqb k k refl)

-- ---- one event

-- the kind counts on this side
abbrev on_side : Sign → Kind → Bool
on_side Plus kind = is_ref kind
on_side Minus kind = is_deref kind

side_named : (sign : Sign) (kind : Kind) → on_side sign kind ≡ true → names_object kind ≡ true
side_named Plus Ref e = refl
side_named Minus Deref e = refl
side_named Plus Opened e = absurd cc
side_named Plus Closed e = absurd cc
side_named Plus BadRef e = absurd cc
side_named Plus Snapshot e = absurd cc
side_named Plus Deref e = absurd cc
side_named Plus Exited e = absurd cc
side_named Minus Opened e = absurd cc
side_named Minus Closed e = absurd cc
side_named Minus BadRef e = absurd cc
side_named Minus Snapshot e = absurd cc
side_named Minus Ref e = absurd cc
side_named Minus Exited e = absurd cc

tags_turned : (a b : List ℕ) → pointwise nat_eq a b ≡ pointwise nat_eq b a
tags_turned a b =
    same_from_decides (pointwise nat_eq a b) (pointwise nat_eq b a) (pointwise_decides unsigned_Decides a b)
    ((λ e. sym ((pointwise_decides unsigned_Decides b a).0 e)), λ e. (pointwise_decides unsigned_Decides b a).1 (sym e))

counts : (a b c : Bool) → ◌≡◌ {A = ℕ} (cond (((a && b) && c) && true) 1 0) (cond a (cond (c && b) 1 0) 0)
counts true true true = refl
counts true true false = refl
counts true false true = refl
counts true false false = refl
counts false b c = refl

abbrev one_if : Bool → ℕ
one_if b = cond b 1 0

module _ (tag : List ℕ) where
  abbrev w : Sign → ℕ → Event → ℕ
  w sign object e = cond (is_counted (Tagged object tag) sign e && true) 1 0

  tagged : (b : Bool) (object : ℕ) (e : Event)
      → ◌≡◌ {A = ℕ} (cond (((object == e.object && pointwise nat_eq tag e.tag) && b) && true) 1 0) (where_same e.object (one_if (b && has_tag tag e)) object)
  tagged b object e =
      counts (object == e.object) (pointwise nat_eq tag e.tag) b
      ∙ ap (λ (t : Bool). cond (object == e.object) (one_if (b && t)) 0) (tags_turned tag e.tag)

  none : (object : ℕ) (e : Event) → ◌≡◌ {A = ℕ} 0 (where_same e.object 0 object)
  none object e = sym (none_or_none (object == e.object))

  -- an event is counted under the tag of its own object
  as_where : (sign : Sign) (kind : Kind) (object : ℕ) (e : Event)
      → ◌≡◌ {A = ℕ} (cond (is_slot (Tagged object tag) sign (slot_by_kind kind e) && true) 1 0)
      (where_same e.object (one_if (on_side sign kind && has_tag tag e)) object)
  as_where Plus Ref object e = tagged true object e
  as_where Plus Deref object e = tagged false object e
  as_where Minus Ref object e = tagged false object e
  as_where Minus Deref object e = tagged true object e
  as_where Plus Opened object e = none object e
  as_where Plus Closed object e = none object e
  as_where Plus BadRef object e = none object e
  as_where Plus Snapshot object e = none object e
  as_where Plus Exited object e = none object e
  as_where Minus Opened object e = none object e
  as_where Minus Closed object e = none object e
  as_where Minus BadRef object e = none object e
  as_where Minus Snapshot object e = none object e
  as_where Minus Exited object e = none object e

  -- ---- all events

  module _ (events : List Event) (objects : List ℕ) (are : AreObjectsOf events tag objects) (sign : Sign) where
    abbrev hits : Event → Bool
    hits e = on_side sign e.kind && has_tag tag e

    one_event : (e : Event) → Contains events e → sum_by (λ (object : ℕ). w sign object e) objects ≡ one_if (hits e)
    one_event e h =
        sum_same (λ (object : ℕ). w sign object e) (where_same e.object (one_if (hits e))) objects (λ object k. as_where sign e.kind object e)
        ∙ (elim (cases_Bool (hits e)) [
          | inl counted ↦
              let parts = and_parts _ _ counted in
              once e.object (one_if (hits e)) objects are.apart
              (are.all e h (side_named sign e.kind parts.0) ((pointwise_decides unsigned_Decides e.tag tag).0 parts.1))
          | inr not ↦
              sum_same (where_same e.object (one_if (hits e))) (λ (object : ℕ). 0) objects
              (λ object k. ap (λ (b : Bool). cond (object == e.object) (one_if b) 0) not ∙ none_or_none (object == e.object))
              ∙ sum_zero objects ∙ sym (ap (λ (b : Bool). one_if b) not)
        ])

    total : sum_by (λ (object : ℕ). times (λ e. true) events (Tagged object tag) sign) objects ≡ count_by hits events
    total =
        sum_swap (w sign) objects events
        ∙ sum_same (λ (e : Event). sum_by (λ (object : ℕ). w sign object e) objects) (λ (e : Event). one_if (hits e)) events one_event

  sum_plus : (events : List Event) (objects : List ℕ)
      → (sum_of_balances events tag objects).plus ≡ sum_by (λ (object : ℕ). times (λ e. true) events (Tagged object tag) Plus) objects
  sum_plus events [] = refl
  sum_plus events (o ∷ objects) =
      let rest = sum_plus events objects in
      let both = sum_by-cons (λ (object : ℕ). times (λ e. true) events (Tagged object tag) Plus) o objects in
      omega (arith, rest, both)

  sum_minus : (events : List Event) (objects : List ℕ)
      → (sum_of_balances events tag objects).minus ≡ sum_by (λ (object : ℕ). times (λ e. true) events (Tagged object tag) Minus) objects
  sum_minus events [] = refl
  sum_minus events (o ∷ objects) =
      let rest = sum_minus events objects in
      let both = sum_by-cons (λ (object : ℕ). times (λ e. true) events (Tagged object tag) Minus) o objects in
      omega (arith, rest, both)

-- what is counted under a tag is the sum of its balances on all objects
pub tag_is_sum_of_objects : TagIsSumOfObjects
tag_is_sum_of_objects events tag objects are =
    let plus = sum_plus tag events objects ∙ total tag events objects are Plus in
    let minus = sum_minus tag events objects ∙ total tag events objects are Minus in
    λ i. record { plus = sym plus i; minus = sym minus i }

-- ==== the objects of all balances

abbrev Sum : Type 0
Sum = Slot × Count

-- a member's term isn't above the sum
member_upto : {X : Type 0} (f : X → ℕ) (xs : List X) (x : X) → Contains xs x → f x ≤ sum_by f xs
member_upto f xs x (i, within, is) = subst (λ y. f y ≤ sum_by f xs) is (get_or-le-sum_by f xs i x within)

-- what each key has, where one has it, is what is there
each_once : {K : Type 0} (has : K → Bool) (ks : List K) (b : Bool) → (b ≡ true → count_by has ks ≡ 1)
    → sum_by (λ k. cond (has k) (cond b 1 0) 0) ks ≡ cond b 1 0
each_once has ks true one = one refl
each_once {K} has ks false one = sum_same (λ (k : K). cond (has k) 0 0) (λ (k : K). 0) ks (λ k h. none_or_none (has k)) ∙ sum_zero ks

listed_so : (all : Bool) (row : Balance) → 0 < row.objects → IsListed all row
listed_so true row some = tt
listed_so false row some = some

-- one, where the slot is a tag's that differs
abbrev pair : Slot → Count → ℕ
pair (Tagged object tag) count = cond (differing count) 1 0
pair other count = 0

module _ (events : List Event) (sums : List Sum) (listed : ListsSlotSums events sums) where
  abbrev pairs : ℕ
  pairs = sum_by (λ (sum : Sum). pair sum.0 sum.1) sums

  abbrev Pair : ℕ → List ℕ → Count → Type 0
  Pair object tag count = Contains sums (Tagged object tag, count) × (differing count ≡ true)

  -- ---- of each tag

  -- a tag of a sum was named
  named : (object : ℕ) (tag : List ℕ) (count : Count) → Pair object tag count → IsPositive (references_where (has_tag tag) events)
  named object tag count is =
      let some = ((listed.members (Tagged object tag, count)).0 is.0).1 in
      let plus : count.plus ≤ (references_where (has_tag tag) events).plus =
      subst (λ n. count.plus ≤ n) (refs_are events sums listed tag) (upto (λ c. c.plus)) in
      let minus : count.minus ≤ (references_where (has_tag tag) events).minus =
      subst (λ n. count.minus ≤ n) (derefs_are events sums listed tag) (upto (λ c. c.minus)) in
      omega (arith, some, plus, minus)
    where
      upto : (number : Count → ℕ) → number count ≤ sum_by (of_tag tag number) sums
      upto number =
          subst (λ (n : ℕ). n ≤ sum_by (of_tag tag number) sums) (ap (λ (b : Bool). cond b (number count) 0) (own_tag tag))
          (member_upto (of_tag tag number) sums (Tagged object tag, count) is.0)

  abbrev row_of_tag : List ℕ → Balance
  row_of_tag tag =
      record { by = tag; count = references_where (has_tag tag) events; objects = length (objects events sums listed tag differing) }

  module _ (all : Bool) (tags : List Balance) (are : AreBalances events all tags) where
    abbrev tag_share : Balance → Sum → ℕ
    tag_share row sum = of_tag row.by (λ count. cond (differing count) 1 0) sum

    objects_so : (row : Balance) → Contains tags row → row.objects ≡ sum_by (tag_share row) sums
    objects_so row h =
        one_number (DiffersOn events row.by) row.objects (length (objects events sums listed row.by differing)) ((are.members row).0 h).0.differing
        (objects events sums listed row.by differing, differ events sums listed row.by, refl)
        ∙ sym (number_of_objects events sums listed row.by differing)

    -- no two rows are of one tag
    tags_apart : (tag : List ℕ) → IsRising (λ a b. pointwise nat_eq tag a.by ≡ true → pointwise nat_eq tag b.by ≡ true → ⊥) tags
    tags_apart tag = rising_members MostObjectsFirst _ tags (λ a b in_a in_b before of_a of_b.
        let same : a ≡ b = one_tag_row events a b ((are.members a).0 in_a).0 ((are.members b).0 in_b).0
        (sym (same_tags tag a.by of_a) ∙ same_tags tag b.by of_b) in
        MostObjectsFirst-strict.irreflexive b (subst (λ x. MostObjectsFirst x b) same before)) are.rising

    tag_there : (object : ℕ) (tag : List ℕ) (count : Count) → Pair object tag count → Contains tags (row_of_tag tag)
    tag_there object tag count is =
        let its = differ events sums listed tag in
        let on : DiffersOn events tag object =
        subst (λ (c : Count). differing c ≡ true) ((listed.members (Tagged object tag, count)).0 is.0).0 is.1 in
        (are.members (row_of_tag tag)).1 (
          record {
            used = refl;
            named = named object tag count is;
            differing = (objects events sums listed tag differing, its, refl);
          },
          listed_so all (row_of_tag tag) (no_member (objects events sums listed tag differing) object ((its.members object).1 on)),
        )

    tags_once : (slot : Slot) (count : Count) → Contains sums (slot, count)
        → sum_by (λ (row : Balance). tag_share row (slot, count)) tags ≡ pair slot count
    tags_once (Tagged object tag) count h =
        each_once (λ (row : Balance). pointwise nat_eq tag row.by) tags (differing count) (λ differs.
        count_one (λ (row : Balance). pointwise nat_eq tag row.by) tags (tags_apart tag) (row_of_tag tag)
        (tag_there object tag count (h, differs)) (own_tag tag))
    tags_once (Handles p) count h = sum_zero tags
    tags_once (Bad p handle) count h = sum_zero tags

    by_tag : sum_by (λ (row : Balance). row.objects) tags ≡ pairs
    by_tag =
        sum_same (λ (row : Balance). row.objects) (λ (row : Balance). sum_by (tag_share row) sums) tags objects_so
        ∙ sum_swap tag_share tags sums
        ∙ sum_same (λ (sum : Sum). sum_by (λ (row : Balance). tag_share row sum) tags) (λ (sum : Sum). pair sum.0 sum.1) sums
        (λ sum h. tags_once sum.0 sum.1 h)

  -- ---- of each object

  abbrev its_tags : ℕ → List (List ℕ × Count)
  its_tags object = balances events sums listed object

  abbrev row_of_object : ℕ → ObjectRow
  row_of_object object = record {
    object = object;
    tags = length (its_tags object);
    unbalanced = count_by is_unbalanced (its_tags object);
    refs = sum_by (λ (tag : List ℕ × Count). tag.1.plus) (its_tags object);
    derefs = sum_by (λ (tag : List ℕ × Count). tag.1.minus) (its_tags object);
  }

  module _ (rows : List ObjectRow) (are : IsUnbalanced events rows) where
    abbrev one_if_differing : List ℕ × Count → ℕ
    one_if_differing tag = cond (is_unbalanced tag) 1 0

    abbrev object_share : ObjectRow → Sum → ℕ
    object_share row sum = amount one_if_differing (row_of row.object sum)

    unbalanced_so : (row : ObjectRow) → Contains rows row → row.unbalanced ≡ sum_by (object_share row) sums
    unbalanced_so row h =
        let is = ((are.members row).0 h).0 in
        is.differing
        ∙ ap (count_by is_unbalanced)
        (same_balances events row.object is.balances (its_tags row.object) is.all (are_tags events sums listed row.object))
        ∙ sum_filter_map one_if_differing (row_of row.object) sums

    -- no two rows are of one object
    objects_apart : (object : ℕ) → IsRising (λ a b. (object == a.object) ≡ true → (object == b.object) ≡ true → ⊥) rows
    objects_apart object = rising_members MostUnbalancedFirst _ rows (λ a b in_a in_b before of_a of_b.
        let same : a ≡ b = one_object_row events a b ((are.members a).0 in_a).0 ((are.members b).0 in_b).0
        (sym (eqb-true object a.object of_a) ∙ eqb-true object b.object of_b) in
        MostUnbalancedFirst-strict.irreflexive b (subst (λ x. MostUnbalancedFirst x b) same before)) are.rising

    object_there : (object : ℕ) (tag : List ℕ) (count : Count) → Pair object tag count → Contains rows (row_of_object object)
    object_there object tag count is =
        let all = are_tags events sums listed object in
        let here = (all.members (tag, count)).1 ((listed.members (Tagged object tag, count)).0 is.0) in
        (are.members (row_of_object object)).1 (
          record { balances = its_tags object; all = all; number = refl; differing = refl; plus = refl; minus = refl },
          positive_somewhere is_unbalanced (its_tags object) (tag, count) here is.1,
        )

    share_so : (b : Bool) (tag : List ℕ) (count : Count)
        → amount one_if_differing (cond b (Some (tag, count)) None) ≡ cond b (cond (differing count) 1 0) 0
    share_so true tag count = refl
    share_so false tag count = refl

    objects_once : (slot : Slot) (count : Count) → Contains sums (slot, count)
        → sum_by (λ (row : ObjectRow). object_share row (slot, count)) rows ≡ pair slot count
    objects_once (Tagged object tag) count h =
        sum_same (λ (row : ObjectRow). object_share row (Tagged object tag, count))
        (λ (row : ObjectRow). cond (object == row.object) (cond (differing count) 1 0) 0) rows (λ row k. share_so (object == row.object) tag count)
        ∙ each_once (λ (row : ObjectRow). object == row.object) rows (differing count) (λ differs.
        count_one (λ (row : ObjectRow). object == row.object) rows (objects_apart object) (row_of_object object)
        (object_there object tag count (h, differs)) (eq-eqb object object refl))
    objects_once (Handles p) count h = sum_zero rows
    objects_once (Bad p handle) count h = sum_zero rows

    by_object : sum_by (λ (row : ObjectRow). row.unbalanced) rows ≡ pairs
    by_object =
        sum_same (λ (row : ObjectRow). row.unbalanced) (λ (row : ObjectRow). sum_by (object_share row) sums) rows unbalanced_so
        ∙ sum_swap object_share rows sums
        ∙ sum_same (λ (sum : Sum). sum_by (λ (row : ObjectRow). object_share row sum) rows) (λ (sum : Sum). pair sum.0 sum.1) sums
        (λ sum h. objects_once sum.0 sum.1 h)

-- the objects of all balances are the unbalanced tags of all objects
pub balances_add_up : (events : List Event) → BalancesAddUp events
balances_add_up events all tags rows are_tags are_rows =
    let (sums, listed) = slot_sums events in
    by_tag events sums listed all tags are_tags ∙ sym (by_object events sums listed rows are_rows)
