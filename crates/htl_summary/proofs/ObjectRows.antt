-- The rows of objects are those of the definition, and their number is that of the objects.
use Rattle.std.proofs.Common.{◌≡◌, ℕ, ◌+◌, ◌<◌, Bool, true, false, not, cond, ◌&&◌, ◌==◌, List, [], ◌∷◌, map}
use Rattle.std.proofs.Common.{Option, Some, None, refl, sym, ap, subst, ◌∙◌, arith, inl, inr}
use Rattle.std.specs.Prelude.{Contains, ◌↔◌, ◌⊎◌, length, count_by, filter, nat_lt}
use Rattle.std.specs.List.{sum_by, filter_map}
use Rattle.std.specs.Ordering.{nat_cmp, is_eq}
use Rattle.std.specs.Cmp.{unsigned_tied}
use Rattle.std.specs.FinMap.Entries.{find}
use Rattle.std.proofs.lemmas.Bool.{eqb-true, cases_lt, and_parts, ltb-true, lt-ltb}
use Rattle.std.proofs.lemmas.Cmp.{nat_eq_equiv}
use Rattle.std.proofs.lemmas.List.{length-map}
use Rattle.std.proofs.lemmas.List.Sums.{sum_by-cons, count_by-le-length}
use Rattle.std.proofs.lemmas.List.Sorted.{IsPermutation-refl}
use Rattle.htl_event.specs.Events.{Event}
use Rattle.htl_event.specs.declared.kind.Kind.{Kind}
use Rattle.htl_event.specs.declared.kind.Kind.TheVariants.{Opened, Closed, BadRef, Snapshot, Ref, Deref, Exited}
use Rattle.htl_event.specs.declared.slot.Slot.{Slot}
use Rattle.htl_event.specs.declared.slot.Slot.TheVariants.{Tagged, Handles, Bad}
use Rattle.htl_event.specs.declared.slot.Sign.{Sign}
use Rattle.htl_event.specs.declared.slot.Sign.TheVariants.{Plus, Minus}
use Rattle.htl_event.specs.declared.slot.Count.{Count}
use Rattle.htl_event.specs.declared.summary.ObjectRow.{ObjectRow}
use Rattle.htl_event.specs.Slots.{slot_of, slot_by_kind, is_slot, is_counted}
use Rattle.htl_event.specs.Members.{IsRising}
use Rattle.htl_event.specs.Tallies.{IsPositive, balance, ByTag, IsTags}
use Rattle.htl_event.specs.Summaries.{IsOfObject, IsObject, IsNumberOfObjects, is_unbalanced, IsObjectRow, MostUnbalancedFirst, IsUnbalanced}
use Rattle.htl_event.proofs.Members.{Contains-here, Contains-map, Contains-from_map}
use Rattle.htl_event.proofs.Members.{Contains-filter, Contains-from_filter}
use Rattle.htl_event.proofs.Counts.{counts_are_determined}
use Rattle.htl_sorted.specs.Entries.{IsSorted}
use Rattle.htl_tree.specs.Trees.{BySlot}
use Rattle.htl_answers.specs.Tags.{tag_row}
use Rattle.htl_answers.proofs.FilterMaps.{Contains-filter_map, Contains-from_filter_map, IsRising-filter_map}
use Rattle.htl_answers.proofs.Opens.{IsRising-map}
use Rattle.htl_answers.proofs.TagLemmas.{row_of, row_is, row_at, tags_rise}
use Rattle.htl_answers.specs.Sums.{times_of, ListsSlotSums}
use Rattle.htl_summary.specs.Totals.{by_owner, one_at, total_at}
use Rattle.htl_summary.specs.ObjectTags.{one_if_unbalanced, tag_of, both_objects}
use Rattle.htl_answers.proofs.NumberSums.{amount, sum_same, sum_filter_map}
use Rattle.htl_summary.proofs.Counting.{exists_one}
use Rattle.htl_summary.proofs.Totals.{found_row, row_there, total-amount, total-keeps, number_at}
use Rattle.htl_summary.proofs.SlotSums.{came}
use Rattle.htl_summary.proofs.Sorted.{keys_rise}

abbrev Sum : Type 0
Sum = Slot × Count

abbrev Balance : Type 0
Balance = List ℕ × Count

abbrev key : ObjectRow → ℕ
key row = row.object

-- what the sums say of an object
abbrev object_at : ℕ → List Sum → Option ObjectRow
object_at object sums = total_at key both_objects object (filter_map (λ (sum : Sum). tag_of sum.0 sum.1) sums)

-- the object has an unbalanced tag
abbrev pub shows : ObjectRow → Bool
shows row = nat_lt 0 row.unbalanced

-- ---- what the sums say of an object

-- the row of an object that has one tag
abbrev single : ℕ → Count → ObjectRow
single object count =
    record { object = object; tags = 1; unbalanced = one_if_unbalanced count; refs = count.plus; derefs = count.minus }

-- the number of an object in a slot, by its row and by its balance
tag_share : (g : ObjectRow → ℕ) (f : Balance → ℕ) → ((object : ℕ) (tag : List ℕ) (count : Count) → g (single object count) ≡ f (tag, count))
    → (object : ℕ) (slot : Slot) (count : Count)
    → amount (λ (row : ObjectRow). amount g (one_at key object row)) (tag_of slot count) ≡ amount f (tag_row object slot count)
tag_share g f same object (Tagged its tag) count =
    number_at key g object (single its count)
    ∙ ap (λ (b : Bool). cond b (g (single its count)) 0) (nat_eq_equiv.symm object its)
    ∙ (elim (its == object) as (λ b. cond b (g (single its count)) 0 ≡ amount f (cond b (Some (tag, count)) None))
    [ true ↦ same its tag count | false ↦ refl ])
tag_share g f same object (Handles p) count = refl
tag_share g f same object (Bad p h) count = refl

unbalanced_one : (b : Bool) → ◌≡◌ {A = ℕ} (cond b 0 1) (cond (not b) 1 0)
unbalanced_one true = refl
unbalanced_one false = refl

abbrev tags_number : ObjectRow → ℕ
tags_number row = row.tags

abbrev unbalanced_number : ObjectRow → ℕ
unbalanced_number row = row.unbalanced

abbrev refs_number : ObjectRow → ℕ
refs_number row = row.refs

abbrev derefs_number : ObjectRow → ℕ
derefs_number row = row.derefs

-- ones, one for each element, add up to the length
pub length_is_sum : {X : Type 0} (xs : List X) → sum_by (λ (x : X). 1) xs ≡ length xs
length_is_sum [] = refl
length_is_sum {X} (x ∷ xs) = let rest = length_is_sum xs in let both = sum_by-cons (λ (y : X). 1) x xs in omega (arith, rest, both)

-- a row with a tag, of the object
abbrev HasTag : ℕ → ObjectRow → Type 0
HasTag object row = (0 < row.tags) × (row.object ≡ object)

tagged_both : (object : ℕ) (x y : ObjectRow) → HasTag object x → HasTag object y → HasTag object (both_objects x y)
tagged_both object x y h k = let some = h.0 in (omega (arith, some), h.1)

tags_of_single : (slot : Slot) (count : Count) (row : ObjectRow) → tag_of slot count ≡ Some row → 0 < row.tags
tags_of_single (Tagged o t) count row e = let one : 1 ≡ row.tags = cc in omega (arith, one)
tags_of_single (Handles p) count row e = absurd cc
tags_of_single (Bad p h) count row e = absurd cc

some_member : {X : Type 0} (xs : List X) → 0 < length xs → (x : X) × Contains xs x
some_member [] lt = absurd (omega (arith, lt))
some_member (x ∷ xs) lt = (x, Contains-here x xs)

pub no_member : {X : Type 0} (xs : List X) (x : X) → Contains xs x → 0 < length xs
no_member xs x h = let lt = h.1 in omega (arith, lt)

module _ (events : List Event) (sums : List Sum) (listed : ListsSlotSums events sums) (object : ℕ) where
  abbrev of_slots : List ObjectRow
  of_slots = filter_map (λ (sum : Sum). tag_of sum.0 sum.1) sums

  -- the balances of the object's tags
  abbrev pub balances : List Balance
  balances = filter_map (row_of object) sums

  pub are_tags : IsTags events object balances
  are_tags = record {
    rising = IsRising-filter_map (λ (s t : Sum). BySlot s.0 t.0) ByTag (row_of object) (tags_rise object) sums listed.rising;
    members = λ row. (from_row row, into_row row);
  }
    where
      from_row : (row : Balance) → Contains balances row → (row.1 ≡ balance events object row.0) × IsPositive row.1
      from_row row h =
          let from = Contains-from_filter_map (row_of object) sums row h in
          let at = row_is object from.0.0 from.0.1 row from.2 in
          let sum = (listed.members from.0).0 from.1 in
          (at.count_is ∙ sum.0 ∙ ap (times_of events) at.slot_is, subst IsPositive (sym at.count_is) sum.1)

      into_row : (row : Balance) → (row.1 ≡ balance events object row.0) × IsPositive row.1 → Contains balances row
      into_row row h =
          let sum : Sum = (Tagged object row.0, row.1) in
          Contains-filter_map (row_of object) sums sum row ((listed.members sum).1 (h.0, h.1)) (row_at object row)

  number : (g : ObjectRow → ℕ) → ((x y : ObjectRow) → g (both_objects x y) ≡ g x + g y) → (f : Balance → ℕ)
      → ((o : ℕ) (tag : List ℕ) (count : Count) → g (single o count) ≡ f (tag, count))
      → amount g (object_at object sums) ≡ sum_by f balances
  number g adds f same =
      total-amount key both_objects g adds object of_slots
      ∙ sum_filter_map (λ (row : ObjectRow). amount g (one_at key object row)) (λ (sum : Sum). tag_of sum.0 sum.1) sums
      ∙ sum_same (λ (sum : Sum). amount (λ (row : ObjectRow). amount g (one_at key object row)) (tag_of sum.0 sum.1))
      (λ (sum : Sum). amount f (row_of object sum)) sums (λ sum h. tag_share g f same object sum.0 sum.1)
      ∙ sym (sum_filter_map f (row_of object) sums)

  pub tags_are : amount tags_number (object_at object sums) ≡ length balances
  tags_are = number tags_number (λ x y. refl) (λ (t : Balance). 1) (λ o tag count. refl) ∙ length_is_sum balances

  pub unbalanced_are : amount unbalanced_number (object_at object sums) ≡ count_by is_unbalanced balances
  unbalanced_are = number unbalanced_number (λ x y. refl) (λ (t : Balance). cond (is_unbalanced t) 1 0)
      (λ o tag count. unbalanced_one (count.plus == count.minus))

  pub refs_are : amount refs_number (object_at object sums) ≡ sum_by (λ (t : Balance). t.1.plus) balances
  refs_are = number refs_number (λ x y. refl) (λ (t : Balance). t.1.plus) (λ o tag count. refl)

  pub derefs_are : amount derefs_number (object_at object sums) ≡ sum_by (λ (t : Balance). t.1.minus) balances
  derefs_are = number derefs_number (λ x y. refl) (λ (t : Balance). t.1.minus) (λ o tag count. refl)

  -- the row of the object has a tag
  pub is_tagged : (row : ObjectRow) → object_at object sums ≡ Some row → HasTag object row
  is_tagged row e = total-keeps key both_objects (HasTag object) (tagged_both object) object of_slots each row e
    where
      each : (r : ObjectRow) → Contains of_slots r → is_eq (nat_cmp object r.object) ≡ true → HasTag object r
      each r h t =
          let from = Contains-from_filter_map (λ (sum : Sum). tag_of sum.0 sum.1) sums r h in
          (tags_of_single from.0.0 from.0.1 r from.2, sym (eqb-true object r.object (sym (unsigned_tied object r.object) ∙ t)))

  -- ---- events of the object

  of_object : (kind : Kind) (e : Event) (tag : List ℕ) (sign : Sign) → kind ≡ e.kind → is_slot (Tagged object tag) sign (slot_by_kind kind e) ≡ true
      → IsOfObject object e
  of_object Ref e tag sign is t =
      let parts = and_parts _ _ t in
      record { kind = inl (sym is); target = sym (eqb-true object e.object (and_parts _ _ parts.0).0) }
  of_object Deref e tag sign is t =
      let parts = and_parts _ _ t in
      record { kind = inr (sym is); target = sym (eqb-true object e.object (and_parts _ _ parts.0).0) }
  of_object Opened e tag sign is t = absurd cc
  of_object Closed e tag sign is t = absurd cc
  of_object BadRef e tag sign is t = absurd cc
  of_object Snapshot e tag sign is t = absurd cc
  of_object Exited e tag sign is t = absurd cc

  event_of_balance : (tag : List ℕ) → IsPositive (balance events object tag) → IsObject events object
  event_of_balance tag some = elim (cases_lt 0 (balance events object tag).plus) [
    | inl above ↦ from Plus above
    | inr none ↦ from Minus (omega (arith, some, none))
  ]
    where
      from : (sign : Sign) → 0 < count_by (λ (e : Event). is_counted (Tagged object tag) sign e && true) events → IsObject events object
      from sign lt =
          let one = exists_one (λ (e : Event). is_counted (Tagged object tag) sign e && true) events lt in
          let counted = (and_parts _ _ one.2).0 in
          (one.0, one.1, of_object one.0.kind one.0 tag sign refl counted)

  -- an object with an event has a balance
  balance_of_event : IsObject events object → 0 < length balances
  balance_of_event is =
      let e = is.0 in
      let came_so = slot_is is.2.kind is.2.target in
      let count = times_of events (Tagged object e.tag) in
      let some = came events e (Tagged object e.tag) came_so.0 is.1 came_so.1 in
      no_member balances (e.tag, count) ((are_tags.members (e.tag, count)).1 (refl, some))
    where
      slot_is : (is.0.kind ≡ Ref) ⊎ (is.0.kind ≡ Deref) → is.0.object ≡ object → (sign : Sign) × (slot_of is.0 ≡ Some (Tagged object is.0.tag, sign))
      slot_is (inl k) o = (Plus, ap (λ (kind : Kind). slot_by_kind kind is.0) k ∙ ap (λ (x : ℕ). Some (Tagged x is.0.tag, Plus)) o)
      slot_is (inr k) o = (Minus, ap (λ (kind : Kind). slot_by_kind kind is.0) k ∙ ap (λ (x : ℕ). Some (Tagged x is.0.tag, Minus)) o)

-- ---- rows

pub same_tags : (events : List Event) (object : ℕ) (a b : List Balance) → IsTags events object a → IsTags events object b → a ≡ b
same_tags events object a b = (counts_are_determined events events (IsPermutation-refl events)).tags object a b

pub one_row : (events : List Event) (a b : ObjectRow) → IsObjectRow events a → IsObjectRow events b → a.object ≡ b.object → a ≡ b
one_row events a b p q e =
    let its : IsTags events a.object q.balances = subst (λ (o : ℕ). IsTags events o q.balances) (sym e) q.all in
    let same = same_tags events a.object p.balances q.balances p.all its in
    let tags = p.number ∙ ap length same ∙ sym q.number in
    let unbalanced = p.differing ∙ ap (count_by is_unbalanced) same ∙ sym q.differing in
    let refs = p.plus ∙ ap (sum_by (λ (t : Balance). t.1.plus)) same ∙ sym q.plus in
    let derefs = p.minus ∙ ap (sum_by (λ (t : Balance). t.1.minus)) same ∙ sym q.minus in
    λ i. record { object = e i; tags = tags i; unbalanced = unbalanced i; refs = refs i; derefs = derefs i }

module _ (events : List Event) (sums : List Sum) (rows : List ObjectRow) (listed : ListsSlotSums events sums)
    (ordered : IsSorted nat_cmp (by_owner key rows)) (values : (object : ℕ) → find nat_cmp object (by_owner key rows) ≡ object_at object sums) where
  at_row : (row : ObjectRow) → Contains rows row → object_at row.object sums ≡ Some row
  at_row row h = sym (values row.object) ∙ row_there key rows ordered row h

  from_rows : (row : ObjectRow) → Contains rows row → IsObjectRow events row
  from_rows row h =
      let at = at_row row h in
      let tags_at = ap (amount tags_number) at in
      let unbalanced_at = ap (amount unbalanced_number) at in
      let refs_at = ap (amount refs_number) at in
      let derefs_at = ap (amount derefs_number) at in
      record {
        balances = balances events sums listed row.object;
        all = are_tags events sums listed row.object;
        number = sym tags_at ∙ tags_are events sums listed row.object;
        differing = sym unbalanced_at ∙ unbalanced_are events sums listed row.object;
        plus = sym refs_at ∙ refs_are events sums listed row.object;
        minus = sym derefs_at ∙ derefs_are events sums listed row.object;
      }

  -- an object with a tag has a row
  row_of_object : (object : ℕ) → 0 < length (balances events sums listed object) → (row : ObjectRow) × Contains rows row × (row.object ≡ object)
  row_of_object object some = go (object_at object sums) refl
    where
      go : (o : Option ObjectRow) → object_at object sums ≡ o → (row : ObjectRow) × Contains rows row × (row.object ≡ object)
      go None none =
          let number = tags_are events sums listed object in
          let zero = ap (amount tags_number) none in
          absurd (omega (arith, some, number, zero))
      go (Some row) at =
          let found = found_row key object row rows (values object ∙ at) in
          (found.0, found.1, ap key found.2 ∙ (is_tagged events sums listed object row at).1)

  -- there are as many rows as objects with an event
  pub are_objects : IsNumberOfObjects events (length rows)
  are_objects = (
    map key rows,
    record {
      rising = IsRising-map (λ a b. key a < key b) (λ a b. a < b) key (λ a b lt. lt) rows (keys_rise key (λ row. row) rows ordered);
      members = λ object. (from_key object, into_key object);
    },
    sym (length-map rows key),
  )
    where
      from_key : (object : ℕ) → Contains (map key rows) object → IsObject events object
      from_key object h =
          let from = Contains-from_map key rows object h in
          let at = at_row from.0 from.1 in
          let tagged = (is_tagged events sums listed from.0.object from.0 at).0 in
          let number = tags_are events sums listed from.0.object in
          let is = ap (amount tags_number) at in
          let some = some_member (balances events sums listed from.0.object) (omega (arith, tagged, number, is)) in
          let of = ((are_tags events sums listed from.0.object).members some.0).0 some.1 in
          subst (IsObject events) from.2
          (event_of_balance events sums listed from.0.object some.0.0 (subst IsPositive of.0 of.1))

      into_key : (object : ℕ) → IsObject events object → Contains (map key rows) object
      into_key object is =
          let row = row_of_object object (balance_of_event events sums listed object is) in
          subst (Contains (map key rows)) row.2 (Contains-map key rows row.0 row.1)

  into_rows : (row : ObjectRow) → IsObjectRow events row → 0 < row.unbalanced → Contains rows row
  into_rows row is some =
      let same = same_tags events row.object is.balances (balances events sums listed row.object) is.all
      (are_tags events sums listed row.object) in
      let number = is.differing in
      let upto = count_by-le-length is_unbalanced is.balances in
      let len = ap length same in
      let found = row_of_object row.object (omega (arith, some, number, upto, len)) in
      subst (Contains rows) (one_row events found.0 row (from_rows found.0 found.1) is found.2) found.1

  -- the rows with an unbalanced tag, put in order, are the unbalanced objects
  pub are_unbalanced : (sorted : List ObjectRow) → IsRising MostUnbalancedFirst sorted
      → ((row : ObjectRow) → Contains sorted row ↔ Contains (filter shows rows) row) → IsUnbalanced events sorted
  are_unbalanced sorted up moved = record {
    rising = up;
    members = λ row. (
      (λ h. let kept = Contains-from_filter shows rows row ((moved row).0 h) in
          (from_rows row kept.0, ltb-true 0 row.unbalanced kept.1)),
      (λ is. (moved row).1 (Contains-filter shows rows row (into_rows row is.0 is.1) (lt-ltb 0 row.unbalanced is.1))),
    );
  }
