-- Each answer about counts can be computed: a function gives it, wherever its rows rise.
use Rattle.std.proofs.Common.{◌≡◌, ℕ, ◌+◌, ◌<◌, ◌≤◌, Bool, true, cond, List, [], ◌∷◌, Option, refl, sym, ap, subst, arith, inl, inr, ◌&&◌, nat_eq}
use Rattle.std.specs.Prelude.{Contains, ◌==◌, ◌↔◌, nat_lt, nat_le, if◌then◌else◌, count_by, map}
use Rattle.std.specs.Ordering.{nat_cmp, is_lt, ordering_then}
use Rattle.std.specs.Cmp.{unsigned_Decides}
use Rattle.std.specs.Cmp.Lexicographic.{slice_cmp, pointwise, pointwise_decides}
use Rattle.std.specs.declared.cmp.Ordering.{Ordering}
use Rattle.std.specs.declared.cmp.Ordering.TheVariants.{Less}
use Rattle.std.proofs.lemmas.Bool.{and_parts, cases_lt, cases_Bool, eqb-true, leb-true, leb-false, ltb-true, lt-ltb}
use Rattle.std.proofs.lemmas.List.Sums.{sum_by-cons}
use Rattle.htl_event.specs.Events.{Event}
use Rattle.htl_event.specs.declared.kind.Kind.{Kind}
use Rattle.htl_event.specs.declared.kind.Kind.TheVariants.{BadRef, Ref, Deref}
use Rattle.htl_event.specs.declared.slot.Slot.{Slot}
use Rattle.htl_event.specs.declared.slot.Slot.TheVariants.{Tagged, Bad}
use Rattle.htl_event.specs.declared.slot.Sign.{Sign}
use Rattle.htl_event.specs.declared.slot.Sign.TheVariants.{Plus, Minus}
use Rattle.htl_event.specs.declared.slot.Count.{Count}
use Rattle.htl_event.specs.Slots.{slot_by_kind, is_slot, is_counted}
use Rattle.htl_event.specs.Stacks.{stack_cmp}
use Rattle.htl_event.specs.Members.{Lists}
use Rattle.htl_event.specs.Tallies.{total_of, times, count_where, has_stack, tally, balance, IsTags, IsStacks, IsBad}
use Rattle.htl_event.specs.Tallies.{MostFirst, AreOpenSince, IsLeaksSince}
use Rattle.htl_event.proofs.Members.{Contains-here, Contains-there, Contains-map}
use Rattle.htl_event.proofs.Ordered.{is_rising, ordered, rows_where, Contains-rows_where, Lists-ordered}

-- ---- keys of what was counted

-- a positive count has an element that passes
counted : {X : Type 0} (p : X → Bool) (xs : List X) → 0 < count_by p xs → (x : X) × Contains xs x × (p x ≡ true)
counted p [] h = absurd (omega (arith, h))
counted p (x ∷ xs) h = elim (cases_Bool (p x)) [
  | inl holds ↦ (x, Contains-here x xs, holds)
  | inr fails ↦
      let split : count_by p (x ∷ xs) ≡ cond (p x) 1 0 + count_by p xs = sum_by-cons (λ y. cond (p y) 1 0) x xs in
      let none : cond (p x) 1 0 < 1 = rw fails (omega arith) in
      let r = counted p xs (omega (arith, h, split, none)) in
      (r.0, Contains-there x xs r.0 r.1, r.2)
]

-- a key with a positive count is the key of an element, where those that count for a key have it
key_counted : {K X : Type 0} (p : K → X → Bool) (key : X → K) → ((k : K) (x : X) → p k x ≡ true → key x ≡ k)
    → (xs : List X) (k : K) → 0 < count_by (p k) xs → Contains (map key xs) k
key_counted p key has xs k h =
    let r = counted (p k) xs h in subst (Contains (map key xs)) (has k r.0 r.2) (Contains-map key xs r.0 r.1)

-- so it is where either side of the key's slot was counted
key_of_slot : (slot : List ℕ → Slot) (passes : List ℕ → Event → Bool) (key : Event → List ℕ)
    → ((k : List ℕ) (sign : Sign) (e : Event) → is_counted (slot k) sign e && passes k e ≡ true → key e ≡ k)
    → (es : List Event) (k : List ℕ) → 0 < total_of (count_where (passes k) es (slot k)) → Contains (map key es) k
key_of_slot slot passes key has es k h =
    elim (cases_lt 0 (times (passes k) es (slot k) Plus)) [ inl some ↦ side Plus some | inr none ↦ side Minus (omega arith) ]
  where
    side : (sign : Sign) → 0 < times (passes k) es (slot k) sign → Contains (map key es) k
    side sign = key_counted (λ j e. is_counted (slot j) sign e && passes j e) key (λ j. has j sign) es k

-- ---- rows of keys with what was counted under them

abbrev pub comes_first : {X : Type 0} → (X → X → Ordering) → X → X → Bool
comes_first cmp x y = is_lt (cmp x y)

pub is_lt-Less : (o : Ordering) → is_lt o ≡ true → o ≡ Less
is_lt-Less Less e = refl
is_lt-Less o e = absurd cc

abbrev pub same_list : List ℕ → List ℕ → Bool
same_list = pointwise nat_eq

pub same_list-exact : (xs ys : List ℕ) → same_list xs ys ≡ true → xs ≡ ys
same_list-exact xs ys = (pointwise_decides unsigned_Decides xs ys).0

module _ {V : Type 0} (cmp : List ℕ × V → List ℕ × V → Ordering) (value : List ℕ → V) (size : V → ℕ) (keys : List (List ℕ)) where
  abbrev came : List ℕ → Bool
  came k = nat_lt 0 (size (value k))

  abbrev row : List ℕ → List ℕ × V
  row k = (k, value k)

  abbrev IsRow : List ℕ × V → Type 0
  IsRow r = (r.1 ≡ value r.0) × (0 < size r.1)

  abbrev rows_of : List (List ℕ × V)
  rows_of = ordered (comes_first cmp) (rows_where same_list came row keys)

  has_key : ((k : List ℕ) → 0 < size (value k) → Contains keys k) → (r : List ℕ × V) → IsRow r
      → (k : List ℕ) × Contains keys k × (came k ≡ true) × (row k ≡ r)
  has_key covers r h =
      let some : 0 < size (value r.0) = rw (← h.0) h.1 in
      (r.0, covers r.0 some, lt-ltb 0 _ some, ap (λ (v : V). (r.0, v)) (sym h.0))

  -- where the keys have all that were counted
  Lists-rows_of : ((k : List ℕ) → 0 < size (value k) → Contains keys k) → is_rising (comes_first cmp) rows_of ≡ true
      → Lists (λ x y. cmp x y ≡ Less) IsRow rows_of
  Lists-rows_of covers =
      Lists-ordered _ _ (λ x y. is_lt-Less (cmp x y)) IsRow _ (
      Contains-rows_where same_list same_list-exact came row IsRow keys (λ k some. (refl, ltb-true 0 _ some)) (has_key covers))

-- ---- tags

abbrev pub by_tag : List ℕ × Count → List ℕ × Count → Ordering
by_tag a b = slice_cmp nat_cmp a.0 b.0

abbrev pub tags_of : List Event → ℕ → List (List ℕ × Count)
tags_of es object = rows_of by_tag (balance es object) total_of (map (λ e. e.tag) es)

-- what counts under a tag has it
counted_tag : (kind : Kind) (e : Event) (object : ℕ) (tag : List ℕ) (sign : Sign)
    → is_slot (Tagged object tag) sign (slot_by_kind kind e) ≡ true → e.tag ≡ tag
counted_tag Ref e object tag sign h = sym (same_list-exact tag e.tag (and_parts _ _ (and_parts _ _ h).0).1)
counted_tag Deref e object tag sign h = sym (same_list-exact tag e.tag (and_parts _ _ (and_parts _ _ h).0).1)
counted_tag kind e object tag sign h = absurd cc

-- the computed tag balances of an object are its tag balances, where they rise by tag
pub IsTags-tags_of : (es : List Event) (object : ℕ) → is_rising (comes_first by_tag) (tags_of es object) ≡ true
    → IsTags es object (tags_of es object)
IsTags-tags_of es object =
    Lists-rows_of by_tag (balance es object) total_of (map (λ e. e.tag) es) (
    key_of_slot (Tagged object) (λ k e. true) (λ e. e.tag) (λ k sign e h. counted_tag e.kind e object k sign (and_parts _ _ h).0) es)

-- ---- reference stacks

abbrev pub by_stack : List ℕ × Count → List ℕ × Count → Ordering
by_stack a b = stack_cmp a.0 b.0

abbrev pub stacks_of : List Event → ℕ → List ℕ → List (List ℕ × Count)
stacks_of es object tag = rows_of by_stack (tally es (Tagged object tag)) total_of (map (λ e. e.stack) es)

-- the computed reference stacks of an object and tag are those of the definition, where they rise in stack order
pub IsStacks-stacks_of : (es : List Event) (object : ℕ) (tag : List ℕ) → is_rising (comes_first by_stack) (stacks_of es object tag) ≡ true
    → IsStacks es object tag (stacks_of es object tag)
IsStacks-stacks_of es object tag =
    Lists-rows_of by_stack (tally es (Tagged object tag)) total_of (map (λ e. e.stack) es) (
    key_of_slot (λ k. Tagged object tag) has_stack (λ e. e.stack) (λ k sign e h. same_list-exact e.stack k (and_parts _ _ h).1) es)

-- ---- leaking stacks

abbrev pub most_first : List ℕ × ℕ → List ℕ × ℕ → Ordering
most_first a b = ordering_then (nat_cmp b.1 a.1) (stack_cmp a.0 b.0)

-- the number, where it is so great at least
abbrev pub enough : ℕ → ℕ → ℕ
enough least n = if nat_le least n then n else 0

pub enough-is : (least n : ℕ) → (0 < enough least n) ↔ ((0 < n) × (least ≤ n))
enough-is least n = elim (cases_Bool (nat_le least n)) [
  | inl great ↦ rw great (λ h. (h, leb-true least n great), λ h. h.0)
  | inr small ↦ rw small (
    λ h. absurd (omega (arith, h)),
    λ h. (
        let low = leb-false least n small in let up = h.1 in absurd (omega (arith, low, up))),
  )
]

pub key_of_enough : (least : ℕ) (rows : List Event) (k : List ℕ) → 0 < enough least (count_by (has_stack k) rows)
    → Contains (map (λ e. e.stack) rows) k
key_of_enough least rows k h =
    key_counted has_stack (λ e. e.stack) (λ j e. same_list-exact e.stack j) rows k
    ((enough-is least (count_by (has_stack k) rows)).0 h).0

-- the stacks of so many of these handles at least
abbrev pub leaks_of : ℕ → List Event → List (List ℕ × ℕ)
leaks_of least rows = rows_of most_first (λ k. count_by (has_stack k) rows) (enough least) (map (λ e. e.stack) rows)

Lists-leaks_of : (least : ℕ) (rows : List Event) → is_rising (comes_first most_first) (leaks_of least rows) ≡ true
    → Lists MostFirst (λ row. (row.1 ≡ count_by (has_stack row.0) rows) × ((0 < row.1) × (least ≤ row.1))) (leaks_of least rows)
Lists-leaks_of least rows rises =
    let l = Lists-rows_of most_first (λ k. count_by (has_stack k) rows) (enough least) (map (λ e. e.stack) rows)
    (key_of_enough least rows) rises in
    record {
      rising = l.rising;
      members = λ row. (
        λ h. (let of = (l.members row).0 h in (of.0, (enough-is least row.1).0 of.1)),
        λ h. (l.members row).1 (h.0, (enough-is least row.1).1 h.1),
      );
    }

-- the computed leaking stacks of the open handles are the leaks, where they rise in the order of leaks
pub IsLeaksSince-leaks_of : (es : List Event) (process : ℕ) (since : Option ℕ) (least : ℕ) (opens : List Event)
    → AreOpenSince (Contains es) process since opens → is_rising (comes_first most_first) (leaks_of least opens) ≡ true
    → IsLeaksSince (Contains es) process since least (leaks_of least opens)
IsLeaksSince-leaks_of es process since least opens are rises = record {
  handles = opens;
  are = are;
  stacks = Lists-leaks_of least opens rises;
}

-- ---- bad references

abbrev pub by_handle_and_stack : ℕ × List ℕ × ℕ → ℕ × List ℕ × ℕ → Ordering
by_handle_and_stack a b = ordering_then (nat_cmp a.0 b.0) (stack_cmp a.1 b.1)

abbrev same_key : ℕ × List ℕ → ℕ × List ℕ → Bool
same_key a b = a.0 == b.0 && same_list a.1 b.1

same_pair : (h j : ℕ) (s t : List ℕ) → h ≡ j → s ≡ t → ◌≡◌ {A = ℕ × List ℕ} (h, s) (j, t)
same_pair h j s t e f = cc

same_key-exact : (a b : ℕ × List ℕ) → same_key a b ≡ true → a ≡ b
same_key-exact a b e = let parts = and_parts _ _ e in
    same_pair a.0 b.0 a.1 b.1 (eqb-true a.0 b.0 parts.0) (same_list-exact a.1 b.1 parts.1)

-- what counts under a handle as written has it
counted_handle : (kind : Kind) (e : Event) (process handle : ℕ) → is_slot (Bad process handle) Plus (slot_by_kind kind e) ≡ true
    → e.handle ≡ handle
counted_handle BadRef e process handle h = sym (eqb-true handle e.handle (and_parts _ _ (and_parts _ _ h).0).1)
counted_handle kind e process handle h = absurd cc

module _ (es : List Event) (process : ℕ) where
  abbrev bad_times : ℕ × List ℕ → ℕ
  bad_times k = (tally es (Bad process k.0) k.1).plus

  abbrev bad_row : ℕ × List ℕ → ℕ × List ℕ × ℕ
  bad_row k = (k.0, k.1, bad_times k)

  abbrev IsBadRow : ℕ × List ℕ × ℕ → Type 0
  IsBadRow r = (r.2 ≡ bad_times (r.0, r.1)) × (0 < r.2)

  abbrev bad_keys : List (ℕ × List ℕ)
  bad_keys = map (λ e. (e.handle, e.stack)) es

  abbrev pub bad_of : List (ℕ × List ℕ × ℕ)
  bad_of = ordered (comes_first by_handle_and_stack) (rows_where same_key (λ k. nat_lt 0 (bad_times k)) bad_row bad_keys)

  bad_key : (k : ℕ × List ℕ) → 0 < bad_times k → Contains bad_keys k
  bad_key = key_counted (λ k e. is_counted (Bad process k.0) Plus e && has_stack k.1 e) (λ e. (e.handle, e.stack)) (λ k e h.
      let parts = and_parts _ _ h in same_pair e.handle k.0 e.stack k.1 (counted_handle e.kind e process k.0 parts.0)
      (same_list-exact e.stack k.1 parts.1)) es

  has_bad_key : (r : ℕ × List ℕ × ℕ) → IsBadRow r
      → (k : ℕ × List ℕ) × Contains bad_keys k × (nat_lt 0 (bad_times k) ≡ true) × (bad_row k ≡ r)
  has_bad_key r h =
      let some : 0 < bad_times (r.0, r.1) = rw (← h.0) h.1 in
      ((r.0, r.1), bad_key (r.0, r.1) some, lt-ltb 0 _ some, ap (λ (n : ℕ). (r.0, r.1, n)) (sym h.0))

  -- the computed bad references of a process are those of the definition, where they rise by handle and stack
  pub IsBad-bad_of : is_rising (comes_first by_handle_and_stack) bad_of ≡ true → IsBad es process bad_of
  IsBad-bad_of =
      Lists-ordered _ _ (λ x y. is_lt-Less (by_handle_and_stack x y)) IsBadRow _ (
      Contains-rows_where same_key same_key-exact _ bad_row IsBadRow bad_keys (λ k some. (refl, ltb-true 0 _ some)) has_bad_key)
