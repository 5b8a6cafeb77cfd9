-- The order of keys, by processor and then by number, is strict, and a sort by key leaves this order.
use Rattle.std.proofs.Common.{◌≡◌, ℕ, ◌+◌, Bool, true, false, suc, List, [], ◌∷◌, sym, ap, ◌∙◌}
use Rattle.std.proofs.Common.{subst, inl, inr, ◌⊎◌, refl, arith, IsSortedByKey}
use Rattle.std.specs.Prelude.{Contains}
use Rattle.std.specs.declared.cmp.Ordering.{Ordering}
use Rattle.std.specs.Ordering.{is_lt, nat_cmp, ordering_then}
use Rattle.std.specs.Cmp.{IsTotalOrder, IsStrictWeakOrder}
use Rattle.std.proofs.lemmas.Bool.{both_ways, cases_order, lt-ltb, le-ltb, eq-eqb}
use Rattle.std.proofs.lemmas.Cmp.{then_total, on_total, nat_cmp_total}
use Rattle.std.proofs.lemmas.List.Sorted.{sorted_far, ranks_by}
use Rattle.htl_event.proofs.Members.{each_member, at_member}
use Rattle.htl_segment.specs.Content.{Content}
use Rattle.htl_segment.specs.Traces.{AreInOrder, IsBefore}
use Rattle.htl_segment.specs.Rising.{IsKeyBefore}
use Rattle.htl_case.specs.Faults.{key_of}
use Rattle.htl_case.specs.Ordered.{AreSortedBy}

-- ---- keys

-- no key comes before itself
pub not_itself : (a : ℕ × ℕ) → IsKeyBefore a a → ⊥
not_itself a (inl lt) = omega (arith, lt)
not_itself a (inr same) = omega (arith, same.1)

-- two pairs with equal parts are equal
pub same_pair : (a b : ℕ × ℕ) → a.0 ≡ b.0 → a.1 ≡ b.1 → a ≡ b
same_pair a b first second = ap (λ (x : ℕ). let k : ℕ × ℕ = (x, a.1) in k) first ∙ ap (λ (y : ℕ). let k : ℕ × ℕ = (b.0, y) in k) second

-- of two keys one comes before the other, or they are equal
pub cases_key : (a b : ℕ × ℕ) → IsKeyBefore a b ⊎ ((a ≡ b) ⊎ IsKeyBefore b a)
cases_key a b =
    elim (cases_order a.0 b.0) [
      | inl same ↦ elim (cases_order a.1 b.1) [
        | inl equal ↦ inr (inl (same_pair a b same equal))
        | inr (inl lt) ↦ inl (inr (same, lt))
        | inr (inr gt) ↦ inr (inr (inr (sym same, gt)))
      ]
      | inr (inl lt) ↦ inl (inl lt)
      | inr (inr gt) ↦ inr (inr (inl gt))
    ]

-- a key before one that comes before a third comes before that one
pub before_before : (a b c : ℕ × ℕ) → IsKeyBefore a b → IsKeyBefore b c → IsKeyBefore a c
before_before a b c (inl p) (inl q) = inl (omega (arith, p, q))
before_before a b c (inl p) (inr q) = inl (omega (arith, p, q.0))
before_before a b c (inr p) (inl q) = inl (omega (arith, p.0, q))
before_before a b c (inr p) (inr q) = inr (p.0 ∙ q.0, omega (arith, p.1, q.1))

-- ---- the order that the code sorts by

abbrev pub key_cmp : ℕ × ℕ → ℕ × ℕ → Ordering
key_cmp a b = ordering_then (nat_cmp a.0 b.0) (nat_cmp a.1 b.1)

key_cmp_total : IsTotalOrder key_cmp
key_cmp_total = then_total (on_total (λ (k : ℕ × ℕ). k.0) nat_cmp_total) (on_total (λ (k : ℕ × ℕ). k.1) nat_cmp_total)

before_lt : (a b : ℕ × ℕ) → IsKeyBefore a b → is_lt (key_cmp a b) ≡ true
before_lt a b (inl lt) = rw (lt-ltb a.0 b.0 lt) refl
before_lt a b (inr same) = rw (le-ltb a.0 b.0 (omega (arith, same.0)), eq-eqb a.0 b.0 same.0, lt-ltb a.1 b.1 same.1) refl

module _ {X : Type 0} (key : X → ℕ × ℕ) where
  abbrev precedes : X → X → Bool
  precedes x y = is_lt (key_cmp (key x) (key y))

  precedes_order : IsStrictWeakOrder precedes
  precedes_order = ranks_by key_cmp_total key

  -- a list that a sort by key leaves is in the order of keys
  pub sorted_by_key : (xs : List X) → IsSortedByKey key key_cmp xs → AreSortedBy key xs
  sorted_by_key [] up = tt
  sorted_by_key (x ∷ xs) up =
      let later : (y : X) → Contains xs y → IsKeyBefore (key y) (key x) → ⊥ = λ y h before.
      (let far = sorted_far precedes precedes_order (x ∷ xs) up 0 (suc h.0) y (omega arith) (omega (arith, h.1)) in
      let here : precedes y x ≡ false = ap (λ (z : X). precedes z x) (sym h.2) ∙ far in
      both_ways (precedes y x) here (before_lt (key y) (key x) before)) in (
        each_member (λ y. IsKeyBefore (key y) (key x) → ⊥) xs later,
        sorted_by_key xs (λ k d low lt. let e : suc k + 1 ≡ suc (k + 1) = omega arith in
            rw e at (up (suc k) d (omega arith) (omega (arith, lt)))),
      )

-- ---- lists in strict order

-- what is in a list in order is the head, or comes after it
pub in_order_differ : (s : Content) (ss : List Content) → AreInOrder (s ∷ ss) → (t : Content) → Contains ss t → s ≡ t → ⊥
in_order_differ s ss ordered t h same =
    not_itself (key_of s) (subst (λ (x : Content). IsBefore s x) (sym same) (at_member (IsBefore s) ss t ordered.0 h))
