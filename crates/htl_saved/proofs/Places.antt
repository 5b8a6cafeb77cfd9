-- In a table in order a stack has the place where a search finds it, a search finds what is there, and at its place is the stack.
use Rattle.std.proofs.Common.{◌≡◌, ℕ, zero, suc, ◌+◌, ◌<◌, List, [], ◌∷◌, length, get_or, Bool, true, false, cond}
use Rattle.std.proofs.Common.{refl, sym, ◌∙◌, ap, arith, subst, inl, inr}
use Rattle.std.specs.Prelude.{Contains, nat_eq, not}
use Rattle.std.specs.List.Sorted.{IsSorted, IsPartitionPoint, IsStrictlySortedBy}
use Rattle.std.specs.Ordering.{is_lt, is_eq}
use Rattle.std.specs.Cmp.{unsigned_Decides, tied_itself}
use Rattle.std.specs.Cmp.Lexicographic.{pointwise, pointwise_decides}
use Rattle.std.specs.declared.cmp.Ordering.TheVariants.{Less, Equal, Greater}
use Rattle.std.proofs.lemmas.Bool.{cases_Bool, cases_lt}
use Rattle.htl_event.specs.Members.{IsRising, IsStrictOrder}
use Rattle.htl_event.specs.Stacks.{stack_cmp}
use Rattle.htl_event.specs.OrderLaws.{stack_total, stack_ties}
use Rattle.htl_event.proofs.Members.{Contains-here, Contains-there, Contains-nil, Contains-cases, at_member}
use Rattle.htl_event.proofs.Orders.{strict_from_total}
use Rattle.htl_sorted.proofs.Places.{turn}
use Rattle.htl_saved.specs.Tables.{InStackOrder, place_in}

-- ---- stacks and their order

-- the same stack passes the test
is_same : (s t : List ℕ) → s ≡ t → pointwise nat_eq s t ≡ true
is_same s t e = (pointwise_decides unsigned_Decides s t).1 e

-- what passes the test is the same stack
pub same_is : (s t : List ℕ) → pointwise nat_eq s t ≡ true → s ≡ t
same_is s t e = (pointwise_decides unsigned_Decides s t).0 e

-- stacks that tie are equal
pub same_stack : (s t : List ℕ) → stack_cmp s t ≡ Equal → s ≡ t
same_stack s t e = same_is s t (stack_ties s t ∙ ap is_eq e)

-- what stands at a place is a member
pub member_at : (table : List (List ℕ)) (i : ℕ) (d t : List ℕ) → i < length table → get_or table i d ≡ t → Contains table t
member_at [] i d t lt is = absurd (omega (arith, lt))
member_at (s ∷ table) zero d t lt is = subst (λ (z : List ℕ). Contains (s ∷ table) z) is (Contains-here s table)
member_at (s ∷ table) (suc i) d t lt is = Contains-there s table t (member_at table i d t (omega (arith, lt)) is)

-- in a table in order the stack at a place comes before those at later places
pub rising_at : (table : List (List ℕ)) → IsRising InStackOrder table → (i j : ℕ) (d : List ℕ) → i < j → j < length table
    → InStackOrder (get_or table i d) (get_or table j d)
rising_at [] rising i j d lt within = absurd (omega (arith, within))
rising_at (s ∷ table) rising i zero d lt within = absurd (omega (arith, lt))
rising_at (s ∷ table) rising zero (suc j) d lt within =
    at_member (InStackOrder s) table (get_or table j d) rising.0 (member_at table j d (get_or table j d) (omega (arith, within)) refl)
rising_at (s ∷ table) rising (suc i) (suc j) d lt within = rising_at table rising.1 i j d (omega (arith, lt)) (omega (arith, within))

-- a table in order is sorted, as a search asks
pub sorted_from_rising : (table : List (List ℕ)) → IsRising InStackOrder table → IsSorted stack_cmp table
sorted_from_rising table rising k d low high =
    ap is_lt (turn stack_total (get_or table k d) (get_or table (k + 1) d) Less (rising_at table rising k (k + 1) d (omega arith) high))

-- a list in strict order rises
pub rising_strict : (stacks : List (List ℕ)) → IsStrictlySortedBy stack_cmp stacks → IsRising InStackOrder stacks
unfolding IsStrictlySortedBy
rising_strict [] h = tt
rising_strict (s ∷ stacks) h = (h.0, rising_strict stacks h.1)

-- ---- places

-- a stack at the head has place 0
place_here : (s : List ℕ) (table : List (List ℕ)) (t : List ℕ) → pointwise nat_eq s t ≡ true → place_in (s ∷ table) t ≡ 0
place_here s table t e = ap (λ (b : Bool). cond (not b) (1 + place_in table t) 0) e

-- a stack that isn't the head has one more than its place in the tail
place_there : (s : List ℕ) (table : List (List ℕ)) (t : List ℕ) → pointwise nat_eq s t ≡ false
    → place_in (s ∷ table) t ≡ suc (place_in table t)
place_there s table t e =
    let more : 1 + place_in table t ≡ suc (place_in table t) = omega arith in
    ap (λ (b : Bool). cond (not b) (1 + place_in table t) 0) e ∙ more

-- in a table in order a stack has the place where it stands
pub place_is : (table : List (List ℕ)) → IsRising InStackOrder table → (i : ℕ) (d t : List ℕ) → i < length table → get_or table i d ≡ t
    → place_in table t ≡ i
place_is [] rising i d t lt is = absurd (omega (arith, lt))
place_is (s ∷ table) rising zero d t lt is = place_here s table t (is_same s t is)
place_is (s ∷ table) rising (suc i) d t lt is =
    let there : Contains table t = member_at table i d t (omega (arith, lt)) is in
    let before : InStackOrder s t = at_member (InStackOrder s) table t rising.0 there in
    elim (cases_Bool (pointwise nat_eq s t)) [
      | inl same ↦ absurd ((strict_from_total stack_total).irreflexive t
          (subst (λ (z : List ℕ). InStackOrder z t) (same_is s t same) before))
      | inr other ↦ place_there s table t other ∙ ap (λ (n : ℕ). suc n) (place_is table rising.1 i d t (omega (arith, lt)) is)
    ]

-- at the place of a stack that the table has stands this stack
pub at_place : (table : List (List ℕ)) (d t : List ℕ) → Contains table t → get_or table (place_in table t) d ≡ t
at_place [] d t here = absurd (Contains-nil t here)
at_place (s ∷ table) d t here =
    elim (cases_Bool (pointwise nat_eq s t)) [
      | inl same ↦ subst (λ (n : ℕ). get_or (s ∷ table) n d ≡ t) (sym (place_here s table t same)) (same_is s t same)
      | inr other ↦ elim (Contains-cases s table t here) [
        | inl is ↦ let clash : true ≡ false = sym (is_same s t is) ∙ other in absurd (cc)
        | inr there ↦ subst (λ (n : ℕ). get_or (s ∷ table) n d ≡ t) (sym (place_there s table t other)) (at_place table d t there)
      ]
    ]

-- a search doesn't miss a stack that is there
pub not_parted : (table : List (List ℕ)) (stack : List ℕ) (i : ℕ)
    → IsPartitionPoint (λ s. stack_cmp s stack ≡ Less) (λ s. stack_cmp s stack ≡ Greater) table i → Contains table stack → ⊥
not_parted table stack i parted here =
    let k = here.0 in
    let tied : stack_cmp (get_or table k stack) stack ≡ Equal =
    ap (λ (s : List ℕ). stack_cmp s stack) here.2 ∙ tied_itself stack_total stack in
    elim (cases_lt k i) [
      | inl below ↦ let clash : Less ≡ Equal = sym (parted.0 k stack (omega arith) below) ∙ tied in absurd (cc)
      | inr above ↦ let clash : Greater ≡ Equal = sym (parted.1 k stack above here.1) ∙ tied in absurd (cc)
    ]

-- a stack that the table has has a place in it
pub place_below : (table : List (List ℕ)) (t : List ℕ) → Contains table t → place_in table t < length table
place_below [] t here = absurd (Contains-nil t here)
place_below (s ∷ table) t here =
    elim (cases_Bool (pointwise nat_eq s t)) [
      | inl same ↦ omega (arith, place_here s table t same)
      | inr other ↦ elim (Contains-cases s table t here) [
        | inl is ↦ let clash : true ≡ false = sym (is_same s t is) ∙ other in absurd (cc)
        | inr there ↦ omega (arith, place_there s table t other, place_below table t there)
      ]
    ]

-- of two stacks that a table in order has, the one that comes first has the lower place
pub place_rises : (table : List (List ℕ)) → IsRising InStackOrder table → (s t : List ℕ) → Contains table s → Contains table t
    → InStackOrder s t → place_in table s < place_in table t
place_rises table rising s t here there before =
    elim (cases_lt (place_in table s) (place_in table t)) [
      | inl lt ↦ lt
      | inr le ↦ absurd (elim (cases_lt (place_in table t) (place_in table s)) [
        | inl gt ↦
            let at : InStackOrder (get_or table (place_in table t) []) (get_or table (place_in table s) []) =
            rising_at table rising (place_in table t) (place_in table s) [] gt (place_below table s here) in
            let back : InStackOrder t s =
            subst (λ (z : List ℕ). InStackOrder z s) (at_place table [] t there)
            (subst (InStackOrder (get_or table (place_in table t) [])) (at_place table [] s here) at) in
            order.irreflexive s (order.transitive s t s before back)
        | inr ge ↦
            let places : place_in table s ≡ place_in table t = omega (arith, le, ge) in
            let same : s ≡ t =
            sym (at_place table [] s here) ∙ ap (λ (n : ℕ). get_or table n []) places ∙ at_place table [] t there in
            order.irreflexive t (subst (λ (z : List ℕ). InStackOrder z t) same before)
      ])
    ]
  where
    order : IsStrictOrder InStackOrder
    order = strict_from_total stack_total
