-- The prefix tally is the sum of the tally over the stacks that begin with the path.
use Rattle.std.proofs.Common.{◌≡◌, ◌≢◌, ℕ, ◌+◌, Bool, true, false, cond, ◌&&◌, nat_eq, List}
use Rattle.std.proofs.Common.{[], ◌∷◌, filter, refl, sym, ap, ◌∙◌, arith, inl, inr}
use Rattle.std.specs.Prelude.{Contains}
use Rattle.std.specs.List.{starts_with, AllByRecursion}
use Rattle.std.specs.Cmp.{unsigned_Decides}
use Rattle.std.specs.Cmp.Lexicographic.{pointwise, pointwise_decides}
use Rattle.std.proofs.lemmas.Bool.{cases_Bool}
use Rattle.std.proofs.lemmas.List.Sums.{sum_by-cons}
use Rattle.htl_event.specs.Events.{Event}
use Rattle.htl_event.specs.declared.slot.Slot.{Slot}
use Rattle.htl_event.specs.declared.slot.Slot.TheVariants.{Tagged}
use Rattle.htl_event.specs.declared.slot.Sign.{Sign}
use Rattle.htl_event.specs.declared.slot.Sign.TheVariants.{Plus, Minus}
use Rattle.htl_event.specs.Slots.{is_counted}
use Rattle.htl_event.specs.Stacks.{outer}
use Rattle.htl_event.specs.Members.{IsRising}
use Rattle.htl_event.specs.Tallies.{times, has_stack}
use Rattle.htl_event.specs.Laws.{sum_of_tallies, stacks_under, PrefixTallyIsSum, BalanceIsSum}
use Rattle.htl_event.proofs.Members.{Contains-here, Contains-there, Contains-cases, Contains-nil, at_member}
use Rattle.htl_event.proofs.Members.{filter-pass, filter-skip, Contains-filter, Contains-from_filter}

-- ---- one side of a count

times-cons : (passes : Event → Bool) (e : Event) (es : List Event) (slot : Slot) (sign : Sign)
    → times passes (e ∷ es) slot sign ≡ cond (is_counted slot sign e && passes e) 1 0 + times passes es slot sign
times-cons passes e es slot sign = sum_by-cons (λ x. cond (is_counted slot sign x && passes x) 1 0) e es

-- the sum over some stacks, of one side
abbrev side_sum : List Event → Slot → Sign → List (List ℕ) → ℕ
side_sum events slot sign [] = 0
side_sum events slot sign (k ∷ ks) = times (has_stack k) events slot sign + side_sum events slot sign ks

-- what one event adds to it
abbrev share : Event → Slot → Sign → List (List ℕ) → ℕ
share e slot sign [] = 0
share e slot sign (k ∷ ks) = cond (is_counted slot sign e && has_stack k e) 1 0 + share e slot sign ks

side_sum-none : (slot : Slot) (sign : Sign) (ks : List (List ℕ)) → side_sum [] slot sign ks ≡ 0
side_sum-none slot sign [] = refl
side_sum-none slot sign (k ∷ ks) = omega (arith, side_sum-none slot sign ks)

side_sum-cons : (e : Event) (es : List Event) (slot : Slot) (sign : Sign) (ks : List (List ℕ))
    → side_sum (e ∷ es) slot sign ks ≡ share e slot sign ks + side_sum es slot sign ks
side_sum-cons e es slot sign [] = refl
side_sum-cons e es slot sign (k ∷ ks) = omega (arith, side_sum-cons e es slot sign ks, times-cons (has_stack k) e es slot sign)

-- ---- what one event adds

not_counted : (e : Event) (slot : Slot) (sign : Sign) (ks : List (List ℕ)) → is_counted slot sign e ≡ false → share e slot sign ks ≡ 0
not_counted e slot sign [] not = refl
not_counted e slot sign (k ∷ ks) not = rw not (omega (arith, not_counted e slot sign ks not))

differs : (a b : List ℕ) → a ≢ b → pointwise nat_eq a b ≡ false
differs a b apart = go (pointwise nat_eq a b) refl
  where
    go : (t : Bool) → pointwise nat_eq a b ≡ t → t ≡ false
    go true is = absurd (apart ((pointwise_decides unsigned_Decides a b).0 is))
    go false is = refl

equals : (a b : List ℕ) → a ≡ b → pointwise nat_eq a b ≡ true
equals a b same = (pointwise_decides unsigned_Decides a b).1 same

-- no share, where the event's stack isn't among them
elsewhere : (e : Event) (slot : Slot) (sign : Sign) (ks : List (List ℕ)) → is_counted slot sign e ≡ true
    → ((k : List ℕ) → Contains ks k → e.stack ≢ k) → share e slot sign ks ≡ 0
elsewhere e slot sign [] counted apart = refl
elsewhere e slot sign (k ∷ ks) counted apart =
    rw (counted, differs e.stack k (apart k (Contains-here k ks)))
    (omega (arith, elsewhere e slot sign ks counted (λ j h. apart j (Contains-there k ks j h))))

-- and one where it is there once
once : (e : Event) (slot : Slot) (sign : Sign) (ks : List (List ℕ)) → is_counted slot sign e ≡ true → IsRising (λ a b. a ≢ b) ks
    → Contains ks e.stack → share e slot sign ks ≡ 1
once e slot sign [] counted apart h = absurd (Contains-nil e.stack h)
once e slot sign (k ∷ ks) counted apart h =
    elim (Contains-cases k ks e.stack h) [
      | inl is ↦
          let others : (j : List ℕ) → Contains ks j → e.stack ≢ j =
          (λ j there same. at_member (λ b. k ≢ b) ks j apart.0 there (is ∙ same)) in
          rw (counted, equals e.stack k (sym is)) (omega (arith, elsewhere e slot sign ks counted others))
      | inr there ↦
          let not_here : e.stack ≢ k = (λ same. at_member (λ b. k ≢ b) ks e.stack apart.0 there (sym same)) in
          rw (counted, differs e.stack k not_here) (omega (arith, once e slot sign ks counted apart.1 there))
    ]

-- ---- all events

-- stacks that pass stay apart
apart-filter : (p : List ℕ → Bool) (ks : List (List ℕ)) → IsRising (λ a b. a ≢ b) ks → IsRising (λ a b. a ≢ b) (filter p ks)
apart-filter p [] apart = tt
apart-filter p (k ∷ ks) apart =
    elim (cases_Bool (p k)) [
      | inl passes ↦ rw (filter-pass p k ks passes) (kept p k ks apart.0, apart-filter p ks apart.1)
      | inr fails ↦ rw (filter-skip p k ks fails) (apart-filter p ks apart.1)
    ]
  where
    kept : (p : List ℕ → Bool) (k : List ℕ) (ks : List (List ℕ)) → AllByRecursion (λ b. k ≢ b) ks
        → AllByRecursion (λ b. k ≢ b) (filter p ks)
    kept p k [] all = tt
    kept p k (j ∷ ks) all =
        elim (cases_Bool (p j)) [
          | inl passes ↦ rw (filter-pass p j ks passes) (all.0, kept p k ks all.1)
          | inr fails ↦ rw (filter-skip p j ks fails) (kept p k ks all.1)
        ]

abbrev Known : List Event → Slot → Sign → List (List ℕ) → Type 0
Known events slot sign stacks = (e : Event) → Contains events e → is_counted slot sign e ≡ true → Contains stacks e.stack

one_share : (begins : List ℕ → Bool) (e : Event) (slot : Slot) (sign : Sign) (stacks : List (List ℕ)) → IsRising (λ a b. a ≢ b) stacks
    → (is_counted slot sign e ≡ true → Contains stacks e.stack)
    → cond (is_counted slot sign e && begins e.stack) 1 0 ≡ share e slot sign (filter begins stacks)
one_share begins e slot sign stacks apart known =
    elim (cases_Bool (is_counted slot sign e)) [
      | inl counted ↦ elim (cases_Bool (begins e.stack)) [
        | inl passes ↦ rw (counted, passes)
            (sym (once e slot sign (filter begins stacks) counted (apart-filter begins stacks apart)
            (Contains-filter begins stacks e.stack (known counted) passes)))
        | inr fails ↦
            let never : (k : List ℕ) → Contains (filter begins stacks) k → e.stack ≢ k =
            (λ k h same. let passes = (Contains-from_filter begins stacks k h).1 in let other : begins k ≡ false =
            ap begins (sym same) ∙ fails in cc) in
            rw (counted, fails) (sym (elsewhere e slot sign (filter begins stacks) counted never))
      ]
      | inr not ↦ rw not (sym (not_counted e slot sign (filter begins stacks) not))
    ]

side_is_sum : (begins : List ℕ → Bool) (events : List Event) (slot : Slot) (sign : Sign) (stacks : List (List ℕ))
    → IsRising (λ a b. a ≢ b) stacks → Known events slot sign stacks
    → times (λ e. begins e.stack) events slot sign ≡ side_sum events slot sign (filter begins stacks)
side_is_sum begins [] slot sign stacks apart known = sym (side_sum-none slot sign (filter begins stacks))
side_is_sum begins (e ∷ es) slot sign stacks apart known =
    let rest = side_is_sum begins es slot sign stacks apart (λ x h. known x (Contains-there e es x h)) in
    let first = one_share begins e slot sign stacks apart (known e (Contains-here e es)) in
    omega (arith, rest, first, side_sum-cons e es slot sign (filter begins stacks), times-cons (λ x. begins x.stack) e es slot sign)

-- ---- both sides

sides : (events : List Event) (slot : Slot) (ks : List (List ℕ))
    → sum_of_tallies events slot ks ≡ record { plus = side_sum events slot Plus ks; minus = side_sum events slot Minus ks }
sides events slot [] = refl
sides events slot (k ∷ ks) = rw (sides events slot ks) refl

-- a prefix tally is the sum of the tallies over the stacks that begin with the path
pub prefix_tally_is_sum : PrefixTallyIsSum
prefix_tally_is_sum events slot stacks path of =
    let begins : List ℕ → Bool = λ stack. starts_with nat_eq (outer stack) path in
    let side : (sign : Sign) → times (λ e. begins e.stack) events slot sign ≡ side_sum events slot sign (filter begins stacks) =
    (λ sign. side_is_sum begins events slot sign stacks of.apart (λ e h. of.all e sign h)) in
    rw (side Plus, side Minus) (sym (sides events slot (stacks_under path stacks)))

all_pass : {X : Type 0} (xs : List X) → filter (λ x. true) xs ≡ xs
all_pass [] = refl
all_pass (x ∷ xs) = ap (λ ys. x ∷ ys) (all_pass xs)

-- a tag's balance is the sum of its tallies over all stacks
pub balance_is_sum : BalanceIsSum
balance_is_sum events object tag stacks of =
    let slot = Tagged object tag in
    let side : (sign : Sign) → times (λ e. true) events slot sign ≡ side_sum events slot sign stacks =
    (λ sign. side_is_sum (λ _. true) events slot sign stacks of.apart (λ e h. of.all e sign h)
    ∙ ap (side_sum events slot sign) (all_pass stacks)) in
    rw (side Plus, side Minus) (sym (sides events slot stacks))
