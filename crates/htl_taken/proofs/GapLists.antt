-- What the code lists of one processor are its gaps, and so are those of all processors one after the other.
use Rattle.std.proofs.Common.{◌≡◌, ℕ, zero, suc, ◌+◌, ◌-◌, ◌<◌, ◌≤◌, List, [], ◌∷◌, ◌++◌, refl, sym, ap, subst, ◌∙◌, arith, inl, inr}
use Rattle.std.specs.Prelude.{Contains, ◌↔◌}
use Rattle.std.proofs.lemmas.Bool.{cases_lt, lt-ltb, le-ltb}
use Rattle.std.proofs.lemmas.List.Elements.{Contains-append_cases, Contains-append_left, Contains-append_right}
use Rattle.htl_event.specs.Members.{IsRising, Lists}
use Rattle.htl_event.proofs.Members.{Contains-here, Contains-there, Contains-cases, Contains-cons, Contains-nil, each_member, at_member}
use Rattle.htl_taken.specs.declared.gap.Gap.{Gap}
use Rattle.htl_taken.specs.declared.gap.Gap.TheVariants.{Between, Absent}
use Rattle.htl_taken.specs.Rising.{Rises}
use Rattle.htl_taken.specs.Numbers.{Numbers}
use Rattle.htl_taken.specs.NumberSets.{Has}
use Rattle.htl_taken.specs.Gaps.{IsMissingRun, IsGap, IsGapBefore, IsGaps}
use Rattle.htl_taken.specs.GapLists.{gaps_from, gaps_of}
use Rattle.htl_taken.proofs.Rising.{Rises-member}

-- ---- one number more

-- where a number is above the least, the numbers between are a gap before it
pub gaps-before : (p least n : ℕ) (ns : List ℕ) → least < n
    → gaps_from p least (n ∷ ns) ≡ Between p least (n - 1) ∷ gaps_from p (n + 1) ns
gaps-before p least n ns lt = rw (lt-ltb least n lt) refl

-- where a number isn't above the least, no gap is before it
pub gaps-next : (p least n : ℕ) (ns : List ℕ) → n ≤ least → gaps_from p least (n ∷ ns) ≡ gaps_from p (n + 1) ns
gaps-next p least n ns le = rw (le-ltb least n le) refl

-- ---- runs from a least number on

-- an unbroken run of missing numbers of the processor, from a least one on
abbrev IsRunFrom : (ℕ → Type 0) → ℕ → ℕ → Gap → Type 0
IsRunFrom has p least (Between r from to) = (r ≡ p) × (least ≤ from) × IsMissingRun has from to
IsRunFrom has p least (Absent r) = ⊥

module _ (has : ℕ → Type 0) (p high : ℕ) where
  -- from here on just these numbers are there
  abbrev AreThere : ℕ → List ℕ → Type 0
  AreThere least ns = (n : ℕ) → least ≤ n → has n ↔ Contains ns n

  -- the number before is there
  abbrev FollowsOne : ℕ → Type 0
  FollowsOne least = (n : ℕ) → n + 1 ≡ least → has n

  there_after : (least n : ℕ) (ns : List ℕ) → least ≤ n → AreThere least (n ∷ ns) → AreThere (n + 1) ns
  there_after least n ns le there m ge =
      let up : least ≤ m = omega (arith, le, ge) in (
        (λ h. elim (Contains-cases n ns m ((there m up).0 h)) [ inl is ↦ absurd (omega (arith, is, ge)) | inr later ↦ later ]),
        (λ h. (there m up).1 (Contains-there n ns m h)),
      )

  there_first : (least n : ℕ) (ns : List ℕ) → least ≤ n → AreThere least (n ∷ ns) → has n
  there_first least n ns le there = (there n le).1 (Contains-here n ns)

  follows_first : (least n : ℕ) (ns : List ℕ) → least ≤ n → AreThere least (n ∷ ns) → FollowsOne (n + 1)
  follows_first least n ns le there m e =
      let same : n ≡ m = omega (arith, e) in subst has same (there_first least n ns le there)

  not_before : (least n : ℕ) (ns : List ℕ) → Rises (n + 1) high ns → AreThere least (n ∷ ns) → (m : ℕ) → least ≤ m → m < n → has m → ⊥
  not_before least n ns rises there m ge lt h =
      elim (Contains-cases n ns m ((there m ge).0 h)) [
        | inl is ↦ omega (arith, is, lt)
        | inr later ↦ let up = (Rises-member (n + 1) high ns m rises later).0 in omega (arith, up, lt)
      ]

  first_run : (least n : ℕ) (ns : List ℕ) → Rises (n + 1) high ns → AreThere least (n ∷ ns) → FollowsOne least → least < n
      → IsMissingRun has least (n - 1)
  first_run least n ns rises there follows lt = record {
    order = omega (arith, lt);
    missing = λ m ge le h. not_before least n ns rises there m ge (omega (arith, le, lt)) h;
    next =
        let le : least ≤ n = omega (arith, lt) in
        let same : n ≡ (n - 1) + 1 = omega (arith, lt) in
        subst has same (there_first least n ns le there);
    before = follows;
  }

  run_earlier : (least n : ℕ) (gap : Gap) → least ≤ n → IsRunFrom has p (n + 1) gap → IsRunFrom has p least gap
  run_earlier least n (Between r from to) le h = let up = h.1 in (h.0, omega (arith, up, le), h.2)
  run_earlier least n (Absent r) le h = h

  from_list : (least : ℕ) (ns : List ℕ) → Rises least high ns → AreThere least ns → FollowsOne least → (gap : Gap)
      → Contains (gaps_from p least ns) gap → IsRunFrom has p least gap
  from_list least [] rises there follows gap h = absurd (Contains-nil gap h)
  from_list least (n ∷ ns) rises there follows gap h =
      let le = rises.0 in
      let rest : Contains (gaps_from p (n + 1) ns) gap → IsRunFrom has p least gap =
      (λ k. run_earlier least n gap le
      (from_list (n + 1) ns rises.1 (there_after least n ns le there) (follows_first least n ns le there) gap k)) in
      elim (cases_lt least n) [
        | inl lt ↦ elim (Contains-cases (Between p least (n - 1)) (gaps_from p (n + 1) ns) gap
            (subst (λ (l : List Gap). Contains l gap) (gaps-before p least n ns lt) h)) [
              | inl is ↦ subst (IsRunFrom has p least) is (refl, omega arith, first_run least n ns rises.1 there follows lt)
              | inr later ↦ rest later
            ]
        | inr same ↦ rest (subst (λ (l : List Gap). Contains l gap) (gaps-next p least n ns same) h)
      ]

  into_list : (least : ℕ) (ns : List ℕ) → Rises least high ns → AreThere least ns → (from to : ℕ) → least ≤ from
      → IsMissingRun has from to → Contains (gaps_from p least ns) (Between p from to)
  into_list least [] rises there from to le run =
      let order = run.order in
      let up : least ≤ to + 1 = omega (arith, le, order) in
      absurd (Contains-nil (to + 1) ((there (to + 1) up).0 run.next))
  into_list least (n ∷ ns) rises there from to le run =
      let up = rises.0 in
      let order = run.order in
      let here = there_first least n ns up there in
      let rest : n < from → Contains (gaps_from p (n + 1) ns) (Between p from to) =
      (λ past. let after : n + 1 ≤ from = omega (arith, past) in
      into_list (n + 1) ns rises.1 (there_after least n ns up there) from to after run) in
      elim (cases_lt n from) [
        | inl past ↦ elim (cases_lt least n) [
          | inl lt ↦ subst (λ (l : List Gap). Contains l (Between p from to)) (sym (gaps-before p least n ns lt))
              (Contains-there (Between p least (n - 1)) (gaps_from p (n + 1) ns) (Between p from to) (rest past))
          | inr same ↦ subst (λ (l : List Gap). Contains l (Between p from to)) (sym (gaps-next p least n ns same)) (rest past)
        ]
        | inr upto ↦
            let ends : to < n = elim (cases_lt to n) [ inl lt ↦ lt | inr ge ↦ absurd (run.missing n upto ge here) ] in
            let lt : least < n = omega (arith, le, order, ends) in
            let first : from ≡ least = elim (cases_lt least from) [
              | inl above ↦
                  let low : least ≤ from - 1 = omega (arith, above) in
                  let below : from - 1 < n = omega (arith, order, ends) in
                  let one : from - 1 + 1 ≡ from = omega (arith, above) in
                  absurd (not_before least n ns rises.1 there (from - 1) low below (run.before (from - 1) one))
              | inr upto_least ↦ omega (arith, upto_least, le)
            ] in
            let last : to ≡ n - 1 = elim (cases_lt (to + 1) n) [
              | inl below ↦
                  let low : least ≤ to + 1 = omega (arith, le, order) in
                  absurd (not_before least n ns rises.1 there (to + 1) low below run.next)
              | inr from_n ↦ omega (arith, from_n, ends)
            ] in
            let is : Between p least (n - 1) ≡ Between p from to = ap (λ (a : ℕ). Between p a (n - 1)) (sym first)
            ∙ ap (λ (b : ℕ). Between p from b) (sym last) in
            subst (λ (l : List Gap). Contains l (Between p from to)) (sym (gaps-before p least n ns lt))
            (Contains-cons (Between p least (n - 1)) (gaps_from p (n + 1) ns) (Between p from to) (inl is))
      ]

  run_later : (least last n : ℕ) (gap : Gap) → least ≤ n → IsRunFrom has p (n + 1) gap → IsGapBefore (Between p least last) gap
  run_later least last n (Between r from to) le h = let up = h.1 in inr (sym h.0, omega (arith, up, le))
  run_later least last n (Absent r) le h = absurd h

  list_rises : (least : ℕ) (ns : List ℕ) → Rises least high ns → AreThere least ns → FollowsOne least
      → IsRising IsGapBefore (gaps_from p least ns)
  list_rises least [] rises there follows = tt
  list_rises least (n ∷ ns) rises there follows =
      let le = rises.0 in
      let after = there_after least n ns le there in
      let next = follows_first least n ns le there in
      let rest = list_rises (n + 1) ns rises.1 after next in
      elim (cases_lt least n) [
        | inl lt ↦ subst (IsRising IsGapBefore) (sym (gaps-before p least n ns lt)) (
          each_member (IsGapBefore (Between p least (n - 1))) (gaps_from p (n + 1) ns)
              (λ gap h. run_later least (n - 1) n gap le (from_list (n + 1) ns rises.1 after next gap h)),
          rest,
        )
        | inr same ↦ subst (IsRising IsGapBefore) (sym (gaps-next p least n ns same)) rest
      ]

-- ---- one processor

abbrev IsGapOf : (ℕ → Type 0) → ℕ → Gap → Type 0
IsGapOf has p (Between r from to) = (r ≡ p) × IsMissingRun has from to
IsGapOf has p (Absent r) = (r ≡ p) × ((n : ℕ) → has n → ⊥)

module _ (p high : ℕ) (q : Numbers) (rises : Rises q.front high q.loose) where
  there : AreThere (Has q) p high q.front q.loose
  there n le = ((λ h. elim h [ inl lt ↦ absurd (omega (arith, lt, le)) | inr loose ↦ loose ]), (λ h. inr h))

  follows : FollowsOne (Has q) p high q.front
  follows n e = inl (omega (arith, e))

  from_front : (from to : ℕ) → IsMissingRun (Has q) from to → q.front ≤ from
  from_front from to run =
      let order = run.order in
      elim (cases_lt from q.front) [
        | inl lt ↦ absurd (run.missing from (omega arith) order (inl lt))
        | inr ge ↦ ge
      ]

  of_run : (gap : Gap) → IsRunFrom (Has q) p q.front gap → IsGapOf (Has q) p gap
  of_run (Between r from to) h = (h.0, h.2)
  of_run (Absent r) h = absurd h

  -- some number is there
  some_listed : (n : ℕ) → Has q n → Lists IsGapBefore (IsGapOf (Has q) p) (gaps_from p q.front q.loose)
  some_listed n some = record {
    rising = list_rises (Has q) p high q.front q.loose rises there follows;
    members = λ gap. ((λ h. of_run gap (from_list (Has q) p high q.front q.loose rises there follows gap h)), into gap);
  }
    where
      into : (gap : Gap) → IsGapOf (Has q) p gap → Contains (gaps_from p q.front q.loose) gap
      into (Between r from to) h =
          subst (λ (s : ℕ). Contains (gaps_from p q.front q.loose) (Between s from to)) (sym h.0)
          (into_list (Has q) p high q.front q.loose rises there from to (from_front from to h.1) h.1)
      into (Absent r) h = absurd (h.1 n some)

abbrev numbers : ℕ → List ℕ → Numbers
numbers front loose = record { front = front; loose = loose }

none_listed : (p : ℕ) → Lists IsGapBefore (IsGapOf (Has (numbers 0 [])) p) (Absent p ∷ [])
none_listed p = record {
  rising = (tt, tt);
  members = λ gap. (
    (λ h. elim (Contains-cases (Absent p) [] gap h) [
      | inl is ↦ subst (IsGapOf (Has (numbers 0 [])) p) is (refl, nothing)
      | inr there ↦ absurd (Contains-nil gap there)
    ]),
    into gap,
  );
}
  where
    nothing : (n : ℕ) → Has (numbers 0 []) n → ⊥
    nothing n (inl lt) = omega (arith, lt)
    nothing n (inr h) = Contains-nil n h

    into : (gap : Gap) → IsGapOf (Has (numbers 0 [])) p gap → Contains (Absent p ∷ []) gap
    into (Between r from to) h = absurd (nothing (to + 1) h.1.next)
    into (Absent r) h = Contains-cons (Absent p) [] (Absent r) (inl (ap (λ (s : ℕ). Absent s) (sym h.0)))

listed : (p high front : ℕ) (loose : List ℕ) → Rises front high loose
    → Lists IsGapBefore (IsGapOf (Has (numbers front loose)) p) (gaps_of p front loose)
listed p high zero [] rises = none_listed p
listed p high zero (n ∷ ns) rises = some_listed p high (numbers 0 (n ∷ ns)) rises n (inr (Contains-here n ns))
listed p high (suc front) [] rises = some_listed p high (numbers (suc front) []) rises 0 (inl (omega arith))
listed p high (suc front) (n ∷ ns) rises = some_listed p high (numbers (suc front) (n ∷ ns)) rises 0 (inl (omega arith))

-- ---- all processors

rising-append : {X : Type 0} (before : X → X → Type 0) (xs ys : List X) → IsRising before xs → IsRising before ys
    → ((x y : X) → Contains xs x → Contains ys y → before x y) → IsRising before (xs ++ ys)
rising-append before [] ys rx ry all = ry
rising-append before (x ∷ xs) ys rx ry all = (
  each_member (before x) (xs ++ ys) (λ z h. elim (Contains-append_cases xs ys z h) [
    | inl left ↦ at_member (before x) xs z rx.0 left
    | inr right ↦ all x z (Contains-here x xs) right
  ]),
  rising-append before xs ys rx.1 ry (λ w y h k. all w y (Contains-there x xs w h) k),
)

-- the gaps of one processor more
pub gaps_more : (has : ℕ → ℕ → Type 0) (p high front : ℕ) (loose : List ℕ) (gaps : List Gap) → Rises front high loose
    → ((n : ℕ) → has p n ↔ Has (numbers front loose) n) → IsGaps has p gaps → IsGaps has (p + 1) (gaps ++ gaps_of p front loose)
gaps_more has p high front loose gaps rises same so_far = record {
  rising = rising-append IsGapBefore gaps (gaps_of p front loose) so_far.rising one.rising
      (λ x y h k. apart x y ((so_far.members x).0 h) ((one.members y).0 k));
  members = λ gap. (
    (λ h. elim (Contains-append_cases gaps (gaps_of p front loose) gap h) [
      | inl left ↦ earlier gap ((so_far.members gap).0 left)
      | inr right ↦ of_this gap ((one.members gap).0 right)
    ]),
    into gap,
  );
}
  where
    one : Lists IsGapBefore (IsGapOf (Has (numbers front loose)) p) (gaps_of p front loose)
    one = listed p high front loose rises

    there_run : (from to : ℕ) → IsMissingRun (Has (numbers front loose)) from to → IsMissingRun (has p) from to
    there_run from to run = record {
      order = run.order;
      missing = λ n le ge h. run.missing n le ge ((same n).0 h);
      next = (same (to + 1)).1 run.next;
      before = λ n e. (same n).1 (run.before n e);
    }

    back_run : (from to : ℕ) → IsMissingRun (has p) from to → IsMissingRun (Has (numbers front loose)) from to
    back_run from to run = record {
      order = run.order;
      missing = λ n le ge h. run.missing n le ge ((same n).1 h);
      next = (same (to + 1)).0 run.next;
      before = λ n e. (same n).0 (run.before n e);
    }

    apart : (x y : Gap) → IsGap has p x → IsGapOf (Has (numbers front loose)) p y → IsGapBefore x y
    apart (Between r f t) (Between s g u) h k = let lt = h.0 in let e = k.0 in inl (omega (arith, lt, e))
    apart (Between r f t) (Absent s) h k = let lt = h.0 in let e = k.0 in inl (omega (arith, lt, e))
    apart (Absent r) (Between s g u) h k = let lt = h.0 in let e = k.0 in inl (omega (arith, lt, e))
    apart (Absent r) (Absent s) h k = let lt = h.0 in let e = k.0 in inl (omega (arith, lt, e))

    earlier : (gap : Gap) → IsGap has p gap → IsGap has (p + 1) gap
    earlier (Between r from to) h = let lt = h.0 in (omega (arith, lt), h.1)
    earlier (Absent r) h = let lt = h.0 in (omega (arith, lt), h.1)

    of_this : (gap : Gap) → IsGapOf (Has (numbers front loose)) p gap → IsGap has (p + 1) gap
    of_this (Between r from to) h =
        let e = h.0 in
        (omega (arith, e), subst (λ (s : ℕ). IsMissingRun (has s) from to) (sym e) (there_run from to h.1))
    of_this (Absent r) h =
        let e = h.0 in
        (omega (arith, e), λ n k. h.1 n ((same n).0 (subst (λ (s : ℕ). has s n) e k)))

    into : (gap : Gap) → IsGap has (p + 1) gap → Contains (gaps ++ gaps_of p front loose) gap
    into (Between r from to) h =
        let lt = h.0 in
        elim (cases_lt r p) [
          | inl below ↦ Contains-append_left gaps (gaps_of p front loose) (Between r from to)
              ((so_far.members (Between r from to)).1 (below, h.1))
          | inr above ↦
              let e : r ≡ p = omega (arith, lt, above) in
              Contains-append_right gaps (gaps_of p front loose) (Between r from to) ((one.members (Between r from to)).1
              (e, back_run from to (subst (λ (s : ℕ). IsMissingRun (has s) from to) e h.1)))
        ]
    into (Absent r) h =
        let lt = h.0 in
        elim (cases_lt r p) [
          | inl below ↦ Contains-append_left gaps (gaps_of p front loose) (Absent r) ((so_far.members (Absent r)).1 (below, h.1))
          | inr above ↦
              let e : r ≡ p = omega (arith, lt, above) in
              Contains-append_right gaps (gaps_of p front loose) (Absent r) ((one.members (Absent r)).1
              (e, λ n k. h.1 n (subst (λ (s : ℕ). has s n) (sym e) ((same n).1 k))))
        ]
