-- Gaps depend on the keys alone, and have one list.
use Rattle.std.proofs.Common.{◌≡◌, true, ℕ, ◌+◌, ◌<◌, List, sym, ◌∙◌, arith, inl, inr}
use Rattle.std.specs.Prelude.{◌↔◌}
use Rattle.htl_event.specs.Members.{IsStrictOrder}
use Rattle.htl_event.proofs.Members.{Lists-same}
use Rattle.htl_taken.specs.declared.gap.Gap.{Gap}
use Rattle.htl_taken.specs.declared.gap.Gap.TheVariants.{Between, Absent}
use Rattle.htl_taken.specs.Gaps.{IsMissingRun, IsGap, IsGapBefore, IsGaps, GapsAreDetermined}

-- the order of gaps, by processor and then by number, is strict
pub IsGapBefore-strict : IsStrictOrder IsGapBefore
IsGapBefore-strict = record {
  irreflexive = λ x h. elim h [ inl l ↦ omega (arith, l) | inr r ↦ let lt = r.1 in omega (arith, lt) ];
  transitive = λ x y z p q. elim p [
    | inl l ↦ elim q [
      | inl m ↦ inl (omega (arith, l, m))
      | inr s ↦ let e = s.0 in inl (omega (arith, l, e))
    ]
    | inr r ↦ elim q [
      | inl m ↦ let e = r.0 in inl (omega (arith, m, e))
      | inr s ↦ let e = r.0 in let f = s.0 in let lt = r.1 in let lu = s.1 in inr (e ∙ f, omega (arith, lt, lu))
    ]
  ];
}

missing_same : (has had : ℕ → Type 0) → ((n : ℕ) → has n ↔ had n) → (from to : ℕ) → IsMissingRun has from to → IsMissingRun had from to
missing_same has had same from to run = record {
  order = run.order;
  missing = λ n le ge h. run.missing n le ge ((same n).1 h);
  next = (same (to + 1)).0 run.next;
  before = λ n e. (same n).0 (run.before n e);
}

gap_same : (has had : ℕ → ℕ → Type 0) (processors : ℕ) → ((p n : ℕ) → p < processors → has p n ↔ had p n) → (gap : Gap)
    → IsGap has processors gap → IsGap had processors gap
gap_same has had processors same (Between p from to) is =
    (is.0, missing_same (has p) (had p) (λ n. same p n is.0) from to is.1)
gap_same has had processors same (Absent p) is = (is.0, λ n h. is.1 n ((same p n is.0).1 h))

turned : (has had : ℕ → ℕ → Type 0) (processors : ℕ) → ((p n : ℕ) → p < processors → has p n ↔ had p n)
    → (p n : ℕ) → p < processors → had p n ↔ has p n
turned has had processors same p n lt = ((same p n lt).1, (same p n lt).0)

-- a list of gaps is one of each set with the same numbers
pub gaps_agree : (has had : ℕ → ℕ → Type 0) (processors : ℕ) (gaps : List Gap)
    → ((p n : ℕ) → p < processors → has p n ↔ had p n) → IsGaps has processors gaps → IsGaps had processors gaps
gaps_agree has had processors gaps same listed = record {
  rising = listed.rising;
  members = λ gap. (
    λ h. gap_same has had processors same gap ((listed.members gap).0 h),
    λ is. (listed.members gap).1 (gap_same had has processors (turned has had processors same) gap is),
  );
}

-- the gaps of a key set are one list, and sets with the same keys have the same
pub gaps_are_determined : GapsAreDetermined
gaps_are_determined S R processors a b same listed other =
    let agree : (p n : ℕ) → p < processors → (S p n ≡ true) ↔ (R p n ≡ true) =
    (λ p n lt. (λ h. sym (same p n lt) ∙ h, λ h. same p n lt ∙ h)) in
    Lists-same IsGapBefore IsGapBefore-strict (IsGap (λ p n. R p n ≡ true) processors) (IsGap (λ p n. R p n ≡ true) processors) a b
    (λ gap. (λ h. h, λ h. h)) (gaps_agree (λ p n. S p n ≡ true) (λ p n. R p n ≡ true) processors a agree listed) other
