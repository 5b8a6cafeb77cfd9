-- A number comes at so many places of a list, whatever their order, and in sorted numbers repeats stand side by side.
use Rattle.std.proofs.Common.{◌≡◌, ℕ, suc, ◌+◌, ◌<◌, ◌≤◌, Bool, eqb, cond, List, [], ◌∷◌, length, get_or, drop}
use Rattle.std.proofs.Common.{IsPermutation, refl, sym, ap, ◌∙◌, subst, inl, inr, zero-add, arith}
use Rattle.std.specs.Prelude.{Contains}
use Rattle.std.specs.List.{AllByRecursion}
use Rattle.std.specs.List.Sorted.{IsNonDecreasing}
use Rattle.std.proofs.lemmas.Bool.{cases_eq, cases_lt, eq-eqb, ne_eqb}
use Rattle.std.proofs.lemmas.List.{drop_more, drop_all}
use Rattle.std.proofs.lemmas.List.Sums.{sum_by-cons}
use Rattle.std.proofs.lemmas.List.Sorted.{sum_by-IsPermutation}
use Rattle.htl_event.proofs.Members.{Contains-there, Contains-cases, Contains-cons, Contains-nil}
use Rattle.htl_event.proofs.Members.{each_member, AllByRecursion-weaker}
use Rattle.htl_event.specs.Members.{IsLeastSuch}
use Rattle.htl_segment.specs.Repeated.{times}

-- a head adds one to how often it comes, and nothing to how often another number does
pub times-cons : (x y : ℕ) (ys : List ℕ) → times x (y ∷ ys) ≡ cond (eqb y x) 1 0 + times x ys
times-cons x y ys = sum_by-cons (λ (z : ℕ). cond (eqb z x) 1 0) y ys

-- a head adds one to how often it comes
pub times_same : (x y : ℕ) (ys : List ℕ) → y ≡ x → times x (y ∷ ys) ≡ 1 + times x ys
times_same x y ys same = times-cons x y ys ∙ ap (λ (b : Bool). cond b 1 0 + times x ys) (eq-eqb y x same)

-- a head adds nothing to how often another number comes
pub times_other : (x y : ℕ) (ys : List ℕ) → (y ≡ x → ⊥) → times x (y ∷ ys) ≡ times x ys
times_other x y ys other = times-cons x y ys ∙ ap (λ (b : Bool). cond b 1 0 + times x ys) (ne_eqb y x other) ∙ zero-add (times x ys)

-- a member of a list comes once at least
pub some_times : (x : ℕ) (xs : List ℕ) → Contains xs x → 1 ≤ times x xs
some_times x [] h = absurd (Contains-nil x h)
some_times x (y ∷ ys) h =
    elim (Contains-cases y ys x h) [
      | inl is ↦ omega (arith, times_same x y ys is)
      | inr there ↦ omega (arith, times-cons x y ys, some_times x ys there)
    ]

-- a number that comes once at least is a member of the list
pub some_there : (x : ℕ) (xs : List ℕ) → 1 ≤ times x xs → Contains xs x
some_there x [] some = absurd (omega (arith, some))
some_there x (y ∷ ys) some =
    elim (cases_eq y x) [
      | inl is ↦ Contains-cons y ys x (inl is)
      | inr other ↦ Contains-there y ys x (some_there x ys (omega (arith, some, times_other x y ys other)))
    ]

none_above : (x : ℕ) (xs : List ℕ) → AllByRecursion (λ y. x < y) xs → times x xs ≡ 0
none_above x [] above = refl
none_above x (y ∷ ys) above = times_other x y ys (λ same. omega (arith, same, above.0)) ∙ none_above x ys above.1

-- ---- numbers that don't fall

abbrev AreRising : List ℕ → Type 0
AreRising [] = Unit {0}
AreRising (x ∷ xs) = AllByRecursion (λ y. x ≤ y) xs × AreRising xs

rising : (xs : List ℕ) → IsNonDecreasing xs → AreRising xs
rising [] up = tt
rising (x ∷ xs) up = (
  each_member (λ y. x ≤ y) xs (λ y h. let le = up 0 (suc h.0) y (omega arith) (omega (arith, h.1)) in omega (arith, le, h.2)),
  rising xs (λ i j d le lt. up (suc i) (suc j) d (omega (arith, le)) (omega (arith, lt))),
)

-- of numbers that don't fall, what was gone through: a number that comes twice comes twice in what is left
pub record AreGone (xs left : List ℕ) : Type 0 where
  pub rising : AreRising left
  pub counted : (x : ℕ) → 2 ≤ times x xs → 2 ≤ times x left
  pub inside : (x : ℕ) → times x left ≤ times x xs

-- before a loop over sorted numbers begins, nothing was gone through
pub none_gone : (xs : List ℕ) → IsNonDecreasing xs → AreGone xs xs
none_gone xs up = record { rising = rising xs up; counted = λ x two. two; inside = λ x. omega arith }

above_last : (last next : ℕ) (rest : List ℕ) → AreRising (last ∷ next ∷ rest) → (next ≡ last → ⊥)
    → AllByRecursion (λ y. last < y) (next ∷ rest)
above_last last next rest up other =
    let above : last < next = omega (arith, up.0.0, other) in
    (above, AllByRecursion-weaker (λ y. next ≤ y) (λ y. last < y) rest (λ y le. omega (arith, le, above)) up.1.0)

one_gone : (xs : List ℕ) (last next : ℕ) (rest : List ℕ) → (next ≡ last → ⊥) → AreGone xs (last ∷ next ∷ rest) → AreGone xs (next ∷ rest)
one_gone xs last next rest other gone = record {
  rising = gone.rising.1;
  counted = λ x two. (let before = gone.counted x two in elim (cases_eq last x) [
    | inl same ↦
        let none = none_above last (next ∷ rest) (above_last last next rest gone.rising other) in
        let none_x : times x (next ∷ rest) ≡ 0 = ap (λ (y : ℕ). times y (next ∷ rest)) (sym same) ∙ none in
        absurd (omega (arith, before, times_same x last (next ∷ rest) same, none_x))
    | inr differ ↦ omega (arith, before, times_other x last (next ∷ rest) differ)
  ]);
  inside = λ x. omega (arith, gone.inside x, times-cons x last (next ∷ rest));
}

found_twice : (xs : List ℕ) (last next : ℕ) (rest : List ℕ) → next ≡ last → AreGone xs (last ∷ next ∷ rest)
    → IsLeastSuch ◌<◌ (λ x. 2 ≤ times x xs) last
found_twice xs last next rest same gone = record {
  holds = omega (arith, gone.inside last, times_same last last (next ∷ rest) refl, times_same last next rest same);
  least = λ y lt two.
      let above : AllByRecursion (λ z. y < z) (last ∷ next ∷ rest) =
      (lt, AllByRecursion-weaker (λ z. last ≤ z) (λ z. y < z) (next ∷ rest) (λ z le. omega (arith, lt, le)) gone.rising.0) in
      omega (arith, gone.counted y two, none_above y (last ∷ next ∷ rest) above);
}

at_most_once : (x y : ℕ) → times x (y ∷ []) ≤ 1
at_most_once x y = elim (cases_eq y x) [
  | inl same ↦ omega (arith, times_same x y [] same)
  | inr other ↦ omega (arith, times_other x y [] other)
]

-- ---- the same at the place that a loop has come to

next_at : (rest : List ℕ) (i next d : ℕ) → i < length rest → next ≡ get_or rest i d → drop i rest ≡ next ∷ drop (i + 1) rest
next_at rest i next d lt is = drop_more rest i d lt ∙ ap (λ (x : ℕ). x ∷ drop (i + 1) rest) (sym is)

-- past two neighbours that differ, a number that comes twice still comes twice in what is left
pub gone_more : (xs rest : List ℕ) (i last next d : ℕ) → i < length rest → next ≡ get_or rest i d → (next ≡ last → ⊥)
    → AreGone xs (last ∷ drop i rest) → AreGone xs (next ∷ drop (i + 1) rest)
gone_more xs rest i last next d lt is other gone =
    one_gone xs last next (drop (i + 1) rest) other
    (subst (λ (left : List ℕ). AreGone xs (last ∷ left)) (next_at rest i next d lt is) gone)

-- the first of two neighbours that are equal is the least number that comes twice
pub gone_found : (xs rest : List ℕ) (i last next d : ℕ) → i < length rest → next ≡ get_or rest i d → next ≡ last
    → AreGone xs (last ∷ drop i rest) → IsLeastSuch ◌<◌ (λ x. 2 ≤ times x xs) last
gone_found xs rest i last next d lt is same gone =
    found_twice xs last next (drop (i + 1) rest) same
    (subst (λ (left : List ℕ). AreGone xs (last ∷ left)) (next_at rest i next d lt is) gone)

-- after the last number, no number comes twice
pub gone_all : (xs rest : List ℕ) (i last : ℕ) → length rest ≤ i → AreGone xs (last ∷ drop i rest) → (x : ℕ) → times x xs ≤ 1
gone_all xs rest i last le gone x =
    let end = subst (λ (left : List ℕ). AreGone xs (last ∷ left)) (drop_all i rest le) gone in
    elim (cases_lt 1 (times x xs)) [
      | inl two ↦ absurd (omega (arith, end.counted x (omega (arith, two)), at_most_once x last))
      | inr one ↦ one
    ]

-- a number comes as often in a list as in the same list in another order
pub times-IsPermutation : (x : ℕ) (xs ys : List ℕ) → IsPermutation xs ys → times x ys ≡ times x xs
times-IsPermutation x xs ys moved = sum_by-IsPermutation (λ (y : ℕ). cond (eqb y x) 1 0) xs ys moved
