-- Of a list of segments each key has a first one, which stays the first when more come.
use Rattle.std.proofs.Common.{◌≡◌, ℕ, List, [], ◌∷◌, ◌++◌, refl, ap, ◌∙◌, subst, inl, inr}
use Rattle.std.specs.Prelude.{Contains}
use Rattle.std.proofs.lemmas.Bool.{cases_eq}
use Rattle.htl_event.proofs.Members.{Contains-cases, Contains-here, Contains-nil, Contains-there}
use Rattle.htl_segment.specs.Content.{Content}
use Rattle.htl_analyst.specs.TakenAll.{HasKeyOf, IsFirstOf}

-- the first segment of a key is one of the list
pub is_member : (ss : List Content) (s : Content) → IsFirstOf ss s → Contains ss s
is_member [] s first = absurd first
is_member (t ∷ ss) s first =
    elim first [
      | inl is ↦ subst (Contains (t ∷ ss)) is (Contains-here t ss)
      | inr later ↦ Contains-there t ss s (is_member ss s later.1)
    ]

-- it stays the first where more segments come
pub still_first : (ss more : List Content) (s : Content) → IsFirstOf ss s → IsFirstOf (ss ++ more) s
still_first [] more s first = absurd first
still_first (t ∷ ss) more s first =
    elim first [
      | inl is ↦ inl is
      | inr later ↦ inr (later.0, still_first ss more s later.1)
    ]

-- behind segments of other keys a segment is the first of its own
pub first_at_end : (ss : List Content) (s : Content) → (HasKeyOf ss s.processor s.number → ⊥) → IsFirstOf (ss ++ s ∷ []) s
first_at_end [] s new = inl refl
first_at_end (t ∷ ss) s new = inr (
  λ p n. new (t, Contains-here t ss, p, n),
  first_at_end ss s (λ key. new (key.0, Contains-there t ss key.0 key.1, key.2, key.3)),
)

-- the list has a first segment of this key
abbrev HasFirstOf : List Content → ℕ → ℕ → Type 0
HasFirstOf ss p n = (s : Content) × IsFirstOf ss s × (s.processor ≡ p) × (s.number ≡ n)

behind : (t : Content) (ss : List Content) (p n : ℕ) → HasKeyOf (t ∷ ss) p n → (t.processor ≡ p → t.number ≡ n → ⊥)
    → (HasKeyOf ss p n → HasFirstOf ss p n) → HasFirstOf (t ∷ ss) p n
behind t ss p n key other first =
    let there : HasKeyOf ss p n =
    elim (Contains-cases t ss key.0 key.1) [
      | inl is ↦ absurd (other (ap (λ (x : Content). x.processor) is ∙ key.2) (ap (λ (x : Content). x.number) is ∙ key.3))
      | inr later ↦ (key.0, later, key.2, key.3)
    ] in
    let found = first there in
    (found.0, inr (λ ep en. other (ep ∙ found.2) (en ∙ found.3), found.1), found.2, found.3)

-- each key of the list has a first segment
pub first_of_key : (ss : List Content) (p n : ℕ) → HasKeyOf ss p n → (s : Content) × IsFirstOf ss s × (s.processor ≡ p) × (s.number ≡ n)
first_of_key [] p n key = absurd (Contains-nil key.0 key.1)
first_of_key (t ∷ ss) p n key =
    elim (cases_eq t.processor p) [
      | inl own ↦ elim (cases_eq t.number n) [
        | inl same ↦ (t, inl refl, own, same)
        | inr other ↦ behind t ss p n key (λ ep en. other en) (first_of_key ss p n)
      ]
      | inr other ↦ behind t ss p n key (λ ep en. other ep) (first_of_key ss p n)
    ]
