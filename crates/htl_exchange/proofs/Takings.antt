-- Taking the segments of a run one by one moves each from the rest to the analyst.
use Rattle.std.proofs.Common.{◌≡◌, ◌⊎◌, ℕ, List, [], ◌∷◌, ◌++◌, sym, ap, ◌∙◌, subst, inl, inr}
use Rattle.std.specs.Prelude.{Contains, ◌↔◌}
use Rattle.std.proofs.lemmas.List.Elements.{Contains-push_cases}
use Rattle.htl_lemmas.proofs.Members.{last_member, front_member}
use Rattle.htl_segment.specs.Content.{Content}
use Rattle.htl_analyst.specs.States.{State}
use Rattle.htl_analyst.specs.Keys.{HasTaken}
use Rattle.htl_exchange.specs.Parcels.{HasSegment}

-- the last segment moved from the list to the analyst
pub one_taken : (a b : State) (old new : List Content) (s : Content) → old ≡ new ++ s ∷ []
    → ((p n : ℕ) → HasTaken b p n ↔ (HasTaken a p n ⊎ ((p ≡ s.processor) × (n ≡ s.number))))
    → (p n : ℕ) → (HasTaken b p n ⊎ HasSegment new p n) ↔ (HasTaken a p n ⊎ HasSegment old p n)
one_taken a b old new s is taken p n = (there, back)
  where
    there : (HasTaken b p n ⊎ HasSegment new p n) → (HasTaken a p n ⊎ HasSegment old p n)
    there (inl t) = elim ((taken p n).0 t) [
      | inl was ↦ inl was
      | inr now ↦ inr (s, last_member old new s is, sym now.0, sym now.1)
    ]
    there (inr h) = inr (h.0, front_member old new s h.0 is h.1, h.2, h.3)

    back : (HasTaken a p n ⊎ HasSegment old p n) → (HasTaken b p n ⊎ HasSegment new p n)
    back (inl was) = inl ((taken p n).1 (inl was))
    back (inr h) = elim (Contains-push_cases new s h.0 (subst (λ l. Contains l h.0) is h.1)) [
      | inl front ↦ inr (h.0, front, h.2, h.3)
      | inr last ↦ inl ((taken p n).1 (inr (sym h.2 ∙ ap (λ (x : Content). x.processor) (sym last), sym h.3 ∙ ap (λ (x : Content). x.number) (sym last))))
    ]
