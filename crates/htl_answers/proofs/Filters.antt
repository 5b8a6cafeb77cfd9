-- One element more, which passes a test or doesn't, comes to what passes or is left out.
use Rattle.std.proofs.Common.{◌≡◌, ℕ, ◌+◌, ◌<◌, Bool, true, false, List, [], ◌∷◌, ◌++◌, length, take, get_or, sym, ap, ◌∙◌}
use Rattle.std.proofs.Common.{append-nil, append_assoc}
use Rattle.std.specs.Prelude.{filter}
use Rattle.std.proofs.lemmas.List.{take_more}
use Rattle.std.proofs.lemmas.List.Elements.{filter-append}
use Rattle.htl_event.proofs.Members.{filter-pass, filter-skip}

module _ {X : Type 0} (p : X → Bool) (old xs : List X) (i : ℕ) (x : X) (lt : i < length xs) (is : x ≡ get_or xs i x) where
  longer : take (i + 1) xs ≡ take i xs ++ x ∷ []
  longer = take_more xs i x lt ∙ ap (λ y. take i xs ++ y ∷ []) (sym is)

  -- the next one is added to those so far
  pub one_added : (rows new : List X) → rows ≡ old ++ filter p (take i xs) → p x ≡ true → new ≡ rows ++ x ∷ []
      → new ≡ old ++ filter p (take (i + 1) xs)
  one_added rows new so_far passes more =
      let kept : filter p (take i xs ++ x ∷ []) ≡ filter p (take i xs) ++ x ∷ [] = filter-append p (take i xs) (x ∷ [])
      ∙ ap (λ ys. filter p (take i xs) ++ ys) (filter-pass p x [] passes) in
      more ∙ ap (λ ys. ys ++ x ∷ []) so_far ∙ append_assoc old (filter p (take i xs)) (x ∷ [])
      ∙ ap (λ ys. old ++ ys) (sym kept ∙ ap (filter p) (sym longer))

  -- or it doesn't pass
  pub none_added : (rows : List X) → rows ≡ old ++ filter p (take i xs) → p x ≡ false → rows ≡ old ++ filter p (take (i + 1) xs)
  none_added rows so_far fails =
      let kept : filter p (take i xs ++ x ∷ []) ≡ filter p (take i xs) = filter-append p (take i xs) (x ∷ [])
      ∙ ap (λ ys. filter p (take i xs) ++ ys) (filter-skip p x [] fails) ∙ append-nil (filter p (take i xs)) in
      so_far ∙ ap (λ ys. old ++ ys) (sym kept ∙ ap (filter p) (sym longer))
