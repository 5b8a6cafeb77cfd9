-- New segments are taken one after the other.
use Rattle.std.proofs.Common.{◌≡◌, ℕ, ◌+◌, ◌<◌, List, [], ◌∷◌, ◌++◌, length, get_or, drop, refl, sym, ◌∙◌, ap, subst}
use Rattle.std.specs.List.{flat_map}
use Rattle.std.proofs.lemmas.List.{drop_more}
use Rattle.htl_segment.specs.Content.{Content}
use Rattle.htl_analyst.specs.States.{State}
use Rattle.htl_analyst.specs.Steps.{with_segment}
use Rattle.htl_state.specs.Rows.{Part}
use Rattle.htl_analyst.specs.Restored.{AreNew, with_segments}

-- two lists are taken one after the other
pub with_both : (a : State) (xs ys : List Content) → with_segments a (xs ++ ys) ≡ with_segments (with_segments a xs) ys
with_both a [] ys = refl
with_both a (s ∷ xs) ys = with_both (with_segment a s) xs ys

-- where all segments of two lists are new, those of the first are
pub first_new : (a : State) (xs ys : List Content) → AreNew a (xs ++ ys) → AreNew a xs
first_new a [] ys new = tt
first_new a (s ∷ xs) ys new = (new.0, new.1, first_new (with_segment a s) xs ys new.2)

-- and those of the second are new once the first are taken
pub rest_new : (a : State) (xs ys : List Content) → AreNew a (xs ++ ys) → AreNew (with_segments a xs) ys
rest_new a [] ys new = new
rest_new a (s ∷ xs) ys new = rest_new (with_segment a s) xs ys new.2

-- ---- the held segments of parts, part by part

abbrev held_of : List Part → List Content
held_of parts = flat_map (λ (p : Part). p.held) parts

module _ (a : State) (parts : List Part) (i : ℕ) (part : Part) (held : List Content) (lt : i < length parts)
    (is : part ≡ get_or parts i part) (same : held ≡ part.held) (new : AreNew a (held_of (drop i parts))) where
  split : held_of (drop i parts) ≡ held ++ held_of (drop (i + 1) parts)
  split = ap held_of (drop_more parts i part lt ∙ ap (λ (p : Part). p ∷ drop (i + 1) parts) (sym is))
      ∙ ap (λ (h : List Content). h ++ held_of (drop (i + 1) parts)) (sym same)

  split_new : AreNew a (held ++ held_of (drop (i + 1) parts))
  split_new = subst (AreNew a) split new

  -- those of the next part are new
  pub part_new : AreNew a held
  part_new = first_new a held (held_of (drop (i + 1) parts)) split_new

  -- once they are taken, those of the parts behind it are, and taking them too takes all
  pub part_taken : (b all : State) → b ≡ with_segments a held → with_segments a (held_of (drop i parts)) ≡ all
      → AreNew b (held_of (drop (i + 1) parts)) × (with_segments b (held_of (drop (i + 1) parts)) ≡ all)
  part_taken b all made whole = (
    subst (λ (c : State). AreNew c (held_of (drop (i + 1) parts))) (sym made) (rest_new a held (held_of (drop (i + 1) parts)) split_new),
    ap (λ (c : State). with_segments c (held_of (drop (i + 1) parts))) made ∙ sym (with_both a held (held_of (drop (i + 1) parts)))
        ∙ sym (ap (with_segments a) split) ∙ whole,
  )
