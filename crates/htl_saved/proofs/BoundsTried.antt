-- The first processor that isn't bounded is why no state is made of folds.
use Rattle.std.proofs.Common.{◌≡◌, ℕ, ◌+◌, ◌<◌, List, length, map, get_or, sym, ◌∙◌, ap, arith, subst, inl, inr}
use Rattle.std.proofs.lemmas.Bool.{cases_lt}
use Rattle.std.proofs.lemmas.List.{get_or-map}
use Rattle.htl_state.specs.Rows.{Part}
use Rattle.htl_analyst.specs.declared.fault.RestoreFault.{RestoreFault}
use Rattle.htl_analyst.specs.declared.fault.RestoreFault.TheVariants.{Processors, Counts, Events, NoMemory}
use Rattle.htl_analyst.specs.Restored.{Fold, no_fold, fold_at, IsBounded, IsFirst, IsOver, HasCounts, HasEvents, RestoreRefused}
use Rattle.htl_saved.specs.Restored.{fold_told}

-- why the fold of the first processor that isn't bounded is refused
pub refused_at : (folds : List Fold) (i : ℕ) (fault : RestoreFault) → IsFirst folds i → IsOver (fold_at folds i) i fault
    → RestoreRefused folds fault
refused_at folds i Processors first over = absurd over
refused_at folds i (Counts q) first over =
    subst (λ (p : ℕ). IsFirst folds p × HasCounts (fold_at folds p)) (sym over.0) (first, over.1)
refused_at folds i (Events q) first over =
    subst (λ (p : ℕ). IsFirst folds p × HasEvents (fold_at folds p)) (sym over.0) (first, over.1)
refused_at folds i NoMemory first over = absurd over

-- the fold of the part at a place
pub fold_here : (table : List (List ℕ)) (parts : List Part) (i : ℕ) (part : Part) → i < length parts → part ≡ get_or parts i part
    → fold_at (map (fold_told table) parts) i ≡ fold_told table part
fold_here table parts i part lt is = get_or-map (fold_told table) parts i part no_fold lt ∙ ap (fold_told table) (sym is)

-- one processor more is bounded
pub more_bounded : (parts : List Part) (i : ℕ) (part : Part)
    → ((table : List (List ℕ)) (p : ℕ) → p < i → IsBounded (fold_at (map (fold_told table) parts) p)) → i < length parts
    → part ≡ get_or parts i part → ((table : List (List ℕ)) → IsBounded (fold_told table part))
    → (table : List (List ℕ)) (p : ℕ) → p < i + 1 → IsBounded (fold_at (map (fold_told table) parts) p)
more_bounded parts i part before lt is bounded table p below =
    elim (cases_lt p i) [
      | inl first ↦ before table p first
      | inr next ↦
          let at : i ≡ p = omega (arith, next, below) in
          subst (λ (q : ℕ). IsBounded (fold_at (map (fold_told table) parts) q)) at
          (subst IsBounded (sym (fold_here table parts i part lt is)) (bounded table))
    ]
