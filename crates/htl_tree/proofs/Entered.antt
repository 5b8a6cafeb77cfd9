-- What is done inside a node that was left only some of its frames is done, too, where all of them led to it.
use Rattle.std.proofs.Common.{◌≡◌, ℕ, ◌<◌, List, [], ◌∷◌, ◌++◌, length, reverse, Some, Result, MatchResult}
use Rattle.std.proofs.Common.{length-append, refl, sym, ◌∙◌, ap, subst, arith}
use Rattle.std.specs.Ordering.{nat_cmp}
use Rattle.std.specs.FinMap.Entries.{find}
use Rattle.std.proofs.lemmas.List.{nil_from_length, length-reverse, reverse-append, append-nil}
use Rattle.htl_event.specs.declared.slot.Slot.{Slot}
use Rattle.htl_event.specs.declared.slot.Sign.{Sign}
use Rattle.htl_tree.specs.declared.node.Node.{Node}
use Rattle.htl_tree.specs.Trees.{add_one}
use Rattle.htl_tree.specs.Nodes.{Position, frames, top, inside, tally, children, at_child, IsNormal, IsAdded, IsKept}
use Rattle.htl_tree.proofs.Positions.{find_before, tally_along}
use Rattle.htl_tree.proofs.CountAdded.{normal_child, normal_after, normal_inside, put_before, added_below, kept_before, match_result}
use Rattle.htl_tree.proofs.FiltersOfPositions.{filters_before}

-- ---- the path of a stack after these frames

-- nothing of the stack is left
pub path_ends : (stack left fs : List ℕ) → reverse stack ≡ fs ++ reverse left → length left ≡ 0 → reverse stack ≡ fs ++ []
path_ends stack left fs is none = is ∙ ap (λ l. fs ++ reverse l) (nil_from_length left none)

-- the path goes on with the last frame of what is left
pub path_goes_on : (stack left rest fs : List ℕ) (f : ℕ) → reverse stack ≡ fs ++ reverse left → left ≡ rest ++ f ∷ []
    → reverse stack ≡ fs ++ f ∷ reverse rest
path_goes_on stack left rest fs f is last = is ∙ ap (λ l. fs ++ l) (ap reverse last ∙ reverse-append rest (f ∷ []))

-- ---- positions inside the node, and those at its frames

tally_inside : {A : Type 0} (fs : List ℕ) (n : Node A) (path : List ℕ) (s : Slot) → tally (fs ++ path) s (fs, n) ≡ tally path s (inside n)
tally_inside fs n path s = ap (λ l. tally (fs ++ path) s (l, n)) (sym (append-nil fs)) ∙ tally_along fs (inside n) path s

-- what was added at a node was so at frames before it
added_before : {A : Type 0} (fs : List ℕ) (n m : Node A) → IsNormal (fs, n) → (path : List ℕ) (s : Slot) (sign : Sign)
    → IsAdded path s sign (inside n) (inside m) → IsAdded (fs ++ path) s sign (fs, n) (fs, m)
added_before [] n m h path s sign added = added
added_before (f ∷ fs) n m h path s sign added =
    added_below (f ∷ fs, n) (f ∷ fs, m) f (fs, m) refl (filters_before f (fs, m)) (put_before f (fs, n) (fs, m)) h (fs, n)
    (find_before f (fs, n)) (fs ++ path) s sign (added_before fs n m (normal_after f (fs, n) h) path s sign added)

kept_kept : {A : Type 0} (a b c : Position A) → IsKept a b → IsKept b c → IsKept a c
kept_kept a b c first second = record {
  normal = second.normal;
  counts = λ p s. second.counts p s ∙ first.counts p s;
  nonempty = λ some. second.nonempty (first.nonempty some);
}

kept_added : {A : Type 0} (a b c : Position A) (path : List ℕ) (s : Slot) (sign : Sign) → IsKept a b → IsAdded path s sign b c
    → IsAdded path s sign a c
kept_added a b c path s sign kept added = record {
  normal = added.normal;
  counts = record {
    here = added.counts.here ∙ ap (add_one sign) (kept.counts path s);
    elsewhere = λ p t other. added.counts.elsewhere p t other ∙ kept.counts p t;
  };
}

-- ---- what was done inside the node

-- a position that counts at the rest of the stack what was counted at the whole
pub record IsOnward {A : Type 0} (old : Position A) (stack rest : List ℕ) (inner : Position A) : Type 0 where
  pub normal : IsNormal inner
  pub counts : (s : Slot) → tally (reverse stack) s old ≡ tally (reverse rest) s inner
  pub shorter : length rest < length stack

module _ {A : Type 0} (old : Position A) (n : Node A) (kept : IsKept old (top n)) where
  -- where a node, seen from its top, kept what an old position counted, its inside is in normal form
  pub normal_entered : IsNormal (inside n)
  normal_entered = normal_inside (frames n) n kept.normal

  module _ (path rest : List ℕ) (is : path ≡ frames n ++ rest) (s : Slot) where
    -- what the old position counts along the whole path, the inside of the node counts along the rest of it
    pub entered_tally : tally path s old ≡ tally rest s (inside n)
    entered_tally = sym (kept.counts path s) ∙ ap (λ p. tally p s (top n)) is ∙ tally_inside (frames n) n rest s

    -- one added inside at the rest of the path is one added to the old position at the whole path
    pub entered_added : (m : Node A) → frames m ≡ frames n → (sign : Sign) → IsAdded rest s sign (inside n) (inside m)
        → IsAdded path s sign old (top m)
    entered_added m same sign added = subst (λ p. IsAdded p s sign old (top m)) (sym is)
        (kept_added old (top n) (top m) (frames n ++ rest) s sign kept
        (subst (λ l. IsAdded (frames n ++ rest) s sign (top n) (l, m)) (sym same)
        (added_before (frames n) n m kept.normal rest s sign added)))

  -- a node whose inside counts what the entered node's counted, seen from its top, counts what the old position did
  pub entered_kept : (m : Node A) → frames m ≡ frames n → IsKept (inside n) (inside m) → IsKept old (top m)
  entered_kept m same again = kept_kept old (top n) (top m) kept
      (subst (λ l. IsKept (top n) (l, m)) (sym same) (kept_before (frames n) n m kept.normal again))

  -- a count that was added inside, or refused
  pub entered_result : (path rest : List ℕ) → path ≡ frames n ++ rest → (s : Slot) (sign : Sign) (m : Node A) → frames m ≡ frames n
      → {X E : Type 0} (r : Result X E) → MatchResult r (λ _. IsAdded rest s sign (inside n) (inside m)) (λ _. IsKept (inside n) (inside m))
      → MatchResult r (λ _. IsAdded path s sign old (top m)) (λ _. IsKept old (top m))
  entered_result path rest is s sign m same r result = match_result r result
      (λ x added. entered_added path rest is s m same sign added) (λ x again. entered_kept m same again)

  -- the child that the path of a stack leads to
  pub onward : (stack rest : List ℕ) (f : ℕ) → reverse stack ≡ frames n ++ f ∷ reverse rest → (child : Position A)
      → find nat_cmp f (children (inside n)) ≡ Some child → IsOnward old stack rest child
  onward stack rest f path child found = record {
    normal = normal_child (inside n) normal_entered f child found;
    counts = λ s. entered_tally (reverse stack) (f ∷ reverse rest) path s ∙ ap (at_child (λ k. tally (reverse rest) s k)) found;
    shorter = omega (arith, ap length path, length-reverse stack, length-reverse rest, length-append (frames n) (f ∷ reverse rest));
  }
