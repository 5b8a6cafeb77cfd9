-- Where one list is used up, what is left of the other ends the merge.
use Rattle.std.proofs.Common.{◌≡◌, ℕ, ◌≤◌, length, arith, List, ◌++◌, append_assoc, ap, ◌∙◌, ◌⊎◌, sym, inl, inr}
use Rattle.std.proofs.lemmas.List.{nil_from_length}
use Rattle.htl_taken.specs.Merging.{merged}
use Rattle.htl_taken.proofs.Merging.{merged_over}
use Rattle.htl_taken.proofs.sorted_numbers.merge_into.Goals as goal
use Rattle.htl_taken.proofs.sorted_numbers.merge_into.Goals.{in_default, in_default-2}

-- the end of a merge: where one list is used up, the other goes last
ended : (target all left right : List ℕ) → target ++ merged left right ≡ all → (length left ≤ 0) ⊎ (length right ≤ 0)
    → (target ++ left) ++ right ≡ all
ended target all left right kept nil = append_assoc target left right ∙ ap (λ (w : List ℕ). target ++ w) (sides nil) ∙ kept where
  sides : (length left ≤ 0) ⊎ (length right ≤ 0) → left ++ right ≡ merged left right
  sides (inl h) = sym (merged_over left right (inl (nil_from_length left (omega arith))))
  sides (inr h) = sym (merged_over left right (inr (nil_from_length right (omega arith))))

pub returns : goal.returns
returns g c =
    let first = c.in_ok-extend_from_slice.ensures.items in
    let second = c.in_ok-extend_from_slice-2.ensures.items in
    let nil : (length c.loop-l.left.now ≤ 0) ⊎ (length c.loop-l.right.now ≤ 0) = elim c.match-first.branch [
      | in_default w ↦ inr (w.in_default.ensures'.item.3)
      | in_default-2 w ↦ inl (w.in_default.ensures.item.3)
    ] in
    rw (second, first) (ended c.loop-l.target.items _ c.loop-l.left.now c.loop-l.right.now c.loop-l.invariant nil)
