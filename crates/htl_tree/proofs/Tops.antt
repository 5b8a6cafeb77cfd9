-- A node's list of children says where, among the positions at their tops, the one of a frame stands or would go.
use Rattle.std.proofs.Common.{◌≡◌, ℕ, List, [], ◌∷◌, ◌&&◌, get_or, set, Some, None, T, true, false, cond}
use Rattle.std.proofs.Common.{refl, sym, ◌∙◌, ap, subst}
use Rattle.std.specs.Ordering.{nat_cmp, is_lt, eq_by_cmp}
use Rattle.std.specs.declared.cmp.Ordering.TheVariants.{Less, Equal, Greater}
use Rattle.std.specs.List.{insert}
use Rattle.std.specs.Option.{option_map}
use Rattle.std.specs.FinMap.Entries.{find, put, below_all, by_order, is_sorted}
use Rattle.htl_sorted.specs.Entries.{IsSorted, IsPlace, IsGap}
use Rattle.htl_tree.specs.declared.node.Node.{Node}
use Rattle.htl_tree.specs.Nodes.{Position, top, inside, tops, children, children_of, IsNormal}
use Rattle.htl_tree.proofs.CountAdded.{normal_here}

-- the top of a child, with its frame
abbrev pub top_of : {A : Type 0} → ℕ × Node A → ℕ × Position A
top_of k = (k.0, top k.1)

module _ {A : Type 0} where
  below_tops : (f : ℕ) (ks : List (ℕ × Node A)) → below_all nat_cmp f (tops ks) ≡ below_all nat_cmp f ks
  below_tops f [] = refl
  below_tops f (k ∷ ks) = ap (λ b. is_lt (nat_cmp f k.0) && b) (below_tops f ks)

  sorted_tops : (ks : List (ℕ × Node A)) → is_sorted nat_cmp (tops ks) ≡ is_sorted nat_cmp ks
  sorted_tops [] = refl
  sorted_tops (k ∷ ks) = ap (λ b. b && is_sorted nat_cmp (tops ks)) (below_tops k.0 ks)
      ∙ ap (λ b. below_all nat_cmp k.0 ks && b) (sorted_tops ks)

  -- the children of a normal node are in the order of their frames
  pub children_sorted : (n : Node A) → IsNormal (inside n) → IsSorted nat_cmp (children_of n)
  children_sorted n h = subst (λ b. T b) (sorted_tops (children_of n)) (normal_here (inside n) h).frames

  find_tops : (f : ℕ) (ks : List (ℕ × Node A)) → find nat_cmp f (tops ks) ≡ option_map top (find nat_cmp f ks)
  find_tops f [] = refl
  find_tops f (k ∷ ks) = elim (eq_by_cmp nat_cmp f k.0)
      as (λ b. cond b (Some (top k.1)) (find nat_cmp f (tops ks)) ≡ option_map top (cond b (Some k.1) (find nat_cmp f ks))) [
        | true ↦ refl
        | false ↦ find_tops f ks
      ]

  put_tops : (f : ℕ) (c : Node A) (ks : List (ℕ × Node A)) → put nat_cmp f (top c) (tops ks) ≡ tops (put nat_cmp f c ks)
  put_tops f c [] = refl
  put_tops f c (k ∷ ks) = elim (nat_cmp f k.0)
      as (λ r. by_order r ((f, top c) ∷ tops (k ∷ ks)) ((k.0, top c) ∷ tops ks) (top_of k ∷ put nat_cmp f (top c) (tops ks))
      ≡ tops (by_order r ((f, c) ∷ k ∷ ks) ((k.0, c) ∷ ks) (k ∷ put nat_cmp f c ks))) [
        | Less ↦ refl
        | Equal ↦ refl
        | Greater ↦ ap (λ l. top_of k ∷ l) (put_tops f c ks)
      ]

  module _ (n : Node A) (ks : List (ℕ × Node A)) (same : ks ≡ children_of n) (f i : ℕ) where
    module _ (at : IsPlace nat_cmp ks f i) (d : ℕ × Node A) (is : d ≡ get_or (children_of n) i d) where
      place : IsPlace nat_cmp (children_of n) f i
      place = subst (λ l. IsPlace nat_cmp l f i) same at

      -- the child at the place of its frame
      pub found_top : find nat_cmp f (children (inside n)) ≡ Some (top d.1)
      found_top = find_tops f (children_of n) ∙ ap (option_map top) (place.value d) ∙ ap (λ (k : ℕ × Node A). Some (top k.1)) (sym is)

      -- another node in that child's place
      pub set_top : (m c : Node A) → children_of m ≡ set (children_of n) i (d.0, c) → children (inside m) ≡ put nat_cmp f (top c) (children (inside n))
      set_top m c new =
          let placed : set (children_of n) i (d.0, c) ≡ put nat_cmp f c (children_of n) =
          ap (λ (k : ℕ × Node A). set (children_of n) i (k.0, c)) is ∙ sym (place.puts d c) in
          ap tops (new ∙ placed) ∙ sym (put_tops f c (children_of n))

    module _ (at : IsGap nat_cmp ks f i) where
      gap : IsGap nat_cmp (children_of n) f i
      gap = subst (λ l. IsGap nat_cmp l f i) same at

      -- no child has the frame of a gap
      pub no_top : find nat_cmp f (children (inside n)) ≡ None
      no_top = find_tops f (children_of n) ∙ ap (option_map top) gap.value

      -- a new child in the gap
      pub insert_top : (m c : Node A) → children_of m ≡ insert (children_of n) i (f, c) → children (inside m) ≡ put nat_cmp f (top c) (children (inside n))
      insert_top m c new = ap tops (new ∙ sym (gap.puts c)) ∙ sym (put_tops f c (children_of n))
