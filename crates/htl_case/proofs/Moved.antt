-- What is made of a list element by element changes places as its elements do.
use Rattle.std.proofs.Common.{◌≡◌, ℕ, zero, suc, ◌<◌, List, [], ◌∷◌, ◌++◌, length, get_or, set, map, Bool, refl, sym, ap, ◌∙◌, arith}
use Rattle.std.proofs.Common.{IsPermutation}
use Rattle.std.specs.Prelude.{filter}
use Rattle.std.specs.List.{swap, flat_map}
use Rattle.std.proofs.Math.ListN.{get_or-map}
use Rattle.std.proofs.lemmas.List.{append_assoc, length-map, map-set}
use Rattle.std.proofs.lemmas.List.Elements.{filter-append}
use Rattle.std.proofs.lemmas.List.Sorted.{IsPermutation-refl, IsPermutation-trans, IsPermutation-keeps, IsPermutation-swap}
use Rattle.std.proofs.lemmas.List.Sorted.{IsPermutation-append_left, IsPermutation-append_right, IsPermutation-append_comm}

-- ---- the list behind a list of images

-- where the images changed places, so did what they are images of
pub record AreImages {X Y : Type 0} (f : X → Y) (xs : List X) (ys : List Y) : Type 0 where
  pub behind : List X
  pub moved : IsPermutation xs behind
  pub are : ys ≡ map f behind

module _ {X Y : Type 0} (f : X → Y) where
  swap_images : (xs : List X) (i j : ℕ) → i < length xs → j < length xs → swap (map f xs) i j ≡ map f (swap xs i j)
  swap_images [] i j p q = refl
  swap_images (x ∷ xs) i j p q =
      ap (λ v. set (set (map f (x ∷ xs)) i v) j (get_or (map f (x ∷ xs)) i (f x))) (get_or-map f (x ∷ xs) j x)
      ∙ ap (λ v. set (set (map f (x ∷ xs)) i (f (get_or (x ∷ xs) j x))) j v) (get_or-map f (x ∷ xs) i x)
      ∙ ap (λ l. set l j (f (get_or (x ∷ xs) i x))) (sym (map-set f (x ∷ xs) i (get_or (x ∷ xs) j x)))
      ∙ sym (map-set f (set (x ∷ xs) i (get_or (x ∷ xs) j x)) j (get_or (x ∷ xs) i x))

  -- where the images of a list change places, its elements change places accordingly
  pub images_moved : (xs : List X) (ys : List Y) → IsPermutation (map f xs) ys → AreImages f xs ys
  images_moved xs ys = IsPermutation-keeps (map f xs) (AreImages f xs)
      (record { behind = xs; moved = IsPermutation-refl xs; are = refl })
      (λ l i j p q so_far.
      let len : length l ≡ length so_far.behind = ap length so_far.are ∙ length-map so_far.behind f in
      let p' : i < length so_far.behind = omega (arith, p, len) in
      let q' : j < length so_far.behind = omega (arith, q, len) in record {
        behind = swap so_far.behind i j;
        moved = IsPermutation-trans xs so_far.behind _ so_far.moved
            (IsPermutation-swap so_far.behind (swap so_far.behind i j) i j p' q' refl);
        are = ap (λ k. swap k i j) so_far.are ∙ swap_images so_far.behind i j p' q';
      }) ys

-- ---- lists put one after the other

module _ {X Y : Type 0} (f : X → List Y) where
  -- the first two of three lists change places
  rotated : (us vs ws : List Y) → IsPermutation (us ++ (vs ++ ws)) (vs ++ (us ++ ws))
  rotated us vs ws = rw (← append_assoc us vs ws, ← append_assoc vs us ws)
      (IsPermutation-append_left ws (us ++ vs) (vs ++ us) (IsPermutation-append_comm us vs))

  -- the element at a place and the one in front of all change places
  exchanged : (d x : X) (xs : List X) (i : ℕ) → i < length xs
      → IsPermutation (f x ++ flat_map f xs) (f (get_or xs i d) ++ flat_map f (set xs i x))
  exchanged d x [] i lt = absurd (omega (arith, lt))
  exchanged d x (y ∷ xs) zero lt = rotated (f x) (f y) (flat_map f xs)
  exchanged d x (y ∷ xs) (suc i) lt =
      IsPermutation-trans _ _ _ (rotated (f x) (f y) (flat_map f xs))
      (IsPermutation-trans _ _ _ (IsPermutation-append_right (f y) _ _ (exchanged d x xs i (omega (arith, lt))))
      (rotated (f y) (f (get_or xs i d)) (flat_map f (set xs i x))))

  swapped : (d : X) (xs : List X) (i j : ℕ) → i < length xs → j < length xs
      → IsPermutation (flat_map f xs) (flat_map f (set (set xs i (get_or xs j d)) j (get_or xs i d)))
  swapped d [] i j p q = absurd (omega (arith, p))
  swapped d (x ∷ xs) zero zero p q = IsPermutation-refl (f x ++ flat_map f xs)
  swapped d (x ∷ xs) zero (suc j) p q = exchanged d x xs j (omega (arith, q))
  swapped d (x ∷ xs) (suc i) zero p q = exchanged d x xs i (omega (arith, p))
  swapped d (x ∷ xs) (suc i) (suc j) p q =
      IsPermutation-append_right (f x) _ _ (swapped d xs i j (omega (arith, p)) (omega (arith, q)))

  swap_flat : (xs : List X) (i j : ℕ) → i < length xs → j < length xs → IsPermutation (flat_map f xs) (flat_map f (swap xs i j))
  swap_flat [] i j p q = IsPermutation-refl []
  swap_flat (x ∷ xs) i j p q = swapped x (x ∷ xs) i j p q

  -- the lists of elements that change places, put one after the other, change places
  pub flat_moved : (xs ys : List X) → IsPermutation xs ys → IsPermutation (flat_map f xs) (flat_map f ys)
  flat_moved xs ys = IsPermutation-keeps xs (λ l. IsPermutation (flat_map f xs) (flat_map f l)) (IsPermutation-refl (flat_map f xs))
      (λ l i j p q so_far. IsPermutation-trans _ _ _ so_far (swap_flat l i j p q)) ys

  -- what passes a test of lists put one after the other is what passes of each list, in order
  pub filter_flat : (p : Y → Bool) (xs : List X) → filter p (flat_map f xs) ≡ flat_map (λ x. filter p (f x)) xs
  filter_flat p [] = refl
  filter_flat p (x ∷ xs) = filter-append p (f x) (flat_map f xs) ∙ ap (λ l. filter p (f x) ++ l) (filter_flat p xs)

module _ {X Y : Type 0} (f : X → List Y) (p : Y → Bool) where
  -- what passes a test changes places with the rest
  pub filter_moved : (xs ys : List X) → IsPermutation xs ys → IsPermutation (filter p (flat_map f xs)) (filter p (flat_map f ys))
  filter_moved xs ys moved = rw (filter_flat f p xs, filter_flat f p ys) (flat_moved (λ x. filter p (f x)) xs ys moved)

singles : {X : Type 0} (xs : List X) → flat_map (λ x. x ∷ []) xs ≡ xs
singles [] = refl
singles (x ∷ xs) = ap (λ l. x ∷ l) (singles xs)

-- what passes a test of elements that change places changes places
pub kept_moved : {X : Type 0} (p : X → Bool) (xs ys : List X) → IsPermutation xs ys → IsPermutation (filter p xs) (filter p ys)
kept_moved p xs ys moved = rw (singles xs, singles ys) at (filter_moved (λ x. x ∷ []) p xs ys moved)
