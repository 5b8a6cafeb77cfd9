-- The members of a list with one element put in, or without its first elements, follow from those of the list.
use Rattle.std.proofs.Common.{◌≡◌, ℕ, zero, suc, List, [], ◌∷◌, arith, inl, inr, ◌⊎◌, drop, insert}
use Rattle.std.specs.Prelude.{Contains}
use Rattle.htl_event.proofs.Members.{Contains-here, Contains-there, Contains-cases, Contains-nil}

-- the head of a list is a member, whatever it is called
pub Contains-head : {X : Type 0} (x : X) (xs : List X) (y : X) → x ≡ y → Contains (x ∷ xs) y
Contains-head x xs y e = (0, omega arith, e)

-- a member of a list with one element put in is one of the list or the new element
pub Contains-insert : {X : Type 0} (xs : List X) (i : ℕ) (x y : X) → Contains (insert xs i x) y → Contains xs y ⊎ (x ≡ y)
Contains-insert [] zero x y h = elim (Contains-cases x [] y h) [ inl e ↦ inr e | inr bad ↦ inl bad ]
Contains-insert [] (suc i) x y h = elim (Contains-cases x [] y h) [ inl e ↦ inr e | inr bad ↦ inl bad ]
Contains-insert (z ∷ zs) zero x y h = elim (Contains-cases x (z ∷ zs) y h) [ inl e ↦ inr e | inr old ↦ inl old ]
Contains-insert (z ∷ zs) (suc i) x y h =
    elim (Contains-cases z (insert zs i x) y h) [
      | inl e ↦ inl (Contains-head z zs y e)
      | inr there ↦ elim (Contains-insert zs i x y there) [ inl old ↦ inl (Contains-there z zs y old) | inr e ↦ inr e ]
    ]

-- the element that was put in is a member
pub Contains-insert_new : {X : Type 0} (xs : List X) (i : ℕ) (x : X) → Contains (insert xs i x) x
Contains-insert_new [] zero x = Contains-here x []
Contains-insert_new [] (suc i) x = Contains-here x []
Contains-insert_new (z ∷ zs) zero x = Contains-here x (z ∷ zs)
Contains-insert_new (z ∷ zs) (suc i) x = Contains-there z (insert zs i x) x (Contains-insert_new zs i x)

-- each member stays one where an element is put in
pub Contains-insert_old : {X : Type 0} (xs : List X) (i : ℕ) (x y : X) → Contains xs y → Contains (insert xs i x) y
Contains-insert_old [] i x y h = absurd (Contains-nil y h)
Contains-insert_old (z ∷ zs) zero x y h = Contains-there x (z ∷ zs) y h
Contains-insert_old (z ∷ zs) (suc i) x y h =
    elim (Contains-cases z zs y h) [
      | inl e ↦ Contains-head z (insert zs i x) y e
      | inr there ↦ Contains-there z (insert zs i x) y (Contains-insert_old zs i x y there)
    ]

-- a member of what is left of a list is one of the list
pub Contains-drop : {X : Type 0} (k : ℕ) (xs : List X) (x : X) → Contains (drop k xs) x → Contains xs x
Contains-drop zero xs x h = h
Contains-drop (suc k) [] x h = h
Contains-drop (suc k) (y ∷ ys) x h = Contains-there y ys x (Contains-drop k ys x h)
