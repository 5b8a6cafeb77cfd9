-- What is so of a list is so with one element put in, and of each part of the list, and what is made of it goes along.
use Rattle.std.proofs.Common.{◌≡◌, ℕ, zero, suc, ◌≤◌, List, [], ◌∷◌, length, take, drop, map, insert, refl, ap, subst}
use Rattle.std.proofs.Common.{arith, inl, inr}
use Rattle.std.specs.Prelude.{Contains}
use Rattle.std.specs.List.{AllByRecursion}
use Rattle.htl_event.proofs.Members.{Contains-there, Contains-cases, Contains-nil, Contains-here, at_member, each_member}
use Rattle.htl_taken.proofs.Members.{Contains-drop}

-- an image is inserted at the same place
pub map-insert : {X Y : Type 0} (f : X → Y) (xs : List X) (i : ℕ) (x : X) → map f (insert xs i x) ≡ insert (map f xs) i (f x)
map-insert f [] zero x = refl
map-insert f [] (suc i) x = refl
map-insert f (y ∷ ys) zero x = refl
map-insert f (y ∷ ys) (suc i) x = ap (λ zs. f y ∷ zs) (map-insert f ys i x)

-- what holds of each element and of one more holds after it is inserted
pub all-insert : {X : Type 0} (P : X → Type 0) (xs : List X) (i : ℕ) (x : X) → AllByRecursion P xs → P x → AllByRecursion P (insert xs i x)
all-insert P [] zero x all here = (here, tt)
all-insert P [] (suc i) x all here = (here, tt)
all-insert P (y ∷ ys) zero x all here = (here, all)
all-insert P (y ∷ ys) (suc i) x all here = (all.0, all-insert P ys i x all.1 here)

-- an element of a first part is one of the whole
pub Contains-take : {X : Type 0} (k : ℕ) (xs : List X) (x : X) → Contains (take k xs) x → Contains xs x
Contains-take zero xs x h = absurd (Contains-nil x h)
Contains-take (suc k) [] x h = h
Contains-take (suc k) (y ∷ ys) x h =
    elim (Contains-cases y (take k ys) x h) [
      | inl e ↦ subst (λ w. Contains (y ∷ ys) w) e (Contains-here y ys)
      | inr there ↦ Contains-there y ys x (Contains-take k ys x there)
    ]

-- what holds of each element holds of each of a last part
pub all-drop : {X : Type 0} (P : X → Type 0) (k : ℕ) (xs : List X) → AllByRecursion P xs → AllByRecursion P (drop k xs)
all-drop P k xs all = each_member P (drop k xs) (λ x h. at_member P xs x all (Contains-drop k xs x h))

-- and of each of a first part
pub all-take : {X : Type 0} (P : X → Type 0) (k : ℕ) (xs : List X) → AllByRecursion P xs → AllByRecursion P (take k xs)
all-take P k xs all = each_member P (take k xs) (λ x h. at_member P xs x all (Contains-take k xs x h))

-- a first part is no longer than the whole
pub length-take-le : {X : Type 0} (k : ℕ) (xs : List X) → length (take k xs) ≤ length xs
length-take-le zero xs = omega arith
length-take-le (suc k) [] = omega arith
length-take-le (suc k) (x ∷ xs) = let ih = length-take-le k xs in omega (arith, ih)
