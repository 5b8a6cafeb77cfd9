-- Two rising lists merged into one give a rising list with the numbers of both.
use Rattle.std.proofs.Common.{◌≡◌, ℕ, ◌+◌, ◌<◌, ◌≤◌, List, [], ◌∷◌, ◌++◌, refl, sym, ap, ◌∙◌, subst, append-nil, arith, inl, inr, ◌⊎◌}
use Rattle.std.specs.Prelude.{Contains}
use Rattle.std.proofs.lemmas.Bool.{cases_lt, lt-ltb, le-ltb}
use Rattle.htl_taken.specs.Rising.{Rises}
use Rattle.htl_taken.specs.Merging.{merged}
use Rattle.htl_event.proofs.Members.{Contains-there, Contains-cases, Contains-nil}
use Rattle.htl_taken.proofs.Members.{Contains-head}

pub merged-right : (x : ℕ) (xs : List ℕ) (y : ℕ) (ys : List ℕ) → y < x → merged (x ∷ xs) (y ∷ ys) ≡ y ∷ merged (x ∷ xs) ys
merged-right x xs y ys lt = rw (lt-ltb y x lt) refl

pub merged-left : (x : ℕ) (xs : List ℕ) (y : ℕ) (ys : List ℕ) → x < y → merged (x ∷ xs) (y ∷ ys) ≡ x ∷ merged xs (y ∷ ys)
merged-left x xs y ys lt = let le : x ≤ y = omega arith in rw (le-ltb y x le, lt-ltb x y lt) refl

pub merged-both : (x : ℕ) (xs : List ℕ) (y : ℕ) (ys : List ℕ) → x ≡ y → merged (x ∷ xs) (y ∷ ys) ≡ x ∷ merged xs ys
merged-both x xs y ys e = let le : x ≤ y = omega arith in let ge : y ≤ x = omega arith in rw (le-ltb y x le, le-ltb x y ge) refl

pub merged-nil : (xs : List ℕ) → merged xs [] ≡ xs
merged-nil [] = refl
merged-nil (x ∷ xs) = ap (λ (zs : List ℕ). x ∷ zs) (merged-nil xs)

-- where one list is empty the other is all
pub merged_over : (xs ys : List ℕ) → (xs ≡ []) ⊎ (ys ≡ []) → merged xs ys ≡ xs ++ ys
merged_over xs ys (inl e) = rw e refl
merged_over xs ys (inr e) = rw e (merged-nil xs ∙ sym (append-nil xs))

rises_with : (high x : ℕ) (xs : List ℕ) → ((zs : List ℕ) → Rises (x + 1) high zs → Rises (x + 1) high (merged xs zs))
    → (low : ℕ) (zs : List ℕ) → low ≤ x → Rises (x + 1) high xs → Rises low high zs → Rises low high (merged (x ∷ xs) zs)
rises_with high x xs rest low [] le r rz = (le, rw (merged-nil xs) r)
rises_with high x xs rest low (z ∷ zs) le r rz =
    elim (cases_lt z x) [
      | inl lt ↦ rw (merged-right x xs z zs lt) (rz.0, rises_with high x xs rest (z + 1) zs (omega arith) r rz.1)
      | inr ge ↦ elim (cases_lt x z) [
        | inl lt ↦ rw (merged-left x xs z zs lt) (le, rest (z ∷ zs) (omega arith, rz.1))
        | inr ge' ↦
            let e : x ≡ z = omega arith in
            let moved : z + 1 ≡ x + 1 = omega arith in
            rw (merged-both x xs z zs e) (le, rest zs (subst (λ (b : ℕ). Rises b high zs) moved rz.1))
      ]
    ]

-- the merge of two rising lists rises
pub Rises-merged : (low high : ℕ) (xs ys : List ℕ) → Rises low high xs → Rises low high ys → Rises low high (merged xs ys)
Rises-merged low high [] ys rx ry = ry
Rises-merged low high (x ∷ xs) ys rx ry = rises_with high x xs (λ zs. Rises-merged (x + 1) high xs zs rx.1) low ys rx.0 rx.1 ry

left_with : (n x : ℕ) (xs : List ℕ) → ((zs : List ℕ) → Contains xs n → Contains (merged xs zs) n)
    → Contains (x ∷ xs) n → (zs : List ℕ) → Contains (merged (x ∷ xs) zs) n
left_with n x xs rest h [] = subst (λ (ws : List ℕ). Contains (x ∷ ws) n) (sym (merged-nil xs)) h
left_with n x xs rest h (z ∷ zs) =
    elim (cases_lt z x) [
      | inl lt ↦ rw (merged-right x xs z zs lt) (Contains-there z (merged (x ∷ xs) zs) n (left_with n x xs rest h zs))
      | inr ge ↦ elim (cases_lt x z) [
        | inl lt ↦ rw (merged-left x xs z zs lt) (elim (Contains-cases x xs n h) [
          | inl e ↦ Contains-head x (merged xs (z ∷ zs)) n e
          | inr there ↦ Contains-there x (merged xs (z ∷ zs)) n (rest (z ∷ zs) there)
        ])
        | inr ge' ↦
            let e : x ≡ z = omega arith in
            rw (merged-both x xs z zs e) (elim (Contains-cases x xs n h) [
              | inl is ↦ Contains-head x (merged xs zs) n is
              | inr there ↦ Contains-there x (merged xs zs) n (rest zs there)
            ])
      ]
    ]

-- the merge has each number of the first list
pub Contains-merged_left : (xs ys : List ℕ) (n : ℕ) → Contains xs n → Contains (merged xs ys) n
Contains-merged_left [] ys n h = absurd (Contains-nil n h)
Contains-merged_left (x ∷ xs) ys n h = left_with n x xs (λ zs. Contains-merged_left xs zs n) h ys

right_with : (n x : ℕ) (xs : List ℕ) → ((zs : List ℕ) → Contains zs n → Contains (merged xs zs) n)
    → (zs : List ℕ) → Contains zs n → Contains (merged (x ∷ xs) zs) n
right_with n x xs rest [] h = absurd (Contains-nil n h)
right_with n x xs rest (z ∷ zs) h =
    elim (cases_lt z x) [
      | inl lt ↦ rw (merged-right x xs z zs lt) (elim (Contains-cases z zs n h) [
        | inl e ↦ Contains-head z (merged (x ∷ xs) zs) n e
        | inr there ↦ Contains-there z (merged (x ∷ xs) zs) n (right_with n x xs rest zs there)
      ])
      | inr ge ↦ elim (cases_lt x z) [
        | inl lt ↦ rw (merged-left x xs z zs lt) (Contains-there x (merged xs (z ∷ zs)) n (rest (z ∷ zs) h))
        | inr ge' ↦
            let e : x ≡ z = omega arith in
            rw (merged-both x xs z zs e) (elim (Contains-cases z zs n h) [
              | inl is ↦ Contains-head x (merged xs zs) n (e ∙ is)
              | inr there ↦ Contains-there x (merged xs zs) n (rest zs there)
            ])
      ]
    ]

-- the merge has each number of the second list
pub Contains-merged_right : (xs ys : List ℕ) (n : ℕ) → Contains ys n → Contains (merged xs ys) n
Contains-merged_right [] ys n h = h
Contains-merged_right (x ∷ xs) ys n h = right_with n x xs (λ zs. Contains-merged_right xs zs n) ys h

from_with : (n x : ℕ) (xs : List ℕ) → ((zs : List ℕ) → Contains (merged xs zs) n → Contains xs n ⊎ Contains zs n)
    → (zs : List ℕ) → Contains (merged (x ∷ xs) zs) n → Contains (x ∷ xs) n ⊎ Contains zs n
from_with n x xs rest [] h = inl (subst (λ (ws : List ℕ). Contains (x ∷ ws) n) (merged-nil xs) h)
from_with n x xs rest (z ∷ zs) h =
    elim (cases_lt z x) [
      | inl lt ↦ elim (Contains-cases z (merged (x ∷ xs) zs) n (rw (merged-right x xs z zs lt) at h)) [
        | inl e ↦ inr (Contains-head z zs n e)
        | inr there ↦ elim (from_with n x xs rest zs there) [ inl a ↦ inl a | inr b ↦ inr (Contains-there z zs n b) ]
      ]
      | inr ge ↦ elim (cases_lt x z) [
        | inl lt ↦ elim (Contains-cases x (merged xs (z ∷ zs)) n (rw (merged-left x xs z zs lt) at h)) [
          | inl e ↦ inl (Contains-head x xs n e)
          | inr there ↦ elim (rest (z ∷ zs) there) [ inl a ↦ inl (Contains-there x xs n a) | inr b ↦ inr b ]
        ]
        | inr ge' ↦
            let e : x ≡ z = omega arith in
            elim (Contains-cases x (merged xs zs) n (rw (merged-both x xs z zs e) at h)) [
              | inl is ↦ inl (Contains-head x xs n is)
              | inr there ↦ elim (rest zs there) [ inl a ↦ inl (Contains-there x xs n a) | inr b ↦ inr (Contains-there z zs n b) ]
            ]
      ]
    ]

-- each number of the merge is in one of the lists
pub Contains-from_merged : (xs ys : List ℕ) (n : ℕ) → Contains (merged xs ys) n → Contains xs n ⊎ Contains ys n
Contains-from_merged [] ys n h = inr h
Contains-from_merged (x ∷ xs) ys n h = from_with n x xs (λ zs. Contains-from_merged xs zs n) ys h
