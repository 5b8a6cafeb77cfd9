-- A list that rises in one order rises in another, where its members do; and where elements compare, any list has one that rises with
-- the same members.
use Rattle.std.proofs.Common.{◌≡◌, ◌⊎◌, List, [], ◌∷◌, ◌++◌, sym, subst, ◌∙◌, inl, inr}
use Rattle.std.specs.Prelude.{Contains, ◌↔◌}
use Rattle.htl_event.specs.Members.{IsRising, Lists, IsStrictOrder}
use Rattle.htl_event.proofs.Members.{Contains-here, Contains-there, Contains-cases, Contains-cons, at_member, each_member, all_append}

-- a list rises in another order, where its members do
pub rising_members : {X : Type 0} (before after : X → X → Type 0) (xs : List X)
    → ((x y : X) → Contains xs x → Contains xs y → before x y → after x y) → IsRising before xs → IsRising after xs
rising_members before after [] into rising = tt
rising_members before after (x ∷ xs) into rising = (
  each_member (after x) xs (λ y h. into x y (Contains-here x xs) (Contains-there x xs y h) (at_member (before x) xs y rising.0 h)),
  rising_members before after xs (λ y z in_y in_z. into y z (Contains-there x xs y in_y) (Contains-there x xs z in_z)) rising.1,
)

-- one element more, which comes after all
pub rising_snoc : {X : Type 0} (before : X → X → Type 0) (xs : List X) (y : X) → IsRising before xs → ((x : X) → Contains xs x → before x y)
    → IsRising before (xs ++ y ∷ [])
rising_snoc before [] y rising first = (tt, tt)
rising_snoc before (x ∷ xs) y rising first = (
  all_append (before x) xs (y ∷ []) rising.0 (first x (Contains-here x xs), tt),
  rising_snoc before xs y rising.1 (λ z h. first z (Contains-there x xs z h)),
)

module _ {X : Type 0} (before : X → X → Type 0) (strict : IsStrictOrder before)
    (compare : (x y : X) → before x y ⊎ ((x ≡ y) ⊎ before y x)) where
  -- an element more, where it belongs
  pub placed : (x : X) (ys : List X) → IsRising before ys
      → (zs : List X) × IsRising before zs × ((z : X) → Contains zs z ↔ ((x ≡ z) ⊎ Contains ys z))
  placed x [] rising = (x ∷ [], (tt, tt), λ z. (Contains-cases x [] z, Contains-cons x [] z))
  placed x (y ∷ ys) rising =
      elim (compare x y) [
        | inl first ↦ (
          x ∷ y ∷ ys,
          ((first, each_member (before x) ys (λ z h. strict.transitive x y z first (at_member (before y) ys z rising.0 h))), rising),
          λ z. (Contains-cases x (y ∷ ys) z, Contains-cons x (y ∷ ys) z),
        )
        | inr other ↦ elim other [
          | inl same ↦ (
            y ∷ ys,
            rising,
            λ z. (
              λ h. inr h,
              λ h. elim h [ inl is ↦ subst (Contains (y ∷ ys)) (sym same ∙ is) (Contains-here y ys) | inr there ↦ there ],
            ),
          )
          | inr after ↦
              let (zs, up, members) = placed x ys rising.1 in (
                y ∷ zs,
                (
                  each_member (before y) zs (λ z h. elim ((members z).0 h) [
                    | inl is ↦ subst (before y) is after
                    | inr there ↦ at_member (before y) ys z rising.0 there
                  ]),
                  up,
                ),
                λ z. (
                  λ h. elim (Contains-cases y zs z h) [
                    | inl is ↦ inr (Contains-cons y ys z (inl is))
                    | inr later ↦ elim ((members z).0 later) [ inl is ↦ inl is | inr there ↦ inr (Contains-there y ys z there) ]
                  ],
                  λ h. elim h [
                    | inl is ↦ Contains-there y zs z ((members z).1 (inl is))
                    | inr there ↦ elim (Contains-cases y ys z there) [
                      | inl is ↦ Contains-cons y zs z (inl is)
                      | inr later ↦ Contains-there y zs z ((members z).1 (inr later))
                    ]
                  ],
                ),
              )
        ]
      ]

  -- the elements in order, each once
  pub in_order : (xs : List X) → (ys : List X) × Lists before (Contains xs) ys
  in_order [] = ([], record { rising = tt; members = λ x. (λ h. h, λ h. h) })
  in_order (x ∷ xs) =
      let (ys, listed) = in_order xs in
      let (zs, up, members) = placed x ys listed.rising in (
        zs,
        record {
          rising = up;
          members = λ z. (
            λ h. elim ((members z).0 h) [
              | inl is ↦ Contains-cons x xs z (inl is)
              | inr there ↦ Contains-there x xs z ((listed.members z).0 there)
            ],
            λ h. elim (Contains-cases x xs z h) [
              | inl is ↦ (members z).1 (inl is)
              | inr there ↦ (members z).1 (inr ((listed.members z).1 there))
            ],
          );
        },
      )
