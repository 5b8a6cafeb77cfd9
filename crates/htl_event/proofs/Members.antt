-- A list in order is the only one with its members. (htl_lemmas says what a member of a list is; it is passed on here.)
use Rattle.std.proofs.Common.{◌≡◌, List, [], ◌∷◌, refl, sym, ap, ◌∙◌, subst, inl, inr}
use Rattle.std.specs.Prelude.{Contains, ◌↔◌}
use Rattle.htl_event.specs.Members.{IsRising, Lists, IsStrictOrder}
pub use Rattle.htl_lemmas.proofs.Members.{Contains-here, Contains-there, Contains-nil, Contains-cases, Contains-cons, some_member}
pub use Rattle.htl_lemmas.proofs.Members.{at_member, each_member, AllByRecursion-weaker, filter-pass, filter-skip}
pub use Rattle.htl_lemmas.proofs.Members.{Contains-filter, Contains-from_filter, Contains-map, Contains-from_map}
pub use Rattle.htl_lemmas.proofs.Members.{Contains-flat_map, Contains-from_flat_map, all_left, all_right, all_append}

module _ {X : Type 0} (before : X → X → Type 0) (strict : IsStrictOrder before) where
  asymmetric : (x y : X) → before x y → before y x → ⊥
  asymmetric x y p q = strict.irreflexive x (strict.transitive x y x p q)

  after_head : (x : X) (xs : List X) → IsRising before (x ∷ xs) → (y : X) → Contains xs y → before x y
  after_head x xs rising y h = at_member (before x) xs y rising.0 h

  same_head : (x : X) (xs : List X) (y : X) (ys : List X) → IsRising before (x ∷ xs) → IsRising before (y ∷ ys)
      → Contains (y ∷ ys) x → Contains (x ∷ xs) y → x ≡ y
  same_head x xs y ys rx ry hx hy =
      elim (Contains-cases y ys x hx) [
        | inl e ↦ sym e
        | inr in_ys ↦ elim (Contains-cases x xs y hy) [
          | inl e ↦ e
          | inr in_xs ↦ absurd (asymmetric x y (after_head x xs rx y in_xs) (after_head y ys ry x in_ys))
        ]
      ]

  -- an element of one tail is in the other
  in_tail : (x : X) (xs : List X) (y : X) (ys : List X) → IsRising before (x ∷ xs) → x ≡ y
      → ((e : X) → Contains (x ∷ xs) e → Contains (y ∷ ys) e) → (e : X) → Contains xs e → Contains ys e
  in_tail x xs y ys rx same into e h =
      elim (Contains-cases y ys e (into e (Contains-there x xs e h))) [
        | inl is ↦ absurd (strict.irreflexive x (subst (λ (z : X). before x z) (sym (same ∙ is)) (after_head x xs rx e h)))
        | inr there ↦ there
      ]

  -- two lists that rise and have the same members are the same list
  pub same_members : (xs ys : List X) → IsRising before xs → IsRising before ys
      → ((e : X) → Contains xs e → Contains ys e) → ((e : X) → Contains ys e → Contains xs e) → xs ≡ ys
  same_members [] [] rx ry f g = refl
  same_members [] (y ∷ ys) rx ry f g = absurd (Contains-nil y (g y (Contains-here y ys)))
  same_members (x ∷ xs) [] rx ry f g = absurd (Contains-nil x (f x (Contains-here x xs)))
  same_members (x ∷ xs) (y ∷ ys) rx ry f g =
      let same = same_head x xs y ys rx ry (f x (Contains-here x xs)) (g y (Contains-here y ys)) in
      let tails = same_members xs ys rx.1 ry.1 (in_tail x xs y ys rx same f) (in_tail y ys x xs ry (sym same) g) in
      let heads : x ∷ xs ≡ y ∷ xs = ap (λ (z : X). z ∷ xs) same in
      heads ∙ ap (λ (zs : List X). y ∷ zs) tails

  -- properties that hold of the same elements have one list
  pub Lists-same : (P Q : X → Type 0) (xs ys : List X) → ((x : X) → P x ↔ Q x) → Lists before P xs → Lists before Q ys → xs ≡ ys
  Lists-same P Q xs ys same a b =
      same_members xs ys a.rising b.rising (λ e h. (b.members e).1 ((same e).0 ((a.members e).0 h)))
      (λ e h. (a.members e).1 ((same e).1 ((b.members e).0 h)))
