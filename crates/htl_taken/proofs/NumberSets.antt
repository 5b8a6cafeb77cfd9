-- The numbers of each processor stand at its place in a set, and what a place gains or loses the set does.
use Rattle.std.proofs.Common.{◌≡◌, ℕ, zero, suc, ◌+◌, ◌<◌, ◌≤◌, List, [], ◌∷◌, ◌++◌, map, length}
use Rattle.std.proofs.Common.{get_or, slice_set, arith, refl, sym, ap, ◌∙◌, subst, inl, inr, ◌⊎◌, ext_get_or}
use Rattle.std.specs.Prelude.{◌↔◌}
use Rattle.std.proofs.lemmas.Bool.{cases_lt, cases_eq}
use Rattle.std.proofs.lemmas.List.{get_or-map, get_or_past, length-map, map-append, get_or_append_left, get_or_push}
use Rattle.std.proofs.lemmas.List.{get_or-set_same, get_or-set_other, set_past, set-get_or, map-set}
use Rattle.htl_taken.specs.declared.number_set.NumberSet.{NumberSet}
use Rattle.htl_taken.specs.Numbers.{Numbers, no_numbers, numbers_at, IsProper, IsUnion, with_loose, settled}
use Rattle.htl_taken.specs.NumberSets.{Has}
use Rattle.htl_taken.specs.NumberSets.{numbers_of}
use Rattle.htl_event.proofs.Members.{Contains-nil}
use Rattle.htl_taken.proofs.Numbers.{IsUnion-merged, Has-with_loose, Has-settled}

-- a processor of an empty set has proper numbers: none
pub IsProper-no_numbers : (p : ℕ) → IsProper (numbers_at [] p)
IsProper-no_numbers p = record { rises = omega arith }

-- each numbers keeps that its numbers rise
pub IsProper-sets : {A : Type 0} (sets : List (NumberSet A)) (p : ℕ) → IsProper (numbers_at (map numbers_of sets) p)
IsProper-sets [] p = IsProper-no_numbers p
IsProper-sets (r ∷ sets) zero = record { rises = r.proper }
IsProper-sets (r ∷ sets) (suc p) = IsProper-sets sets p

-- the numbers at a processor are those of the number set at its place
pub numbers_at-set : {A : Type 0} (sets : List (NumberSet A)) (p : ℕ) (r : NumberSet A) → p < length sets → r ≡ get_or sets p r
    → numbers_at (map numbers_of sets) p ≡ numbers_of r
numbers_at-set sets p r lt is = get_or-map numbers_of sets p r no_numbers lt ∙ ap numbers_of (sym is)

-- the numbers at a processor, of sets that a set is the view of
pub numbers_at-view : {A : Type 0} (sets : List (NumberSet A)) (ps : List Numbers) → map numbers_of sets ≡ ps
    → (p : ℕ) (r : NumberSet A) → p < length sets → r ≡ get_or sets p r → numbers_at ps p ≡ numbers_of r
numbers_at-view sets ps view p r lt is = rw (← view) (numbers_at-set sets p r lt is)

-- in the view of a set, the numbers at a processor are those of the item at its place
pub numbers_at-item : {A : Type 0} (sets items : List (NumberSet A)) (ps : List Numbers) → map numbers_of sets ≡ ps → items ≡ sets
    → (p : ℕ) (r : NumberSet A) → p < length items → r ≡ get_or items p r → numbers_at ps p ≡ numbers_of r
numbers_at-item {A} sets items ps view same p r lt is =
    numbers_at-view items ps (ap (λ (rs : List (NumberSet A)). map numbers_of rs) same ∙ view) p r lt is

-- a set's view has as many places as the set
pub length-view : {A : Type 0} (sets : List (NumberSet A)) (ps : List Numbers) → map numbers_of sets ≡ ps → length ps ≡ length sets
length-view sets ps view = rw (← view) (length-map sets numbers_of)

-- a processor beyond the last place has no numbers
pub numbers_at-past : (ps : List Numbers) (p : ℕ) → length ps ≤ p → numbers_at ps p ≡ no_numbers
numbers_at-past ps p le = get_or_past ps p no_numbers le

-- a processor whose place was set has what it was set to
pub numbers_at-set_same : (ps : List Numbers) (p : ℕ) (q : Numbers) → p < length ps → numbers_at (slice_set ps p q) p ≡ q
numbers_at-set_same ps p q lt = get_or-set_same ps p q no_numbers lt

pub numbers_at-set_other : (ps : List Numbers) (p i : ℕ) (q : Numbers) → (i ≡ p → ⊥) → numbers_at (slice_set ps p q) i ≡ numbers_at ps i
numbers_at-set_other ps p i q ne = get_or-set_other ps p i q no_numbers ne

-- sets are equal where they are at each processor
pub numbers_same : (ps qs : List Numbers) → length ps ≡ length qs → ((p : ℕ) → p < length ps → numbers_at ps p ≡ numbers_at qs p) → ps ≡ qs
numbers_same ps qs e each = ext_get_or no_numbers ps qs e each

-- at a processor that is in neither set, the union has nothing
pub IsUnion-past : (a b c : List Numbers) (p : ℕ) → length a ≤ p → length b ≤ p → length c ≤ p
    → IsUnion (numbers_at a p) (numbers_at b p) (numbers_at c p)
IsUnion-past a b c p la lb lc =
    rw (numbers_at-past a p la, numbers_at-past b p lb, numbers_at-past c p lc)
    (IsUnion-merged no_numbers no_numbers 0 [] (IsProper-no_numbers p) (IsProper-no_numbers p) refl refl)

-- setting one place of the sets sets that place of their view
pub sets_set : {A : Type 0} (sets : List (NumberSet A)) (p : ℕ) (r : NumberSet A) (q : Numbers) → numbers_of r ≡ q
    → map numbers_of (slice_set sets p r) ≡ slice_set (map numbers_of sets) p q
sets_set sets p r q e = map-set numbers_of sets p r ∙ ap (λ (x : Numbers). slice_set (map numbers_of sets) p x) e

-- setting a place to what is there keeps the view
pub sets_kept : {A : Type 0} (sets : List (NumberSet A)) (p : ℕ) (r : NumberSet A) → numbers_of r ≡ numbers_at (map numbers_of sets) p
    → map numbers_of (slice_set sets p r) ≡ map numbers_of sets
sets_kept sets p r e = sets_set sets p r (numbers_at (map numbers_of sets) p) e ∙ set-get_or (map numbers_of sets) p no_numbers

-- with one number more, the set has that key and no other more
pub Has-inserted : (ps : List Numbers) (p n : ℕ) → p < length ps → (q m : ℕ)
    → Has (numbers_at (slice_set ps p (with_loose (numbers_at ps p) n)) q) m ↔ (Has (numbers_at ps q) m ⊎ ((q ≡ p) × (m ≡ n)))
Has-inserted ps p n lt q m =
    elim (cases_eq q p) [
      | inl e ↦
          let one = Has-with_loose (numbers_at ps p) n m in
          let at : numbers_at (slice_set ps p (with_loose (numbers_at ps p) n)) q ≡ with_loose (numbers_at ps p) n =
          ap (λ (i : ℕ). numbers_at (slice_set ps p (with_loose (numbers_at ps p) n)) i) e
          ∙ numbers_at-set_same ps p (with_loose (numbers_at ps p) n) lt in
          let old : numbers_at ps q ≡ numbers_at ps p = ap (λ (i : ℕ). numbers_at ps i) e in
          rw (at, old) (
            (λ h. elim (one.0 h) [
              | inl a ↦ inl a
              | inr is ↦ inr (e, is)
            ]),
            (λ h. one.1 (elim h [ inl a ↦ inl a | inr both ↦ inr both.1 ])),
          )
      | inr ne ↦
          rw (numbers_at-set_other ps p q (with_loose (numbers_at ps p) n) ne) (
            (λ h. inl h),
            (λ h. elim h [
              | inl a ↦ a
              | inr both ↦ absurd (ne both.0)
            ]),
          )
    ]

-- where it was there already, nothing is more
pub Has-known : (ps : List Numbers) (p n : ℕ) → Has (numbers_at ps p) n → (q m : ℕ)
    → Has (numbers_at ps q) m ↔ (Has (numbers_at ps q) m ⊎ ((q ≡ p) × (m ≡ n)))
Has-known ps p n known q m = (
  (λ h. inl h),
  (λ h. elim h [
    | inl a ↦ a
    | inr both ↦
        let at_p : Has (numbers_at ps q) n = subst (λ (i : ℕ). Has (numbers_at ps i) n) (sym both.0) known in
        subst (λ (x : ℕ). Has (numbers_at ps q) x) (sym both.1) at_p
  ]),
)

-- settling moves no key
pub Has-settled_at : (ps : List Numbers) (p q n : ℕ)
    → Has (numbers_at (slice_set ps p (settled (numbers_at ps p))) q) n ↔ Has (numbers_at ps q) n
Has-settled_at ps p q n =
    elim (cases_lt p (length ps)) [
      | inl lt ↦ elim (cases_eq q p) [
        | inl e ↦
            let at : numbers_at (slice_set ps p (settled (numbers_at ps p))) q ≡ settled (numbers_at ps p) =
            ap (λ (i : ℕ). numbers_at (slice_set ps p (settled (numbers_at ps p))) i) e
            ∙ numbers_at-set_same ps p (settled (numbers_at ps p)) lt in
            let old : numbers_at ps q ≡ numbers_at ps p = ap (λ (i : ℕ). numbers_at ps i) e in
            rw (at, old) (Has-settled (numbers_at ps p) n)
        | inr ne ↦ rw (numbers_at-set_other ps p q (settled (numbers_at ps p)) ne) ((λ h. h), (λ h. h))
      ]
      | inr past ↦ rw (set_past ps p (settled (numbers_at ps p)) past) ((λ h. h), (λ h. h))
    ]

-- a union so far, and the next processor
pub united_more : {A : Type 0} (a b : List Numbers) (sets : List (NumberSet A)) (r : NumberSet A) (n : ℕ) → length sets ≡ n
    → ((p : ℕ) → p < n → IsUnion (numbers_at a p) (numbers_at b p) (numbers_at (map numbers_of sets) p))
    → IsUnion (numbers_at a n) (numbers_at b n) (numbers_of r)
    → (p : ℕ) → p < n + 1 → IsUnion (numbers_at a p) (numbers_at b p) (numbers_at (map numbers_of (sets ++ r ∷ [])) p)
united_more {A} a b sets r n len so_far next p lt =
    let f : NumberSet A → Numbers = numbers_of in
    rw (map-append f sets (r ∷ [])) (elim (cases_lt p n) [
      | inl below ↦
          let within : p < length (map f sets) = omega (arith, length-map sets f, len) in
          let same = get_or_append_left (map f sets) (f r ∷ []) no_numbers p within in
          rw same (so_far p below)
      | inr above ↦
          let e : p ≡ n = omega arith in
          let last = get_or_push (map f sets) (f r) no_numbers p (length-map sets f ∙ len ∙ sym e) in
          rw last (rw e next)
    ])

-- no number is in a place that isn't there
pub Has-no_numbers : (n : ℕ) → Has no_numbers n → ⊥
Has-no_numbers n (inl lt) = omega (arith, lt)
Has-no_numbers n (inr h) = Contains-nil n h
