-- A key has one segment in a trace, and a number has one in the held list of a processor.
use Rattle.std.proofs.Common.{◌≡◌, ℕ, zero, suc, ◌+◌, ◌<◌, List, [], ◌∷◌, length, map, get_or, refl, sym, ap, ◌∙◌, arith, inl}
use Rattle.std.proofs.Common.{inr}
use Rattle.std.specs.Prelude.{Contains}
use Rattle.std.specs.List.{AllByRecursion}
use Rattle.htl_segment.specs.Content.{Content}
use Rattle.htl_segment.specs.Traces.{AreInOrder, IsBefore}
use Rattle.htl_analyst.specs.Laws.{TracesAreCollections}
use Rattle.htl_taken.specs.Rising.{Rises}
use Rattle.htl_taken.proofs.Rising.{Rises-member}
use Rattle.htl_event.proofs.Members.{Contains-nil, Contains-cases, Contains-map, at_member}

-- the number of a segment
abbrev pub number : Content → ℕ
number s = s.number

-- ---- in a trace

-- each trace is a collection
pub collection_of : TracesAreCollections
collection_of T trace = record { in_order = trace.in_order; fit = trace.fit; same = trace.same }

-- two segments of which one comes before the other have two keys
pub keys_differ : (s t : Content) → IsBefore s t → s.processor ≡ t.processor → s.number ≡ t.number → ⊥
keys_differ s t (inl lt) ep en = omega arith
keys_differ s t (inr both) ep en = omega (arith, both.1)

-- one segment for each key
pub one_segment : (ss : List Content) → AreInOrder ss → (s t : Content) → Contains ss s → Contains ss t → s.processor ≡ t.processor
    → s.number ≡ t.number → s ≡ t
one_segment [] ordered s t h k ep en = absurd (Contains-nil s h)
one_segment (u ∷ us) ordered s t h k ep en =
    elim (Contains-cases u us s h) [
      | inl is ↦ elim (Contains-cases u us t k) [
        | inl it ↦ sym is ∙ it
        | inr in_t ↦
            absurd (keys_differ u t (at_member (IsBefore u) us t ordered.0 in_t) (ap (λ (w : Content). w.processor) is ∙ ep)
            (ap number is ∙ en))
      ]
      | inr in_s ↦ elim (Contains-cases u us t k) [
        | inl it ↦
            absurd (keys_differ u s (at_member (IsBefore u) us s ordered.0 in_s) (ap (λ (w : Content). w.processor) it ∙ sym ep)
            (ap number it ∙ sym en))
        | inr in_t ↦ one_segment us ordered.1 s t in_s in_t ep en
      ]
    ]

-- lists of segments of one trace and one processor, with the same numbers
pub held_same : (ss : List Content) → AreInOrder ss → (p : ℕ) (xs ys : List Content) → map number xs ≡ map number ys
    → AllByRecursion (λ s. s.processor ≡ p) xs → AllByRecursion (λ s. s.processor ≡ p) ys → AllByRecursion (Contains ss) xs
    → AllByRecursion (Contains ss) ys → xs ≡ ys
held_same ss ordered p [] [] e ox oy hx hy = refl
held_same ss ordered p [] (y ∷ ys) e ox oy hx hy = cc
held_same ss ordered p (x ∷ xs) [] e ox oy hx hy = cc
held_same ss ordered p (x ∷ xs) (y ∷ ys) e ox oy hx hy =
    let en : x.number ≡ y.number = cc in
    let es : map number xs ≡ map number ys = cc in
    let head : x ≡ y = one_segment ss ordered x y hx.0 hy.0 (ox.0 ∙ sym oy.0) en in
    let tail : xs ≡ ys = held_same ss ordered p xs ys es ox.1 oy.1 hx.1 hy.1 in
    cc

-- ---- in a held list

above_head : (x : Content) (xs : List Content) (high : ℕ) (s : Content) → Rises (x.number + 1) high (map number xs) → Contains xs s
    → x.number ≡ s.number → ⊥
above_head x xs high s rises h e = let r =
    Rises-member (x.number + 1) high (map number xs) s.number rises (Contains-map number xs s h) in omega (arith, r.0, e)

-- one segment for each number
pub one_held : (low high : ℕ) (hs : List Content) → Rises low high (map number hs) → (s t : Content) → Contains hs s → Contains hs t
    → s.number ≡ t.number → s ≡ t
one_held low high [] rises s t h k e = absurd (Contains-nil s h)
one_held low high (x ∷ xs) rises s t h k e =
    elim (Contains-cases x xs s h) [
      | inl is ↦ elim (Contains-cases x xs t k) [
        | inl it ↦ sym is ∙ it
        | inr in_t ↦ absurd (above_head x xs high t rises.1 in_t (ap number is ∙ e))
      ]
      | inr in_s ↦ elim (Contains-cases x xs t k) [
        | inl it ↦ absurd (above_head x xs high s rises.1 in_s (ap number it ∙ sym e))
        | inr in_t ↦ one_held (x.number + 1) high xs rises.1 s t in_s in_t e
      ]
    ]

-- the number at a place of the list of numbers is that of the segment at this place
pub number_at : (xs : List Content) (i : ℕ) (d : Content) → i < length xs → get_or (map number xs) i 0 ≡ (get_or xs i d).number
number_at [] i d lt = absurd (omega arith)
number_at (x ∷ xs) zero d lt = refl
number_at (x ∷ xs) (suc i) d lt = number_at xs i d (omega arith)

-- there are as many numbers as segments
pub length-numbers : (xs : List Content) → length (map number xs) ≡ length xs
length-numbers [] = refl
length-numbers (x ∷ xs) = ap suc (length-numbers xs)
