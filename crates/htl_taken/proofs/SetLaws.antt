-- The laws of sets of taken segments hold: of unions, of settled sets and of sizes.
use Rattle.std.proofs.Common.{◌≡◌, ◌+◌, ◌<◌, ◌≤◌, ℕ, zero, suc, List, ◌++◌, length}
use Rattle.std.proofs.Common.{sym, ap, ◌∙◌, subst, arith, inl, inr, length-append, add-zero, Contains}
use Rattle.std.specs.List.{range_with_len}
use Rattle.std.proofs.lemmas.List.FromFn.{length-range_with_len}
use Rattle.std.proofs.lemmas.Bool.{cases_lt, cases_eq}
use Rattle.std.proofs.lemmas.List.Elements.{Contains-append_left, Contains-append_right, Contains-append_cases}
use Rattle.htl_lemmas.proofs.Lists.{range_below}
use Rattle.htl_taken.specs.declared.TheConstants.{MAX_FRONT}
use Rattle.htl_taken.specs.Rising.{Rises}
use Rattle.htl_taken.specs.Numbers.{Numbers, numbers_at, IsProper, IsUnion, reach_of, settled}
use Rattle.htl_taken.specs.NumberSets.{Has}
use Rattle.htl_taken.specs.Laws.{UnitesKeys, IsUnionCommutative, IsUnionAssociative, IsUnionIdempotent, SettlesOnce, IsDetermined, CountsNumbers}
use Rattle.htl_event.proofs.Members.{Contains-there}
use Rattle.htl_taken.proofs.Members.{Contains-head}
use Rattle.htl_taken.proofs.Rising.{Rises-member}
use Rattle.htl_taken.proofs.Reaching.{reach_from-ge}
use Rattle.htl_taken.proofs.Numbers.{numbers_by, reach_least, Has-before_reach, Has-settled, Has-union}
use Rattle.htl_taken.proofs.Keys.{has_number-decides, key_united, within_keys}
use Rattle.htl_taken.proofs.NumberSets.{numbers_same}

-- the segments of a union are those of both sets
pub unites_keys : UnitesKeys
unites_keys a b c u p n = key_united a b c p n (Has-union (numbers_at a p) (numbers_at b p) (numbers_at c p) (u.each p) n)

-- ---- unions

same_by_swap : (a b c d : Numbers) → IsUnion a b c → IsUnion b a d → c ≡ d
same_by_swap a b c d u v =
    let fu = u.front in let fv = v.front in
    let e : c.front ≡ d.front = omega (arith, fu, fv) in
    numbers_by c d u.proper v.proper e
    (λ n h. let r = (u.loose n).0 h in (v.loose n).1 (let le = r.0 in omega (arith, le, e), elim r.1 [ inl x ↦ inr x | inr y ↦ inl y ]))
    (λ n h. let r = (v.loose n).0 h in (u.loose n).1 (let le = r.0 in omega (arith, le, e), elim r.1 [ inl x ↦ inr x | inr y ↦ inl y ]))

-- the union of two sets is one either way round
pub commutative : IsUnionCommutative
commutative a b ab ba len u v =
    numbers_same ab ba (u.len ∙ len ∙ sym v.len)
    (λ p lt. same_by_swap (numbers_at a p) (numbers_at b p) (numbers_at ab p) (numbers_at ba p) (u.each p) (v.each p))

same_by_grouping : (a b c ab bc l r : Numbers) → IsUnion a b ab → IsUnion b c bc → IsUnion ab c l → IsUnion a bc r → l ≡ r
same_by_grouping a b c ab bc l r uab ubc ul ur =
    let f1 = uab.front in let f2 = ubc.front in let f3 = ul.front in let f4 = ur.front in
    let e : l.front ≡ r.front = omega (arith, f1, f2, f3, f4) in
    numbers_by l r ul.proper ur.proper e
    (λ n h. let k = (ul.loose n).0 h in let le = k.0 in (ur.loose n).1 (
      omega (arith, le, e),
      elim k.1 [
        | inl in_ab ↦ elim ((uab.loose n).0 in_ab).1 [
          | inl x ↦ inl x
          | inr y ↦ inr ((ubc.loose n).1 (omega (arith, le, f1, f2, f3), inl y))
        ]
        | inr in_c ↦ inr ((ubc.loose n).1 (omega (arith, le, f1, f2, f3, f4), inr in_c))
      ],
    ))
    (λ n h. let k = (ur.loose n).0 h in let le = k.0 in (ul.loose n).1 (
      omega (arith, le, e),
      elim k.1 [
        | inl in_a ↦ inl ((uab.loose n).1 (omega (arith, le, f1, f2, f3, f4), inl in_a))
        | inr in_bc ↦ elim ((ubc.loose n).0 in_bc).1 [
          | inl x ↦ inl ((uab.loose n).1 (omega (arith, le, f1, f2, f3, f4), inr x))
          | inr y ↦ inr y
        ]
      ],
    ))

-- the union of three sets is one, whichever two are united first
pub associative : IsUnionAssociative
associative a b c ab bc l r uab ubc ul ur =
    numbers_same l r (ul.len ∙ uab.len ∙ sym ur.len)
    (λ p lt. same_by_grouping (numbers_at a p) (numbers_at b p) (numbers_at c p) (numbers_at ab p) (numbers_at bc p) (numbers_at l p)
    (numbers_at r p) (uab.each p) (ubc.each p) (ul.each p) (ur.each p))

same_as_itself : (a c : Numbers) → IsProper a → IsUnion a a c → c ≡ a
same_as_itself a c proper u =
    let fu = u.front in
    let e : c.front ≡ a.front = omega (arith, fu) in
    numbers_by c a u.proper proper e
    (λ n h. elim ((u.loose n).0 h).1 [ inl x ↦ x | inr y ↦ y ])
    (λ n h. (u.loose n).1 (let up = (Rises-member a.front MAX_FRONT a.loose n proper.rises h).0 in omega (arith, up, e), inl h))

-- the union of a set with itself is that set
pub idempotent : IsUnionIdempotent
idempotent a c proper u =
    numbers_same c a u.len (λ p lt. same_as_itself (numbers_at a p) (numbers_at c p) (proper p) (u.each p))

-- ---- settled sets

-- a front that was settled can't move
pub settles_once : SettlesOnce
settles_once q proper =
    elim (cases_lt (settled q).front (reach_of (settled q))) [
      | inl lt ↦
          let taken : Has (settled q) (reach_of q) = Has-before_reach (settled q) (reach_of q) lt in
          absurd (reach_least q proper ((Has-settled q (reach_of q)).0 taken))
      | inr le ↦ let ge = reach_from-ge (settled q).front (settled q).loose in omega (arith, le, ge)
    ]

front_within : (a b : Numbers) → IsProper b → reach_of b ≡ b.front → ((n : ℕ) → Has a n → Has b n) → a.front ≤ b.front
front_within a b proper stays within =
    elim (cases_lt b.front a.front) [
      | inl lt ↦ absurd (reach_least b proper (within (reach_of b) (inl (omega (arith, stays, lt)))))
      | inr le ↦ le
    ]

loose_within : (a b : Numbers) → IsProper a → a.front ≡ b.front → ((n : ℕ) → Has a n → Has b n) → (n : ℕ) → Contains a.loose n
    → Contains b.loose n
loose_within a b proper e within n h =
    let up = (Rises-member a.front MAX_FRONT a.loose n proper.rises h).0 in
    elim (within n (inr h)) [ inl lt ↦ absurd (omega (arith, lt, up, e)) | inr is ↦ is ]

determined_at : (a b : Numbers) → IsProper a → IsProper b → reach_of a ≡ a.front → reach_of b ≡ b.front
    → ((n : ℕ) → Has a n → Has b n) → ((n : ℕ) → Has b n → Has a n) → a ≡ b
determined_at a b pa pb sa sb f g =
    let le = front_within a b pb sb f in
    let ge = front_within b a pa sa g in
    let e : a.front ≡ b.front = omega (arith, le, ge) in
    numbers_by a b pa pb e (loose_within a b pa e f) (loose_within b a pb (sym e) g)

-- settled sets with the same segments are equal
pub determined : IsDetermined
determined a b len pa pb sa sb f g =
    numbers_same a b len (λ p lt. determined_at (numbers_at a p) (numbers_at b p) (pa p) (pb p) (sa p) (sb p) (within_keys a b f p)
    (within_keys b a g p))

-- ---- sizes

-- the numbers from a on, and then those of a list that rises from their end
Rises-range : (high a n : ℕ) (xs : List ℕ) → Rises (a + n) high xs → Rises a high (range_with_len a n ++ xs)
Rises-range high a zero xs r = rw add-zero at r
Rises-range high a (suc n) xs r =
    let moved : a + suc n ≡ (a + 1) + n = omega arith in
    (omega arith, Rises-range high (a + 1) n xs (rw moved at r))

in_range : (a n m : ℕ) → a ≤ m → m < a + n → Contains (range_with_len a n) m
in_range a zero m le lt = absurd (omega (arith, le, lt))
in_range a (suc n) m le lt =
    elim (cases_eq a m) [
      | inl e ↦ Contains-head a (range_with_len (a + 1) n) m e
      | inr ne ↦ Contains-there a (range_with_len (a + 1) n) m (in_range (a + 1) n m (omega (arith, ne, le)) (omega (arith, lt)))
    ]

-- a processor's size is the length of a rising list of its taken numbers
pub counts_numbers : CountsNumbers
counts_numbers q proper =
    let ns = range_with_len 0 q.front ++ q.loose in
    let start : 0 + q.front ≡ q.front = omega arith in (
      ns,
      MAX_FRONT,
      Rises-range MAX_FRONT 0 q.front q.loose (subst (λ (n : ℕ). Rises n MAX_FRONT q.loose) (sym start) proper.rises),
      length-append (range_with_len 0 q.front) q.loose ∙ ap (λ (n : ℕ). n + length q.loose) (length-range_with_len 0 q.front),
      (λ n. (
        (λ h. (has_number-decides q n).1 (elim (Contains-append_cases (range_with_len 0 q.front) q.loose n h) [
          | inl a ↦ inl (range_below q.front n a)
          | inr b ↦ inr b
        ])),
        (λ t. elim ((has_number-decides q n).0 t) [
          | inl lt ↦ Contains-append_left (range_with_len 0 q.front) q.loose n (in_range 0 q.front n (omega arith) (omega (arith, lt)))
          | inr is ↦ Contains-append_right (range_with_len 0 q.front) q.loose n is
        ]),
      )),
    )
