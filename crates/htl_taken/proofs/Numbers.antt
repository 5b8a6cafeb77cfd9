-- The numbers of one processor, a front and loose ones, stay proper where one is added, where they settle and where two are united.
use Rattle.std.proofs.Common.{◌≡◌, ℕ, zero, suc, ◌+◌, ◌-◌, ◌<◌, ◌≤◌, max, List, []}
use Rattle.std.proofs.Common.{◌∷◌, drop, refl, sym, ap, ◌∙◌, subst, arith, inl, inr, ◌⊎◌}
use Rattle.std.specs.Prelude.{Contains, ◌↔◌, filter, nat_le}
use Rattle.std.proofs.lemmas.Bool.{cases_lt, cases_eq, le-leb, lt-leb}
use Rattle.htl_event.proofs.Members.{filter-pass, filter-skip, Contains-filter, Contains-from_filter}
use Rattle.htl_taken.specs.declared.TheConstants.{MAX_FRONT}
use Rattle.htl_taken.specs.Rising.{Rises, gap_of, reach_from}
use Rattle.htl_taken.specs.Merging.{merged}
use Rattle.htl_taken.specs.Numbers.{Numbers, IsProper, IsUnion, reach_of, settled, with_loose}
use Rattle.htl_taken.specs.NumberSets.{Has}
use Rattle.htl_taken.proofs.Members.{Contains-insert, Contains-insert_new, Contains-insert_old, Contains-drop}
use Rattle.htl_taken.proofs.Rising.{Rises-member, Rises-insert, Rises-same, Rises-from_gap, Contains-from_gap, length-Rises}
use Rattle.htl_taken.proofs.Merging.{Rises-merged, Contains-merged_left, Contains-merged_right, Contains-from_merged}
use Rattle.htl_taken.proofs.Reaching.{reach_from-ge, reach_absent, before_reach, Rises-from_reach, reach-next, reach-stop}

-- ---- one place

-- numbers with the same front and the same loose ones are equal
pub same_numbers : (q r : Numbers) → q.front ≡ r.front → q.loose ≡ r.loose → q ≡ r
same_numbers q r f l =
    let one : q ≡ record { front = r.front; loose = q.loose } = ap (λ (n : ℕ). record { front = n; loose = q.loose }) f in
    one ∙ ap (λ (ns : List ℕ). record { front = r.front; loose = ns }) l

-- a place is fixed by its front and its loose numbers
pub numbers_by : (q r : Numbers) → IsProper q → IsProper r → q.front ≡ r.front → ((n : ℕ) → Contains q.loose n → Contains r.loose n)
    → ((n : ℕ) → Contains r.loose n → Contains q.loose n) → q ≡ r
numbers_by q r pq pr e f g = same_numbers q r e (Rises-same q.front r.front MAX_FRONT q.loose r.loose pq.rises pr.rises f g)

-- ---- reach and settle

-- a list that rises from t on has no number below it
all_kept : (t low high : ℕ) (xs : List ℕ) → Rises low high xs → t ≤ low → filter (λ n. nat_le t n) xs ≡ xs
all_kept t low high [] r le = refl
all_kept t low high (x ∷ xs) r le =
    let up = r.0 in
    filter-pass (λ (n : ℕ). nat_le t n) x xs (le-leb t x (omega (arith, up, le)))
    ∙ ap (λ (ys : List ℕ). x ∷ ys) (all_kept t (x + 1) high xs r.1 (omega (arith, up, le)))

-- what a list has before its reach is what it has below it
kept_loose : (low high k t : ℕ) (xs : List ℕ) → Rises low high xs → low + k ≡ t → t ≡ reach_from low xs
    → drop k xs ≡ filter (λ n. nat_le t n) xs
kept_loose low high zero t xs r e is = sym (all_kept t low high xs r (omega (arith, e)))
kept_loose low high (suc k) t [] r e is = refl
kept_loose low high (suc k) t (x ∷ xs) r e is =
    elim (cases_eq x low) [
      | inl same ↦
          let next : low + 1 ≡ x + 1 = omega (arith, same) in
          let reach : t ≡ reach_from (x + 1) xs = is ∙ reach-next low x xs same ∙ ap (λ (n : ℕ). reach_from n xs) next in
          kept_loose (x + 1) high k t xs r.1 (omega (arith, e, same)) reach
          ∙ sym (filter-skip (λ (n : ℕ). nat_le t n) x xs (lt-leb t x (omega (arith, e, same))))
      | inr other ↦ let stop = is ∙ reach-stop low x xs other in absurd (omega (arith, e, stop))
    ]

module _ (q : Numbers) where
  abbrev k : ℕ
  k = reach_of q - q.front

  reaches : q.front + k ≡ reach_of q
  reaches = let ge = reach_from-ge q.front q.loose in omega (arith, ge)

  -- dropping as many loose numbers as the front moves settles
  pub settled-drop : IsProper q → drop (reach_of q - q.front) q.loose ≡ (settled q).loose
  settled-drop proper = kept_loose q.front MAX_FRONT k (reach_of q) q.loose proper.rises reaches refl

  -- proper numbers stay proper when they settle
  pub IsProper-settled : IsProper q → IsProper (settled q)
  IsProper-settled proper = record {
    rises = rw (← settled-drop proper) (subst (λ (n : ℕ). Rises n MAX_FRONT (drop k q.loose)) reaches
        (Rises-from_reach q.front MAX_FRONT k q.loose proper.rises reaches));
  }

  -- the reach isn't taken
  pub reach_least : IsProper q → Has q (reach_of q) → ⊥
  reach_least proper (inl lt) = let ge = reach_from-ge q.front q.loose in omega (arith, ge, lt)
  reach_least proper (inr h) = reach_absent q.front MAX_FRONT q.loose proper.rises h

  -- all before it is
  pub Has-before_reach : (n : ℕ) → n < reach_of q → Has q n
  Has-before_reach n lt =
      elim (cases_lt n q.front) [ inl below ↦ inl below | inr le ↦ inr (before_reach q.front q.loose n le lt) ]

  -- settling keeps which numbers are taken
  pub Has-settled : (m : ℕ) → Has (settled q) m ↔ Has q m
  Has-settled m = (
    (λ h. elim h [
      | inl lt ↦ Has-before_reach m lt
      | inr is ↦ inr (Contains-from_filter (λ (n : ℕ). nat_le (reach_of q) n) q.loose m is).0
    ]),
    (λ h. elim h [
      | inl lt ↦ let ge = reach_from-ge q.front q.loose in inl (omega (arith, ge))
      | inr is ↦ elim (cases_lt m (reach_of q)) [
        | inl below ↦ inl below
        | inr le ↦ inr (Contains-filter (λ (n : ℕ). nat_le (reach_of q) n) q.loose m is (le-leb (reach_of q) m le))
      ]
    ]),
  )

-- ---- a number more

-- proper numbers stay so with one loose number more, which isn't there yet and has room for a front above it
pub IsProper-with_loose : (q : Numbers) (n : ℕ) → IsProper q → q.front ≤ n → n < MAX_FRONT → (Contains q.loose n → ⊥)
    → IsProper (with_loose q n)
IsProper-with_loose q n proper le lt new = record { rises = Rises-insert q.front MAX_FRONT n q.loose proper.rises le lt new }

-- with one loose number more, this number is taken and no other more
pub Has-with_loose : (q : Numbers) (n m : ℕ) → Has (with_loose q n) m ↔ (Has q m ⊎ (m ≡ n))
Has-with_loose q n m = (
  (λ h. elim h [
    | inl lt ↦ inl (inl lt)
    | inr is ↦ elim (Contains-insert q.loose (gap_of n q.loose) n m is) [ inl old ↦ inl (inr old) | inr e ↦ inr (sym e) ]
  ]),
  (λ h. elim h [
    | inl old ↦ elim old [ inl lt ↦ inl lt | inr is ↦ inr (Contains-insert_old q.loose (gap_of n q.loose) n m is) ]
    | inr e ↦ inr (subst (λ (x : ℕ). Contains (with_loose q n).loose x) (sym e) (Contains-insert_new q.loose (gap_of n q.loose) n))
  ]),
)

-- ---- unions

-- the loose numbers of both from a front on, merged
pub IsUnion-merged : (a b : Numbers) (front : ℕ) (loose : List ℕ) → IsProper a → IsProper b → front ≡ max a.front b.front
    → loose ≡ merged (drop (gap_of front a.loose) a.loose) (drop (gap_of front b.loose) b.loose)
    → IsUnion a b (record { front = front; loose = loose })
IsUnion-merged a b front loose pa pb greater is =
    let la = length-Rises a.front MAX_FRONT a.loose pa.rises in
    let lb = length-Rises b.front MAX_FRONT b.loose pb.rises in
    let fits : front ≤ MAX_FRONT = omega (arith, la, lb, greater) in
    let ra = Rises-from_gap a.front MAX_FRONT front a.loose pa.rises fits in
    let rb = Rises-from_gap b.front MAX_FRONT front b.loose pb.rises fits in
    let left = drop (gap_of front a.loose) a.loose in
    let right = drop (gap_of front b.loose) b.loose in
    rw is (record {
      front = greater;
      proper = record { rises = Rises-merged front MAX_FRONT left right ra rb };
      loose = λ n. (
        (λ h. elim (Contains-from_merged left right n h) [
          | inl x ↦ ((Rises-member front MAX_FRONT left n ra x).0, inl (Contains-drop (gap_of front a.loose) a.loose n x))
          | inr y ↦ ((Rises-member front MAX_FRONT right n rb y).0, inr (Contains-drop (gap_of front b.loose) b.loose n y))
        ]),
        (λ h. elim h.1 [
          | inl x ↦ Contains-merged_left left right n (Contains-from_gap a.front MAX_FRONT front a.loose pa.rises n x h.0)
          | inr y ↦ Contains-merged_right left right n (Contains-from_gap b.front MAX_FRONT front b.loose pb.rises n y h.0)
        ]),
      );
    })

-- a union has the numbers of both
pub Has-union : (a b c : Numbers) → IsUnion a b c → (n : ℕ) → Has c n ↔ (Has a n ⊎ Has b n)
Has-union a b c u n = (λ h. from h, λ h. elim h [ inl x ↦ into_left x | inr y ↦ into_right y ]) where
  from : Has c n → Has a n ⊎ Has b n
  from (inl lt) = let fu = u.front in elim (cases_lt n a.front) [ inl below ↦ inl (inl below) | inr le ↦ inr (inl (omega (arith, fu))) ]
  from (inr h) = elim ((u.loose n).0 h).1 [ inl x ↦ inl (inr x) | inr y ↦ inr (inr y) ]

  into_left : Has a n → Has c n
  into_left (inl lt) = let fu = u.front in inl (omega (arith, fu))
  into_left (inr h) = let fu = u.front in elim (cases_lt n c.front) [ inl lt ↦ inl lt | inr le ↦ inr ((u.loose n).1 (le, inl h)) ]

  into_right : Has b n → Has c n
  into_right (inl lt) = let fu = u.front in inl (omega (arith, fu))
  into_right (inr h) = let fu = u.front in elim (cases_lt n c.front) [ inl lt ↦ inl lt | inr le ↦ inr ((u.loose n).1 (le, inr h)) ]

-- ---- inclusion

-- what a numbers has to test: the numbers below the other's front are before the reach, and the others are loose
pub covers_by : (a b : Numbers) → IsProper a → IsProper b → b.front ≤ reach_of a
    → ((n : ℕ) → Contains (drop (gap_of a.front b.loose) b.loose) n → Contains a.loose n) → (n : ℕ) → Has b n → Has a n
covers_by a b pa pb le within n (inl lt) = Has-before_reach a n (omega (arith, le, lt))
covers_by a b pa pb le within n (inr h) =
    elim (cases_lt n a.front) [
      | inl lt ↦ inl lt
      | inr ge ↦ inr (within n (Contains-from_gap b.front MAX_FRONT a.front b.loose pb.rises n h ge))
    ]

-- where all numbers of another set are taken, its front is no higher than the reach
pub reach_covered : (a b : Numbers) → IsProper a → ((n : ℕ) → Has b n → Has a n) → b.front ≤ reach_of a
reach_covered a b pa covered =
    elim (cases_lt (reach_of a) b.front) [
      | inl lt ↦ absurd (reach_least a pa (covered (reach_of a) (inl lt)))
      | inr le ↦ le
    ]

-- where all numbers of another set are taken, its loose ones at or above the front are loose here
pub loose_covered : (a b : Numbers) → IsProper a → IsProper b → ((n : ℕ) → Has b n → Has a n)
    → (n : ℕ) → Contains (drop (gap_of a.front b.loose) b.loose) n → Contains a.loose n
loose_covered a b pa pb covered n h =
    let front : a.front ≤ MAX_FRONT = (let l = length-Rises a.front MAX_FRONT a.loose pa.rises in omega (arith, l)) in
    let up = (Rises-member a.front MAX_FRONT (drop (gap_of a.front b.loose) b.loose) n
    (Rises-from_gap b.front MAX_FRONT a.front b.loose pb.rises front) h).0 in
    elim (covered n (inr (Contains-drop (gap_of a.front b.loose) b.loose n h))) [
      | inl lt ↦ absurd (omega (arith, lt, up))
      | inr is ↦ is
    ]
