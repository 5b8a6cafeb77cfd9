-- Two states that are right about one trace have a merge.
use Rattle.std.proofs.Common.{◌≡◌, ℕ, ◌+◌, ◌<◌, ◌≤◌, max, List, [], ◌∷◌, ◌++◌, length, map, refl, sym, ◌∙◌, subst, inl, inr, ◌⊎◌, arith, zero, suc}
use Rattle.std.specs.Prelude.{Contains, ◌↔◌, nat_lt, if◌then◌else◌}
use Rattle.std.proofs.lemmas.Bool.{cases_eq, cases_lt, cases_order}
use Rattle.std.proofs.lemmas.List.{get_or_append_left, get_or_push, length-append}
use Rattle.std.proofs.lemmas.List.Elements.{Contains-append_cases, Contains-append_left, Contains-append_right}
use Rattle.htl_event.proofs.Members.{each_member, Contains-here, Contains-there, Contains-cases, Contains-cons, Contains-nil}
use Rattle.htl_event.proofs.Members.{Contains-map, Contains-from_map}
use Rattle.htl_segment.specs.Content.{Content}
use Rattle.htl_segment.specs.Traces.{Trace}
use Rattle.htl_taken.specs.Numbers.{Numbers, no_numbers, numbers_at, IsUnion}
use Rattle.htl_taken.specs.Rising.{Rises}
use Rattle.htl_taken.specs.declared.TheConstants.{MAX_FRONT}
use Rattle.htl_taken.proofs.NumberSets.{IsUnion-past}
use Rattle.htl_taken.proofs.Rising.{Rises-member, length-Rises}
use Rattle.htl_analyst.specs.States.{Part, part, no_part, part_at, State, state}
use Rattle.htl_analyst.specs.Right.{IsPart, IsRight}
use Rattle.htl_analyst.specs.Steps.{IsMergedPart, IsMerge}
use Rattle.htl_analyst.proofs.Held.{number}
use Rattle.htl_case.specs.Headline.{AnyCanBeMerged}

-- ---- segments in the order of their numbers

-- the segment is put at its number, where none of the list has it
record IsPut (low high : ℕ) (s : Content) (old new : List Content) : Type 0 where
  rises : Rises low high (map number new)
  from : (x : Content) → Contains new x → (s ≡ x) ⊎ Contains old x
  has : (n : ℕ) → Contains (map number new) n ↔ ((s.number ≡ n) ⊎ Contains (map number old) n)

put_there : (low high : ℕ) (s : Content) (old : List Content) → Rises low high (map number old) → low ≤ s.number → s.number < high
    → (new : List Content) × IsPut low high s old new
put_there low high s [] up le lt = (
  s ∷ [],
  record {
    rises = (le, omega (arith, lt));
    from = Contains-cases s [];
    has = λ n. (Contains-cases s.number [] n, Contains-cons s.number [] n);
  },
)
put_there low high s (t ∷ ts) up le lt =
    elim (cases_order s.number t.number) [
      | inl same ↦ (
        t ∷ ts,
        record {
          rises = up;
          from = λ x h. inr h;
          has = λ n. (
            λ h. inr h,
            λ h. elim h [
              | inl is ↦ Contains-cons t.number (map number ts) n (inl (sym same ∙ is))
              | inr there ↦ there
            ],
          );
        },
      )
      | inr (inl before) ↦ (
        s ∷ t ∷ ts,
        record {
          rises = (le, (omega (arith, before), up.1));
          from = Contains-cases s (t ∷ ts);
          has = λ n. (Contains-cases s.number (map number (t ∷ ts)) n, Contains-cons s.number (map number (t ∷ ts)) n);
        },
      )
      | inr (inr after) ↦
          let rest = put_there (t.number + 1) high s ts up.1 (omega (arith, after)) lt in (
            t ∷ rest.0,
            record {
              rises = (up.0, rest.1.rises);
              from = λ x h. elim (Contains-cases t rest.0 x h) [
                | inl is ↦ inr (Contains-cons t ts x (inl is))
                | inr there ↦ elim (rest.1.from x there) [ inl new ↦ inl new | inr old ↦ inr (Contains-there t ts x old) ]
              ];
              has = λ n. (
                λ h. elim (Contains-cases t.number (map number rest.0) n h) [
                  | inl is ↦ inr (Contains-cons t.number (map number ts) n (inl is))
                  | inr there ↦ elim ((rest.1.has n).0 there) [
                    | inl new ↦ inl new
                    | inr old ↦ inr (Contains-there t.number (map number ts) n old)
                  ]
                ],
                λ h. elim h [
                  | inl new ↦ Contains-there t.number (map number rest.0) n ((rest.1.has n).1 (inl new))
                  | inr old ↦ elim (Contains-cases t.number (map number ts) n old) [
                    | inl is ↦ Contains-cons t.number (map number rest.0) n (inl is)
                    | inr there ↦ Contains-there t.number (map number rest.0) n ((rest.1.has n).1 (inr there))
                  ]
                ],
              );
            },
          )
    ]

-- the segments of a list with the numbers from low on, one for each number
record AreFrom (low high : ℕ) (segments new : List Content) : Type 0 where
  rises : Rises low high (map number new)
  from : (x : Content) → Contains new x → Contains segments x
  has : (n : ℕ) → Contains (map number new) n ↔ ((low ≤ n) × Contains (map number segments) n)

from_there : (low high : ℕ) (segments : List Content) → low ≤ high → ((s : Content) → Contains segments s → s.number < high)
    → (new : List Content) × AreFrom low high segments new
from_there low high [] le below = (
  [],
  record { rises = le; from = λ x h. h; has = λ n. (λ h. absurd (Contains-nil n h), λ h. absurd (Contains-nil n h.1)) },
)
from_there low high (s ∷ ss) le below =
    let rest = from_there low high ss le (λ t h. below t (Contains-there s ss t h)) in
    elim (cases_lt s.number low) [
      | inl under ↦ (
        rest.0,
        record {
          rises = rest.1.rises;
          from = λ x h. Contains-there s ss x (rest.1.from x h);
          has = λ n. (
            λ h. let there = (rest.1.has n).0 h in (there.0, Contains-there s.number (map number ss) n there.1),
            λ h. elim (Contains-cases s.number (map number ss) n h.1) [
              | inl is ↦ (let at_least = h.0 in let never : ⊥ = omega (arith, is, at_least, under) in absurd never)
              | inr there ↦ (rest.1.has n).1 (h.0, there)
            ],
          );
        },
      )
      | inr over ↦
          let put = put_there low high s rest.0 rest.1.rises over (below s (Contains-here s ss)) in (
            put.0,
            record {
              rises = put.1.rises;
              from = λ x h. elim (put.1.from x h) [
                | inl is ↦ Contains-cons s ss x (inl is)
                | inr there ↦ Contains-there s ss x (rest.1.from x there)
              ];
              has = λ n. (
                λ h. elim ((put.1.has n).0 h) [
                  | inl is ↦ (omega (arith, over, is), Contains-cons s.number (map number ss) n (inl is))
                  | inr old ↦ let there = (rest.1.has n).0 old in (there.0, Contains-there s.number (map number ss) n there.1)
                ],
                λ h. elim (Contains-cases s.number (map number ss) n h.1) [
                  | inl is ↦ (put.1.has n).1 (inl is)
                  | inr there ↦ (put.1.has n).1 (inr ((rest.1.has n).1 (h.0, there)))
                ],
              );
            },
          )
    ]

-- ---- one processor

-- the numbers of segments in two lists
numbers_of_both : (xs ys : List Content) (n : ℕ)
    → Contains (map number (xs ++ ys)) n ↔ (Contains (map number xs) n ⊎ Contains (map number ys) n)
numbers_of_both xs ys n = (
  λ h.
      let s = Contains-from_map number (xs ++ ys) n h in
      elim (Contains-append_cases xs ys s.0 s.1) [
        | inl left ↦ inl (subst (Contains (map number xs)) s.2 (Contains-map number xs s.0 left))
        | inr right ↦ inr (subst (Contains (map number ys)) s.2 (Contains-map number ys s.0 right))
      ],
  λ h. elim h [
    | inl left ↦
        let s = Contains-from_map number xs n left in
        subst (Contains (map number (xs ++ ys))) s.2 (Contains-map number (xs ++ ys) s.0 (Contains-append_left xs ys s.0 s.1))
    | inr right ↦
        let s = Contains-from_map number ys n right in
        subst (Contains (map number (xs ++ ys))) s.2 (Contains-map number (xs ++ ys) s.0 (Contains-append_right xs ys s.0 s.1))
  ],
)

-- what is held has numbers below the greatest front
held_below : (id count p : ℕ) (q : Numbers) (k : Part) → IsPart id count p q k → (s : Content) → Contains k.held s → s.number < MAX_FRONT
held_below id count p q k is s h =
    (Rises-member q.front MAX_FRONT q.loose s.number is.proper.rises
    (subst (λ (ns : List ℕ). Contains ns s.number) is.numbers (Contains-map number k.held s h))).1

part_merged : (id count p : ℕ) (q r : Numbers) (k l : Part) → IsPart id count p q k → IsPart id count p r l
    → (u : Numbers) × (m : Part) × IsUnion q r u × IsMergedPart q k r l u m
part_merged id count p q r k l own theirs =
    let left = length-Rises q.front MAX_FRONT q.loose own.proper.rises in
    let right = length-Rises r.front MAX_FRONT r.loose theirs.proper.rises in
    let low = max q.front r.front in
    let both = from_there low MAX_FRONT (k.held ++ l.held) (omega (arith, left, right)) (λ s h. elim (Contains-append_cases k.held l.held s h) [
      | inl x ↦ held_below id count p q k own s x
      | inr y ↦ held_below id count p r l theirs s y
    ]) in
    let held = both.0 in (
      record { front = low; loose = map number held },
      part held (if nat_lt q.front r.front then l.folded else k.folded),
      record {
        front = refl;
        proper = record { rises = both.1.rises };
        loose = λ n. (
          λ h.
              let there = (both.1.has n).0 h in (
                there.0,
                elim ((numbers_of_both k.held l.held n).0 there.1) [
                  | inl x ↦ inl (subst (λ (ns : List ℕ). Contains ns n) own.numbers x)
                  | inr y ↦ inr (subst (λ (ns : List ℕ). Contains ns n) theirs.numbers y)
                ],
              ),
          λ h. (both.1.has n).1 (
            h.0,
            (numbers_of_both k.held l.held n).1 (elim h.1 [
              | inl x ↦ inl (subst (λ (ns : List ℕ). Contains ns n) (sym own.numbers) x)
              | inr y ↦ inr (subst (λ (ns : List ℕ). Contains ns n) (sym theirs.numbers) y)
            ]),
          ),
        );
      },
      record {
        folded = refl;
        numbers = refl;
        from = each_member (λ s. Contains k.held s ⊎ Contains l.held s) held
            (λ s h. Contains-append_cases k.held l.held s (both.1.from s h));
      },
    )

-- ---- all processors

-- the first n processors are merged
record AreMerged (a b : State) (n : ℕ) (taken : List Numbers) (parts : List Part) : Type 0 where
  places : length taken ≡ n
  count : length parts ≡ n
  union : (p : ℕ) → p < n → IsUnion (numbers_at a.taken p) (numbers_at b.taken p) (numbers_at taken p)
  each : (p : ℕ) → p < n → IsMergedPart (numbers_at a.taken p) (part_at a.parts p) (numbers_at b.taken p) (part_at b.parts p)
      (numbers_at taken p) (part_at parts p)

module _ (T : Trace) (a b : State) (ra : IsRight a T) (rb : IsRight b T) where
  theirs_at : (p : ℕ) → p < a.processors → IsPart a.trace_id a.processors p (numbers_at b.taken p) (part_at b.parts p)
  theirs_at p lt =
      let id : b.trace_id ≡ a.trace_id = sym rb.id ∙ ra.id in
      let count : b.processors ≡ a.processors = sym rb.processors ∙ ra.processors in
      subst (λ (x : ℕ). IsPart x a.processors p (numbers_at b.taken p) (part_at b.parts p)) id
      (subst (λ (x : ℕ). IsPart b.trace_id x p (numbers_at b.taken p) (part_at b.parts p)) count
      (rb.state.each p (omega (arith, lt, count))))

  merged_to : (n : ℕ) → n ≤ a.processors → (taken : List Numbers) × (parts : List Part) × AreMerged a b n taken parts
  merged_to zero le = (
    [],
    [],
    record { places = refl; count = refl; union = λ p lt. absurd (omega (arith, lt)); each = λ p lt. absurd (omega (arith, lt)) },
  )
  merged_to (suc n) le =
      let old = merged_to n (omega (arith, le)) in
      let taken = old.0 in
      let parts = old.1 in
      let lt : n < a.processors = omega (arith, le) in
      let new = part_merged a.trace_id a.processors n (numbers_at a.taken n) (numbers_at b.taken n) (part_at a.parts n) (part_at b.parts n)
      (ra.state.each n lt) (theirs_at n lt) in
      let u = new.0 in
      let m = new.1 in
      let places = old.2.places in
      let count = old.2.count in
      let u_at : numbers_at (taken ++ u ∷ []) n ≡ u = get_or_push taken u no_numbers n places in
      let m_at : part_at (parts ++ m ∷ []) n ≡ m = get_or_push parts m no_part n count in
      let union_at : (p : ℕ) → p < suc n → IsUnion (numbers_at a.taken p) (numbers_at b.taken p) (numbers_at (taken ++ u ∷ []) p) = λ p below.
      elim (cases_eq p n) [
        | inl is ↦
            subst (λ (x : ℕ). IsUnion (numbers_at a.taken x) (numbers_at b.taken x) (numbers_at (taken ++ u ∷ []) x)) (sym is)
            (subst (λ (x : Numbers). IsUnion (numbers_at a.taken n) (numbers_at b.taken n) x) (sym u_at) new.2)
        | inr ne ↦
            let before : p < n = omega (arith, below, ne) in
            let same : numbers_at (taken ++ u ∷ []) p ≡ numbers_at taken p =
            get_or_append_left taken (u ∷ []) no_numbers p (omega (arith, before, places)) in
            subst (λ (x : Numbers). IsUnion (numbers_at a.taken p) (numbers_at b.taken p) x) (sym same) (old.2.union p before)
      ] in
      let part_is : (p : ℕ) → p < suc n → IsMergedPart (numbers_at a.taken p) (part_at a.parts p) (numbers_at b.taken p) (part_at b.parts p)
      (numbers_at (taken ++ u ∷ []) p) (part_at (parts ++ m ∷ []) p) = λ p below.
      elim (cases_eq p n) [
        | inl is ↦
            subst (λ (x : ℕ). IsMergedPart (numbers_at a.taken x) (part_at a.parts x) (numbers_at b.taken x) (part_at b.parts x)
            (numbers_at (taken ++ u ∷ []) x) (part_at (parts ++ m ∷ []) x)) (sym is)
            (subst (λ (x : Part). IsMergedPart (numbers_at a.taken n) (part_at a.parts n) (numbers_at b.taken n) (part_at b.parts n)
            (numbers_at (taken ++ u ∷ []) n) x) (sym m_at)
            (subst (λ (x : Numbers). IsMergedPart (numbers_at a.taken n) (part_at a.parts n) (numbers_at b.taken n) (part_at b.parts n)
            x m) (sym u_at) new.3))
        | inr ne ↦
            let before : p < n = omega (arith, below, ne) in
            let same : numbers_at (taken ++ u ∷ []) p ≡ numbers_at taken p =
            get_or_append_left taken (u ∷ []) no_numbers p (omega (arith, before, places)) in
            let also : part_at (parts ++ m ∷ []) p ≡ part_at parts p =
            get_or_append_left parts (m ∷ []) no_part p (omega (arith, before, count)) in
            subst (λ (x : Part). IsMergedPart (numbers_at a.taken p) (part_at a.parts p) (numbers_at b.taken p) (part_at b.parts p)
            (numbers_at (taken ++ u ∷ []) p) x) (sym also)
            (subst (λ (x : Numbers). IsMergedPart (numbers_at a.taken p) (part_at a.parts p) (numbers_at b.taken p) (part_at b.parts p)
            x (part_at parts p)) (sym same) (old.2.each p before))
      ] in (
        taken ++ u ∷ [],
        parts ++ m ∷ [],
        record {
          places = length-append taken (u ∷ []) ∙ omega (arith, places);
          count = length-append parts (m ∷ []) ∙ omega (arith, count);
          union = union_at;
          each = part_is;
        },
      )

  merge_there : (c : State) × IsMerge a b c
  merge_there =
      let all = merged_to a.processors (omega arith) in
      let places = all.2.places in (
        state a.trace_id a.processors all.0 all.1,
        record {
          trace_id = refl;
          processors = refl;
          places = places;
          parts = all.2.count;
          taken = λ p. elim (cases_lt p a.processors) [
            | inl lt ↦ all.2.union p lt
            | inr past ↦
                let left = ra.state.places in
                let right = rb.state.places in
                let count : b.processors ≡ a.processors = sym rb.processors ∙ ra.processors in
                IsUnion-past a.taken b.taken all.0 p (omega (arith, left, past)) (omega (arith, right, count, past)) (omega (arith, places, past))
          ];
          each = all.2.each;
        },
      )

-- two states that are right about one trace have a merge
pub any_can_be_merged : AnyCanBeMerged
any_can_be_merged = merge_there
