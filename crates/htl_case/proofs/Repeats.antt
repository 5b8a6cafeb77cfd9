-- Of segments in the order of their keys, neighbours show which keys have two contents, and what is left without repeats.
use Rattle.std.proofs.Common.{◌≡◌, ◌≢◌, ℕ, ◌+◌, ◌<◌, ◌≤◌, length, get_or, drop, true, false, List, [], ◌∷◌}
use Rattle.std.proofs.Common.{sym, ap, ◌∙◌, subst, inl, inr, ◌⊎◌, refl}
use Rattle.std.specs.Prelude.{Contains, ◌↔◌, ◌==◌}
use Rattle.std.specs.List.{dedup, dedup_from}
use Rattle.std.specs.List.Sorted.{IsPermutation}
use Rattle.std.proofs.lemmas.Bool.{cases_Bool, and_parts, and_cases, eqb-true, eqb-false}
use Rattle.std.proofs.lemmas.List.{drop_more, drop_all}
use Rattle.std.proofs.lemmas.List.Sorted.{Contains-permutation, IsPermutation-sym}
use Rattle.htl_event.proofs.Members.{Contains-here, Contains-there, Contains-cases, Contains-cons, Contains-nil, at_member}
use Rattle.htl_event.proofs.Members.{each_member}
use Rattle.htl_segment.specs.Content.{Content}
use Rattle.htl_segment.specs.Traces.{AreInOrder, IsBefore}
use Rattle.htl_segment.specs.Rising.{IsKeyBefore}
use Rattle.htl_event.specs.Members.{IsLeastSuch}
use Rattle.htl_case.specs.Faults.{HasTwoContents, HaveOneContent, key_of}
use Rattle.htl_case.specs.Ordered.{AreSorted, same_key, IsInOrder}
use Rattle.htl_case.proofs.KeyOrder.{same_pair, cases_key, not_itself}

-- the next segment of a sorted list has the first one's key where a later one has it
next_between : (s t : Content) (ss : List Content) (x : Content) → AreSorted (s ∷ t ∷ ss) → Contains (t ∷ ss) x → key_of x ≡ key_of s
    → key_of t ≡ key_of s
next_between s t ss x sorted h same =
    elim (cases_key (key_of t) (key_of s)) [
      | inl before ↦ absurd (sorted.0.0 before)
      | inr (inl equal) ↦ equal
      | inr (inr after) ↦ elim (Contains-cases t ss x h) [
        | inl is ↦ ap key_of is ∙ same
        | inr there ↦ absurd (at_member (λ y. IsKeyBefore (key_of y) (key_of t) → ⊥) ss x sorted.1.0 there
            (subst (λ (k : ℕ × ℕ). IsKeyBefore k (key_of t)) (sym same) after))
      ]
    ]

-- ---- two contents of one key

-- of a sorted list, what was gone through: segments of one key are equal, or both are among those left
pub record AreGoneThrough (segments left : List Content) : Type 0 where
  pub sorted : AreSorted left
  pub equal : (u v : Content) → Contains segments u → Contains segments v → key_of u ≡ key_of v
      → (u ≡ v) ⊎ (Contains left u × Contains left v)
  pub inside : (u : Content) → Contains left u → Contains segments u

pub none_gone : (segments : List Content) → AreSorted segments → AreGoneThrough segments segments
none_gone segments sorted = record { sorted = sorted; equal = λ u v h k same. inr (h, k); inside = λ u h. h }

-- the first of those left agrees with the next one
one_gone : (segments : List Content) (s t : Content) (ss : List Content) → (key_of t ≡ key_of s → t ≡ s)
    → AreGoneThrough segments (s ∷ t ∷ ss) → AreGoneThrough segments (t ∷ ss)
one_gone segments s t ss agree gone = record {
  sorted = gone.sorted.1;
  equal = λ u v h k same. elim (gone.equal u v h k same) [
    | inl is ↦ inl is
    | inr both ↦ elim (Contains-cases s (t ∷ ss) u both.0) [
      | inl u_is ↦ elim (Contains-cases s (t ∷ ss) v both.1) [
        | inl v_is ↦ inl (sym u_is ∙ v_is)
        | inr v_there ↦
            let first = agree (next_between s t ss v gone.sorted v_there (sym same ∙ ap key_of (sym u_is))) in
            inr (Contains-cons t ss u (inl (first ∙ u_is)), v_there)
      ]
      | inr u_there ↦ elim (Contains-cases s (t ∷ ss) v both.1) [
        | inl v_is ↦
            let first = agree (next_between s t ss u gone.sorted u_there (same ∙ ap key_of (sym v_is))) in
            inr (u_there, Contains-cons t ss v (inl (first ∙ v_is)))
        | inr v_there ↦ inr (u_there, v_there)
      ]
    ]
  ];
  inside = λ u h. gone.inside u (Contains-there s (t ∷ ss) u h);
}

all_gone : (segments : List Content) (s : Content) → AreGoneThrough segments (s ∷ []) → HaveOneContent segments
all_gone segments s gone u v h k same =
    elim (gone.equal u v h k same) [
      | inl is ↦ is
      | inr both ↦ only u both.0 ∙ sym (only v both.1)
    ]
  where
    only : (x : Content) → Contains (s ∷ []) x → x ≡ s
    only x h = elim (Contains-cases s [] x h) [ inl is ↦ sym is | inr there ↦ absurd (Contains-nil x there) ]

-- no segment of a sorted list has a key before the first one's
none_lower : (s : Content) (ss : List Content) → AreSorted (s ∷ ss) → (x : Content) → Contains (s ∷ ss) x
    → IsKeyBefore (key_of x) (key_of s) → ⊥
none_lower s ss sorted x h before =
    elim (Contains-cases s ss x h) [
      | inl is ↦ not_itself (key_of s) (subst (λ (y : Content). IsKeyBefore (key_of y) (key_of s)) (sym is) before)
      | inr there ↦ at_member (λ y. IsKeyBefore (key_of y) (key_of s) → ⊥) ss x sorted.0 there before
    ]

two_found : (segments : List Content) (s t : Content) (ss : List Content) → key_of t ≡ key_of s → t ≢ s
    → AreGoneThrough segments (s ∷ t ∷ ss) → IsLeastSuch IsKeyBefore (HasTwoContents segments) (key_of t)
two_found segments s t ss same differ gone = record {
  holds = record {
    one = t;
    other = s;
    has_one = gone.inside t (Contains-there s (t ∷ ss) t (Contains-here t ss));
    has_other = gone.inside s (Contains-here s (t ∷ ss));
    one_key = refl;
    other_key = sym same;
    differ = differ;
  };
  least = λ key before two.
      elim (gone.equal two.one two.other two.has_one two.has_other (two.one_key ∙ sym two.other_key)) [
        | inl is ↦ two.differ is
        | inr both ↦ none_lower s (t ∷ ss) gone.sorted two.one both.0
            (subst (λ (k : ℕ × ℕ). IsKeyBefore k (key_of s)) (sym two.one_key) (subst (λ (k : ℕ × ℕ). IsKeyBefore key k) same before))
      ];
}

-- the same at the place that a loop has come to
next_at : (rest : List Content) (i : ℕ) (next : Content) → i < length rest → next ≡ get_or rest i next
    → drop i rest ≡ next ∷ drop (i + 1) rest
next_at rest i next lt is = drop_more rest i next lt ∙ ap (λ (x : Content). x ∷ drop (i + 1) rest) (sym is)

-- where the next segment equals the one before or has another key, all gone through have one content a key
pub gone_more : (segments rest : List Content) (i : ℕ) (last next : Content) → i < length rest → next ≡ get_or rest i next
    → (key_of next ≡ key_of last → next ≡ last)
    → AreGoneThrough segments (last ∷ drop i rest) → AreGoneThrough segments (next ∷ drop (i + 1) rest)
gone_more segments rest i last next lt is agree gone =
    one_gone segments last next (drop (i + 1) rest) agree
    (subst (λ (left : List Content). AreGoneThrough segments (last ∷ left)) (next_at rest i next lt is) gone)

-- the key of the first two neighbours that differ under one key is the least with two contents
pub gone_found : (segments rest : List Content) (i : ℕ) (last next : Content) → i < length rest → next ≡ get_or rest i next
    → key_of next ≡ key_of last → next ≢ last
    → AreGoneThrough segments (last ∷ drop i rest) → IsLeastSuch IsKeyBefore (HasTwoContents segments) (key_of next)
gone_found segments rest i last next lt is same differ gone =
    two_found segments last next (drop (i + 1) rest) same differ
    (subst (λ (left : List Content). AreGoneThrough segments (last ∷ left)) (next_at rest i next lt is) gone)

-- after the last segment, no key has two contents
pub gone_all : (segments rest : List Content) (i : ℕ) (last : Content) → length rest ≤ i → AreGoneThrough segments (last ∷ drop i rest)
    → HaveOneContent segments
gone_all segments rest i last le gone =
    all_gone segments last (subst (λ (left : List Content). AreGoneThrough segments (last ∷ left)) (drop_all i rest le) gone)

-- ---- repeats dropped

same_key-true : (s t : Content) → same_key s t ≡ true → key_of s ≡ key_of t
same_key-true s t e =
    let parts = and_parts (s.processor == t.processor) (s.number == t.number) e in
    same_pair (key_of s) (key_of t) (eqb-true s.processor t.processor parts.0) (eqb-true s.number t.number parts.1)

same_key-false : (s t : Content) → same_key s t ≡ false → key_of s ≡ key_of t → ⊥
same_key-false s t e same =
    elim (and_cases (s.processor == t.processor) (s.number == t.number) e) [
      | inl other ↦ eqb-false s.processor t.processor other (ap (λ (k : ℕ × ℕ). k.0) same)
      | inr other ↦ eqb-false s.number t.number other (ap (λ (k : ℕ × ℕ). k.1) same)
    ]

-- the same segments, each once and in order
record AreOnce (segments once : List Content) : Type 0 where
  pub in_order : AreInOrder once
  pub members : (s : Content) → Contains once s ↔ Contains segments s

in_tail : (s : Content) (ss : List Content) → HaveOneContent (s ∷ ss) → HaveOneContent ss
in_tail s ss content u v h k same = content u v (Contains-there s ss u h) (Contains-there s ss v k) same

-- without the second, where it is the first again
without_second : (s t : Content) (ss : List Content) → HaveOneContent (s ∷ t ∷ ss) → HaveOneContent (s ∷ ss)
without_second s t ss content u v h k same = content u v (more u h) (more v k) same
  where
    more : (x : Content) → Contains (s ∷ ss) x → Contains (s ∷ t ∷ ss) x
    more x h = elim (Contains-cases s ss x h) [
      | inl is ↦ Contains-cons s (t ∷ ss) x (inl is)
      | inr there ↦ Contains-there s (t ∷ ss) x (Contains-there t ss x there)
    ]

once_from : (s : Content) (ss : List Content) → AreSorted (s ∷ ss) → HaveOneContent (s ∷ ss) → AreOnce (s ∷ ss) (dedup_from same_key s ss)
once_from s [] sorted content = record { in_order = (tt, tt); members = λ x. (λ h. h, λ h. h) }
once_from s (t ∷ ss) sorted content =
    elim (cases_Bool (same_key t s)) [
      | inl again ↦
          let is : t ≡ s = content t s (Contains-there s (t ∷ ss) t (Contains-here t ss)) (Contains-here s (t ∷ ss))
          (same_key-true t s again) in
          let rest = once_from s ss (sorted.0.1, sorted.1.1) (without_second s t ss content) in
          rw again (record {
            in_order = rest.in_order;
            members = λ x. (
              λ h. elim (Contains-cases s ss x ((rest.members x).0 h)) [
                | inl here ↦ Contains-cons s (t ∷ ss) x (inl here)
                | inr there ↦ Contains-there s (t ∷ ss) x (Contains-there t ss x there)
              ],
              λ h. (rest.members x).1 (elim (Contains-cases s (t ∷ ss) x h) [
                | inl here ↦ Contains-cons s ss x (inl here)
                | inr there ↦ elim (Contains-cases t ss x there) [
                  | inl second ↦ Contains-cons s ss x (inl (sym is ∙ second))
                  | inr later ↦ Contains-there s ss x later
                ]
              ]),
            );
          })
      | inr new ↦
          let rest = once_from t ss sorted.1 (in_tail s (t ∷ ss) content) in
          let after : (x : Content) → Contains (dedup_from same_key t ss) x → IsBefore s x = λ x h.
          (let there = (rest.members x).0 h in
          elim (cases_key (key_of s) (key_of x)) [
            | inl before ↦ before
            | inr (inl same) ↦ absurd (same_key-false t s new (next_between s t ss x sorted there (sym same)))
            | inr (inr lower) ↦ absurd (at_member (λ y. IsKeyBefore (key_of y) (key_of s) → ⊥) (t ∷ ss) x sorted.0 there lower)
          ]) in
          rw new (record {
            in_order = (each_member (IsBefore s) (dedup_from same_key t ss) after, rest.in_order);
            members = λ x. (
              λ h. elim (Contains-cases s (dedup_from same_key t ss) x h) [
                | inl here ↦ Contains-cons s (t ∷ ss) x (inl here)
                | inr there ↦ Contains-there s (t ∷ ss) x ((rest.members x).0 there)
              ],
              λ h. elim (Contains-cases s (t ∷ ss) x h) [
                | inl here ↦ Contains-cons s (dedup_from same_key t ss) x (inl here)
                | inr there ↦ Contains-there s (dedup_from same_key t ss) x ((rest.members x).1 there)
              ],
            );
          })
    ]

once : (ss : List Content) → AreSorted ss → HaveOneContent ss → AreOnce ss (dedup same_key ss)
once [] sorted content = record { in_order = tt; members = λ x. (λ h. h, λ h. h) }
once (s ∷ ss) sorted content = once_from s ss sorted content

-- ---- a list and the same list sorted

-- where no key of the sorted list has two contents, none of the list as it was given has
pub content_moved : (given sorted : List Content) → IsPermutation given sorted → HaveOneContent sorted → HaveOneContent given
content_moved given sorted moved content u v h k same =
    content u v (Contains-permutation given sorted u moved h) (Contains-permutation given sorted v moved k) same

two_moved : (a b : List Content) (key : ℕ × ℕ) → ((s : Content) → Contains a s → Contains b s) → HasTwoContents a key
    → HasTwoContents b key
two_moved a b key into two = record {
  one = two.one;
  other = two.other;
  has_one = into two.one two.has_one;
  has_other = into two.other two.has_other;
  one_key = two.one_key;
  other_key = two.other_key;
  differ = two.differ;
}

-- the least key with two contents in the sorted list is that in the list as it was given
pub least_moved : (given sorted : List Content) (key : ℕ × ℕ) → IsPermutation given sorted
    → IsLeastSuch IsKeyBefore (HasTwoContents sorted) key → IsLeastSuch IsKeyBefore (HasTwoContents given) key
least_moved given sorted key moved least = record {
  holds = two_moved sorted given key (λ s h. Contains-permutation sorted given s (IsPermutation-sym given sorted moved) h) least.holds;
  least = λ lower before two. least.least lower before
      (two_moved given sorted lower (λ s h. Contains-permutation given sorted s moved h) two);
}

-- sorted and without repeats, the segments are in order
pub ordered_once : (given sorted : List Content) → IsPermutation given sorted → AreSorted sorted → HaveOneContent sorted
    → IsInOrder given (dedup same_key sorted)
ordered_once given sorted moved up content =
    let each = once sorted up content in record {
      in_order = each.in_order;
      members = λ s. (
        λ h. Contains-permutation sorted given s (IsPermutation-sym given sorted moved) ((each.members s).0 h),
        λ h. (each.members s).1 (Contains-permutation given sorted s moved h),
      );
      content = content_moved given sorted moved content;
    }
