-- Two positions in normal form that count the same have the same counts and children alike.
use Rattle.std.proofs.Common.{◌≡◌, ℕ, zero, suc, ◌<◌, List, [], ◌∷◌, length, map, get_or, Option, Some}
use Rattle.std.proofs.Common.{None, cond, true, false, unwrap_or, refl, inl, inr, sym, ◌∙◌, ap, subst, arith}
use Rattle.std.proofs.lemmas.Bool.{cases_eq}
use Rattle.std.specs.Cmp.{nat_cmp_total}
use Rattle.std.specs.Ordering.{nat_cmp, eq_by_cmp, ordering_reverse}
use Rattle.std.specs.declared.cmp.Ordering.{Ordering}
use Rattle.std.specs.declared.cmp.Ordering.TheVariants.{Less, Equal, Greater}
use Rattle.std.specs.FinMap.{nat_cmp-IsAntisymmetric}
use Rattle.std.specs.FinMap.Entries.{find, same_entries}
use Rattle.htl_event.specs.declared.slot.Slot.{Slot}
use Rattle.htl_event.specs.declared.slot.Count.{Count}
use Rattle.htl_event.specs.Tallies.{zero_count, IsPositive}
use Rattle.htl_sorted.specs.Entries.{IsSorted, Each}
use Rattle.htl_lemmas.proofs.Tests.{both_left, both_right}
use Rattle.htl_sorted.proofs.Finds.{find_below, find_below_all, find_first, find_skip}
use Rattle.htl_event.specs.SlotOrder.{slot_cmp}
use Rattle.htl_event.specs.OrderLaws.{slot_total, slot_same}
use Rattle.htl_tree.specs.Nodes.{Position, tally, tally_of, counts, children, at_child, IsNonEmpty, IsNormal, IsSameTally}
use Rattle.htl_tree.proofs.CountAdded.{normal_here, normal_child}
use Rattle.htl_tree.proofs.Positions.{ind_position}
use Rattle.htl_tree.proofs.FilterBits.{not_zero}

abbrev or_zero : Option Count → Count
or_zero o = unwrap_or o zero_count

-- a count somewhere
pub record Witness {A : Type 0} (n : Position A) : Type 0 where
  pub path : List ℕ
  pub slot : Slot
  pub counts : IsPositive (tally path slot n)

abbrev HasWitness : {A : Type 0} → Position A → Type 0
HasWitness n = IsNormal n → IsNonEmpty n → Witness n

module _ {A : Type 0} (n : Position A) (h : IsNormal n) (some : IsNonEmpty n) where
  start : (os : List (Slot × Count)) → counts n ≡ os → (ks : List (ℕ × ((c : Position A) × HasWitness c)))
      → children n ≡ map (λ e. (e.0, e.1.0)) ks → Witness n
  start (o ∷ os) e ks k = record {
    path = [];
    slot = o.0;
    counts = subst IsPositive (sym (ap or_zero (ap (find slot_cmp o.0) e ∙ find_first slot_cmp slot_total o os)))
        (subst (λ l. Each IsPositive l) e (normal_here n h).positive).0;
  }
  start [] e [] k = absurd (some e k)
  start [] e (c ∷ ks) k =
      let found : find nat_cmp c.0 (children n) ≡ Some c.1.0 = ap (find nat_cmp c.0) k
      ∙ find_first nat_cmp nat_cmp_total (c.0, c.1.0) (map (λ e. (e.0, e.1.0)) ks) in
      let inner : Witness c.1.0 = c.1.1 (normal_child n h c.0 c.1.0 found)
      (subst (λ l. Each (λ c. IsNonEmpty c) l) k (normal_here n h).nonempty).0 in
      record {
        path = c.0 ∷ inner.path;
        slot = inner.slot;
        counts =
            subst IsPositive (sym (ap (at_child (λ c. tally inner.path inner.slot c)) found)) inner.counts;
      }

-- a node that is not empty has a count somewhere
pub inhabited : {A : Type 0} (n : Position A) → HasWitness n
inhabited {A} = ind_position (λ n. HasWitness n) (λ n ks is h some. start n h some (counts n) refl ks is)

abbrev pub SameChildren : {A : Type 0} → List (ℕ × Position A) → List (ℕ × Position A) → Type 0
SameChildren [] [] = Unit {0}
SameChildren [] (f ∷ fs) = ⊥
SameChildren (e ∷ es) [] = ⊥
SameChildren (e ∷ es) (f ∷ fs) = (e.0 ≡ f.0) × IsSameTally (tally_of e.1) (tally_of f.1) × SameChildren es fs

abbrev SameBelow : {A : Type 0} → List (ℕ × Position A) → List (ℕ × Position A) → Type 0
SameBelow es fs = (g : ℕ) (p : List ℕ) (s : Slot)
    → at_child (λ c. tally p s c) (find nat_cmp g fs) ≡ at_child (λ c. tally p s c) (find nat_cmp g es)

-- a child that only one side has
missing : {A : Type 0} (e : ℕ × Position A) (es fs : List (ℕ × Position A)) → Witness e.1 → find nat_cmp e.0 fs ≡ None
    → ((p : List ℕ) (s : Slot) → at_child (λ c. tally p s c) (find nat_cmp e.0 fs)
    ≡ at_child (λ c. tally p s c) (find nat_cmp e.0 (e ∷ es))) → ⊥
missing e es fs w none same =
    not_zero (subst IsPositive (sym (ap (at_child (λ c. tally w.path w.slot c)) (find_first nat_cmp nat_cmp_total e es))
    ∙ sym (same w.path w.slot) ∙ ap (at_child (λ c. tally w.path w.slot c)) none) w.counts)

abbrev Witnesses : {A : Type 0} → List (ℕ × Position A) → Type 0
Witnesses es = Each (λ c. Witness c) es

pub same_children : {A : Type 0} (es fs : List (ℕ × Position A)) → IsSorted nat_cmp es → IsSorted nat_cmp fs → Witnesses es → Witnesses fs
    → SameBelow es fs → SameChildren es fs
same_children [] [] s t v w same = tt
same_children [] (f ∷ fs) s t v w same = missing f fs [] w.0 refl (λ p q. sym (same f.0 p q))
same_children (e ∷ es) [] s t v w same = missing e es [] v.0 refl (λ p q. same e.0 p q)
same_children {A} (e ∷ es) (f ∷ fs) s t v w same =
    elim (nat_cmp e.0 f.0) as (λ r. nat_cmp e.0 f.0 ≡ r → SameChildren (e ∷ es) (f ∷ fs)) [
      | Less ↦ λ c. absurd (missing e es (f ∷ fs) v.0 (find_below_all nat_cmp nat_cmp_total e.0 f fs c (both_left _ _ t))
          (λ p q. same e.0 p q))
      | Greater ↦ λ c. absurd (missing f fs (e ∷ es) w.0
          (find_below_all nat_cmp nat_cmp_total f.0 e es (nat_cmp_total.antisymm f.0 e.0 ∙ ap ordering_reverse c) (both_left _ _ s))
          (λ p q. sym (same f.0 p q)))
      | Equal ↦ λ c.
          let key : e.0 ≡ f.0 = nat_cmp-IsAntisymmetric e.0 f.0 c in
          let heads : IsSameTally (tally_of e.1) (tally_of f.1) = λ p q.
          sym (ap (at_child (λ c. tally p q c)) (find_first nat_cmp nat_cmp_total f fs))
          ∙ ap (λ k. at_child (λ c. tally p q c) (find nat_cmp k (f ∷ fs))) (sym key) ∙ same e.0 p q
          ∙ ap (at_child (λ c. tally p q c)) (find_first nat_cmp nat_cmp_total e es) in
          let tails : SameBelow es fs = λ g p q. elim (cases_eq g e.0) [
            | inl is ↦ ap (at_child (λ c. tally p q c))
                (ap (λ k. find nat_cmp k fs) (is ∙ key) ∙ find_below nat_cmp nat_cmp_total f.0 fs (both_left _ _ t))
                ∙ sym (ap (at_child (λ c. tally p q c))
                (ap (λ k. find nat_cmp k es) is ∙ find_below nat_cmp nat_cmp_total e.0 es (both_left _ _ s)))
            | inr other ↦ ap (at_child (λ c. tally p q c))
                (sym (find_skip nat_cmp nat_cmp_total nat_cmp-IsAntisymmetric g f fs (λ is. other (is ∙ sym key)))) ∙ same g p q
                ∙ ap (at_child (λ c. tally p q c)) (find_skip nat_cmp nat_cmp_total nat_cmp-IsAntisymmetric g e es other)
          ] in
          (key, heads, same_children es fs (both_right _ _ s) (both_right _ _ t) v.1 w.1 tails)
    ] refl

-- children alike have tallies alike
same_below : {A : Type 0} (es fs : List (ℕ × Position A)) → SameChildren es fs → SameBelow es fs
same_below [] [] h g p s = refl
same_below [] (f ∷ fs) h g p s = absurd h
same_below (e ∷ es) [] h g p s = absurd h
same_below {A} (e ∷ es) (f ∷ fs) h g p s =
    let at : Option (Position A) → Count = at_child (λ c. tally p s c) in
    rw h.0 (elim (eq_by_cmp nat_cmp g f.0)
    as (λ b. at (cond b (Some f.1) (find nat_cmp g fs)) ≡ at (cond b (Some e.1) (find nat_cmp g es))) [
      | true ↦ h.1 p s
      | false ↦ same_below es fs h.2 g p s
    ])

-- where two positions have the same counts, and children alike, they count the same everywhere
pub same_from : {A : Type 0} (a b : Position A) → counts a ≡ counts b → SameChildren (children a) (children b) → IsSameTally (tally_of a) (tally_of b)
same_from a b o k [] s = rw o refl
same_from a b o k (f ∷ p) s = same_below (children a) (children b) k f p s

abbrev PositiveIfSome : Option Count → Type 0
PositiveIfSome None = Unit {0}
PositiveIfSome (Some c) = IsPositive c

-- a count that is found among counts that aren't zero isn't zero
pub found_positive : {K : Type 0} (R : K → K → Ordering) (k : K) (es : List (K × Count)) → Each IsPositive es
    → PositiveIfSome (find R k es)
found_positive R k [] h = tt
found_positive R k (e ∷ es) h = elim (eq_by_cmp R k e.0) as (λ b. PositiveIfSome (cond b (Some e.1) (find R k es))) [
  | true ↦ h.0
  | false ↦ found_positive R k es h.1
]

-- counts that aren't zero are the same where they count the same
pub same_option : (o p : Option Count) → PositiveIfSome o → PositiveIfSome p → unwrap_or p zero_count ≡ unwrap_or o zero_count → o ≡ p
same_option None None h k e = refl
same_option None (Some c) h k e = absurd (not_zero (subst IsPositive e k))
same_option (Some c) None h k e = absurd (not_zero (subst IsPositive (sym e) h))
same_option (Some c) (Some d) h k e = ap (λ (x : Count). Some x) (sym e)

-- equal tallies have equal counts at the node
pub canonical_counts : {A : Type 0} (a b : Position A) → IsNormal a → IsNormal b → IsSameTally (tally_of a) (tally_of b) → counts a ≡ counts b
canonical_counts a b h k same =
    let x = normal_here a h in
    let y = normal_here b k in
    same_entries slot_cmp slot_total slot_same (counts a) (counts b) x.slots y.slots
    (λ s. same_option _ _ (found_positive slot_cmp s (counts a) x.positive) (found_positive slot_cmp s (counts b) y.positive) (same [] s))

witnesses : {A : Type 0} (es : List (ℕ × Position A)) → IsSorted nat_cmp es → Each (λ c. IsNonEmpty c) es
    → ((f : ℕ) (c : Position A) → find nat_cmp f es ≡ Some c → IsNormal c) → Witnesses es
witnesses [] s h n = tt
witnesses (e ∷ es) s h n = (
  inhabited e.1 (n e.0 e.1 (find_first nat_cmp nat_cmp_total e es)) h.0,
  witnesses es (both_right _ _ s) h.1 (λ f c found. n f c (elim (cases_eq f e.0) [
    | inl is ↦ absurd (let none : find nat_cmp f es ≡ None = ap (λ k. find nat_cmp k es) is
        ∙ find_below nat_cmp nat_cmp_total e.0 es (both_left _ _ s) in let no : Some c ≡ None = sym found ∙ none in cc)
    | inr other ↦ find_skip nat_cmp nat_cmp_total nat_cmp-IsAntisymmetric f e es other ∙ found
  ])),
)

-- and children alike
pub canonical_children : {A : Type 0} (a b : Position A) → IsNormal a → IsNormal b → IsSameTally (tally_of a) (tally_of b)
    → SameChildren (children a) (children b)
canonical_children a b h k same =
    let x = normal_here a h in
    let y = normal_here b k in
    same_children (children a) (children b) x.frames y.frames
    (witnesses (children a) x.frames x.nonempty (λ f c found. normal_child a h f c found))
    (witnesses (children b) y.frames y.nonempty (λ f c found. normal_child b k f c found))
    (λ g p s. same (g ∷ p) s)

-- lists of children alike have the same length
pub same_length : {A : Type 0} (es fs : List (ℕ × Position A)) → SameChildren es fs → length es ≡ length fs
same_length [] [] h = refl
same_length [] (f ∷ fs) h = absurd h
same_length (e ∷ es) [] h = absurd h
same_length (e ∷ es) (f ∷ fs) h = ap suc (same_length es fs h.2)

-- two children of one frame that count the same
abbrev pub SameChild : {A : Type 0} → (ℕ × Position A) → (ℕ × Position A) → Type 0
SameChild e f = (e.0 ≡ f.0) × IsSameTally (tally_of e.1) (tally_of f.1)

-- two children alike stay so where each is replaced by one that equals it
pub same_ends : {A : Type 0} (a b d e : ℕ × Position A) → d ≡ a → e ≡ b → SameChild a b → SameChild d e
same_ends {A} a b d e is_a is_b h =
    subst (λ (x : ℕ × Position A). SameChild x e) (sym is_a) (subst (λ (x : ℕ × Position A). SameChild a x) (sym is_b) h)

-- lists of children alike have children alike at each index
pub same_at_index : {A : Type 0} (es fs : List (ℕ × Position A)) → SameChildren es fs → (i : ℕ) (d c : ℕ × Position A) → i < length es
    → SameChild (get_or es i d) (get_or fs i c)
same_at_index [] fs h i d c lt = absurd (omega arith)
same_at_index (e ∷ es) [] h i d c lt = absurd h
same_at_index (e ∷ es) (f ∷ fs) h zero d c lt = (h.0, h.1)
same_at_index (e ∷ es) (f ∷ fs) h (suc i) d c lt = same_at_index es fs h.2 i d c (omega arith)

-- lists of one length that have children alike at each index are lists of children alike
pub same_from_indexes : {A : Type 0} (es fs : List (ℕ × Position A)) → length es ≡ length fs
    → ((i : ℕ) (d c : ℕ × Position A) → i < length es → SameChild (get_or es i d) (get_or fs i c)) → SameChildren es fs
same_from_indexes [] [] l h = tt
same_from_indexes [] (f ∷ fs) l h = absurd (omega arith)
same_from_indexes (e ∷ es) [] l h = absurd (omega arith)
same_from_indexes (e ∷ es) (f ∷ fs) l h =
    let first = h 0 e f (omega arith) in
    (first.0, first.1, same_from_indexes es fs (omega arith) (λ i d c lt. h (suc i) d c (omega arith)))
