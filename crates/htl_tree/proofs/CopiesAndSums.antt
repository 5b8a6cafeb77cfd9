-- A node can be made of others: a copy counts what the node counts, and a sum what both nodes count.
use Rattle.std.proofs.Common.{◌≡◌, ℕ, zero, suc, ◌+◌, ◌-◌, ◌<◌, ◌≤◌, ◌^◌, List, [], ◌∷◌, ◌++◌, length, map}
use Rattle.std.proofs.Common.{take, drop, get_or, Option, Some, None, unwrap_or, refl, sym, ◌∙◌, ap, subst, arith}
use Rattle.std.proofs.lemmas.List.{length-drop, get_or-drop, drop_all, map_push}
use Rattle.std.specs.Cmp.{nat_cmp_total, tied_itself}
use Rattle.std.specs.Ordering.{nat_cmp}
use Rattle.std.specs.declared.cmp.Ordering.{Ordering}
use Rattle.std.specs.declared.cmp.Ordering.TheVariants.{Less, Equal, Greater}
use Rattle.std.specs.FinMap.Entries.{find}
use Rattle.std.specs.Int.Bits.{bit_or}
use Rattle.htl_event.specs.declared.slot.Slot.{Slot}
use Rattle.htl_event.specs.declared.slot.Count.{Count}
use Rattle.htl_event.specs.Tallies.{zero_count, plus_count, total_of, IsPositive}
use Rattle.htl_sorted.specs.Entries.{IsSorted, joined_at}
use Rattle.htl_sorted.specs.Made.{Made}
use Rattle.htl_sorted.proofs.Finds.{each_found, each_from_found}
use Rattle.htl_sorted.proofs.SideBySide.{join, pair, MadeAt, find_made, sorted_made, sorted_join}
use Rattle.htl_sorted.proofs.SideBySide.{find_join, Carries, carry_less, carry_greater, carry_equal, carries_end}
use Rattle.htl_tree.specs.declared.cursor.Cursor.{Cursor}
use Rattle.htl_tree.specs.declared.node.Node.{Node}
use Rattle.htl_event.specs.SlotOrder.{slot_cmp}
use Rattle.htl_event.specs.OrderLaws.{slot_total}
use Rattle.htl_tree.specs.Nodes.{Position, position_of, filters_at, top, tops, inside, tally, counts, filters, children, height, at_child, AtChild, NormalAt}
use Rattle.htl_tree.specs.Nodes.{IsNormal, IsNonEmpty, IsKept, IsCopy, IsSum, AppendsCopies, FitsSum}
use Rattle.htl_tree.proofs.Canonical.{inhabited}
use Rattle.htl_tree.proofs.CountAdded.{normal_here, normal_child, normal_inside, nonempty_from, kept_before}
use Rattle.htl_tree.proofs.Children.{appends_more}
use Rattle.htl_tree.proofs.FiltersOfPositions.{filters_same, filters_sum}
use Rattle.htl_tree.proofs.Positions.{before, find_before}

-- ---- copies

-- the copy of a position that isn't empty isn't empty
pub copied_nonempty : {A : Type 0} (n m : Position A) → IsNormal n → IsCopy n m → IsNonEmpty n → IsNonEmpty m
copied_nonempty n m h copy some = let w = inhabited n h some in
    nonempty_from m w.path w.slot (subst IsPositive (sym (copy.counts w.path w.slot)) w.counts)

abbrev CopyAt : {A : Type 0} → Option (Position A) → Option (Position A) → Type 0
CopyAt o p = MadeAt (λ k c. IsCopy k c) o p

copied_tally : {A : Type 0} (p : List ℕ) (s : Slot) (o q : Option (Position A)) → CopyAt o q
    → at_child (λ c. tally p s c) q ≡ at_child (λ c. tally p s c) o
copied_tally p s None None m = refl
copied_tally p s None (Some c) m = absurd m
copied_tally p s (Some k) None m = absurd m
copied_tally p s (Some k) (Some c) m = m.counts p s

copied_normal : {A : Type 0} (p : List ℕ) (o q : Option (Position A)) → CopyAt o q → AtChild (λ c. NormalAt p c) q
copied_normal p None None m = tt
copied_normal p None (Some c) m = absurd m
copied_normal p (Some k) None m = absurd m
copied_normal p (Some k) (Some c) m = m.normal.everywhere p

module _ {A : Type 0} (n m : Position A) (h : IsNormal n) (same : counts m ≡ counts n) (filtered : filters m ≡ filters n)
    (copies : Made (λ k c. IsCopy k c) (children n) (children m)) where
  copy_at : (f : ℕ) → CopyAt (find nat_cmp f (children n)) (find nat_cmp f (children m))
  copy_at f = find_made nat_cmp (λ k c. IsCopy k c) f (children n) (children m) copies

  frames_sorted : IsSorted nat_cmp (children m)
  frames_sorted = sorted_made nat_cmp (λ k c. IsCopy k c) (children n) (children m) copies (normal_here n h).frames

  child_nonempty : (f : ℕ) (c : Position A) → find nat_cmp f (children m) ≡ Some c → IsNonEmpty c
  child_nonempty f c e = of (find nat_cmp f (children n)) refl (subst (λ q. CopyAt (find nat_cmp f (children n)) q) e (copy_at f))
    where
      of : (o : Option (Position A)) → find nat_cmp f (children n) ≡ o → CopyAt o (Some c) → IsNonEmpty c
      of None is m = absurd m
      of (Some k) is m = copied_nonempty k c (normal_child n h f k is) m
          (each_found nat_cmp (λ c. IsNonEmpty c) f k (children n) (normal_here n h).nonempty is)

  -- a position with the same counts and filters, whose children are copies, is a copy
  pub copied : IsCopy n m
  copied = record { normal = record { everywhere = at }; counts = tallied }
    where
      tallied : (p : List ℕ) (s : Slot) → tally p s m ≡ tally p s n
      tallied [] s = rw same refl
      tallied (f ∷ p) s = copied_tally p s (find nat_cmp f (children n)) (find nat_cmp f (children m)) (copy_at f)

      at : (p : List ℕ) → NormalAt p m
      at [] = let here = normal_here n h in record {
        slots = rw same here.slots;
        positive = rw same here.positive;
        filtered = filters_same n m filtered tallied here.filtered;
        frames = frames_sorted;
        nonempty = each_from_found nat_cmp nat_cmp_total (λ c. IsNonEmpty c) (children m) frames_sorted child_nonempty;
      }
      at (f ∷ p) = copied_normal p (find nat_cmp f (children n)) (find nat_cmp f (children m)) (copy_at f)

-- ---- positions further along a node's frames

pub normal_drop : {A : Type 0} (k : ℕ) (fs : List ℕ) (n : Node A) → IsNormal (fs, n) → IsNormal (drop k fs, n)
normal_drop zero fs n h = h
normal_drop (suc k) [] n h = h
normal_drop (suc k) (f ∷ fs) n h = normal_drop k fs n (normal_child (f ∷ fs, n) h f (fs, n) (find_before f (fs, n)))

-- the position so many frames further along is in order too
pub normal_skip : {A : Type 0} (c : Cursor A) (k : ℕ) (at : Position A) → at ≡ (drop k c.frames.now, c.node.now) → IsNormal (position_of c)
    → IsNormal at
normal_skip c k at is h = subst (λ s. IsNormal s) (sym is) (normal_drop k c.frames.now c.node.now h)

-- and no higher
pub height_skip : {A : Type 0} (c : Cursor A) (k : ℕ) (at : Position A) → at ≡ (drop k c.frames.now, c.node.now)
    → height at ≤ height (position_of c)
height_skip c k at is =
    let same : height at ≡ height (drop k c.frames.now, c.node.now) = ap (λ s. height s) is in
    omega (arith, same, length-drop k c.frames.now)

-- after all frames is the node
pub skip_all : {A : Type 0} (c : Cursor A) (at : Position A) → at ≡ (drop (length c.frames.now) c.frames.now, c.node.now)
    → at ≡ inside c.node.now
skip_all c at is = is ∙ ap (λ fs. (fs, c.node.now)) (drop_all (length c.frames.now) c.frames.now (omega arith))

-- a copy with the frames before it too
pub copied_along : {A : Type 0} (fs : List ℕ) (n m : Node A) → IsNormal (fs, n) → IsCopy (inside n) (inside m) → IsCopy (fs, n) (fs, m)
copied_along fs n m h copy =
    let kept : IsKept (inside n) (inside m) = record {
      normal = copy.normal;
      counts = copy.counts;
      nonempty = copied_nonempty (inside n) (inside m) (normal_inside fs n h) copy;
    } in
    let before = kept_before fs n m h kept in
    record { normal = before.normal; counts = before.counts }

-- one more copy of the children from an index on
pub appends_next : {A : Type 0} (ks old mid new : List (ℕ × Position A)) (start i : ℕ) (d : ℕ × Position A) (c : Position A) → start ≤ i
    → AppendsCopies (take (i - start) (drop start ks)) old mid → i < length ks → d ≡ get_or ks i d → IsCopy d.1 c
    → new ≡ mid ++ (d.0, c) ∷ [] → AppendsCopies (take (i + 1 - start) (drop start ks)) old new
appends_next {A} ks old mid new start i d c from so_far lt is copy more =
    let step : i + 1 - start ≡ (i - start) + 1 = omega arith in
    let back : start + (i - start) ≡ i = omega arith in
    let here : d ≡ get_or (drop start ks) (i - start) d =
    is ∙ ap (λ j. get_or ks j d) (sym back) ∙ sym (get_or-drop start ks (i - start) d) in
    subst (λ j. AppendsCopies (take j (drop start ks)) old new) (sym step)
    (appends_more (drop start ks) old mid new (i - start) d c so_far (omega (arith, length-drop start ks)) here copy more)

-- a node more among others, as positions
pub tops_push : {A : Type 0} (ks new : List (ℕ × Node A)) (f : ℕ) (n : Node A) → new ≡ ks ++ (f, n) ∷ []
    → tops new ≡ tops ks ++ (f, top n) ∷ []
tops_push {A} ks new f n is = ap tops is ∙ map_push (λ (k : ℕ × Node A). (k.0, top k.1)) ks (f, n)

-- ---- sums

-- a count and zero add up to the count
pub zero_right : (c : Count) → c ≡ plus_count c zero_count
zero_right c = let p : c.plus ≡ c.plus + 0 = omega arith in let m : c.minus ≡ c.minus + 0 = omega arith in
    λ i. record { plus = p i; minus = m i }

-- zero and a count add up to the count
pub zero_left : (c : Count) → c ≡ plus_count zero_count c
zero_left c = let p : c.plus ≡ 0 + c.plus = omega arith in let m : c.minus ≡ 0 + c.minus = omega arith in
    λ i. record { plus = p i; minus = m i }

-- the node that two sides make
abbrev pub SumOf : {A : Type 0} → Option (Position A) × Option (Position A) → Position A → Type 0
SumOf {A} sides sum = of sides.0 sides.1
  where
    of : Option (Position A) → Option (Position A) → Type 0
    of None None = ⊥
    of None (Some right) = IsCopy right sum
    of (Some left) None = IsCopy left sum
    of (Some left) (Some right) = IsSum left right sum

abbrev SumAt : {A : Type 0} → Option (Position A) → Option (Position A) → Option (Position A) → Type 0
SumAt a b c = MadeAt (λ sides sum. SumOf sides sum) (pair a b) c

sum_tally : {A : Type 0} (p : List ℕ) (s : Slot) (a b c : Option (Position A)) → SumAt a b c
    → at_child (λ c. tally p s c) c ≡ plus_count (at_child (λ c. tally p s c) a) (at_child (λ c. tally p s c) b)
sum_tally p s None None None m = refl
sum_tally p s None None (Some z) m = absurd m
sum_tally p s None (Some y) None m = absurd m
sum_tally p s None (Some y) (Some z) m = m.counts p s ∙ zero_left (tally p s y)
sum_tally p s (Some x) None None m = absurd m
sum_tally p s (Some x) None (Some z) m = m.counts p s ∙ zero_right (tally p s x)
sum_tally p s (Some x) (Some y) None m = absurd m
sum_tally p s (Some x) (Some y) (Some z) m = m.counts p s

sum_normal : {A : Type 0} (p : List ℕ) (a b c : Option (Position A)) → SumAt a b c → AtChild (λ c. NormalAt p c) c
sum_normal p a b None m = tt
sum_normal p None None (Some z) m = absurd m
sum_normal p None (Some y) (Some z) m = m.normal.everywhere p
sum_normal p (Some x) None (Some z) m = m.normal.everywhere p
sum_normal p (Some x) (Some y) (Some z) m = m.normal.everywhere p

-- a sum whose left side isn't empty isn't empty
pub summed_nonempty : {A : Type 0} (a b c : Position A) → IsNormal a → IsSum a b c → IsNonEmpty a → IsNonEmpty c
summed_nonempty a b c h sum some =
    let w = inhabited a h some in
    let is = sum.counts w.path w.slot in
    let positive : IsPositive (plus_count (tally w.path w.slot a) (tally w.path w.slot b)) = omega (arith, w.counts) in
    nonempty_from c w.path w.slot (subst IsPositive (sym is) positive)

-- a slot's count in merged lists is the sum of its counts in both
pub joined_count : (o p : Option Count) → unwrap_or (joined_at plus_count o p) zero_count
    ≡ plus_count (unwrap_or o zero_count) (unwrap_or p zero_count)
joined_count None None = refl
joined_count None (Some d) = zero_left d
joined_count (Some c) None = zero_right c
joined_count (Some c) (Some d) = refl

-- where the counts of both lists are positive, those of the merged list are
pub joined_positive : (o p : Option Count) (v : Count) → ((c : Count) → o ≡ Some c → IsPositive c)
    → ((d : Count) → p ≡ Some d → IsPositive d) → joined_at plus_count o p ≡ Some v → IsPositive v
joined_positive None None v g h e = cc
joined_positive None (Some d) v g h e = h v e
joined_positive (Some c) None v g h e = g v e
joined_positive (Some c) (Some d) v g h e =
    let positive : IsPositive (plus_count c d) = let c' = g c refl in omega (arith, c') in
    let is : plus_count c d ≡ v = ap (λ (o : Option Count). unwrap_or o v) e in
    subst IsPositive is positive

module _ {A : Type 0} (a b c : Position A) (g : IsNormal a) (h : IsNormal b)
    (sorted : IsSorted slot_cmp (counts c)) (filtered : filters c ≡ bit_or (filters a) (filters b))
    (values : (s : Slot) → find slot_cmp s (counts c) ≡ joined_at plus_count (find slot_cmp s (counts a)) (find slot_cmp s (counts b)))
    (sums : Made (λ sides sum. SumOf sides sum) (join nat_cmp (children a) (children b)) (children c)) where
  sum_at : (f : ℕ) → SumAt (find nat_cmp f (children a)) (find nat_cmp f (children b)) (find nat_cmp f (children c))
  sum_at f = subst (λ o. MadeAt (λ sides sum. SumOf sides sum) o (find nat_cmp f (children c)))
      (find_join nat_cmp nat_cmp_total f (children a) (children b) (normal_here a g).frames (normal_here b h).frames)
      (find_made nat_cmp (λ sides sum. SumOf sides sum) f (join nat_cmp (children a) (children b)) (children c) sums)

  sum_frames : IsSorted nat_cmp (children c)
  sum_frames = sorted_made nat_cmp (λ sides sum. SumOf sides sum) (join nat_cmp (children a) (children b)) (children c) sums
      (sorted_join nat_cmp nat_cmp_total (children a) (children b) (normal_here a g).frames (normal_here b h).frames)

  sum_nonempty : (f : ℕ) (k : Position A) → find nat_cmp f (children c) ≡ Some k → IsNonEmpty k
  sum_nonempty f k e = of (find nat_cmp f (children a)) refl (find nat_cmp f (children b)) refl
      (subst (λ o. SumAt (find nat_cmp f (children a)) (find nat_cmp f (children b)) o) e (sum_at f))
    where
      of : (o : Option (Position A)) → find nat_cmp f (children a) ≡ o → (q : Option (Position A)) → find nat_cmp f (children b) ≡ q
          → SumAt o q (Some k) → IsNonEmpty k
      of None no_left None no_right m = absurd m
      of None no_left (Some y) right m = copied_nonempty y k (normal_child b h f y right) m
          (each_found nat_cmp (λ c. IsNonEmpty c) f y (children b) (normal_here b h).nonempty right)
      of (Some x) left None no_right m = copied_nonempty x k (normal_child a g f x left) m
          (each_found nat_cmp (λ c. IsNonEmpty c) f x (children a) (normal_here a g).nonempty left)
      of (Some x) left (Some y) right m = summed_nonempty x y k (normal_child a g f x left) m
          (each_found nat_cmp (λ c. IsNonEmpty c) f x (children a) (normal_here a g).nonempty left)

  sum_positive : (s : Slot) (v : Count) → find slot_cmp s (counts c) ≡ Some v → IsPositive v
  sum_positive s v e =
      joined_positive (find slot_cmp s (counts a)) (find slot_cmp s (counts b)) v
      (λ x is. each_found slot_cmp IsPositive s x (counts a) (normal_here a g).positive is)
      (λ y is. each_found slot_cmp IsPositive s y (counts b) (normal_here b h).positive is)
      (sym (values s) ∙ e)

  -- a position whose counts, filters and children are made of those of both sides is their sum
  pub summed : IsSum a b c
  summed = record { normal = record { everywhere = at }; counts = tallied }
    where
      tallied : (p : List ℕ) (s : Slot) → tally p s c ≡ plus_count (tally p s a) (tally p s b)
      tallied [] s = ap (λ (o : Option Count). unwrap_or o zero_count) (values s)
          ∙ joined_count (find slot_cmp s (counts a)) (find slot_cmp s (counts b))
      tallied (f ∷ p) s = sum_tally p s (find nat_cmp f (children a)) (find nat_cmp f (children b)) (find nat_cmp f (children c)) (sum_at f)

      at : (p : List ℕ) → NormalAt p c
      at [] = record {
        slots = sorted;
        positive = each_from_found slot_cmp slot_total IsPositive (counts c) sorted sum_positive;
        filtered = filters_sum a b c filtered tallied (normal_here a g).filtered (normal_here b h).filtered;
        frames = sum_frames;
        nonempty = each_from_found nat_cmp nat_cmp_total (λ c. IsNonEmpty c) (children c) sum_frames sum_nonempty;
      }
      at (f ∷ p) = sum_normal p (find nat_cmp f (children a)) (find nat_cmp f (children b)) (find nat_cmp f (children c)) (sum_at f)

-- ---- the children of a sum, made in one pass

module _ {A : Type 0} (left right : List (ℕ × Position A)) where
  abbrev pub IsMadeOf : ℕ → ℕ → List (ℕ × Position A) → Type 0
  IsMadeOf i j out = Carries nat_cmp (λ sides sum. SumOf sides sum) left right i j out

  module _ (i j : ℕ) (out new : List (ℕ × Position A)) (h : IsMadeOf i j out) (x y : ℕ × Position A) (lt : i < length left)
      (lu : j < length right) (is_x : x ≡ get_or left i x) (is_y : y ≡ get_or right j y) (c : Position A) where
    frames : (r : Ordering) → nat_cmp x.0 y.0 ≡ r → nat_cmp (get_or left i x).0 (get_or right j y).0 ≡ r
    frames r e = ap (λ (k : ℕ × Position A). nat_cmp k.0 (get_or right j y).0) (sym is_x)
        ∙ ap (λ (k : ℕ × Position A). nat_cmp x.0 k.0) (sym is_y) ∙ e

    -- where the left side's next frame is the lesser, a copy of its child comes next
    pub sum_less : nat_cmp x.0 y.0 ≡ Less → IsCopy x.1 c → new ≡ out ++ (x.0, c) ∷ [] → IsMadeOf (i + 1) j new
    sum_less e copy more = carry_less nat_cmp (λ sides sum. SumOf sides sum) left right i j out new h x y lt lu c (frames Less e)
        (subst (λ (k : ℕ × Position A). IsCopy k.1 c) is_x copy) (more ∙ ap (λ (k : ℕ × Position A). out ++ (k.0, c) ∷ []) is_x)

    -- where the right side's next frame is the lesser, a copy of its child comes next
    pub sum_greater : nat_cmp x.0 y.0 ≡ Greater → IsCopy y.1 c → new ≡ out ++ (y.0, c) ∷ [] → IsMadeOf i (j + 1) new
    sum_greater e copy more = carry_greater nat_cmp (λ sides sum. SumOf sides sum) left right i j out new h x y lt lu c
        (frames Greater e) (subst (λ (k : ℕ × Position A). IsCopy k.1 c) is_y copy) (more ∙ ap (λ (k : ℕ × Position A). out ++ (k.0, c) ∷ []) is_y)

    -- where both sides have the same next frame, the sum of their children comes next
    pub sum_equal : nat_cmp x.0 y.0 ≡ Equal → IsSum x.1 y.1 c → new ≡ out ++ (x.0, c) ∷ [] → IsMadeOf (i + 1) (j + 1) new
    sum_equal e sum more = carry_equal nat_cmp (λ sides sum. SumOf sides sum) left right i j out new h x y lt lu c (frames Equal e)
        (subst (λ (k : ℕ × Position A). IsSum k.1 (get_or right j y).1 c) is_x (subst (λ (k : ℕ × Position A). IsSum x.1 k.1 c) is_y sum))
        (more ∙ ap (λ (k : ℕ × Position A). out ++ (k.0, c) ∷ []) is_x)

  lefts_made : (ks cs : List (ℕ × Position A)) → Made (λ k c. IsCopy k c) ks cs
      → Made (λ sides sum. SumOf sides sum) (map (λ e. (e.0, (Some e.1, None))) ks) cs
  lefts_made [] [] m = tt
  lefts_made [] (c ∷ cs) m = absurd m
  lefts_made (k ∷ ks) [] m = absurd m
  lefts_made (k ∷ ks) (c ∷ cs) m = (m.0, m.1, lefts_made ks cs m.2)

  rights_made : (ks cs : List (ℕ × Position A)) → Made (λ k c. IsCopy k c) ks cs
      → Made (λ sides sum. SumOf sides sum) (map (λ e. (e.0, (None, Some e.1))) ks) cs
  rights_made [] [] m = tt
  rights_made [] (c ∷ cs) m = absurd m
  rights_made (k ∷ ks) [] m = absurd m
  rights_made (k ∷ ks) (c ∷ cs) m = (m.0, m.1, rights_made ks cs m.2)

  -- copies of what is left of either side follow, where one is at its end
  pub sums_end : (i j : ℕ) (out mid new : List (ℕ × Position A)) → IsMadeOf i j out → (i < length left → length right ≤ j) → AppendsCopies
      (drop i left) out mid → AppendsCopies (drop j right) mid new → Made (λ sides sum. SumOf sides sum) (join nat_cmp left right) new
  sums_end i j out mid new h one (lefts, first, copies) (rights, second, more_copies) =
      let whole : new ≡ (out ++ lefts) ++ rights = second ∙ ap (λ l. l ++ rights) first in
      rw whole (carries_end nat_cmp (λ sides sum. SumOf sides sum) left right i j out lefts rights h one
      (lefts_made (drop i left) lefts copies) (rights_made (drop j right) rights more_copies))

-- what fits at two nodes fits at two children of one frame
pub fits_below : {A : Type 0} (a b : Position A) → FitsSum a b → (f : ℕ) (x y : Position A) → find nat_cmp f (children a) ≡ Some x
    → find nat_cmp f (children b) ≡ Some y → FitsSum x y
fits_below a b fits f x y left right p s =
    let at_left : tally (f ∷ p) s a ≡ tally p s x = ap (at_child (λ c. tally p s c)) left in
    let at_right : tally (f ∷ p) s b ≡ tally p s y = ap (at_child (λ c. tally p s c)) right in
    subst (λ n. total_of (tally p s x) + total_of n < 2 ^ 64) at_right
    (subst (λ n. total_of n + total_of (tally (f ∷ p) s b) < 2 ^ 64) at_left (fits (f ∷ p) s))

-- ---- sums with the frames that both sides share before them

fits_further : {A : Type 0} (f g : ℕ) (fs gs : List ℕ) (a b : Node A) → f ≡ g → FitsSum (f ∷ fs, a) (g ∷ gs, b)
    → FitsSum (fs, a) (gs, b)
fits_further f g fs gs a b same fits =
    fits_below (f ∷ fs, a) (g ∷ gs, b) fits f (fs, a) (gs, b) (find_before f (fs, a))
    (ap (λ h. find nat_cmp h (children (g ∷ gs, b))) same ∙ find_before g (gs, b))

fits_drop : {A : Type 0} (k : ℕ) (fs gs : List ℕ) (a b : Node A) → take k fs ≡ take k gs → FitsSum (fs, a) (gs, b)
    → FitsSum (drop k fs, a) (drop k gs, b)
fits_drop zero fs gs a b same fits = fits
fits_drop (suc k) [] [] a b same fits = fits
fits_drop (suc k) [] (g ∷ gs) a b same fits = absurd (cc)
fits_drop (suc k) (f ∷ fs) [] a b same fits = absurd (cc)
fits_drop (suc k) (f ∷ fs) (g ∷ gs) a b same fits =
    fits_drop k fs gs a b (ap (λ l. drop 1 l) same) (fits_further f g fs gs a b (ap (λ l. get_or l 0 f) same) fits)

-- what fits at two positions fits after frames that they share
pub fits_skip : {A : Type 0} (c d : Cursor A) (k : ℕ) (at by : Position A) → take k c.frames.now ≡ take k d.frames.now
    → at ≡ (drop k c.frames.now, c.node.now) → by ≡ (drop k d.frames.now, d.node.now) → FitsSum (position_of c) (position_of d) → FitsSum at by
fits_skip c d k at by same left right fits =
    subst (λ s. FitsSum s by) (sym left) (subst (λ s. FitsSum (drop k c.frames.now, c.node.now) s) (sym right)
    (fits_drop k c.frames.now d.frames.now c.node.now d.node.now same fits))

summed_before : {A : Type 0} (f : ℕ) (a b c : Position A) → filters c ≡ bit_or (filters a) (filters b) → IsNormal (before f a)
    → IsNormal (before f b) → IsSum a b c → IsSum (before f a) (before f b) (before f c)
summed_before {A} f a b c w g h sum =
    let both : join nat_cmp (children (before f a)) (children (before f b)) ≡ (f, (Some a, Some b)) ∷ [] =
    rw (tied_itself nat_cmp_total f) refl in
    summed (before f a) (before f b) (before f c) g h tt w (λ s. refl)
    (subst (λ l. Made (λ sides sum. SumOf sides sum) l (children (before f c))) (sym both) (refl, sum, tt))

summed_along : {A : Type 0} (k : ℕ) (fs gs : List ℕ) (a b c : Node A) → take k fs ≡ take k gs
    → filters_at c ≡ bit_or (filters_at a) (filters_at b) → IsNormal (fs, a) → IsNormal (gs, b)
    → IsSum (drop k fs, a) (drop k gs, b) (inside c) → IsSum (fs, a) (gs, b) (take k fs, c)
summed_along zero fs gs a b c same w g h sum = sum
summed_along (suc k) [] [] a b c same w g h sum = sum
summed_along (suc k) [] (f ∷ gs) a b c same w g h sum = absurd (cc)
summed_along (suc k) (f ∷ fs) [] a b c same w g h sum = absurd (cc)
summed_along {A} (suc k) (f ∷ fs) (e ∷ gs) a b c same w g h sum =
    let frame : e ≡ f = sym (ap (λ l. get_or l 0 f) same) in
    let right : IsNormal (before f (gs, b)) = subst (λ d. IsNormal (before d (gs, b))) frame h in
    let further : IsSum (fs, a) (gs, b) (take k fs, c) =
    summed_along k fs gs a b c (ap (λ l. drop 1 l) same) w (normal_drop 1 (f ∷ fs) a g) (normal_drop 1 (e ∷ gs) b h) sum in
    subst (λ d. IsSum (f ∷ fs, a) (before d (gs, b)) (f ∷ take k fs, c)) (sym frame)
    (summed_before f (fs, a) (gs, b) (take k fs, c) w g right further)

-- the sum of what two positions have after frames that they share, with these before it
pub summed_skip : {A : Type 0} (c d : Cursor A) (k : ℕ) (at by : Position A) (n : Node A) → take k c.frames.now ≡ take k d.frames.now
    → at ≡ (drop k c.frames.now, c.node.now) → by ≡ (drop k d.frames.now, d.node.now) → filters_at n ≡ bit_or (filters at) (filters by)
    → IsNormal (position_of c) → IsNormal (position_of d) → IsSum at by (inside n) → IsSum (position_of c) (position_of d) (take k c.frames.now, n)
summed_skip c d k at by n same left right w g h sum =
    summed_along k c.frames.now d.frames.now c.node.now d.node.now n same
    (w ∙ (λ i. bit_or (filters (left i)) (filters (right i)))) g h
    (subst (λ s. IsSum s (drop k d.frames.now, d.node.now) (inside n)) left (subst (λ s. IsSum at s (inside n)) right sum))
