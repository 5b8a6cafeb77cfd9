-- A state of bounded folds is a state, and a state is made again of its folds and its held segments.
use Rattle.std.proofs.Common.{◌≡◌, ℕ, suc, ◌+◌, ◌<◌, ◌≤◌, List, [], ◌∷◌, ◌++◌, length, map, take, insert, slice_set, get_or}
use Rattle.std.proofs.Common.{refl, sym, ap, ◌∙◌, subst, arith, inl, inr, ◌⊎◌, append_assoc, append-nil}
use Rattle.std.specs.Prelude.{Contains}
use Rattle.std.specs.List.{AllByRecursion, flat_map}
use Rattle.std.proofs.Math.Seq.{set-append_seam, get_or-append_seam}
use Rattle.std.proofs.lemmas.Bool.{lt-ltb, cases_eq}
use Rattle.std.proofs.lemmas.List.{get_or-map, length-map, length-append, map-append, take_more, take_all}
use Rattle.std.proofs.lemmas.List.Concat.{flat_map-cons}
use Rattle.std.proofs.lemmas.List.Edits.{insert_end}
use Rattle.htl_event.proofs.Members.{Contains-nil, Contains-cases}
use Rattle.htl_segment.specs.Content.{Content}
use Rattle.htl_taken.specs.declared.TheConstants.{MAX_FRONT}
use Rattle.htl_taken.specs.Numbers.{Numbers, no_numbers, numbers_at, all_below, with_loose, IsProper}
use Rattle.htl_taken.specs.Rising.{Rises, gap_of}
use Rattle.htl_analyst.specs.States.{Folded, no_folded, Part, part, no_part, part_at, held_at, folded_at, State, state}
use Rattle.htl_analyst.specs.Keys.{HasTaken}
use Rattle.htl_analyst.specs.Laws.{AreMadeAgain}
use Rattle.htl_analyst.specs.Restored.{Fold, no_fold, fold_at, fold_of, front_of, part_of, of_folds, IsBounded, IsFirst, HasCounts, HasEvents}
use Rattle.htl_analyst.specs.Restored.{CanRestore, IsOver, RestoreRefused, AreFoldsOf}
use Rattle.htl_analyst.specs.Restored.{held_segments, with_segments, AreNew}
use Rattle.htl_analyst.specs.Right.{IsOwned, IsPart, IsState}
use Rattle.htl_analyst.specs.declared.fault.RestoreFault.{RestoreFault}
use Rattle.htl_analyst.specs.declared.fault.RestoreFault.TheVariants.{Processors, Counts, Events, NoMemory}
use Rattle.htl_analyst.specs.declared.restoring.FoldedPart.{FoldedPart}
use Rattle.htl_analyst.specs.Steps.{updated, with_segment}
use Rattle.htl_analyst.proofs.Held.{number}

-- ---- the state of folds

map_after : {X Y Z : Type 0} (g : Y → Z) (f : X → Y) (xs : List X) → map (λ x. g (f x)) xs ≡ map g (map f xs)
map_after g f [] = refl
map_after {Z = Z} g f (x ∷ xs) = ap (λ (zs : List Z). g (f x) ∷ zs) (map_after g f xs)

-- the state of bounded folds is a state
pub IsState-of_folds : (id : ℕ) (folds : List Fold) → CanRestore folds
    → ((p : ℕ) → IsProper (numbers_at (map (λ f. all_below f.front) folds) p)) → IsState (of_folds id folds)
IsState-of_folds id folds can proper = record {
  some = can.some;
  few = can.few;
  places = length-map folds (λ (f : Fold). all_below f.front);
  parts = length-map folds (λ (f : Fold). part [] f.folded);
  each = λ p lt.
      let f : Fold = fold_at folds p in
      let its_numbers : numbers_at (map (λ (x : Fold). all_below x.front) folds) p ≡ all_below f.front =
      get_or-map (λ (x : Fold). all_below x.front) folds p no_fold no_numbers lt in
      let its_part : part_at (map (λ (x : Fold). part [] x.folded) folds) p ≡ part [] f.folded =
      get_or-map (λ (x : Fold). part [] x.folded) folds p no_fold no_part lt in
      rw (its_numbers, its_part) (record {
        proper = subst IsProper its_numbers (proper p);
        numbers = refl;
        owned = tt;
        bounded = can.each p lt;
      });
}

-- an image of one element more
pub map_more : {X Y : Type 0} (f : X → Y) (xs : List X) (i : ℕ) (x : X) (ys zs : List Y) → ys ≡ map f (take i xs) → zs ≡ ys ++ f x ∷ []
    → x ≡ get_or xs i x → i < length xs → zs ≡ map f (take (i + 1) xs)
map_more {X} {Y} f xs i x ys zs so_far more is lt =
    more ∙ ap (λ (us : List Y). us ++ f x ∷ []) so_far ∙ sym (map-append f (take i xs) (x ∷ []))
    ∙ ap (λ (us : List X). map f us) (ap (λ (u : X). take i xs ++ u ∷ []) is ∙ sym (take_more xs i x lt))

-- an image of all elements
pub map_whole : {X Y : Type 0} (f : X → Y) (xs : List X) (i : ℕ) (ys : List Y) → ys ≡ map f (take i xs) → length xs ≤ i → ys ≡ map f xs
map_whole {X} f xs i ys so_far no_more = so_far ∙ ap (λ (us : List X). map f us) (take_all i xs no_more)

module _ {A : Type 0} (parts : List (FoldedPart A)) where
  -- there are as many folds as parts
  pub length_of_folds : length (map (fold_of {A = A}) parts) ≡ length parts
  length_of_folds = length-map parts (fold_of {A = A})

  -- the fold of a processor is that of its part
  fold_read : (i : ℕ) (k : FoldedPart A) → i < length parts → k ≡ get_or parts i k → fold_at (map (fold_of {A = A}) parts) i ≡ fold_of k
  fold_read i k lt is =
      get_or-map (fold_of {A = A}) parts i k no_fold lt ∙ ap (λ (x : FoldedPart A). fold_of {A = A} x) (sym is)

  -- no trace has so many processors
  pub no_number : (n : ℕ) (fault : RestoreFault) → n ≡ length parts → (fault ≡ Processors) × ((n ≡ 0) ⊎ (256 < n))
      → RestoreRefused (map (fold_of {A = A}) parts) fault
  no_number n fault en why =
      let long = length_of_folds in
      subst (λ (x : RestoreFault). RestoreRefused (map (fold_of {A = A}) parts) x) (sym why.0)
      (elim why.1 [
        | inl none ↦ inl (omega (arith, long, en, none))
        | inr many ↦ inr (omega (arith, long, en, many))
      ])

  -- the first fold that isn't bounded is why
  pub refused_at : (n i : ℕ) (k : FoldedPart A) (fault : RestoreFault) → n ≡ length parts → n ≤ 256 → i < length parts → k ≡ get_or parts i k
      → ((q : ℕ) → q < i → IsBounded (fold_at (map (fold_of {A = A}) parts) q)) → IsOver (fold_of k) i fault
      → RestoreRefused (map (fold_of {A = A}) parts) fault
  refused_at n i k Processors en few lt is before over = absurd over
  refused_at n i k (Counts p) en few lt is before over =
      let folds : List Fold = map (fold_of {A = A}) parts in
      let long = length_of_folds in
      subst (λ (r : ℕ). IsFirst folds r × HasCounts (fold_at folds r)) (sym over.0) (
        record { few = omega (arith, long, en, few); here = omega (arith, long, lt); before = before },
        subst HasCounts (sym (fold_read i k lt is)) over.1,
      )
  refused_at n i k (Events p) en few lt is before over =
      let folds : List Fold = map (fold_of {A = A}) parts in
      let long = length_of_folds in
      subst (λ (r : ℕ). IsFirst folds r × HasEvents (fold_at folds r)) (sym over.0) (
        record { few = omega (arith, long, en, few); here = omega (arith, long, lt); before = before },
        subst HasEvents (sym (fold_read i k lt is)) over.1,
      )
  refused_at n i k NoMemory en few lt is before over = absurd over

  -- one fold more is bounded
  pub bounded_more : (i : ℕ) (k : FoldedPart A) → i < length parts → k ≡ get_or parts i k
      → ((q : ℕ) → q < i → IsBounded (fold_at (map (fold_of {A = A}) parts) q)) → IsBounded (fold_of k)
      → (q : ℕ) → q < i + 1 → IsBounded (fold_at (map (fold_of {A = A}) parts) q)
  bounded_more i k lt is before here q less =
      elim (cases_eq q i) [
        | inl e ↦ subst (λ (r : ℕ). IsBounded (fold_at (map (fold_of {A = A}) parts) r)) (sym e)
            (subst IsBounded (sym (fold_read i k lt is)) here)
        | inr ne ↦ before q (omega (arith, less, ne))
      ]

  -- all folds are bounded
  pub can_restore : (n i : ℕ) → n ≡ length parts → (0 < n) × (n ≤ 256) → length parts ≤ i
      → ((q : ℕ) → q < i → IsBounded (fold_at (map (fold_of {A = A}) parts) q)) → CanRestore (map (fold_of {A = A}) parts)
  can_restore n i en number no_more before =
      let long = length_of_folds in
      let some = number.0 in
      let few = number.1 in
      record {
        some = omega (arith, long, en, some);
        few = omega (arith, long, en, few);
        each = λ p lt. before p (omega (arith, long, lt, no_more));
      }

  -- there are few fronts
  pub few_fronts : (fronts : List ℕ) → fronts ≡ map (front_of {A = A}) parts → CanRestore (map (fold_of {A = A}) parts)
      → length fronts < 65536
  few_fronts fronts e can =
      let same = ap length e in
      let long = length-map parts (front_of {A = A}) in
      let folds = length_of_folds in
      let few = can.few in
      omega (arith, same, long, folds, few)

  -- the fronts of the parts are those of the folds
  taken_of_folds : (fronts : List ℕ) (taken : List Numbers) → fronts ≡ map (front_of {A = A}) parts → taken ≡ map all_below fronts
      → taken ≡ map (λ (f : Fold). all_below f.front) (map (fold_of {A = A}) parts)
  taken_of_folds fronts taken ef et =
      et ∙ ap (λ (ns : List ℕ). map all_below ns) ef
      ∙ sym (map_after all_below (front_of {A = A}) parts)
      ∙ map_after (λ (f : Fold). all_below f.front) (fold_of {A = A}) parts

  -- what the code makes of parts is the state of their folds
  pub made : (id processors : ℕ) (fronts : List ℕ) (taken : List Numbers) (kept : List Part) → fronts ≡ map (front_of {A = A}) parts
      → taken ≡ map all_below fronts → kept ≡ map (part_of {A = A}) parts → processors ≡ length taken
      → state id processors taken kept ≡ of_folds id (map (fold_of {A = A}) parts)
  made id processors fronts taken kept ef et ek ep =
      let below = taken_of_folds fronts taken ef et in
      let folds : kept ≡ map (λ (f : Fold). part [] f.folded) (map (fold_of {A = A}) parts) =
      ek ∙ map_after (λ (f : Fold). part [] f.folded) (fold_of {A = A}) parts in
      let long : length taken ≡ length (map (fold_of {A = A}) parts) =
      ap length below ∙ length-map (map (fold_of {A = A}) parts) (λ (f : Fold). all_below f.front) in
      ap (λ (n : ℕ). state id n taken kept) (ep ∙ long)
      ∙ ap (λ (ts : List Numbers). state id (length (map (fold_of {A = A}) parts)) ts kept) below
      ∙ ap (λ (ks : List Part). state id (length (map (fold_of {A = A}) parts))
      (map (λ (f : Fold). all_below f.front) (map (fold_of {A = A}) parts)) ks) folds

  -- and a state, where the folds are bounded
  pub made_state : (id processors : ℕ) (fronts : List ℕ) (taken : List Numbers) (kept : List Part) → fronts ≡ map (front_of {A = A}) parts
      → taken ≡ map all_below fronts → kept ≡ map (part_of {A = A}) parts → processors ≡ length taken
      → CanRestore (map (fold_of {A = A}) parts) → ((p : ℕ) → IsProper (numbers_at taken p)) → IsState (state id processors taken kept)
  made_state id processors fronts taken kept ef et ek ep can proper =
      subst IsState (sym (made id processors fronts taken kept ef et ek ep))
      (IsState-of_folds id (map (fold_of {A = A}) parts) can
      (λ p. subst (λ (ts : List Numbers). IsProper (numbers_at ts p)) (taken_of_folds fronts taken ef et) (proper p)))

-- ---- a number above all loose ones

-- what follows in a rising list is no lower than its begin
end_above : (low high n : ℕ) (ns more : List ℕ) → Rises low high (ns ++ n ∷ more) → low ≤ n
end_above low high n [] more r = r.0
end_above low high n (m ∷ ns) more r = let up = r.0 in let le = end_above (m + 1) high n ns more r.1 in omega (arith, up, le)

-- its place is the end
end_gap : (low high n : ℕ) (ns more : List ℕ) → Rises low high (ns ++ n ∷ more) → gap_of n ns ≡ length ns
end_gap low high n [] more r = refl
end_gap low high n (m ∷ ns) more r =
    let le = end_above (m + 1) high n ns more r.1 in
    let lt : m < n = omega (arith, le) in
    rw (lt-ltb m n lt) (ap suc (end_gap (m + 1) high n ns more r.1))

-- it isn't one of those before it
end_new : (low high n : ℕ) (ns more : List ℕ) → Rises low high (ns ++ n ∷ more) → Contains ns n → ⊥
end_new low high n [] more r h = Contains-nil n h
end_new low high n (m ∷ ns) more r h =
    elim (Contains-cases m ns n h) [
      | inl is ↦ let le = end_above (m + 1) high n ns more r.1 in omega (arith, le, is)
      | inr there ↦ end_new (m + 1) high n ns more r.1 there
    ]

-- ---- segments taken one after the other

-- segments of two lists are taken one list after the other
with_segments-append : (a : State) (xs ys : List Content) → with_segments a (xs ++ ys) ≡ with_segments (with_segments a xs) ys
with_segments-append a [] ys = refl
with_segments-append a (x ∷ xs) ys = with_segments-append (with_segment a x) xs ys

-- and are new if those of the second are after the first
AreNew-append : (a : State) (xs ys : List Content) → AreNew a xs → AreNew (with_segments a xs) ys → AreNew a (xs ++ ys)
AreNew-append a [] ys first second = second
AreNew-append a (x ∷ xs) ys first second = (first.0, first.1, AreNew-append (with_segment a x) xs ys first.2 second)

abbrev numbers : ℕ → List ℕ → Numbers
numbers front loose = record { front = front; loose = loose }

-- One processor, with those before and after it: it has this front and fold.
module _ (id count : ℕ) (dq rq : List Numbers) (dl rl : List Part) (front : ℕ) (f : Folded) (len : length dq ≡ length dl) where
  -- the state in which it has these loose numbers and holds these segments
  abbrev holding : List ℕ → List Content → State
  holding ns hs = state id count (dq ++ numbers front ns ∷ rq) (dl ++ part hs f ∷ rl)

  place : (p : ℕ) → p ≡ length dl → p ≡ length dq
  place p ep = ep ∙ sym len

  its_numbers : (ns : List ℕ) (p : ℕ) → p ≡ length dl → numbers_at (dq ++ numbers front ns ∷ rq) p ≡ numbers front ns
  its_numbers ns p ep =
      ap (λ (i : ℕ). numbers_at (dq ++ numbers front ns ∷ rq) i) (place p ep) ∙ get_or-append_seam dq (numbers front ns) rq no_numbers

  its_part : (hs : List Content) (p : ℕ) → p ≡ length dl → part_at (dl ++ part hs f ∷ rl) p ≡ part hs f
  its_part hs p ep = ap (λ (i : ℕ). part_at (dl ++ part hs f ∷ rl) i) ep ∙ get_or-append_seam dl (part hs f) rl no_part

  -- a segment above all that are held is held as the last
  one_more : (ns : List ℕ) (hs : List Content) (s : Content) → s.processor ≡ length dl → gap_of s.number ns ≡ length ns
      → length ns ≡ length hs → with_segment (holding ns hs) s ≡ holding (ns ++ s.number ∷ []) (hs ++ s ∷ [])
  one_more ns hs s ep gap same =
      let a : State = holding ns hs in
      let p : ℕ = s.processor in
      let q : Numbers = numbers front ns in
      let k : Part = part hs f in
      let of_numbers : with_segment a s
      ≡ updated a p (with_loose q s.number) (part (insert (held_at a.parts p) (gap_of s.number ns) s) (folded_at a.parts p)) =
      ap (λ (x : Numbers). updated a p (with_loose x s.number)
      (part (insert (held_at a.parts p) (gap_of s.number x.loose) s) (folded_at a.parts p))) (its_numbers ns p ep) in
      let of_part : updated a p (with_loose q s.number) (part (insert (held_at a.parts p) (gap_of s.number ns) s) (folded_at a.parts p))
      ≡ updated a p (with_loose q s.number) (part (insert hs (gap_of s.number ns) s) f) =
      ap (λ (x : Part). updated a p (with_loose q s.number) (part (insert x.held (gap_of s.number ns) s) x.folded)) (its_part hs p ep) in
      let loose : with_loose q s.number ≡ numbers front (ns ++ s.number ∷ []) =
      ap (λ (i : ℕ). numbers front (insert ns i s.number)) gap ∙ ap (λ (ms : List ℕ). numbers front ms) (insert_end ns s.number) in
      let held : part (insert hs (gap_of s.number ns) s) f ≡ part (hs ++ s ∷ []) f =
      ap (λ (i : ℕ). part (insert hs i s) f) (gap ∙ same) ∙ ap (λ (ss : List Content). part ss f) (insert_end hs s) in
      let new : Numbers = numbers front (ns ++ s.number ∷ []) in
      let more : Part = part (hs ++ s ∷ []) f in
      let set_numbers : slice_set (dq ++ q ∷ rq) p new ≡ dq ++ new ∷ rq =
      ap (λ (i : ℕ). slice_set (dq ++ q ∷ rq) i new) (place p ep) ∙ set-append_seam dq q rq new in
      let set_part : slice_set (dl ++ k ∷ rl) p more ≡ dl ++ more ∷ rl =
      ap (λ (i : ℕ). slice_set (dl ++ k ∷ rl) i more) ep ∙ set-append_seam dl k rl more in
      of_numbers ∙ of_part
      ∙ ap (λ (x : Numbers). updated a p x (part (insert hs (gap_of s.number ns) s) f)) loose
      ∙ ap (λ (x : Part). updated a p new x) held
      ∙ ap (λ (x : List Numbers). state id count x (slice_set (dl ++ k ∷ rl) p more)) set_numbers
      ∙ ap (λ (x : List Part). state id count (dq ++ new ∷ rq) x) set_part

  rises_on : (ns : List ℕ) (n : ℕ) (more : List ℕ) → Rises front MAX_FRONT (ns ++ n ∷ more)
      → Rises front MAX_FRONT ((ns ++ n ∷ []) ++ more)
  rises_on ns n more r = subst (Rises front MAX_FRONT) (sym (append_assoc ns (n ∷ []) more)) r

  same_on : (ns : List ℕ) (hs : List Content) (s : Content) → length ns ≡ length hs
      → length (ns ++ s.number ∷ []) ≡ length (hs ++ s ∷ [])
  same_on ns hs s same =
      let one = length-append ns (s.number ∷ []) in let other = length-append hs (s ∷ []) in omega (arith, one, other, same)

  -- its segments whose numbers rise on are held after the others
  all_held : (ns : List ℕ) (hs ss : List Content) → Rises front MAX_FRONT (ns ++ map number ss) → length ns ≡ length hs
      → AllByRecursion (IsOwned id count (length dl)) ss → with_segments (holding ns hs) ss ≡ holding (ns ++ map number ss) (hs ++ ss)
  all_held ns hs [] r same own =
      ap (λ (x : List ℕ). holding x hs) (sym (append-nil ns)) ∙ ap (λ (x : List Content). holding (ns ++ []) x) (sym (append-nil hs))
  all_held ns hs (s ∷ ss) r same own =
      let gap = end_gap front MAX_FRONT s.number ns (map number ss) r in
      ap (λ (x : State). with_segments x ss) (one_more ns hs s own.0.processor gap same)
      ∙ all_held (ns ++ s.number ∷ []) (hs ++ s ∷ []) ss (rises_on ns s.number (map number ss) r) (same_on ns hs s same) own.1
      ∙ ap (λ (x : List ℕ). holding x ((hs ++ s ∷ []) ++ ss)) (append_assoc ns (s.number ∷ []) (map number ss))
      ∙ ap (λ (x : List Content). holding (ns ++ s.number ∷ map number ss) x) (append_assoc hs (s ∷ []) ss)

  -- each of them is new
  all_new : (ns : List ℕ) (hs ss : List Content) → Rises front MAX_FRONT (ns ++ map number ss) → length ns ≡ length hs
      → AllByRecursion (IsOwned id count (length dl)) ss → AreNew (holding ns hs) ss
  all_new ns hs [] r same own = tt
  all_new ns hs (s ∷ ss) r same own =
      let gap = end_gap front MAX_FRONT s.number ns (map number ss) r in
      let above = end_above front MAX_FRONT s.number ns (map number ss) r in
      let not_taken : HasTaken (holding ns hs) s.processor s.number → ⊥ = (λ h.
      elim (subst (λ (x : Numbers). (s.number < x.front) ⊎ Contains x.loose s.number) (its_numbers ns s.processor own.0.processor) h) [
        | inl lt ↦ omega (arith, lt, above)
        | inr loose ↦ end_new front MAX_FRONT s.number ns (map number ss) r loose
      ]) in (
        record { trace_id = own.0.trace_id; processors = own.0.processors },
        not_taken,
        subst (λ (x : State). AreNew x ss) (sym (one_more ns hs s own.0.processor gap same))
            (all_new (ns ++ s.number ∷ []) (hs ++ s ∷ []) ss (rises_on ns s.number (map number ss) r) (same_on ns hs s same) own.1),
      )

-- ---- all processors, one after the other

-- the numbers below the front alone, and the fold alone
abbrev bare : Numbers → Numbers
bare q = all_below q.front

abbrev alone : Part → Part
alone k = part [] k.folded

-- the parts from this processor on are those of a state
abbrev AreParts : ℕ → ℕ → ℕ → List Numbers → List Part → Type 0
AreParts id count p [] [] = Unit {0}
AreParts id count p [] (k ∷ ks) = ⊥
AreParts id count p (q ∷ qs) [] = ⊥
AreParts id count p (q ∷ qs) (k ∷ ks) = IsPart id count p q k × AreParts id count (p + 1) qs ks

are_parts : (id count p : ℕ) (qs : List Numbers) (ks : List Part) → length qs ≡ length ks
    → ((i : ℕ) → i < length ks → IsPart id count (p + i) (numbers_at qs i) (part_at ks i)) → AreParts id count p qs ks
are_parts id count p [] [] len each = tt
are_parts id count p [] (k ∷ ks) len each = cc
are_parts id count p (q ∷ qs) [] len each = cc
are_parts id count p (q ∷ qs) (k ∷ ks) len each =
    let here : p + 0 ≡ p = omega arith in (
      subst (λ (n : ℕ). IsPart id count n q k) here (each 0 (omega arith)),
      are_parts id count (p + 1) qs ks (omega (arith, len))
          (λ i lt. let there : p + suc i ≡ (p + 1) + i = omega arith in
          subst (λ (n : ℕ). IsPart id count n (numbers_at qs i) (part_at ks i)) there (each (suc i) (omega (arith, lt)))),
    )

-- the held segments of the rest are taken, those of one processor after those of the other
pub record IsRestored (from : State) (segments : List Content) (to : State) : Type 0 where
  pub new : AreNew from segments
  pub same : with_segments from segments ≡ to

restored : (id count : ℕ) (dq : List Numbers) (dl : List Part) (qs : List Numbers) (ks : List Part) → length dq ≡ length dl
    → AreParts id count (length dl) qs ks
    → IsRestored (state id count (dq ++ map bare qs) (dl ++ map alone ks)) (flat_map (λ k. k.held) ks) (state id count (dq ++ qs) (dl ++ ks))
restored id count dq dl [] [] len are = record { new = tt; same = refl }
restored id count dq dl [] (k ∷ ks) len are = absurd are
restored id count dq dl (q ∷ qs) [] len are = absurd are
restored id count dq dl (q ∷ qs) (k ∷ ks) len are =
    let is : IsPart id count (length dl) q k = are.0 in
    let from : State = state id count (dq ++ map bare (q ∷ qs)) (dl ++ map alone (k ∷ ks)) in
    let rest : List Content = flat_map (λ x. x.held) ks in
    let after : State = state id count ((dq ++ q ∷ []) ++ map bare qs) ((dl ++ k ∷ []) ++ map alone ks) in
    let rises : Rises q.front MAX_FRONT (map number k.held) = subst (Rises q.front MAX_FRONT) (sym is.numbers) is.proper.rises in
    let own : with_segments from k.held ≡ state id count (dq ++ q ∷ map bare qs) (dl ++ k ∷ map alone ks) =
    all_held id count dq (map bare qs) dl (map alone ks) q.front k.folded len [] [] k.held rises refl is.owned
    ∙ ap (λ (ns : List ℕ). state id count (dq ++ numbers q.front ns ∷ map bare qs) (dl ++ k ∷ map alone ks)) is.numbers in
    let moved : with_segments from k.held ≡ after =
    own ∙ ap (λ (x : List Numbers). state id count x (dl ++ k ∷ map alone ks)) (sym (append_assoc dq (q ∷ []) (map bare qs)))
    ∙ ap (λ (x : List Part). state id count ((dq ++ q ∷ []) ++ map bare qs) x) (sym (append_assoc dl (k ∷ []) (map alone ks))) in
    let long : length (dl ++ k ∷ []) ≡ length dl + 1 = length-append dl (k ∷ []) in
    let longs : length (dq ++ q ∷ []) ≡ length dq + 1 = length-append dq (q ∷ []) in
    let more : IsRestored after rest (state id count ((dq ++ q ∷ []) ++ qs) ((dl ++ k ∷ []) ++ ks)) =
    restored id count (dq ++ q ∷ []) (dl ++ k ∷ []) qs ks (omega (arith, len, long, longs))
    (subst (λ (p : ℕ). AreParts id count p qs ks) (sym long) are.1) in
    let new : AreNew from k.held =
    all_new id count dq (map bare qs) dl (map alone ks) q.front k.folded len [] [] k.held rises refl is.owned in
    let split : flat_map (λ x. x.held) (k ∷ ks) ≡ k.held ++ rest = flat_map-cons (λ (x : Part). x.held) k ks in
    record {
      new = subst (λ (ss : List Content). AreNew from ss) (sym split)
          (AreNew-append from k.held rest new (subst (λ (x : State). AreNew x rest) (sym moved) more.new));
      same = ap (λ (ss : List Content). with_segments from ss) split
          ∙ with_segments-append from k.held rest
          ∙ ap (λ (x : State). with_segments x rest) moved
          ∙ more.same
          ∙ ap (λ (x : List Numbers). state id count x ((dl ++ k ∷ []) ++ ks)) (append_assoc dq (q ∷ []) qs)
          ∙ ap (λ (x : List Part). state id count (dq ++ q ∷ qs) x) (append_assoc dl (k ∷ []) ks);
    }

-- a state is made again of its fronts and folds, and its held segments
pub restored_state : (a : State) → IsState a
    → IsRestored (state a.trace_id a.processors (map bare a.taken) (map alone a.parts)) (held_segments a) a
restored_state a is =
    restored a.trace_id a.processors [] [] a.taken a.parts refl
    (are_parts a.trace_id a.processors 0 a.taken a.parts (is.places ∙ sym is.parts)
    (λ i lt. let here : i ≡ 0 + i = omega arith in
    subst (λ (p : ℕ). IsPart a.trace_id a.processors p (numbers_at a.taken i) (part_at a.parts i)) here
    (is.each i (let e = is.parts in omega (arith, e, lt)))))

-- ---- the folds of a state

module _ (a : State) (folds : List Fold) (is : IsState a) (are : AreFoldsOf a folds) where
  as_many : length folds ≡ length a.taken
  as_many =
      let one = length-map folds (λ (f : Fold). f.front) in
      let other = length-map a.taken (λ (q : Numbers). q.front) in
      let same = ap length are.fronts in
      omega (arith, one, other, same)

  front_same : (p : ℕ) → p < length folds → (fold_at folds p).front ≡ (numbers_at a.taken p).front
  front_same p lt =
      let e = as_many in
      sym (get_or-map (λ (f : Fold). f.front) folds p no_fold 0 lt) ∙ ap (λ (ns : List ℕ). get_or ns p 0) are.fronts
      ∙ get_or-map (λ (q : Numbers). q.front) a.taken p no_numbers 0 (omega (arith, e, lt))

  folded_same : (p : ℕ) → p < length folds → (fold_at folds p).folded ≡ folded_at a.parts p
  folded_same p lt =
      let e = as_many in let places = is.places in let parts = is.parts in
      sym (get_or-map (λ (f : Fold). f.folded) folds p no_fold no_folded lt)
      ∙ ap (λ (fs : List Folded). get_or fs p no_folded) are.folded
      ∙ get_or-map (λ (k : Part). k.folded) a.parts p no_part no_folded (omega (arith, e, lt, places, parts))

  -- folds of a state are bounded
  folds_restore : CanRestore folds
  folds_restore =
      let e = as_many in
      let places = is.places in
      let some = is.some in
      let few = is.few in
      record {
        some = omega (arith, e, places, some);
        few = omega (arith, e, places, few);
        each = λ p lt. rw (front_same p lt, folded_same p lt) (is.each p (omega (arith, e, places, lt))).bounded;
      }

  -- the state of the folds has the fronts and the folds of the state
  of_folds_bare : of_folds a.trace_id folds ≡ state a.trace_id a.processors (map bare a.taken) (map alone a.parts)
  of_folds_bare =
      let below : map (λ (f : Fold). all_below f.front) folds ≡ map bare a.taken =
      map_after all_below (λ (f : Fold). f.front) folds ∙ ap (λ (ns : List ℕ). map all_below ns) are.fronts
      ∙ sym (map_after all_below (λ (q : Numbers). q.front) a.taken) in
      let folded : map (λ (f : Fold). part [] f.folded) folds ≡ map alone a.parts =
      map_after (λ (d : Folded). part [] d) (λ (f : Fold). f.folded) folds
      ∙ ap (λ (ds : List Folded). map (λ (d : Folded). part [] d) ds) are.folded
      ∙ sym (map_after (λ (d : Folded). part [] d) (λ (k : Part). k.folded) a.parts) in
      ap (λ (n : ℕ). state a.trace_id n (map (λ (f : Fold). all_below f.front) folds) (map (λ (f : Fold). part [] f.folded) folds))
      (as_many ∙ is.places)
      ∙ ap (λ (ts : List Numbers). state a.trace_id a.processors ts (map (λ (f : Fold). part [] f.folded) folds)) below
      ∙ ap (λ (ks : List Part). state a.trace_id a.processors (map bare a.taken) ks) folded

-- a state is made again of its folds and its held segments
pub made_again : AreMadeAgain
made_again a folds is are =
    let whole = restored_state a is in
    let from = of_folds_bare a folds is are in
    record {
      restores = folds_restore a folds is are;
      new = subst (λ (x : State). AreNew x (held_segments a)) (sym from) whole.new;
      same = ap (λ (x : State). with_segments x (held_segments a)) from ∙ whole.same;
    }
