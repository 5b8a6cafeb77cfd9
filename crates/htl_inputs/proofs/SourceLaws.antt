-- Of sources that are read one after another, what is known and reported follows from those before and from the last one read.
use Rattle.std.proofs.Common.{◌≡◌, ◌⊎◌, ◌<◌, ◌≤◌, ◌+◌, ℕ, zero, suc, Bool, true, false, List, [], ◌∷◌, length, map, All, refl, sym, ap, ◌∙◌, Option, Some, None}
use Rattle.std.proofs.Common.{IfSome, arith, inl, inr}
use Rattle.std.specs.Prelude.{slice_get, option_map}
use Rattle.std.proofs.Math.ListN.{set}
use Rattle.std.proofs.KnownBytes.{Consumes-nil}
use Rattle.std.proofs.lemmas.Bool.{cases_lt}
use Rattle.std.proofs.lemmas.List.Elements.{All-cons, All-head, All-nil, All-tail}
use Rattle.std.proofs.lemmas.Option.{slice_get-map}
use Rattle.htl_device.specs.States.{SourceState}
use Rattle.htl_device.specs.declared.whole.TheConstants.{MAX_READS}
use Rattle.htl_segment.specs.Content.{Fits}
use Rattle.htl_inputs.specs.Sources.{AreReadInOrder, AreReadToFault, AreReadWithin, IsEndless, IsTrueAt, ReadsNoFault}
use Rattle.htl_reading.specs.Sources.{IsReadToFault, AsksReaders}
use Rattle.htl_inputs.specs.Readings.{AskForReaders, readers_of}
use Rattle.htl_reading.proofs.FaultLaws.{read_without_fault}
use Rattle.htl_reading.proofs.ReadLaws.{asks_none}

-- setting one place of a list leaves each other as it is
pub slice_get-set_other : {X : Type 0} (xs : List X) (i k : ℕ) (y : X) → (k ≡ i → ⊥) → slice_get (set xs i y) k ≡ slice_get xs k
slice_get-set_other [] i k y other = refl
slice_get-set_other (x ∷ xs) zero zero y other = absurd (other refl)
slice_get-set_other (x ∷ xs) zero (suc k) y other = refl
slice_get-set_other (x ∷ xs) (suc i) zero y other = refl
slice_get-set_other (x ∷ xs) (suc i) (suc k) y other = slice_get-set_other xs i k y (λ e. other (ap suc e))

slice_get-set_same : {X : Type 0} (xs : List X) (i : ℕ) (y : X) → i < length xs → slice_get (set xs i y) i ≡ Some y
slice_get-set_same [] i y within = absurd (omega arith)
slice_get-set_same (x ∷ xs) zero y within = refl
slice_get-set_same (x ∷ xs) (suc i) y within = slice_get-set_same xs i y (omega arith)

-- the test of the element at a place
pub other_value : {X Y : Type 0} (f : X → Y) (xs : List X) (i k : ℕ) (y : X) → (k ≡ i → ⊥)
    → slice_get (map f (set xs i y)) k ≡ slice_get (map f xs) k
other_value f xs i k y other =
    slice_get-map f (set xs i y) k ∙ ap (option_map f) (slice_get-set_other xs i k y other) ∙ sym (slice_get-map f xs k)

-- a test that passes a new element is true at its place
pub true_there : {X : Type 0} (f : X → Bool) (xs : List X) (i : ℕ) (y : X) → i < length xs → f y ≡ true → IsTrueAt (map f (set xs i y)) i
true_there f xs i y within holds =
    slice_get-map f (set xs i y) i ∙ ap (option_map f) (slice_get-set_same xs i y within) ∙ ap Some holds

-- where the test is false of all it is true of none
pub true_nowhere : {X : Type 0} (f : X → Bool) (xs : List X) (k : ℕ) → All (λ x. f x ≡ false) xs → IsTrueAt (map f xs) k → ⊥
true_nowhere f [] k all holds = cc
true_nowhere f (x ∷ xs) zero all holds =
    let no : f x ≡ false = All-head (λ z. f z ≡ false) x xs all in cc
true_nowhere f (x ∷ xs) (suc k) all holds = true_nowhere f xs k (All-tail (λ z. f z ≡ false) x xs all) holds

-- where it was false of all, it is true of the new element alone
pub true_of_new : {X : Type 0} (f : X → Bool) (xs : List X) (i k : ℕ) (y : X) → All (λ x. f x ≡ false) xs
    → IsTrueAt (map f (set xs i y)) k → (k ≡ i) × (f y ≡ true)
true_of_new f [] i k y all holds = absurd cc
true_of_new f (x ∷ xs) zero zero y all holds = (refl, cc)
true_of_new f (x ∷ xs) zero (suc k) y all holds = absurd (true_nowhere f xs k (All-tail (λ z. f z ≡ false) x xs all) holds)
true_of_new f (x ∷ xs) (suc i) zero y all holds =
    let no : f x ≡ false = All-head (λ z. f z ≡ false) x xs all in absurd cc
true_of_new f (x ∷ xs) (suc i) (suc k) y all holds =
    let there = true_of_new f xs i k y (All-tail (λ z. f z ≡ false) x xs all) holds in (ap suc there.0, there.1)

-- the bytes of the source at a place are known
pub record Knows (inputs : List (List ℕ)) (place : ℕ) (known : Option (List ℕ)) : Type 0 where
  pub input : List ℕ
  pub here : slice_get inputs place ≡ Some input
  pub is : known ≡ Some input

knows_all : (inputs : List (List ℕ)) (place : ℕ) (known : Option (List ℕ))
    → slice_get (map (λ (x : List ℕ). Some x) inputs) place ≡ Some known
    → Knows inputs place known
knows_all [] place known is = absurd cc
knows_all (x ∷ inputs) zero known is = record { input = x; here = refl; is = cc }
knows_all (x ∷ inputs) (suc place) known is =
    let there = knows_all inputs place known is in record { input = there.input; here = there.here; is = there.is }

-- the source that is read next is as it was at the start
pub known_now : {X Y : Type 0} (f : X → Y) (first now : List X) (place : ℕ) (x : X)
    → slice_get now place ≡ slice_get first place → slice_get now place ≡ Some x → slice_get (map f first) place ≡ Some (f x)
known_now f first now place x left here = slice_get-map f first place ∙ ap (option_map f) (sym left ∙ here)

-- the known bytes of the source that is read next are those of its input
pub knows_now : {X : Type 0} (f : X → Option (List ℕ)) (first now : List X) (inputs : List (List ℕ)) (place : ℕ) (x : X)
    → slice_get now place ≡ slice_get first place → slice_get now place ≡ Some x
    → map f first ≡ map (λ (y : List ℕ). Some y) inputs → Knows inputs place (f x)
knows_now f first now inputs place x left here all =
    knows_all inputs place (f x) (ap (λ (l : List (Option (List ℕ))). slice_get l place) (sym all)
    ∙ known_now f first now place x left here)

-- a fact of the known bytes, where they are known
pub at_known : (inputs : List (List ℕ)) (place : ℕ) (known : Option (List ℕ)) (P : List ℕ → Type 0) (knows : Knows inputs place known)
    → IfSome known P → P knows.input
at_known inputs place None P knows fact = absurd (let is = knows.is in cc)
at_known inputs place (Some x) P knows fact = let is : x ≡ knows.input = let e = knows.is in cc in rw (← is) fact

-- what a new element at a place is mapped to
pub value_there : {X Y : Type 0} (f : X → Y) (xs : List X) (i : ℕ) (y : X) → i < length xs → slice_get (map f (set xs i y)) i ≡ Some (f y)
value_there f xs i y within = slice_get-map f (set xs i y) i ∙ ap (option_map f) (slice_get-set_same xs i y within)

-- ---- in which order sources are read

-- the test is true of all, if it is at each place
pub true_of_all : {X : Type 0} (f : X → Bool) (xs : List X) → ((k : ℕ) → k < length xs → IsTrueAt (map f xs) k) → All (λ x. f x ≡ true) xs
true_of_all f [] each = All-nil (λ x. f x ≡ true)
true_of_all f (x ∷ xs) each =
    let first : f x ≡ true = let there = each zero (omega arith) in cc in
    All-cons (λ z. f z ≡ true) x xs first (true_of_all f xs (λ k within. each (suc k) (omega (arith, within))))

-- all before the place ended, and none from there on was read
pub stopped_before : {X : Type 0} (ended : X → Bool) (first now : List X) (place : ℕ)
    → ((k : ℕ) → k < place → IsTrueAt (map ended now) k) → ((k : ℕ) → place ≤ k → slice_get now k ≡ slice_get first k)
    → AreReadInOrder ended first now
stopped_before ended first now place before left earlier later below =
    elim (cases_lt earlier place) [
      | inl done ↦ inl (before earlier done)
      | inr not_before ↦ inr (left later (omega (arith, not_before, below)))
    ]

-- the same where the one at the place was read
pub stopped_at : {X : Type 0} (ended : X → Bool) (first now : List X) (place : ℕ) (y : X)
    → ((k : ℕ) → k < place → IsTrueAt (map ended now) k) → ((k : ℕ) → place ≤ k → slice_get now k ≡ slice_get first k)
    → AreReadInOrder ended first (set now place y)
stopped_at ended first now place y before left earlier later below =
    elim (cases_lt earlier place) [
      | inl done ↦ inl (other_value ended now place earlier y (λ e. omega (arith, done, e)) ∙ before earlier done)
      | inr not_before ↦ inr (slice_get-set_other now place later y (λ e. omega (arith, not_before, below, e))
          ∙ left later (omega (arith, not_before, below)))
    ]

-- one more has ended
pub ended_next : {X : Type 0} (ended : X → Bool) (now : List X) (place : ℕ) (y : X) → place < length now → ended y ≡ true
    → ((k : ℕ) → k < place → IsTrueAt (map ended now) k) → (k : ℕ) → k < place + 1 → IsTrueAt (map ended (set now place y)) k
ended_next ended now place y within is before k below =
    elim (cases_lt k place) [
      | inl done ↦ other_value ended now place k y (λ e. omega (arith, done, e)) ∙ before k done
      | inr not_before ↦
          let same : k ≡ place = omega (arith, not_before, below) in
          rw same (true_there ended now place y within is)
    ]

-- so many reads of the source at a place gave bytes
pub endless_at : {X : Type 0} (f : X → Option (List ℕ)) (reads : X → ℕ) (first now : List X) (place : ℕ) (x y : X)
    → place < length now → slice_get (map f first) place ≡ Some (f x)
    → (MAX_READS ≤ reads y) × IfSome (f x) (λ bytes. MAX_READS ≤ length bytes)
    → IsEndless (map reads (set now place y)) (map f first) place
endless_at f reads first now place x y within here many =
    (reads y, value_there reads now place y within, many.0, f x, here, many.1)

-- ---- how far sources are read

pub unread_to_fault : (most : ℕ) (known : Option (List ℕ)) → IsReadToFault most known known
unread_to_fault most known = read_without_fault most known known [] [] (All-nil Fits) (record { cut_off = inl (omega arith) }) (Consumes-nil known)

-- no source was read
pub none_read : (most : ℕ) (known : List (Option (List ℕ))) → AreReadToFault most known known
none_read most known place given left here there =
    let same : given ≡ left = cc (here, there) in rw same (unread_to_fault most left)

same_or_other : (a b : ℕ) → (a ≡ b) ⊎ (a ≡ b → ⊥)
same_or_other zero zero = inl refl
same_or_other zero (suc b) = inr (λ e. omega arith)
same_or_other (suc a) zero = inr (λ e. omega arith)
same_or_other (suc a) (suc b) =
    elim (same_or_other a b) [
      | inl same ↦ inl (ap suc same)
      | inr other ↦ inr (λ e. other (omega arith))
    ]

-- one source more was read
pub one_read : {X : Type 0} (most : ℕ) (f : X → Option (List ℕ)) (known : List (Option (List ℕ))) (now : List X) (i : ℕ) (x y : X) → i < length now
    → AreReadToFault most known (map f now) → slice_get known i ≡ Some (f x) → IsReadToFault most (f x) (f y)
    → AreReadToFault most known (map f (set now i y))
one_read most f known now i x y within before here one place given left is new =
    elim (same_or_other place i) [
      | inl same ↦
          let there : slice_get (map f (set now i y)) place ≡ Some (f y) = rw same (value_there f now i y within) in
          let was : slice_get known place ≡ Some (f x) = rw same here in
          let given_is : given ≡ f x = cc (is, was) in
          let left_is : left ≡ f y = cc (new, there) in
          rw (given_is, left_is) one
      | inr other ↦ before place given left is (sym (other_value f now i place y other) ∙ new)
    ]

-- the last source that was read has no fault so far
pub read_no_fault : {X : Type 0} (f : X → Option (List ℕ)) (known : List (Option (List ℕ))) (now : List X) (i : ℕ) (x y : X) → i < length now
    → slice_get known i ≡ Some (f x) → IsReadToFault 0 (f x) (f y) → ReadsNoFault known (map f (set now i y)) i
read_no_fault f known now i x y within here one given left is new =
    let there : slice_get (map f (set now i y)) i ≡ Some (f y) = value_there f now i y within in
    let given_is : given ≡ f x = cc (is, here) in
    let left_is : left ≡ f y = cc (new, there) in
    rw (given_is, left_is) one

-- ---- how often sources are read

-- where no source was read, none was read too often
pub none_read_within : (reads : List ℕ) → AreReadWithin reads reads
none_read_within reads place old new is there = let same : old ≡ new = cc (is, there) in omega (arith, same)

-- one source more was read
pub one_read_within : {X : Type 0} (reads : X → ℕ) (first : List ℕ) (now : List X) (i : ℕ) (x y : X) → i < length now
    → AreReadWithin first (map reads now) → slice_get first i ≡ Some (reads x) → reads y ≤ reads x + MAX_READS
    → AreReadWithin first (map reads (set now i y))
one_read_within reads first now i x y within before here few place old new is after =
    elim (same_or_other place i) [
      | inl same ↦
          let there : slice_get (map reads (set now i y)) place ≡ Some (reads y) = rw same (value_there reads now i y within) in
          let was : slice_get first place ≡ Some (reads x) = rw same here in
          let old_is : old ≡ reads x = cc (is, was) in
          let new_is : new ≡ reads y = cc (after, there) in
          rw (old_is, new_is) few
      | inr other ↦ before place old new is (sym (other_value reads now i place y other) ∙ after)
    ]

-- ---- other readers

module _ (is_text : Bool) (workers : ℕ) where
  -- where no source was read, no other reader was asked for
  pub none_asked : (states : List SourceState) → AskForReaders is_text workers states states
  none_asked states place before after here there =
      let same : before ≡ after = cc (here, there) in rw same (asks_none (readers_of is_text workers) after.remaining after after refl)

  -- one source more was read
  pub one_asked : (first now : List SourceState) (i : ℕ) (x y : SourceState) → i < length now → slice_get now i ≡ slice_get first i
      → slice_get now i ≡ Some x → AskForReaders is_text workers first now → AsksReaders (readers_of is_text workers) x.remaining x y
      → AskForReaders is_text workers first (set now i y)
  one_asked first now i x y within left here so_far one place before after was is =
      elim (same_or_other place i) [
        | inl same ↦
            let there : slice_get (set now i y) place ≡ Some y = rw same (slice_get-set_same now i y within) in
            let begun : slice_get first place ≡ Some x = rw same (sym left ∙ here) in
            let before_is : before ≡ x = cc (was, begun) in
            let after_is : after ≡ y = cc (is, there) in
            rw (before_is, after_is) one
        | inr other ↦ so_far place before after was (sym (slice_get-set_other now i place y other) ∙ is)
      ]
