-- The handles that are open as of a moment are as many as the lives that began up to it, less those that ended.
use Rattle.std.proofs.Common.{◌≡◌, ℕ, ◌+◌, ◌<◌, ◌≤◌, Bool, true, false, cond, leb, ltb, not, ◌&&◌, List, [], ◌∷◌}
use Rattle.std.proofs.Common.{Option, Some, None, refl, sym, ap, ◌∙◌, arith, inl, inr, ◌⊎◌}
use Rattle.std.specs.Prelude.{min, option_and_then}
use Rattle.std.specs.List.{AllByRecursion, filter_map}
use Rattle.std.specs.List.Sorted.{IsNonDecreasing, IsPermutation}
use Rattle.std.proofs.lemmas.Bool.{cases_lt, and_parts, and_from, ltb-true, leb-true, le-leb, lt-ltb, lt-leb, leb-false, both_ways}
use Rattle.std.proofs.lemmas.Bool.{not-true, not_from_false, eqb-true}
use Rattle.std.proofs.lemmas.List.Sorted.{sum_by-IsPermutation}
use Rattle.std.proofs.lemmas.Option.{same_Some, none-some, cond_some}
use Rattle.htl_event.specs.Members.{IsRising}
use Rattle.htl_answers.specs.declared.lives.Change.{Change}
use Rattle.htl_answers.specs.Lives.{number_to, number_at, start_of, next_of, first_after, earlier_of, end_of, ends_of}
use Rattle.htl_answers.specs.Lives.{AreInOrder}
use Rattle.htl_answers.proofs.NumbersTo.{is_past, number_to-option, first_after-is}
use Rattle.htl_answers.proofs.ChangeOrder.{ComesFirst, first_is}

-- ---- one change

-- the handle that the change opened is open as of the moment
abbrev pub goes_on : ℕ → List ℕ → Change → List Change → Bool
goes_on m exits change later = is_past m (start_of change) && not (is_past m (end_of exits change later))

-- the same, as facts
pub record GoesOn (m : ℕ) (exits : List ℕ) (change : Change) (later : List Change) : Type 0 where
  pub opens : change.opens ≡ true
  pub some : 0 < change.sequence
  pub begun : change.sequence ≤ m
  pub next : is_past m (next_of change later) ≡ false
  pub exit : is_past m (first_after exits change.sequence) ≡ false

-- a moment is before the earlier of two exactly where it is before both
past_parts : (m : ℕ) (a b : Option ℕ) → is_past m (earlier_of a b) ≡ false → (is_past m a ≡ false) × (is_past m b ≡ false)
past_parts m None b e = (refl, e)
past_parts m (Some a) None e = (e, refl)
past_parts m (Some a) (Some b) e =
    let lt : m < min a b = leb-false (min a b) m e in
    (lt-leb a m (omega (arith, lt)), lt-leb b m (omega (arith, lt)))

past_from : (m : ℕ) (a b : Option ℕ) → is_past m a ≡ false → is_past m b ≡ false → is_past m (earlier_of a b) ≡ false
past_from m None b e f = f
past_from m (Some a) None e f = e
past_from m (Some a) (Some b) e f =
    let lt : m < a = leb-false a m e in
    let gt : m < b = leb-false b m f in
    lt-leb (min a b) m (omega (arith, lt, gt))

begins : (change : Change) → change.opens ≡ true → 0 < change.sequence → start_of change ≡ Some change.sequence
begins change opens some = rw (and_from _ _ opens (lt-ltb 0 change.sequence some)) refl

begins_parts : (change : Change) (n : ℕ) → start_of change ≡ Some n → (change.opens ≡ true) × (0 < change.sequence) × (change.sequence ≡ n)
begins_parts change n at =
    let some = cond_some (change.opens && ltb 0 change.sequence) change.sequence n at in
    let parts = and_parts _ _ some.0 in
    (parts.0, ltb-true 0 change.sequence parts.1, some.1)

-- where a handle was opened, its end is the earlier of both
end_at : (exits : List ℕ) (change : Change) (later : List Change) (n : ℕ) → start_of change ≡ Some n
    → end_of exits change later ≡ earlier_of (next_of change later) (first_after exits n)
end_at exits change later n at = ap (option_and_then (λ start. earlier_of (next_of change later) (first_after exits start))) at

no_end : (exits : List ℕ) (change : Change) (later : List Change) → start_of change ≡ None → end_of exits change later ≡ None
no_end exits change later at = ap (option_and_then (λ start. earlier_of (next_of change later) (first_after exits start))) at

-- where the test says that a change's handle is open as of a moment, it is a fact
pub goes_on-parts : (m : ℕ) (exits : List ℕ) (change : Change) (later : List Change) → goes_on m exits change later ≡ true
    → GoesOn m exits change later
goes_on-parts m exits change later test = go (start_of change) refl
  where
    parts : (is_past m (start_of change) ≡ true) × (not (is_past m (end_of exits change later)) ≡ true)
    parts = and_parts (is_past m (start_of change)) (not (is_past m (end_of exits change later))) test

    go : (o : Option ℕ) → start_of change ≡ o → GoesOn m exits change later
    go None at = absurd (both_ways _ (ap (is_past m) at) parts.0)
    go (Some n) at =
        let is = begins_parts change n at in
        let begun : leb n m ≡ true = ap (is_past m) (sym at) ∙ parts.0 in
        let open_end : is_past m (end_of exits change later) ≡ false = not-true _ parts.1 in
        let both = past_parts m (next_of change later) (first_after exits n) (ap (is_past m) (sym (end_at exits change later n at)) ∙ open_end) in
        let upto = leb-true n m begun in
        let same = is.2 in
        record {
          opens = is.0;
          some = is.1;
          begun = omega (arith, upto, same);
          next = both.0;
          exit = ap (λ (s : ℕ). is_past m (first_after exits s)) same ∙ both.1;
        }

-- where it is a fact that a change's handle is open as of a moment, the test says so
pub goes_on-from : (m : ℕ) (exits : List ℕ) (change : Change) (later : List Change) → GoesOn m exits change later
    → goes_on m exits change later ≡ true
goes_on-from m exits change later is =
    let at = begins change is.opens is.some in
    let open_end = ap (is_past m) (end_at exits change later change.sequence at)
    ∙ past_from m (next_of change later) (first_after exits change.sequence) is.next is.exit in
    and_from _ _ (ap (is_past m) at ∙ le-leb change.sequence m is.begun) (not_from_false _ open_end)

-- ---- all changes

-- so many handles are open as of the moment
abbrev pub number_on : ℕ → List ℕ → List Change → ℕ
number_on m exits [] = 0
number_on m exits (change ∷ later) = cond (goes_on m exits change later) 1 0 + number_on m exits later

-- the next change of the handle comes no earlier than the change
next_after : (change : Change) (later : List Change) (n : ℕ) → AllByRecursion (ComesFirst change) later → next_of change later ≡ Some n
    → change.sequence ≤ n
next_after change [] n rising at = absurd (none-some n at)
next_after change (next ∷ later) n rising at =
    let some = cond_some _ next.sequence n at in
    let base : next.base ≡ change.base = eqb-true next.base change.base some.0 in
    let is = some.1 in
    elim (first_is change next rising.0) [
      | inl lt ↦ absurd (omega (arith, lt, base))
      | inr same ↦ (let le = same.1 in omega (arith, le, is))
    ]

earlier_is : (a b : Option ℕ) (n : ℕ) → earlier_of a b ≡ Some n → (a ≡ Some n) ⊎ (b ≡ Some n)
earlier_is None b n at = inr at
earlier_is (Some a) None n at = inl at
earlier_is (Some a) (Some b) n at =
    let is : min a b ≡ n = same_Some (min a b) n at in
    elim (cases_lt a b) [
      | inl lt ↦ (let same : a ≡ n = omega (arith, lt, is) in inl (ap (λ (x : ℕ). Some x) same))
      | inr le ↦ (let same : b ≡ n = omega (arith, le, is) in inr (ap (λ (x : ℕ). Some x) same))
    ]

module _ (m : ℕ) (exits : List ℕ) (rise : IsNonDecreasing exits) where
  -- a life that ended had begun
  ended_begun : (change : Change) (later : List Change) → AllByRecursion (ComesFirst change) later
      → is_past m (end_of exits change later) ≡ true → is_past m (start_of change) ≡ true
  ended_begun change later rising ended = go (start_of change) refl
    where
      upto : (n : ℕ) → start_of change ≡ Some n → (o : Option ℕ) → earlier_of (next_of change later) (first_after exits n) ≡ o
          → is_past m o ≡ true → n ≤ m
      upto n at None is past = absurd (both_ways _ refl past)
      upto n at (Some x) is past =
          let le = leb-true x m past in
          let same = (begins_parts change n at).2 in
          elim (earlier_is (next_of change later) (first_after exits n) x is) [
            | inl next ↦ (let before = next_after change later x rising next in omega (arith, le, same, before))
            | inr exit ↦ (let after = (first_after-is exits rise n x exit).1 in omega (arith, le, after))
          ]

      go : (o : Option ℕ) → start_of change ≡ o → is_past m (start_of change) ≡ true
      go None at = absurd (both_ways _ (ap (is_past m) (no_end exits change later at)) ended)
      go (Some n) at =
          ap (is_past m) at
          ∙ le-leb n m (upto n at (end_of exits change later) (sym (end_at exits change later n at)) ended)

  weights : (started ended : Bool) → (ended ≡ true → started ≡ true)
      → ◌≡◌ {A = ℕ} (cond started 1 0) (cond ended 1 0 + cond (started && not ended) 1 0)
  weights true true h = refl
  weights true false h = refl
  weights false true h = absurd (both_ways false refl (h refl))
  weights false false h = refl

  -- those that began are those that ended and those that go on
  pub number_begun : (changes : List Change) → IsRising ComesFirst changes
      → number_to (filter_map start_of changes) m ≡ number_to (ends_of exits changes) m + number_on m exits changes
  number_begun [] rising = refl
  number_begun (change ∷ later) rising =
      let rest = number_begun later rising.1 in
      let starts = number_to-option (start_of change) (filter_map start_of later) m in
      let ends = number_to-option (end_of exits change later) (ends_of exits later) m in
      let one = weights (is_past m (start_of change)) (is_past m (end_of exits change later)) (ended_begun change later rising.0) in
      omega (arith, rest, starts, ends, one)

-- ---- sorted starts and ends

module _ (changes : List Change) (rising : IsRising ComesFirst changes) (exits : List ℕ) (rise : IsNonDecreasing exits)
    (starts ends : List ℕ) (of_starts : IsPermutation (filter_map start_of changes) starts)
    (of_ends : IsPermutation (ends_of exits changes) ends) where
  number_moved : (xs ys : List ℕ) → IsPermutation xs ys → (m : ℕ) → number_to ys m ≡ number_to xs m
  number_moved xs ys moved m = sum_by-IsPermutation (λ (x : ℕ). cond (leb x m) 1 0) xs ys moved

  number_sorted : (m : ℕ) → number_to starts m ≡ number_to ends m + number_on m exits changes
  number_sorted m =
      let began = number_moved (filter_map start_of changes) starts of_starts m in
      let ended = number_moved (ends_of exits changes) ends of_ends m in
      let both = number_begun m exits rise changes rising in
      omega (arith, began, ended, both)

  -- the lives that began up to a moment, less those that ended, are the handles that are open as of it
  pub number_at-on : (m : ℕ) → number_at starts ends m ≡ number_on m exits changes
  number_at-on m = let both = number_sorted m in omega (arith, both)

  -- up to no moment more lives end than begin, so sorted starts and ends are in order
  pub in_order : IsNonDecreasing starts → IsNonDecreasing ends → AreInOrder starts ends
  in_order starts_rise ends_rise = record {
    starts_rise = starts_rise;
    ends_rise = ends_rise;
    fewer = λ m. (let both = number_sorted m in omega (arith, both));
  }
