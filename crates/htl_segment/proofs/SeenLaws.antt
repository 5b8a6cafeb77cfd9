-- A number that has a mark comes twice, and so does one of those apart that has a mark or stands there twice.
use Rattle.std.proofs.Common.{◌≡◌, ℕ, ◌+◌, ◌<◌, ◌≤◌, Bool, true, false, cond, List, [], ◌∷◌, ◌++◌, ◌==◌, ◌&&◌, ◌||◌, set}
use Rattle.std.proofs.Common.{refl, sym, ap, ◌∙◌, arith, inl, inr, IsPermutation, Option, None, Some}
use Rattle.std.specs.Prelude.{Contains, MatchOption, is_some}
use Rattle.htl_event.proofs.Members.{Contains-here, Contains-there, Contains-cases, Contains-nil}
use Rattle.std.specs.List.{list_any}
use Rattle.std.proofs.Common.{length}
use Rattle.std.proofs.lemmas.Bool.{and_parts, cases_eq, cases_lt, cases_Bool, or_cases, or_left, or_parts, or_right}
use Rattle.std.proofs.lemmas.List.{get_or-set_other, get_or-set_same, get_or_past, length-set}
use Rattle.htl_event.specs.Members.{IsLeastSuch}
use Rattle.htl_event.proofs.Counts.{count_by-append}
use Rattle.htl_segment.specs.Repeated.{times}
use Rattle.htl_segment.specs.Seen.{Saw, is_marked, mark_count}
use Rattle.htl_segment.specs.declared.seen.Seen.{Seen}
use Rattle.htl_segment.proofs.Times.{times_same, some_there, some_times, times-IsPermutation}

-- ---- one number more

times_more : (n x : ℕ) (numbers : List ℕ) → times n (numbers ++ x ∷ []) ≡ times n numbers + times n (x ∷ [])
times_more n x numbers = count_by-append _ numbers (x ∷ [])

times_both : (n : ℕ) (xs ys : List ℕ) → times n (xs ++ ys) ≡ times n xs + times n ys
times_both n xs ys = count_by-append (λ y. y == n) xs ys

times_once : (x : ℕ) → times x (x ∷ []) ≡ 1
times_once x = times_same x x [] refl

-- these numbers are counted by marks and by numbers apart
abbrev pub AreCounted : List Bool → List ℕ → List ℕ → Type 0
AreCounted marks apart numbers = (n : ℕ) → times n numbers ≡ mark_count marks n + times n apart

-- a marked number that comes once more comes twice
pub again : (marks room : List Bool) (apart numbers : List ℕ) (x : ℕ) → ((n : ℕ) → is_marked room n ≡ is_marked marks n)
    → is_marked room x ≡ true → AreCounted marks apart numbers → (n : ℕ) × (2 ≤ times n (numbers ++ x ∷ []))
again marks room apart numbers x same marked are =
    let here : mark_count marks x ≡ 1 = ap (λ (b : Bool). cond {A = ℕ} b 1 0) (sym (same x) ∙ marked) in
    (x, omega (arith, are x, here, times_more x x numbers, times_once x))

-- ---- marks that are added

-- the marks below a place were added, and it is known whether one was there already
pub record AreUnited (old more marks : List Bool) (place : ℕ) (is_twice : Bool) : Type 0 where
  pub long : length marks ≡ length old
  pub twice : is_twice ≡ true → (n : ℕ) × (mark_count old n ≡ 1) × (mark_count more n ≡ 1)
  pub below : is_twice ≡ false → (n : ℕ) → n < place → mark_count marks n ≡ mark_count old n + mark_count more n
  pub above : (n : ℕ) → place ≤ n → is_marked marks n ≡ is_marked old n

-- before the first mark is added, the marks are the old ones, and none was there already
pub none_united : (marks more : List Bool) → AreUnited marks more marks 0 false
none_united marks more = record {
  long = refl;
  twice = λ is. absurd cc;
  below = λ once n under. absurd (omega (arith, under));
  above = λ n over. refl;
}

count_either : (a b : Bool) → (a && b) ≡ false → cond {A = ℕ} (a || b) 1 0 ≡ cond {A = ℕ} a 1 0 + cond {A = ℕ} b 1 0
count_either true true is = absurd cc
count_either true false is = refl
count_either false true is = refl
count_either false false is = refl

-- the next is added
pub one_united : (old more marks : List Bool) (place : ℕ) (is_twice : Bool) → place < length marks → AreUnited old more marks place is_twice
    → AreUnited old more (set marks place (is_marked marks place || is_marked more place)) (place + 1)
    (is_twice || is_marked marks place && is_marked more place)
one_united old more marks place is_twice inside so_far =
    let a = is_marked marks place in
    let b = is_marked more place in
    let count = λ (c : Bool). cond {A = ℕ} c 1 0 in
    let same = so_far.above place (omega arith) in
    record {
      long = length-set marks place (a || b) ∙ so_far.long;
      twice = λ is. elim (or_cases is_twice (a && b) is) [
        | inl before ↦ so_far.twice before
        | inr here ↦ let both = and_parts a b here in (place, ap count (sym same ∙ both.0), ap count both.1)
      ];
      below = λ once n under.
          let parts = or_parts is_twice (a && b) once in
          elim (cases_eq place n) [
            | inl here ↦ rw (← here) (ap count (get_or-set_same marks place (a || b) false inside) ∙ count_either a b parts.1
                ∙ ap (λ (c : Bool). count c + count b) same)
            | inr other ↦ ap count (get_or-set_other marks place n (a || b) false (λ is. other (sym is)))
                ∙ so_far.below parts.0 n (omega (arith, under, other))
          ];
      above = λ n over. get_or-set_other marks place n (a || b) false (λ is. omega (arith, is, over)) ∙ so_far.above n (omega (arith, over));
    }

-- the marks behind those that are added stay
pub all_united : (old more marks : List Bool) (place : ℕ) → length more ≤ place → AreUnited old more marks place false → (n : ℕ)
    → mark_count marks n ≡ mark_count old n + mark_count more n
all_united old more marks place past so_far n =
    elim (cases_lt n place) [
      | inl under ↦ so_far.below refl n under
      | inr over ↦
          let none : mark_count more n ≡ 0 = ap (λ (c : Bool). cond {A = ℕ} c 1 0) (get_or_past more n false (omega (arith, past, over))) in
          let same : mark_count marks n ≡ mark_count old n = ap (λ (c : Bool). cond {A = ℕ} c 1 0) (so_far.above n over) in
          omega (arith, none, same)
    ]

-- ---- what another saw

-- these numbers, and those that have a mark, are all
abbrev pub AddsMarks : List Bool → List ℕ → List ℕ → Type 0
AddsMarks marks numbers all = (n : ℕ) → times n all ≡ times n numbers + mark_count marks n

-- those apart, and then those that have a mark, are all that the other saw
pub apart_and_marked : (numbers more apart : List ℕ) (marks : List Bool) → AreCounted marks apart more
    → AddsMarks marks (numbers ++ apart) (numbers ++ more)
apart_and_marked numbers more apart marks are n = omega (arith, are n, times_both n numbers more, times_both n numbers apart)

-- marks were added where none was
pub saw_once : (old : Seen) (marks more : List Bool) (numbers all : List ℕ)
    → ((n : ℕ) → mark_count marks n ≡ mark_count old.marks.items n + mark_count more n) → Saw old numbers → AddsMarks more numbers all
    → (old.comes_twice ≡ false → AreCounted marks old.apart.items all) × (old.comes_twice ≡ true → (n : ℕ) × (2 ≤ times n all))
saw_once old marks more numbers all are saw adds = (
  λ once n. omega (arith, adds n, saw.counted once n, are n),
  λ is. let two = saw.twice is in (two.0, omega (arith, two.1, adds two.0)),
)

-- or where one was already
pub saw_again : (old : Seen) (marks more : List Bool) (numbers all : List ℕ)
    → ((n : ℕ) → mark_count marks n ≡ mark_count old.marks.items n) → (n : ℕ) × (mark_count marks n ≡ 1) × (mark_count more n ≡ 1)
    → Saw old numbers → AddsMarks more numbers all → (n : ℕ) × (2 ≤ times n all)
saw_again old marks more numbers all same both saw adds =
    elim (cases_Bool old.comes_twice) [
      | inl is ↦ let two = saw.twice is in (two.0, omega (arith, two.1, adds two.0))
      | inr once ↦ (both.0, omega (arith, saw.counted once both.0, same both.0, both.1, both.2, adds both.0))
    ]

-- or it saw one twice
pub saw_twice : (numbers more : List ℕ) → (n : ℕ) × (2 ≤ times n more) → (n : ℕ) × (2 ≤ times n (numbers ++ more))
saw_twice numbers more two = (two.0, omega (arith, two.1, times_both two.0 numbers more))

-- ---- whether one came twice

-- what is told of sorted numbers
abbrev pub IsToldOf : List ℕ → Option ℕ → Type 0
IsToldOf sorted told = MatchOption told ((x : ℕ) → times x sorted ≤ 1) (IsLeastSuch ◌<◌ (λ x. 2 ≤ times x sorted))

-- where the search of sorted numbers finds one, a number comes twice
pub told_twice : (sorted : List ℕ) (told : Option ℕ) → IsToldOf sorted told → is_some told ≡ true → (x : ℕ) × (2 ≤ times x sorted)
told_twice sorted None told is = absurd cc
told_twice sorted (Some x) told is = (x, told.holds)

-- where the search of sorted numbers finds none, no number comes twice
pub told_once : (sorted : List ℕ) (told : Option ℕ) → IsToldOf sorted told → is_some told ≡ false → (x : ℕ) → times x sorted ≤ 1
told_once sorted None told is = told
told_once sorted (Some x) told is = absurd cc

any_there : (p : ℕ → Bool) (xs : List ℕ) → list_any p xs ≡ true → (x : ℕ) × Contains xs x × (p x ≡ true)
any_there p [] is = absurd cc
any_there p (x ∷ xs) is =
    elim (or_cases (p x) (list_any p xs) is) [
      | inl here ↦ (x, Contains-here x xs, here)
      | inr later ↦ let found = any_there p xs later in (found.0, Contains-there x xs found.0 found.1, found.2)
    ]

any_of : (p : ℕ → Bool) (xs : List ℕ) (x : ℕ) → Contains xs x → p x ≡ true → list_any p xs ≡ true
any_of p [] x h is = absurd (Contains-nil x h)
any_of p (y ∷ ys) x h is =
    elim (Contains-cases y ys x h) [
      | inl here ↦ or_left (p y) (list_any p ys) (ap p here ∙ is)
      | inr there ↦ or_right (p y) (list_any p ys) (any_of p ys x there is)
    ]

-- where no number stands apart twice or both apart and marked, each number was seen once at most
pub once_each : (marks : List Bool) (apart sorted numbers : List ℕ) → IsPermutation apart sorted → AreCounted marks apart numbers
    → ((x : ℕ) → times x sorted ≤ 1) → list_any (is_marked marks) sorted ≡ false → (n : ℕ) → times n numbers ≤ 1
once_each marks apart sorted numbers moved are once none n =
    let same = times-IsPermutation n apart sorted moved in
    elim (cases_Bool (is_marked marks n)) [
      | inl marked ↦
          let one : mark_count marks n ≡ 1 = ap (λ (b : Bool). cond {A = ℕ} b 1 0) marked in
          elim (cases_lt 0 (times n sorted)) [
            | inl some ↦ absurd (cc (sym none ∙ any_of (is_marked marks) sorted n (some_there n sorted (omega (arith, some))) marked))
            | inr never ↦ omega (arith, are n, same, one, never)
          ]
      | inr free ↦
          let zero : mark_count marks n ≡ 0 = ap (λ (b : Bool). cond {A = ℕ} b 1 0) free in
          omega (arith, are n, same, zero, once n)
    ]

-- where a number stands apart twice, a number was seen twice
pub twice_apart : (marks : List Bool) (apart sorted numbers : List ℕ) (x : ℕ) → IsPermutation apart sorted
    → AreCounted marks apart numbers → 2 ≤ times x sorted → (n : ℕ) × (2 ≤ times n numbers)
twice_apart marks apart sorted numbers x moved are two = (x, omega (arith, are x, times-IsPermutation x apart sorted moved, two))

-- where a number stands apart and has a mark, a number was seen twice
pub marked_and_apart : (marks : List Bool) (apart sorted numbers : List ℕ) → IsPermutation apart sorted
    → AreCounted marks apart numbers → list_any (is_marked marks) sorted ≡ true → (n : ℕ) × (2 ≤ times n numbers)
marked_and_apart marks apart sorted numbers moved are any =
    let found = any_there (is_marked marks) sorted any in
    let one : mark_count marks found.0 ≡ 1 = ap (λ (b : Bool). cond {A = ℕ} b 1 0) found.2 in
    let some = some_times found.0 sorted found.1 in
    (found.0, omega (arith, are found.0, times-IsPermutation found.0 apart sorted moved, one, some))
