-- Where rows of one owner are made one, the totals of two lists are joined, and a number that adds up is the sum over the rows.
use Rattle.std.proofs.Common.{◌≡◌, ℕ, ◌+◌, ◌<◌, ◌≤◌, Bool, true, false, cond, List, [], ◌∷◌, ◌++◌}
use Rattle.std.proofs.Common.{Option, Some, None, refl, sym, ap, subst, ◌∙◌, ◌==◌, arith, inl, inr, append-nil, append_assoc}
use Rattle.std.specs.Prelude.{Contains}
use Rattle.std.specs.List.{sum_by}
use Rattle.std.specs.Ordering.{nat_cmp, is_eq}
use Rattle.std.specs.Cmp.{unsigned_tied, nat_cmp_total, tied_itself}
use Rattle.std.specs.FinMap.Entries.{find}
use Rattle.std.proofs.lemmas.Bool.{cases_Bool}
use Rattle.std.proofs.lemmas.List.Sums.{sum_by-cons, sum_by-append, sum_by-le-sum_by}
use Rattle.std.proofs.lemmas.Option.{same_Some, none-some}
use Rattle.htl_event.proofs.Members.{Contains-here, Contains-there}
use Rattle.htl_sorted.specs.Entries.{IsSorted, joined_at}
use Rattle.htl_sorted.proofs.Rows.{row_found}
use Rattle.htl_answers.proofs.NumberSums.{amount}
use Rattle.htl_summary.specs.Totals.{by_owner, one_at, total_at, AreAddedUp, CanAddUp}

-- ---- totals

module _ {Row : Type 0} (key : Row → ℕ) where
  -- what is found of an owner is one of the rows
  pub found_row : (k : ℕ) (v : Row) (rows : List Row) → find nat_cmp k (by_owner key rows) ≡ Some v
      → (row : Row) × Contains rows row × (row ≡ v)
  found_row k v [] e = absurd (none-some v e)
  found_row k v (row ∷ rows) e =
      elim (cases_Bool (is_eq (nat_cmp k (key row)))) [
        | inl t ↦ (row, Contains-here row rows, same_Some row v (rw t at e))
        | inr f ↦ let there = found_row k v rows (rw f at e) in (there.0, Contains-there row rows there.0 there.1, there.2)
      ]

  -- of sorted rows, each is found at its owner
  pub row_there : (rows : List Row) → IsSorted nat_cmp (by_owner key rows) → (row : Row) → Contains rows row
      → find nat_cmp (key row) (by_owner key rows) ≡ Some row
  row_there rows sorted row (i, lt, is) = row_found key (λ (r : Row). r) nat_cmp_total rows sorted i row lt (sym is)

  -- the number of a row, where its owner is asked for
  pub number_at : (field : Row → ℕ) (k : ℕ) (row : Row) → amount field (one_at key k row) ≡ cond (k == key row) (field row) 0
  number_at field k row = (elim (is_eq (nat_cmp k (key row))) as (λ b. amount field (cond b (Some row) None) ≡ cond b (field row) 0)
      [ true ↦ refl | false ↦ refl ]) ∙ ap (λ (b : Bool). cond b (field row) 0) (unsigned_tied k (key row))

  module _ (join : Row → Row → Row) where
    abbrev total : ℕ → List Row → Option Row
    total k rows = total_at key join k rows

    -- nothing is joined to what stands alone
    pub alone : (a : Option Row) → joined_at join a None ≡ a
    alone None = refl
    alone (Some x) = refl

    -- a row alone is all of its owner
    pub total-own : (row : Row) → total_at key join (key row) (row ∷ []) ≡ Some row
    total-own row = ap (λ r. joined_at join (cond (is_eq r) (Some row) None) None) (tied_itself nat_cmp_total (key row))

    module _ (assoc : (x y z : Row) → join (join x y) z ≡ join x (join y z)) where
      joined_assoc : (a b c : Option Row) → joined_at join (joined_at join a b) c ≡ joined_at join a (joined_at join b c)
      joined_assoc None b c = refl
      joined_assoc (Some x) None c = refl
      joined_assoc (Some x) (Some y) None = refl
      joined_assoc (Some x) (Some y) (Some z) = ap (λ (w : Row). Some w) (assoc x y z)

      -- the total of two lists of rows is that of the first joined with that of the second
      pub total-append : (k : ℕ) (xs ys : List Row)
          → total_at key join k (xs ++ ys) ≡ joined_at join (total_at key join k xs) (total_at key join k ys)
      total-append k [] ys = refl
      total-append k (x ∷ xs) ys =
          ap (joined_at join (one_at key k x)) (total-append k xs ys) ∙ sym (joined_assoc (one_at key k x) (total k xs) (total k ys))

      -- where a row is joined to rows that are added up, they are added up with it
      pub added_up-more : (given rows new : List Row) (row : Row) → AreAddedUp key join given rows → IsSorted nat_cmp (by_owner key new)
          → ((k : ℕ) → find nat_cmp k (by_owner key new) ≡ joined_at join (find nat_cmp k (by_owner key rows)) (one_at key k row))
          → AreAddedUp key join (given ++ row ∷ []) new
      added_up-more given rows new row are sorted values = record {
        sorted = sorted;
        values = λ k. values k ∙ ap (λ a. joined_at join a (one_at key k row)) (are.values k)
            ∙ ap (joined_at join (total k given)) (sym (alone (one_at key k row))) ∙ sym (total-append k given (row ∷ []));
      }

    -- what can be added up of two lists one after the other can be of each
    module _ (can_join : Row → Row → Type 0) (xs ys : List Row) (fits : CanAddUp key join can_join (xs ++ ys)) where
      pub fits_first : CanAddUp key join can_join xs
      fits_first before left right after k x y is one two =
          let inner = append_assoc left (right ++ after) ys ∙ ap (λ l. left ++ l) (append_assoc right after ys) in
          fits before left right (after ++ ys) k x y
          (ap (λ l. l ++ ys) is ∙ append_assoc before (left ++ (right ++ after)) ys ∙ ap (λ l. before ++ l) inner) one two

      pub fits_second : CanAddUp key join can_join ys
      fits_second before left right after k x y is one two =
          fits (xs ++ before) left right after k x y (ap (λ l. xs ++ l) is ∙ sym (append_assoc xs before (left ++ (right ++ after)))) one two

      -- and the totals of both can be joined
      pub fits_both : (k : ℕ) (x y : Row) → total_at key join k xs ≡ Some x → total_at key join k ys ≡ Some y → can_join x y
      fits_both k x y one two = fits [] xs ys [] k x y (ap (λ l. xs ++ l) (sym (append-nil ys))) one two

    -- what holds of each row of the owner, and of two that are joined, holds of the total
    abbrev pub Holds : (Row → Type 0) → Option Row → Type 0
    Holds P None = Unit {0}
    Holds P (Some x) = P x

    module _ (P : Row → Type 0) (closed : (x y : Row) → P x → P y → P (join x y)) (k : ℕ) where
      holds_joined : (a b : Option Row) → Holds P a → Holds P b → Holds P (joined_at join a b)
      holds_joined None b h l = l
      holds_joined (Some x) None h l = h
      holds_joined (Some x) (Some y) h l = closed x y h l

      holds_one : (row : Row) → (is_eq (nat_cmp k (key row)) ≡ true → P row) → Holds P (one_at key k row)
      holds_one row f = (elim (is_eq (nat_cmp k (key row)))
          as (λ b. (b ≡ true → P row) → Holds P (cond b (Some row) None))
          [ true ↦ λ g. g refl | false ↦ λ g. tt ]) f

      holds_total : (rows : List Row) → ((row : Row) → Contains rows row → is_eq (nat_cmp k (key row)) ≡ true → P row)
          → Holds P (total k rows)
      holds_total [] each = tt
      holds_total (row ∷ rows) each =
          holds_joined (one_at key k row) (total k rows) (holds_one row (each row (Contains-here row rows)))
          (holds_total rows (λ r h. each r (Contains-there row rows r h)))

      -- what holds of each row, and stays where two are joined, holds of the total
      pub total-keeps : (rows : List Row) → ((row : Row) → Contains rows row → is_eq (nat_cmp k (key row)) ≡ true → P row)
          → (x : Row) → total_at key join k rows ≡ Some x → P x
      total-keeps rows each x e = subst (Holds P) e (holds_total rows each)

    -- a number that adds up where rows are joined
    module _ (field : Row → ℕ) (adds : (x y : Row) → field (join x y) ≡ field x + field y) where
      amount-joined : (a b : Option Row) → amount field (joined_at join a b) ≡ amount field a + amount field b
      amount-joined None b = omega arith
      amount-joined (Some x) None = omega arith
      amount-joined (Some x) (Some y) = adds x y

      -- a number that adds up where rows are joined has, in the total, the sum of the rows' numbers
      pub total-amount : (k : ℕ) (rows : List Row)
          → amount field (total_at key join k rows) ≡ sum_by (λ row. amount field (one_at key k row)) rows
      total-amount k [] = refl
      total-amount k (row ∷ rows) =
          let head = amount-joined (one_at key k row) (total k rows) in
          let rest = total-amount k rows in
          let sum = sum_by-cons (λ (r : Row). amount field (one_at key k r)) row rows in
          omega (arith, head, rest, sum)

      one-upto : (k : ℕ) (row : Row) → amount field (one_at key k row) ≤ field row
      one-upto k row = elim (is_eq (nat_cmp k (key row))) as (λ b. amount field (cond b (Some row) None) ≤ field row)
          [ true ↦ omega arith | false ↦ omega arith ]

      pub total-upto : (k : ℕ) (rows : List Row) (x : Row) → total_at key join k rows ≡ Some x
          → field x ≤ sum_by field rows
      total-upto k rows x e =
          let is = ap (amount field) e in
          let sum = total-amount k rows in
          let upto = sum_by-le-sum_by (λ (r : Row). amount field (one_at key k r)) field rows
          (λ r. one-upto k r) in
          omega (arith, is, sum, upto)

      -- totals of parts that stand side by side add up to a number within the sum of all
      pub total-fits : (bound : ℕ) (rows before left right after : List Row) (k : ℕ) (x y : Row)
          → sum_by field rows < bound → rows ≡ before ++ (left ++ (right ++ after))
          → total_at key join k left ≡ Some x → total_at key join k right ≡ Some y → field x + field y < bound
      total-fits bound rows before left right after k x y lt is one two =
          let all = ap (sum_by field) is in
          let first = sum_by-append field before (left ++ (right ++ after)) in
          let second = sum_by-append field left (right ++ after) in
          let third = sum_by-append field right after in
          let at_left = total-upto k left x one in
          let at_right = total-upto k right y two in
          omega (arith, lt, all, first, second, third, at_left, at_right)
