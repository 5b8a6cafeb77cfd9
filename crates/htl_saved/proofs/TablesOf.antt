-- The table of some parts has the stacks of each part, and there is one such table.
use Rattle.std.proofs.Common.{◌≡◌, ℕ, ◌+◌, ◌<◌, List, [], ◌∷◌, ◌++◌, length, sym, ◌∙◌, ap, subst, arith, inl, inr}
use Rattle.std.proofs.Common.{length-append}
use Rattle.std.specs.Prelude.{Contains}
use Rattle.std.specs.List.{flat_map}
use Rattle.std.proofs.lemmas.List.{get_or_push, get_or_append_left}
use Rattle.std.proofs.lemmas.Bool.{cases_lt}
use Rattle.htl_event.specs.OrderLaws.{stack_total}
use Rattle.htl_event.proofs.Members.{Lists-same, Contains-nil, Contains-cases, all_left, all_right, each_member}
use Rattle.htl_event.proofs.Orders.{strict_from_total}
use Rattle.htl_analyst.specs.States.{Part as Kept}
use Rattle.htl_state.specs.Rows.{Part}
use Rattle.htl_saved.specs.Tables.{InStackOrder, HasAll}
use Rattle.htl_saved.specs.AnalystRows.{IsTable, stacks_of, rows_at}

-- what has the stacks of all parts has those of each
pub has_part : (table : List (List ℕ)) (parts : List Kept) (k : Kept) → HasAll table (flat_map stacks_of parts) → Contains parts k
    → HasAll table (stacks_of k)
has_part table [] k all here = absurd (Contains-nil k here)
has_part table (l ∷ parts) k all here =
    elim (Contains-cases l parts k here) [
      | inl is ↦ subst (λ (m : Kept). HasAll table (stacks_of m)) is (all_left (Contains table) (stacks_of l) (flat_map stacks_of parts) all)
      | inr there ↦ has_part table parts k (all_right (Contains table) (stacks_of l) (flat_map stacks_of parts) all) there
    ]

-- the table of some parts has all their stacks
pub table_has_all : (parts : List Kept) (table : List (List ℕ)) → IsTable parts table → HasAll table (flat_map stacks_of parts)
table_has_all parts table is = each_member (Contains table) (flat_map stacks_of parts) (λ s here. (is.members s).1 here)

-- some parts have one table
pub tables_are_one : (parts : List Kept) (t u : List (List ℕ)) → IsTable parts t → IsTable parts u → t ≡ u
tables_are_one parts t u a b = Lists-same InStackOrder (strict_from_total stack_total) _ _ t u (λ s. ((λ h. h), (λ h. h))) a b

-- one part more behind those of the first processors is that of the next
pub rows_more : (wanted : ℕ → Part) (parts : List Part) (n : ℕ) (row : Part) → length parts ≡ n
    → ((p : ℕ) → p < n → rows_at parts p ≡ wanted p) → row ≡ wanted n
    → (length (parts ++ row ∷ []) ≡ n + 1) × ((p : ℕ) → p < n + 1 → rows_at (parts ++ row ∷ []) p ≡ wanted p)
rows_more wanted parts n row len each is = (omega (arith, length-append parts (row ∷ []), len), more)
  where
    more : (p : ℕ) → p < n + 1 → rows_at (parts ++ row ∷ []) p ≡ wanted p
    more p lt = elim (cases_lt p n) [
      | inl below ↦ get_or_append_left parts (row ∷ []) _ p (omega (arith, len, below)) ∙ each p below
      | inr above ↦
          let at : p ≡ n = omega (arith, lt, above) in
          get_or_push parts row _ p (omega (arith, len, at)) ∙ is ∙ ap wanted (sym at)
    ]
