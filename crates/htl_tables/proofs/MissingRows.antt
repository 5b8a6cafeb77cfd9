-- How the number of newer rows without an older one changes where the last row of either table is taken away.
use Rattle.std.proofs.Common.{◌≡◌, ℕ, ◌+◌, List, [], ◌∷◌, ◌++◌, Some, None, cond, append_assoc, arith, refl, sym, ap, ◌∙◌, subst, length}
use Rattle.std.specs.Prelude.{is_none}
use Rattle.std.specs.Ordering.{is_eq}
use Rattle.std.specs.declared.cmp.Ordering.TheVariants.{Less, Greater}
use Rattle.std.specs.Cmp.{tied_itself}
use Rattle.std.specs.FinMap.Entries.{find}
use Rattle.std.proofs.lemmas.List.Sums.{sum_by-cons}
use Rattle.htl_event.specs.Events.{Event}
use Rattle.htl_event.proofs.Counts.{count_by-append}
use Rattle.htl_sorted.proofs.Places.{turn}
use Rattle.htl_lemmas.proofs.Tests.{both_left}
use Rattle.htl_tables.specs.Keys.{key_cmp, key_of, keyed, ByKey}
use Rattle.htl_tables.specs.Placing.{missing}
use Rattle.htl_tables.proofs.KeyOrder.{key_total}
use Rattle.htl_tables.proofs.SortedRows.{Sorted, none_before, find_last, sorted_behind, sorted_insert, sorted_changed, below_one}

-- 1 where there is no row with the key of the event
abbrev lacks : List Event → Event → ℕ
lacks older e = cond (is_none (find key_cmp (key_of e) (keyed older))) 1 0

-- an older row above all newer ones doesn't count
missing_below : (xs ys : List Event) (x : Event) (zs : List Event) → find key_cmp (key_of x) (keyed xs) ≡ None → Sorted (ys ++ x ∷ zs)
    → missing (xs ++ x ∷ []) ys ≡ missing xs ys
missing_below xs [] x zs none h = refl
missing_below xs (y ∷ ys) x zs none h =
    let lt : key_cmp (key_of y) (key_of x) ≡ Less = below_one (key_of y) ys x zs (both_left _ _ h) in
    let same : find key_cmp (key_of y) (keyed (xs ++ x ∷ [])) ≡ find key_cmp (key_of y) (keyed xs) =
    find_last (key_of y) xs x none ∙ ap (λ r. cond (is_eq r) (Some x) (find key_cmp (key_of y) (keyed xs))) lt in
    let tests : lacks (xs ++ x ∷ []) y ≡ lacks xs y = ap (λ o. cond (is_none o) 1 0) same in
    let rest = missing_below xs ys x zs none (sorted_behind (y ∷ []) (ys ++ x ∷ zs) h) in
    let one : missing (xs ++ x ∷ []) (y ∷ ys) ≡ lacks (xs ++ x ∷ []) y + missing (xs ++ x ∷ []) ys =
    sum_by-cons (λ e. lacks (xs ++ x ∷ []) e) y ys in
    let other : missing xs (y ∷ ys) ≡ lacks xs y + missing xs ys = sum_by-cons (λ e. lacks xs e) y ys in
    omega (arith, tests, rest, one, other)

missing_last : (xs ys : List Event) (e : Event) → missing xs (ys ++ e ∷ []) ≡ missing xs ys + lacks xs e
missing_last xs ys e =
    let sum : missing xs (ys ++ e ∷ []) ≡ missing xs ys + missing xs (e ∷ []) =
    count_by-append (λ y. is_none (find key_cmp (key_of y) (keyed xs))) ys (e ∷ []) in
    let one : missing xs (e ∷ []) ≡ lacks xs e + 0 = sum_by-cons (λ y. lacks xs y) e [] in
    omega (arith, sum, one)

-- a newer row whose key no older row has counts
pub missing_one : (xs ys : List Event) (e : Event) → find key_cmp (key_of e) (keyed xs) ≡ None
    → missing xs (ys ++ e ∷ []) ≡ missing xs ys + 1
missing_one xs ys e none =
    missing_last xs ys e ∙ ap (λ o. missing xs ys + cond (is_none o) 1 0) none

module _ (xs ys : List Event) (x e : Event) (older : Sorted (xs ++ x ∷ [])) (newer : Sorted (ys ++ e ∷ [])) where
  -- the last older row doesn't count where its key is above all newer ones
  pub missing_moved : key_cmp (key_of x) (key_of e) ≡ Greater → missing (xs ++ x ∷ []) (ys ++ e ∷ []) ≡ missing xs (ys ++ e ∷ [])
  missing_moved gt =
      let lt : ByKey e x = turn key_total (key_of x) (key_of e) Greater gt in
      missing_below xs (ys ++ e ∷ []) x [] (none_before xs x [] older)
      (subst Sorted (sym (append_assoc ys (e ∷ []) (x ∷ []))) (sorted_insert ys e x [] newer lt tt))

  -- last rows with one key don't count
  pub missing_met : key_of x ≡ key_of e → missing (xs ++ x ∷ []) (ys ++ e ∷ []) ≡ missing xs ys
  missing_met same =
      let found : find key_cmp (key_of e) (keyed (xs ++ x ∷ [])) ≡ Some x =
      find_last (key_of e) xs x (none_before xs x [] older)
      ∙ ap (λ r. cond (is_eq r) (Some x) (find key_cmp (key_of e) (keyed xs)))
      (ap (λ k. key_cmp k (key_of x)) (sym same) ∙ tied_itself key_total (key_of x)) in
      let last : missing (xs ++ x ∷ []) (ys ++ e ∷ []) ≡ missing (xs ++ x ∷ []) ys + 0 =
      missing_last (xs ++ x ∷ []) ys e ∙ ap (λ o. missing (xs ++ x ∷ []) ys + cond (is_none o) 1 0) found in
      let rest : missing (xs ++ x ∷ []) ys ≡ missing xs ys =
      missing_below xs ys x [] (none_before xs x [] older) (sorted_changed ys e x [] (sym same) newer) in
      omega (arith, last, rest)

  -- where the last older row's key is below that of the last newer row, no older row has this
  pub none_above : key_cmp (key_of x) (key_of e) ≡ Less → find key_cmp (key_of e) (keyed (xs ++ x ∷ [])) ≡ None
  none_above lt = none_before (xs ++ x ∷ []) e [] (subst Sorted (sym (append_assoc xs (x ∷ []) (e ∷ []))) (sorted_insert xs x e [] older lt tt))

-- where there is no older row, all newer ones are missing
pub missing_all : (xs ys : List Event) → length xs ≡ 0 → missing xs ys ≡ length ys
missing_all [] [] none = refl
missing_all [] (y ∷ ys) none =
    let one : missing [] (y ∷ ys) ≡ 1 + missing [] ys = sum_by-cons (λ e. lacks [] e) y ys in
    let rest = missing_all [] ys none in
    omega (arith, one, rest)
missing_all (x ∷ xs) ys some = absurd (omega (arith, some))

-- where there is no newer row, none is missing
pub missing_none : (xs ys : List Event) → length ys ≡ 0 → missing xs ys ≡ length ys
missing_none xs [] none = refl
missing_none xs (y ∷ ys) some = absurd (omega (arith, some))
