-- Numbers of processes and of objects add up to no more than all sums of slots do.
use Rattle.std.proofs.Common.{◌≡◌, ℕ, ◌+◌, ◌<◌, ◌≤◌, ◌^◌, cond, ◌==◌, Bool, true, false, List, ◌++◌, Option, Some, refl, arith}
use Rattle.std.specs.Prelude.{Contains}
use Rattle.std.specs.List.{sum_by, filter_map}
use Rattle.htl_event.specs.declared.slot.Slot.{Slot}
use Rattle.htl_event.specs.declared.slot.Slot.TheVariants.{Tagged, Handles, Bad}
use Rattle.htl_event.specs.declared.slot.Count.{Count}
use Rattle.htl_event.specs.declared.summary.ObjectRow.{ObjectRow}
use Rattle.htl_event.specs.Tallies.{total_of, IsPositive}
use Rattle.htl_summary.specs.declared.usage.Usage.{Usage}
use Rattle.htl_summary.specs.Totals.{total_at, CanAddUp}
use Rattle.htl_summary.specs.Usages.{usage_of, both_usages, FitUsages}
use Rattle.htl_summary.specs.ObjectTags.{one_if_unbalanced, tag_of, both_objects, FitObjects}
use Rattle.htl_answers.proofs.NumberSums.{amount, sum_upto, sum_filter_map}
use Rattle.htl_summary.proofs.Totals.{total-fits}

abbrev Sum : Type 0
Sum = Slot × Count

abbrev total : Sum → ℕ
total sum = total_of sum.1

-- a number of rows, where a row has no more of it than its sum comes to
module _ {Row : Type 0} (key : Row → ℕ) (both : Row → Row → Row) (f : Sum → Option Row) (sums : List Sum) (lt : sum_by total sums < 2 ^ 64)
    (before left right after : List Row) (k : ℕ) (x y : Row) (is : filter_map f sums ≡ before ++ (left ++ (right ++ after)))
    (one : total_at key both k left ≡ Some x)
    (two : total_at key both k right ≡ Some y) where
  fits : (field : Row → ℕ) → ((a b : Row) → field (both a b) ≡ field a + field b)
      → ((sum : Sum) → Contains sums sum → amount field (f sum) ≤ total sum) → field x + field y < 2 ^ 64
  fits field adds upto =
      let same = sum_filter_map field f sums in
      let most = sum_upto (λ (sum : Sum). amount field (f sum)) total sums upto in
      total-fits key both field adds (2 ^ 64) (filter_map f sums) before left right after k x y
      (omega (arith, same, most, lt)) is one two

-- ---- processes

abbrev of_sum : Sum → Option Usage
of_sum sum = usage_of sum.0 sum.1

-- what a slot says of a process has no more of a number than the slot's sum comes to
usage_within : (field : Usage → ℕ) (slot : Slot) (count : Count)
    → ((p : ℕ) → field (record { process = p; opens = count.plus; closes = count.minus; bad = 0 }) ≤ total_of count)
    → ((p : ℕ) → field (record { process = p; opens = 0; closes = 0; bad = count.plus }) ≤ total_of count)
    → amount field (usage_of slot count) ≤ total_of count
usage_within field (Handles p) count opened misused = opened p
usage_within field (Bad p h) count opened misused = misused p
usage_within field (Tagged o t) count opened misused = omega arith

abbrev process_of : Usage → ℕ
process_of usage = usage.process

-- where all sums of slots add up to less than 2 ^ 64, what they say of one process can be added up
pub usages_fit : (sums : List Sum) → sum_by total sums < 2 ^ 64
    → CanAddUp process_of both_usages FitUsages (filter_map of_sum sums)
usages_fit sums lt before left right after k x y is one two =
    let all = fits process_of both_usages of_sum sums lt before left right after k x y is one two in (
      all (λ u. u.opens) (λ a b. refl) (λ sum h. usage_within (λ u. u.opens) sum.0 sum.1 (λ p. omega arith) (λ p. omega arith)),
      all (λ u. u.closes) (λ a b. refl) (λ sum h. usage_within (λ u. u.closes) sum.0 sum.1 (λ p. omega arith) (λ p. omega arith)),
      all (λ u. u.bad) (λ a b. refl) (λ sum h. usage_within (λ u. u.bad) sum.0 sum.1 (λ p. omega arith) (λ p. omega arith)),
    )

-- ---- objects

abbrev tag_of_sum : Sum → Option ObjectRow
tag_of_sum sum = tag_of sum.0 sum.1

-- one or nothing is at most one
pub one_at_most : (b : Bool) → cond b 0 1 ≤ 1
one_at_most true = omega arith
one_at_most false = omega arith

-- the row of a tag has no more of a number than the tag's sum comes to
tag_within : (field : ObjectRow → ℕ) (slot : Slot) (count : Count)
    → ((o : ℕ) → field (record { object = o; tags = 1; unbalanced = one_if_unbalanced count; refs = count.plus; derefs = count.minus }) ≤ total_of count)
    → amount field (tag_of slot count) ≤ total_of count
tag_within field (Tagged o t) count upto = upto o
tag_within field (Handles p) count upto = omega arith
tag_within field (Bad p h) count upto = omega arith

abbrev object_of : ObjectRow → ℕ
object_of row = row.object

-- where all sums of slots add up to less than 2 ^ 64, what they say of one object's tags can be added up
pub objects_fit : (sums : List Sum) → sum_by total sums < 2 ^ 64 → ((sum : Sum) → Contains sums sum → IsPositive sum.1)
    → CanAddUp object_of both_objects FitObjects (filter_map tag_of_sum sums)
objects_fit sums lt positive before left right after k x y is one two =
    let all = fits object_of both_objects tag_of_sum sums lt before left right after k x y is one two in
    record {
      fit_tags = all (λ row. row.tags) (λ a b. refl) (λ sum h.
          let some = positive sum h in
          tag_within (λ row. row.tags) sum.0 sum.1 (λ o. omega (arith, some)));
      fit_unbalanced = all (λ row. row.unbalanced) (λ a b. refl) (λ sum h.
          let some = positive sum h in
          let most = one_at_most (sum.1.plus == sum.1.minus) in
          tag_within (λ row. row.unbalanced) sum.0 sum.1 (λ o. omega (arith, some, most)));
      fit_refs = all (λ row. row.refs) (λ a b. refl) (λ sum h. tag_within (λ row. row.refs) sum.0 sum.1 (λ o. omega arith));
      fit_derefs = all (λ row. row.derefs) (λ a b. refl) (λ sum h. tag_within (λ row. row.derefs) sum.0 sum.1 (λ o. omega arith));
    }
