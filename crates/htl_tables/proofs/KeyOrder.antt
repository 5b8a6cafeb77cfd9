-- The order of keys, by process and then by base handle, is total and strict.
use Rattle.std.proofs.Common.{◌≡◌, ℕ, ◌==◌, ◌&&◌, arith}
use Rattle.std.specs.Ordering.{eq_by_cmp}
use Rattle.std.specs.Cmp.{IsTotalOrder, then_total, on_total, nat_cmp_total}
use Rattle.std.proofs.lemmas.Bool.Decides.{nat_tests}
use Rattle.htl_event.specs.Members.{IsStrictOrder}
use Rattle.htl_event.proofs.Orders.{strict_from_total}
use Rattle.htl_tables.specs.Keys.{key_cmp, key_of, ByKey}

-- the order of keys, by process and then by base handle, is total
pub key_total : IsTotalOrder key_cmp
key_total = then_total (on_total (λ (x : ℕ × ℕ). x.0) nat_cmp_total) (on_total (λ (x : ℕ × ℕ). x.1) nat_cmp_total)

-- whether two keys tie, number by number
pub key_test : (x y : ℕ × ℕ) → eq_by_cmp key_cmp x y ≡ ((y.0 == x.0) && (y.1 == x.1))
key_test x y = grind (arith, nat_tests)

-- the order of events by their keys is strict
pub ByKey-strict : IsStrictOrder ByKey
ByKey-strict =
    let keys = strict_from_total key_total in
    record { irreflexive = λ a. keys.irreflexive (key_of a); transitive = λ a b c. keys.transitive (key_of a) (key_of b) (key_of c) }
