-- Keys that compare as equal are equal, as the order of a list's rows has to show.
use Rattle.std.specs.Prelude.{◌≡◌, ℕ, refl}
use Rattle.std.specs.Ordering.{nat_cmp, ordering_then}
use Rattle.std.specs.FinMap.{nat_cmp-IsAntisymmetric}
use Rattle.std.specs.declared.cmp.Ordering.{Ordering}
use Rattle.std.specs.declared.cmp.Ordering.TheVariants.{Less, Equal, Greater}
use Rattle.std.proofs.Common.{ap, ◌∙◌}
use Rattle.htl_tables.specs.Keys.{key_cmp}

both_tied : (r s : Ordering) → ordering_then r s ≡ Equal → (r ≡ Equal) × (s ≡ Equal)
both_tied Less s e = cc
both_tied Equal s e = (refl, e)
both_tied Greater s e = cc

-- keys that compare as equal are equal
pub key_cmp-equal : (x y : ℕ × ℕ) → key_cmp x y ≡ Equal → x ≡ y
key_cmp-equal x y e =
    let ties = both_tied (nat_cmp x.0 y.0) (nat_cmp x.1 y.1) e in
    let first : x.0 ≡ y.0 = nat_cmp-IsAntisymmetric x.0 y.0 ties.0 in
    let second : x.1 ≡ y.1 = nat_cmp-IsAntisymmetric x.1 y.1 ties.1 in
    ap (λ (n : ℕ). (n, x.1)) first ∙ ap (λ (n : ℕ). (y.0, n)) second
