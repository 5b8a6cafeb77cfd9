-- Two tests are true together where each is, and a comparison that passed a test gave the answer that the test names.
use Rattle.std.proofs.Common.{◌≡◌, ℕ, ◌<◌, Bool, true, false, ◌&&◌, ◌||◌, T, refl, arith}
use Rattle.std.specs.Prelude.{◌↔◌}
use Rattle.std.specs.Ordering.{is_lt, is_eq, nat_cmp}
use Rattle.std.proofs.lemmas.Bool.Decides.{nat_tests}
use Rattle.std.specs.declared.cmp.Ordering.{Ordering}
use Rattle.std.specs.declared.cmp.Ordering.TheVariants.{Less, Equal, Greater}

-- where two tests are true, both together are
pub both : (a b : Bool) → T a → T b → T (a && b)
both true b p q = q
both false b p q = p

-- where two tests are true together, the first is
pub both_left : (a b : Bool) → T (a && b) → T a
both_left true b p = tt
both_left false b p = p

-- where two tests are true together, the second is
pub both_right : (a b : Bool) → T (a && b) → T b
both_right true b p = p
both_right false b p = absurd p

-- of three truth values put together by `or`, the first two may change places
pub or_swap : (a b c : Bool) → (a || (b || c)) ≡ (b || (a || c))
or_swap true true c = refl
or_swap true false c = refl
or_swap false b c = refl

-- what holds exactly where a second fact does, and that exactly where a third, holds exactly where the third does
pub through : {A B C : Type 0} → (A ↔ B) → (B ↔ C) → A ↔ C
through f g = ((λ a. g.0 (f.0 a)), (λ c. f.1 (g.1 c)))

-- a comparison that passes `is_lt` answered Less
pub less : (o : Ordering) → T (is_lt o) → o ≡ Less
less Less p = refl
less Equal p = absurd p
less Greater p = absurd p

-- a comparison that passes `is_eq` answered Equal
pub equal : (o : Ordering) → is_eq o ≡ true → o ≡ Equal
equal Less e = cc
equal Equal e = refl
equal Greater e = cc

-- a number that comes first in order is the lower
pub lower : (x y : ℕ) → nat_cmp x y ≡ Less → x < y
lower x y e = grind (arith, nat_tests)
