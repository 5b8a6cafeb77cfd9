-- Sums of numbers over lists agree where their terms do, and sums of sums are one either way round.
use Rattle.std.proofs.Common.{◌≡◌, ℕ, ◌+◌, ◌≤◌, Bool, true, false, cond, List, [], ◌∷◌, Option, Some, None, refl, sym, ap, ◌∙◌, arith}
use Rattle.std.specs.Prelude.{Contains}
use Rattle.std.specs.List.{sum_by, filter_map, cons_option}
use Rattle.std.proofs.lemmas.List.Sums.{sum_by-cons}
use Rattle.htl_event.proofs.Members.{Contains-here, Contains-there}

-- where no term is above the other sum's, the sum isn't
pub sum_upto : {X : Type 0} (f g : X → ℕ) (xs : List X) → ((x : X) → Contains xs x → f x ≤ g x) → sum_by f xs ≤ sum_by g xs
sum_upto f g [] upto = omega arith
sum_upto f g (x ∷ xs) upto =
    let head = upto x (Contains-here x xs) in
    let rest = sum_upto f g xs (λ y h. upto y (Contains-there x xs y h)) in
    let left = sum_by-cons f x xs in
    let right = sum_by-cons g x xs in
    omega (arith, head, rest, left, right)

-- equal terms at each member
pub sum_same : {X : Type 0} (f g : X → ℕ) (xs : List X) → ((x : X) → Contains xs x → f x ≡ g x) → sum_by f xs ≡ sum_by g xs
sum_same f g xs same =
    let upto = sum_upto f g xs (λ x h. let e = same x h in omega (arith, e)) in
    let from = sum_upto g f xs (λ x h. let e = same x h in omega (arith, e)) in
    omega (arith, upto, from)

-- zeros add up to zero
pub sum_zero : {X : Type 0} (xs : List X) → sum_by (λ (x : X). 0) xs ≡ 0
sum_zero [] = refl
sum_zero {X} (x ∷ xs) = let rest = sum_zero xs in let both = sum_by-cons (λ (y : X). 0) x xs in omega (arith, rest, both)

pub sum_plus : {X : Type 0} (f g : X → ℕ) (xs : List X) → sum_by (λ x. f x + g x) xs ≡ sum_by f xs + sum_by g xs
sum_plus f g [] = refl
sum_plus {X} f g (x ∷ xs) =
    let rest = sum_plus f g xs in
    let both = sum_by-cons (λ (y : X). f y + g y) x xs in
    let left = sum_by-cons f x xs in
    let right = sum_by-cons g x xs in
    omega (arith, rest, both, left, right)

-- sums of sums, either way round
pub sum_swap : {X Y : Type 0} (w : X → Y → ℕ) (xs : List X) (ys : List Y)
    → sum_by (λ x. sum_by (w x) ys) xs ≡ sum_by (λ y. sum_by (λ x. w x y) xs) ys
sum_swap {X} {Y} w [] ys = sym (sum_zero ys)
sum_swap {X} {Y} w (x ∷ xs) ys =
    let left = sum_by-cons (λ (z : X). sum_by (w z) ys) x xs in
    let rest = sum_swap w xs ys in
    let each = sum_same (λ (y : Y). sum_by (λ z. w z y) (x ∷ xs)) (λ (y : Y). w x y + sum_by (λ z. w z y) xs) ys
    (λ y h. sum_by-cons (λ z. w z y) x xs) in
    let both = sum_plus (w x) (λ (y : Y). sum_by (λ z. w z y) xs) ys in
    omega (arith, left, rest, each, both)

-- a sum, or zero where a test fails, is the sum of the terms or zeros
pub cond_sum : {X : Type 0} (b : Bool) (f : X → ℕ) (xs : List X) → cond b (sum_by f xs) 0 ≡ sum_by (λ x. cond b (f x) 0) xs
cond_sum true f xs = refl
cond_sum false f xs = sym (sum_zero xs)

-- zero, whichever way a test goes, is zero
pub none_or_none : (b : Bool) → ◌≡◌ {A = ℕ} (cond b 0 0) 0
none_or_none true = refl
none_or_none false = refl

-- ---- numbers of what may be there

-- the number of what is there, or zero where nothing is
abbrev pub amount : {X : Type 0} → (X → ℕ) → Option X → ℕ
amount field None = 0
amount field (Some x) = field x

-- the sum over optional rows that are there is the sum of the amounts over all elements
pub sum_filter_map : {X Y : Type 0} (f : Y → ℕ) (g : X → Option Y) (xs : List X)
    → sum_by f (filter_map g xs) ≡ sum_by (λ x. amount f (g x)) xs
sum_filter_map f g [] = refl
sum_filter_map {X} {Y} f g (x ∷ xs) =
    let rest = sum_filter_map f g xs in
    let right = sum_by-cons (λ (z : X). amount f (g z)) x xs in
    one (g x) (filter_map g xs) ∙ ap (λ n. amount f (g x) + n) rest ∙ sym right
  where
    one : (o : Option Y) (ys : List Y) → sum_by f (cons_option o ys) ≡ amount f o + sum_by f ys
    one None ys = omega arith
    one (Some y) ys = sum_by-cons f y ys
