-- Sets of keys. A key is a processor and a segment number, and a set of keys a test on both.
use Rattle.std.specs.Prelude.{◌≡◌, ℕ, Bool, true, ◌||◌, ◌&&◌, ◌==◌, nat_lt}

-- all numbers of one processor below a front
abbrev pub run_below : ℕ → ℕ → ℕ → ℕ → Bool
run_below processor front p n = (p == processor) && nat_lt n front

abbrev pub united : (ℕ → ℕ → Bool) → (ℕ → ℕ → Bool) → ℕ → ℕ → Bool
united S R p n = S p n || R p n

-- no key is in both
abbrev pub AreApart : (ℕ → ℕ → Bool) → (ℕ → ℕ → Bool) → Type 0
AreApart S R = (p n : ℕ) → S p n ≡ true → R p n ≡ true → ⊥
