-- The gaps of one processor, as the code lists them.
use Rattle.std.specs.Prelude.{ℕ, zero, ◌+◌, ◌-◌, nat_lt, if◌then◌else◌, List, [], ◌∷◌}
use Rattle.htl_taken.specs.declared.gap.Gap.{Gap}
use Rattle.htl_taken.specs.declared.gap.Gap.TheVariants.{Between, Absent}

-- The gaps before each of these numbers, which rise. The least number that can be missing is given.
abbrev pub gaps_from : ℕ → ℕ → List ℕ → List Gap
gaps_from p least [] = []
gaps_from p least (n ∷ ns) = if nat_lt least n then Between p least (n - 1) ∷ gaps_from p (n + 1) ns else gaps_from p (n + 1) ns

-- the gaps of a processor with this front and these loose numbers
abbrev pub gaps_of : ℕ → ℕ → List ℕ → List Gap
gaps_of p zero [] = Absent p ∷ []
gaps_of p front loose = gaps_from p front loose
