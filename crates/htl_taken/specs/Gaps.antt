-- Gaps of a set of keys (this project's own). The set is given as facts: which number each processor has.
use Rattle.std.specs.Prelude.{◌≡◌, ◌⊎◌, Bool, true, ℕ, ◌+◌, ◌<◌, ◌≤◌, List}
use Rattle.htl_event.specs.Members.{Lists}
use Rattle.htl_taken.specs.declared.gap.Gap.{Gap}
use Rattle.htl_taken.specs.declared.gap.Gap.TheVariants.{Between, Absent}

-- All numbers from the one to the other are missing, and no more: the next number is there, and so is the one before, if there is one.
pub record IsMissingRun (has : ℕ → Type 0) (from to : ℕ) : Type 0 where
  pub order : from ≤ to
  pub missing : (n : ℕ) → from ≤ n → n ≤ to → has n → ⊥
  pub next : has (to + 1)
  pub before : (n : ℕ) → n + 1 ≡ from → has n

-- Gap: such a run of a processor, or a processor that has no number.
abbrev pub IsGap : (ℕ → ℕ → Type 0) → ℕ → Gap → Type 0
IsGap has processors (Between p from to) = (p < processors) × IsMissingRun (has p) from to
IsGap has processors (Absent p) = (p < processors) × ((n : ℕ) → has p n → ⊥)

abbrev pub processor_of : Gap → ℕ
processor_of (Between p from to) = p
processor_of (Absent p) = p

abbrev pub first_of : Gap → ℕ
first_of (Between p from to) = from
first_of (Absent p) = 0

-- by processor, and then by number
abbrev pub IsGapBefore : Gap → Gap → Type 0
IsGapBefore a b = (processor_of a < processor_of b) ⊎ ((processor_of a ≡ processor_of b) × (first_of a < first_of b))

-- Gaps: all gaps, by processor and then by number.
abbrev pub IsGaps : (ℕ → ℕ → Type 0) → ℕ → List Gap → Type 0
IsGaps has processors gaps = Lists IsGapBefore (IsGap has processors) gaps

-- a key set has one list of gaps, and sets with the same keys have equal lists
abbrev pub GapsAreDetermined : Type 0
GapsAreDetermined = (S R : ℕ → ℕ → Bool) (processors : ℕ) (a b : List Gap) → ((p n : ℕ) → p < processors → S p n ≡ R p n)
    → IsGaps (λ p n. S p n ≡ true) processors a → IsGaps (λ p n. R p n ≡ true) processors b → a ≡ b
