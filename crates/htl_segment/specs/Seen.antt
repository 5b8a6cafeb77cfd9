-- Which numbers were seen, and whether one of them came twice (this project's own).
use Rattle.std.specs.Prelude.{◌≡◌, ◌≤◌, ◌+◌, ℕ, Bool, true, false, List, slice_index_or, if◌then◌else◌}
use Rattle.htl_segment.specs.Repeated.{times}
use Rattle.htl_segment.specs.declared.seen.Seen.{Seen}

abbrev pub is_marked : List Bool → ℕ → Bool
is_marked marks n = slice_index_or marks n false

-- how often a number has a mark: once or never
abbrev pub mark_count : List Bool → ℕ → ℕ
mark_count marks n = if is_marked marks n then 1 else 0

-- These numbers were seen: each has a mark or stands apart, as often as it came; or it is known that one came twice.
pub record Saw (seen : Seen) (numbers : List ℕ) : Type 0 where
  pub counted :
      seen.comes_twice ≡ false → (n : ℕ) → times n numbers ≡ mark_count seen.marks.items n + times n seen.apart.items
  pub twice : seen.comes_twice ≡ true → (n : ℕ) × (2 ≤ times n numbers)
