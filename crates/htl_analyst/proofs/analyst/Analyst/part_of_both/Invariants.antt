-- The loose numbers so far have their segments, each from one side.
use Rattle.std.proofs.Common.{◌≡◌, ◌⊎◌, map, take}
use Rattle.std.specs.Prelude.{Contains}
use Rattle.std.specs.List.{AllByRecursion}
use Rattle.htl_segment.specs.Content.{Content}
use Rattle.htl_analyst.specs.States.{held_at}
use Rattle.htl_analyst.proofs.analyst.Analyst.part_of_both.Given as goal

abbrev pub invariant-loop-number : goal.invariant-loop-number
invariant-loop-number g l = record {
  numbers : map (λ (s : Content). s.number) l.held.items ≡ take l.number-index l.numbers;
  from : AllByRecursion (λ (s : Content). Contains (held_at l.self.parts l.processor) s ⊎ Contains (held_at l.other.parts l.processor) s)
      l.held.items;
}
