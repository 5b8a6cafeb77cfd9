-- Numbers are covered where the reach is at their front or above it and their loose ones above the own front are loose here too.
use Rattle.std.proofs.Common.{◌≤◌, arith, drop}
use Rattle.std.proofs.lemmas.Bool.{both_ways, lt-leb, le-leb}
use Rattle.htl_taken.specs.declared.TheConstants.{MAX_FRONT}
use Rattle.htl_taken.specs.Rising.{gap_of}
use Rattle.htl_taken.specs.Numbers.{IsProper}
use Rattle.htl_taken.specs.NumberSets.{numbers_of}
use Rattle.htl_taken.proofs.Rising.{Rises-lower, Rises-from_gap, length-Rises}
use Rattle.htl_taken.proofs.Numbers.{covers_by, reach_covered, loose_covered}
use Rattle.htl_taken.proofs.number_set.NumberSet.covers.Goals as goal

pub skip_below-requires : goal.skip_below-requires
skip_below-requires g c =
    let numbers = c.args.other.now in
    rw c.deref.ensures.value (Rises-lower numbers.front 0 MAX_FRONT numbers.loose.items (omega arith) numbers.proper)

pub is_within-requires-clause-numbers : goal.is_within-requires-clause-numbers
is_within-requires-clause-numbers g c =
    let numbers = c.args.self.now in
    let other = c.args.other.now in
    let fits : numbers.front ≤ MAX_FRONT = omega (arith, length-Rises numbers.front MAX_FRONT numbers.loose.items numbers.proper) in
    rw (c.skip_below.ensures, c.deref.ensures.value)
    (Rises-lower numbers.front 0 MAX_FRONT (drop (gap_of numbers.front other.loose.items) other.loose.items) (omega arith)
    (Rises-from_gap other.front MAX_FRONT numbers.front other.loose.items other.proper fits))

pub is_within-requires-clause-all : goal.is_within-requires-clause-all
is_within-requires-clause-all g c =
    let numbers = c.args.self.now in
    rw c.deref-then-other-reach.ensures.value (Rises-lower numbers.front 0 MAX_FRONT numbers.loose.items (omega arith) numbers.proper)

pub returns-then-other-reach : goal.returns-then-other-reach
returns-then-other-reach g c =
    let numbers = c.args.self.now in
    let other = c.args.other.now in
    let h = rw (c.skip_below.ensures, c.deref.ensures.value, c.deref-then-other-reach.ensures.value) at c.is_within.ensures in
    let pa : IsProper (numbers_of numbers) = record { rises = numbers.proper } in
    let pb : IsProper (numbers_of other) = record { rises = other.proper } in
    let ahead = rw c.reach.ensures.value at c.if-other-reach.true in (
      (λ t. covers_by (numbers_of numbers) (numbers_of other) pa pb ahead (h.0 t)),
      (λ all. h.1 (loose_covered (numbers_of numbers) (numbers_of other) pa pb all)),
    )

pub returns-else-other-reach : goal.returns-else-other-reach
returns-else-other-reach g c =
    let numbers = c.args.self.now in
    let other = c.args.other.now in (
      (λ t. absurd (both_ways _ (lt-leb other.front c.reach.result c.if-other-reach.false) t)),
      (λ all. le-leb other.front c.reach.result
          (rw c.reach.ensures.value (reach_covered (numbers_of numbers) (numbers_of other) (record { rises = numbers.proper }) all))),
    )
