-- One processor more adds its size, and all sizes fit into the sum.
use Rattle.std.proofs.Common.{◌≡◌, ◌+◌, ◌<◌, ℕ, arith, length, map, take, get_or, sym, ap, ◌∙◌, List, sum_by}
use Rattle.std.proofs.lemmas.List.{length-map, get_or-map}
use Rattle.std.proofs.lemmas.List.Sums.{sum_by_more}
use Rattle.htl_taken.specs.declared.number_set.NumberSet.{NumberSet}
use Rattle.htl_taken.specs.Numbers.{Numbers, no_numbers, size_of}
use Rattle.htl_taken.specs.NumberSets.{numbers_of}
use Rattle.htl_taken.proofs.taken.Taken.len.Goals as goal

counted_more : {A : Type 0} (sets : List (NumberSet A)) (i : ℕ) (r : NumberSet A) → i < length sets → r ≡ get_or sets i r
    → sum_by size_of (take i (map numbers_of sets)) + size_of (numbers_of r) ≡ sum_by size_of (take (i + 1) (map numbers_of sets))
counted_more {A} sets i r lt is =
    let f : NumberSet A → Numbers = numbers_of in
    let within : i < length (map f sets) = omega (arith, lt, length-map sets f) in
    let at : get_or (map f sets) i no_numbers ≡ f r = get_or-map f sets i r no_numbers lt ∙ ap f (sym is) in
    ap (λ (n : ℕ). sum_by size_of (take i (map f sets)) + n) (ap size_of (sym at))
    ∙ sym (sum_by_more size_of (map f sets) i no_numbers within)

pub loop-numbers-preserved : goal.loop-numbers-preserved
loop-numbers-preserved g c = record {
  counted = rw (c.loop-numbers.invariant.counted, c.len-len.ensures.size)
      (counted_more c.deref-numbers-items.result.now c.loop-numbers.numbers-index c.numbers-item.result c.loop-numbers-test.true
      c.numbers-item.is);
  fits = omega (arith, c.loop-numbers.invariant.fits, c.len-len.ensures.fits);
}
