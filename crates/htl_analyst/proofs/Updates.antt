-- Where the place and the part of one processor are exchanged, those of each other stay.
use Rattle.std.proofs.Common.{◌≡◌, ◌≢◌, ℕ, ◌<◌, List, length, slice_set, sym, ◌∙◌, subst, arith, inl, inr, length-set}
use Rattle.std.proofs.Common.{get_or-set_same, get_or-set_other}
use Rattle.std.proofs.lemmas.Bool.{cases_eq}
use Rattle.htl_taken.specs.Numbers.{Numbers, numbers_at, no_numbers}
use Rattle.htl_segment.specs.Traces.{Trace}
use Rattle.htl_analyst.specs.States.{Part, part_at, no_part, State}
use Rattle.htl_analyst.specs.Right.{IsPart, IsState, IsRightAt, IsRight}
use Rattle.htl_analyst.specs.Steps.{updated}
use Rattle.htl_taken.proofs.NumberSets.{numbers_at-set_same}

-- where one processor's numbers are set, those of each other stay
pub place-set_other : (ps : List Numbers) (p r : ℕ) (q : Numbers) → r ≢ p → numbers_at (slice_set ps p q) r ≡ numbers_at ps r
place-set_other ps p r q ne = get_or-set_other ps p r q no_numbers ne

-- where a processor's part is set, that part is there
pub part-set_same : (ls : List Part) (p : ℕ) (k : Part) → p < length ls → part_at (slice_set ls p k) p ≡ k
part-set_same ls p k lt = get_or-set_same ls p k no_part lt

-- where one processor's part is set, that of each other stays
pub part-set_other : (ls : List Part) (p r : ℕ) (k : Part) → r ≢ p → part_at (slice_set ls p k) r ≡ part_at ls r
part-set_other ls p r k ne = get_or-set_other ls p r k no_part ne

module _ (a : State) (p : ℕ) (q : Numbers) (k : Part) (is : IsState a) (lt : p < a.processors) where
  in_places : p < length a.taken
  in_places = omega (arith, is.places)

  in_parts : p < length a.parts
  in_parts = omega (arith, is.parts)

  -- what holds at each processor of the old state, and of the new place and part, holds at each of the new state
  each_part : (P : ℕ → Numbers → Part → Type 0) → ((r : ℕ) → r < a.processors → P r (numbers_at a.taken r) (part_at a.parts r)) → P p q k
      → (r : ℕ) → r < a.processors → P r (numbers_at (slice_set a.taken p q) r) (part_at (slice_set a.parts p k) r)
  each_part P old here r in_r =
      elim (cases_eq r p) [
        | inl e ↦ subst (λ (n : ℕ). P n (numbers_at (slice_set a.taken p q) n) (part_at (slice_set a.parts p k) n)) (sym e)
            (rw (numbers_at-set_same a.taken p q in_places, part-set_same a.parts p k in_parts) here)
        | inr ne ↦ rw (place-set_other a.taken p r q ne, part-set_other a.parts p r k ne) (old r in_r)
      ]

  -- a state with a proper place and part of one processor put in is a state
  pub IsState-updated : IsPart a.trace_id a.processors p q k → IsState (updated a p q k)
  IsState-updated here = record {
    some = is.some;
    few = is.few;
    places = length-set a.taken p q ∙ is.places;
    parts = length-set a.parts p k ∙ is.parts;
    each = each_part (IsPart a.trace_id a.processors) is.each here;
  }

  -- a state that is right about a trace stays so with a place and a part of one processor that are right about it
  pub IsRight-updated : (T : Trace) → IsRight a T → IsPart a.trace_id a.processors p q k → IsRightAt T p q k → IsRight (updated a p q k) T
  IsRight-updated T right sound here = record {
    collection = right.collection;
    id = right.id;
    processors = right.processors;
    state = IsState-updated sound;
    each = each_part (IsRightAt T) right.each here;
  }
