-- The first fault of records is found by testing them one after the other, as a loop does.
use Rattle.std.proofs.Common.{◌≡◌, ℕ, suc, ◌-◌, ◌+◌, ◌≤◌, ◌<◌, List, length, Bool, Option, Some, None, cond, eqb, refl, sym, ◌∙◌, arith}
use Rattle.htl_segment.specs.declared.version.Version.{Version}
use Rattle.htl_segment.specs.declared.fault.Fault.{Fault}
use Rattle.htl_segment.specs.declared.fault.Fault.TheVariants as faults
use Rattle.htl_segment.specs.Numbers.{number}
use Rattle.htl_segment.specs.Reading.{after_record}
use Rattle.htl_segment.specs.Faults.{record_fault, records_fault}

-- a record without a fault leaves the question to those after it
pub goes_on : (v : Version) (count i last : ℕ) (b : List ℕ) (total : Option Fault) → i < count → record_fault v i last b ≡ None
    → records_fault v (count - i) i last b ≡ total → records_fault v (count - (i + 1)) (i + 1) (number 0 8 b) (after_record b) ≡ total
unfolding records_fault
goes_on v count i last b total lt none so_far =
    let left : count - i ≡ suc (count - (i + 1)) = omega arith in
    let one : records_fault v (count - i) i last b ≡ records_fault v (count - (i + 1)) (i + 1) (number 0 8 b) (after_record b) =
    rw (left, none) refl in
    sym one ∙ so_far

-- where the next record has a fault, and none was found before, it is the first fault of all records
pub stops : (v : Version) (count i last : ℕ) (b : List ℕ) (total : Option Fault) (fault : Fault) → i < count
    → record_fault v i last b ≡ Some fault
    → records_fault v (count - i) i last b ≡ total → total ≡ Some fault
unfolding records_fault
stops v count i last b total fault lt some so_far =
    let left : count - i ≡ suc (count - (i + 1)) = omega arith in
    let one : records_fault v (count - i) i last b ≡ Some fault = rw (left, some) refl in
    sym so_far ∙ one

-- after the last record the bytes ought to end
pub is_done : (v : Version) (count i last : ℕ) (b : List ℕ) (total : Option Fault) (ended : Bool) → count ≤ i → eqb (length b) 0 ≡ ended
    → records_fault v (count - i) i last b ≡ total → total ≡ cond ended None (Some faults.Excess)
unfolding records_fault
is_done v count i last b total ended le test so_far =
    let left : count - i ≡ 0 = omega arith in
    let one : records_fault v (count - i) i last b ≡ cond ended None (Some faults.Excess) = rw (left, test) refl in
    sym so_far ∙ one
