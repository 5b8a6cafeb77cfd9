-- What the code of taking and settling makes of a state is what the steps make of it.
use Rattle.std.proofs.Common.{◌≡◌, ◌≤◌, ◌<◌, ℕ, Bool, true, false, if◌then◌else◌, List, length, slice_set, insert}
use Rattle.std.proofs.Common.{drop, get_or, Result, Ok, Err, IfOk, is_err, not, refl, sym, ap, ◌∙◌, arith}
use Rattle.std.proofs.lemmas.Bool.{false≢true}
use Rattle.std.proofs.lemmas.List.{get_or_default}
use Rattle.htl_event.specs.declared.memory.NoMemory.{NoMemory}
use Rattle.htl_segment.specs.Content.{Content}
use Rattle.htl_taken.specs.Numbers.{Numbers, numbers_at, loose_at, with_loose, settled}
use Rattle.htl_taken.specs.Rising.{gap_of}
use Rattle.htl_taken.proofs.Rising.{gap_within}
use Rattle.htl_analyst.specs.States.{Folded, Part, part, no_part, part_at, held_at, State, state}
use Rattle.htl_analyst.specs.Right.{IsPart}
use Rattle.htl_analyst.specs.Steps.{with_segment}
use Rattle.htl_analyst.specs.StepParts.{run_length, settled_with}
use Rattle.htl_analyst.proofs.Held.{length-numbers}

-- the part that was read is that of the processor
pub part_read : (ls : List Part) (p : ℕ) (now k : Part) → p < length ls → now ≡ get_or ls p now → k ≡ now → k ≡ part_at ls p
part_read ls p now k lt read is = is ∙ read ∙ get_or_default ls p now no_part lt

-- a number that wasn't taken is inserted
pub inserted : (r : Result Bool NoMemory) (old new more : List Numbers) (known : Bool) → is_err r ≡ false
    → IfOk r (λ fresh. fresh ≡ not known)
    → IfOk r (λ fresh. new ≡ (if fresh then more else old)) → known ≡ false → new ≡ more
inserted (Ok true) old new more known e fresh value absent = value
inserted (Ok false) old new more known e fresh value absent = absurd (false≢true (fresh ∙ ap not absent))
inserted (Err x) old new more known e fresh value absent = cc

-- the gap of a number is inside the held list
pub gap_inside : (id count p : ℕ) (q : Numbers) (k : Part) → IsPart id count p q k → (n : ℕ) → gap_of n q.loose ≤ length k.held
gap_inside id count p q k is n =
    let within = gap_within n q.loose in
    let same = ap length is.numbers in
    let len = length-numbers k.held in
    omega (arith, within, same, len)

-- the loose number put in its gap, with the segment at the same place of the held list, makes the state with the segment
pub hold_made : (a now : State) (s : Content) (p i n place : ℕ) (read : Part) (held kept more : List Content) (folded : Folded)
    (ts : List Numbers)
    → a ≡ now → p ≡ s.processor → i ≡ p → n ≡ s.number → p < length a.parts → read ≡ get_or a.parts i read → part held folded ≡ read
    → place ≡ gap_of n (loose_at a.taken p) → ts ≡ slice_set a.taken p (with_loose (numbers_at a.taken p) n) → kept ≡ held
    → more ≡ insert kept place s
    → state a.trace_id a.processors ts (slice_set a.parts i (part more folded)) ≡ with_segment now s
hold_made a now s p i n place read held kept more folded ts ea ep ei en lt er el eg et ek em =
    let er' : read ≡ get_or a.parts p read = er ∙ ap (λ (j : ℕ). get_or a.parts j read) ei in
    let l : part held folded ≡ part_at a.parts p = part_read a.parts p read (part held folded) lt er' el in
    let eheld : held ≡ held_at a.parts p = ap (λ (k : Part). k.held) l in
    let efolded : folded ≡ (part_at a.parts p).folded = ap (λ (k : Part). k.folded) l in
    let whole : more ≡ insert (held_at a.parts p) (gap_of n (loose_at a.taken p)) s =
    em ∙ ap (λ (ks : List Content). insert ks place s) (ek ∙ eheld) ∙ ap (λ (j : ℕ). insert (held_at a.parts p) j s) eg in
    let parts : slice_set a.parts i (part more folded) ≡ slice_set a.parts p
    (part (insert (held_at a.parts p) (gap_of n (loose_at a.taken p)) s) (part_at a.parts p).folded) =
    ap (λ (j : ℕ). slice_set a.parts j (part more folded)) ei
    ∙ ap (λ (ks : List Content). slice_set a.parts p (part ks folded)) whole
    ∙ ap (λ (d : Folded). slice_set a.parts p (part (insert (held_at a.parts p) (gap_of n (loose_at a.taken p)) s) d)) efolded in
    ap (λ (us : List Numbers). state a.trace_id a.processors us (slice_set a.parts i (part more folded))) et
    ∙ ap (λ (ls : List Part). state a.trace_id a.processors (slice_set a.taken p (with_loose (numbers_at a.taken p) n)) ls) parts
    ∙ rw (ep, en) (ap (λ (b : State). with_segment b s) ea)

-- the same for the code that settles
pub settle_made : (a now : State) (p i run : ℕ) (read new : Part) (folded : Folded) (ts : List Numbers)
    → a ≡ now → i ≡ p → p < length a.parts → read ≡ get_or a.parts i read → run ≡ run_length now p
    → ts ≡ slice_set a.taken p (settled (numbers_at a.taken p)) → new ≡ part (drop run read.held) folded
    → state a.trace_id a.processors ts (slice_set a.parts i new) ≡ settled_with now p folded
settle_made a now p i run read new folded ts ea ei lt er ek et en =
    let er' : read ≡ get_or a.parts p read = er ∙ ap (λ (j : ℕ). get_or a.parts j read) ei in
    let l : read ≡ part_at a.parts p = part_read a.parts p read read lt er' refl in
    let ek' : run ≡ run_length a p = ek ∙ ap (λ (x : State). run_length x p) (sym ea) in
    let whole : new ≡ part (drop (run_length a p) (held_at a.parts p)) folded =
    en ∙ ap (λ (k : Part). part (drop run k.held) folded) l ∙ ap (λ (j : ℕ). part (drop j (held_at a.parts p)) folded) ek' in
    ap (λ (us : List Numbers). state a.trace_id a.processors us (slice_set a.parts i new)) et
    ∙ ap (λ (j : ℕ). state a.trace_id a.processors (slice_set a.taken p (settled (numbers_at a.taken p))) (slice_set a.parts j new)) ei
    ∙ ap (λ (k : Part). state a.trace_id a.processors (slice_set a.taken p (settled (numbers_at a.taken p))) (slice_set a.parts p k)) whole
    ∙ ap (λ (x : State). settled_with x p folded) ea
