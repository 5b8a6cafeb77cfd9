-- No list of a state has more rows than its spelling has bytes.
use Rattle.std.proofs.Common.{ℕ, zero, suc, ◌+◌, ◌<◌, ◌≤◌, List, [], ◌∷◌, ◌++◌, length, get_or, arith}
use Rattle.std.specs.List.{flat_map}
use Rattle.std.proofs.lemmas.List.{length-append}
use Rattle.htl_segment.specs.Numbers.{bytes_of}
use Rattle.htl_segment.specs.Content.{Content, kind_code}
use Rattle.htl_segment.specs.Encoding.{encoding, records}
use Rattle.htl_segment.specs.Encoding.{header_bytes as segment_header}
use Rattle.htl_segment.proofs.Bytes.{length-bytes_of}
use Rattle.htl_state.specs.declared.rows.CountRow.{CountRow}
use Rattle.htl_state.specs.declared.rows.LatestRow.{LatestRow}
use Rattle.htl_state.specs.Checksum.{checksum}
use Rattle.htl_state.specs.Rows.{Part, State}
use Rattle.htl_state.specs.Format.{stack_bytes, slot_bytes, count_bytes, latest_bytes, moment_bytes, list_bytes, front_bytes, part_bytes}
use Rattle.htl_state.specs.Format.{header_bytes, body_bytes, sealed, spelling}

-- ---- rows

-- bytes in front make no bytes fewer
right_le : (a b : List ℕ) → length b ≤ length (a ++ b)
right_le a b = omega (arith, length-append a b)

left_le : (a b : List ℕ) → length a ≤ length (a ++ b)
left_le a b = omega (arith, length-append a b)

some_stack : (stack : List ℕ) → 0 < length (stack_bytes stack)
unfolding stack_bytes
some_stack stack = omega arith

-- a number of some bytes at the front
some_front : (n x : ℕ) (rest : List ℕ) → 0 < n → 0 < length (bytes_of n x ++ rest)
some_front n x rest some = omega (arith, length-append (bytes_of n x) rest, length-bytes_of n x)

some_count : (row : CountRow) → 0 < length (count_bytes row)
unfolding count_bytes
some_count row =
    let front = bytes_of 4 row.stack ++ slot_bytes row.slot ++ bytes_of 8 row.count.plus in
    omega (arith, length-append front (bytes_of 8 row.count.minus), length-bytes_of 8 row.count.minus)

some_latest : (row : LatestRow) → 0 < length (latest_bytes row)
unfolding latest_bytes
some_latest row =
    let times = bytes_of 8 row.sequence ++ bytes_of 4 (kind_code row.kind) in
    let front = times ++ bytes_of 4 row.process ++ bytes_of 4 row.thread ++ bytes_of 4 row.handle in
    omega (arith, length-append front (bytes_of 4 row.stack), length-bytes_of 4 row.stack)

some_moment : (row : ℕ × ℕ) → 0 < length (moment_bytes row)
unfolding moment_bytes
some_moment row = some_front 4 row.0 (bytes_of 8 row.1) (omega arith)

some_header : (s : Content) (size : ℕ) → 0 < length (segment_header s size)
unfolding segment_header
some_header s size = omega arith

some_segment : (s : Content) → 0 < length (encoding s)
some_segment s =
    let size = length (records s.events) in omega (arith, length-append (segment_header s size) (records s.events), some_header s size)

-- ---- lists

module _ {Row : Type 0} (f : Row → List ℕ) where
  each_row : ((row : Row) → 0 < length (f row)) → (rows : List Row) → length rows ≤ length (flat_map f rows)
  each_row some [] = omega arith
  each_row some (row ∷ rows) = omega (arith, length-append (f row) (flat_map f rows), some row, each_row some rows)

  list_rows : ((row : Row) → 0 < length (f row)) → (rows : List Row) → length rows ≤ length (list_bytes f rows)
  unfolding list_bytes
  list_rows some rows = omega (arith, length-append (bytes_of 8 (length rows)) (flat_map f rows), each_row some rows)

  one_row : (rows : List Row) (i : ℕ) (d : Row) → i < length rows → length (f (get_or rows i d)) ≤ length (flat_map f rows)
  one_row [] i d lt = absurd (omega (arith, lt))
  one_row (row ∷ rows) zero d lt = left_le (f row) (flat_map f rows)
  one_row (row ∷ rows) (suc i) d lt =
      omega (arith, length-append (f row) (flat_map f rows), one_row rows i d (omega (arith, lt)))

-- ---- parts

-- each list of a part has no more rows than this
pub record HasFew (n : ℕ) (p : Part) : Type 0 where
  pub counts : length p.counts ≤ n
  pub latest : length p.latest ≤ n
  pub marks : length p.marks ≤ n
  pub exits : length p.exits ≤ n
  pub held : length p.held ≤ n

few_in_part : (p : Part) → HasFew (length (part_bytes p)) p
unfolding part_bytes
few_in_part p =
    let b1 = front_bytes p in
    let b2 = list_bytes count_bytes p.counts in
    let b3 = list_bytes latest_bytes p.latest in
    let b4 = list_bytes moment_bytes p.marks in
    let b5 = list_bytes moment_bytes p.exits in
    let b6 = list_bytes encoding p.held in
    let l6 = length-append (b1 ++ b2 ++ b3 ++ b4 ++ b5) b6 in
    let l5 = length-append (b1 ++ b2 ++ b3 ++ b4) b5 in
    let l4 = length-append (b1 ++ b2 ++ b3) b4 in
    let l3 = length-append (b1 ++ b2) b3 in
    let l2 = length-append b1 b2 in
    record {
      counts = omega (arith, l2, l3, l4, l5, l6, list_rows count_bytes some_count p.counts);
      latest = omega (arith, l3, l4, l5, l6, list_rows latest_bytes some_latest p.latest);
      marks = omega (arith, l4, l5, l6, list_rows moment_bytes some_moment p.marks);
      exits = omega (arith, l5, l6, list_rows moment_bytes some_moment p.exits);
      held = omega (arith, l6, list_rows encoding some_segment p.held);
    }

-- ---- the whole

body_le : (s : State) → length (body_bytes s) ≤ length (spelling s)
unfolding sealed
body_le s =
    let body = body_bytes s in
    let all = body ++ bytes_of 8 (length body + 16) in
    omega (arith, length-append body (bytes_of 8 (length body + 16)), length-append all (bytes_of 8 (checksum all)))

stacks_le : (s : State) → length s.stacks ≤ length (body_bytes s)
unfolding body_bytes
stacks_le s =
    let table = list_bytes stack_bytes s.stacks in
    omega (
      arith,
      length-append (header_bytes s ++ table) (flat_map part_bytes s.parts),
      length-append (header_bytes s) table,
      list_rows stack_bytes some_stack s.stacks,
    )

parts_le : (s : State) → length (flat_map part_bytes s.parts) ≤ length (body_bytes s)
unfolding body_bytes
parts_le s = right_le (header_bytes s ++ list_bytes stack_bytes s.stacks) (flat_map part_bytes s.parts)

pub few_stacks : (s : State) → length s.stacks ≤ length (spelling s)
few_stacks s = omega (arith, stacks_le s, body_le s)

pub few_at : (s : State) (i : ℕ) (d : Part) → i < length s.parts → HasFew (length (spelling s)) (get_or s.parts i d)
few_at s i d lt =
    let few = few_in_part (get_or s.parts i d) in
    let one = one_row part_bytes s.parts i d lt in
    let most = parts_le s in
    let all = body_le s in
    record {
      counts = omega (arith, few.counts, one, most, all);
      latest = omega (arith, few.latest, one, most, all);
      marks = omega (arith, few.marks, one, most, all);
      exits = omega (arith, few.exits, one, most, all);
      held = omega (arith, few.held, one, most, all);
    }
