-- Bundles that come in pieces (this project's own).
use Rattle.std.specs.Borrow.{Bor}
use Rattle.std.specs.Prelude.{◌≡◌, ◌⊎◌, ℕ, ◌+◌, ◌-◌, List, ◌++◌, length, take, Bool, true, false, Option, Some, None, Result, Ok, Err}
use Rattle.std.specs.Prelude.{◌==◌, if◌then◌else◌}
use Rattle.std.specs.List.{flat_map}
use Rattle.htl_segment.specs.declared.fault.Fault.{Fault}
use Rattle.htl_segment.specs.declared.fault.Fault.TheVariants as faults
use Rattle.htl_segment.specs.Bundles.{SegmentAt, RestAt, IsPieceRefused, cut_off}

-- What a splitter has: the number of bytes fed, those of them that make no segment yet, and the fault
-- that it answers for good.
pub record SplitterState : Type 0 where
  pub fed : ℕ
  pub rest : List ℕ
  pub fault : Option (ℕ × Fault)

-- where the rest begins among the bytes fed
abbrev pub start_of : SplitterState → ℕ
start_of s = s.fed - length s.rest

-- The refusal of a piece reports where the refused segment begins among all bytes fed.
pub record RefusesPiece (s : SplitterState) (piece : List ℕ) (refusal : ℕ × Fault) : Type 0 where
  pub inside : ℕ
  pub offset_is : refusal.0 ≡ start_of s + inside
  pub refused : IsPieceRefused (s.rest ++ piece) inside refusal.1

abbrev pub is_memory : Fault → Bool
is_memory faults.NoMemory = true
is_memory fault = false

-- After a refusal the fault is kept. Where memory was refused nothing changes.
abbrev pub after_refusal : SplitterState → ℕ × Fault → SplitterState
after_refusal s refusal = if is_memory refusal.1 then s else record s { fault = Some refusal }

abbrev pub ended : Option (ℕ × Fault) → ℕ → List ℕ → Result (Unit {0}) (ℕ × Fault)
ended (Some fault) start rest = Err fault
ended None start rest = if length rest == 0 then Ok tt else Err (start, cut_off rest)

-- what the end of the bytes means
abbrev pub finish_of : SplitterState → Result (Unit {0}) (ℕ × Fault)
finish_of s = ended s.fault (start_of s) s.rest

-- the bytes of the pieces, put together
abbrev pub joined : List (Bor (List ℕ)) → List ℕ
joined pieces = flat_map (λ piece. piece.now) pieces

-- Memory was refused for what begins at this offset of the first pieces: a segment, or the last bytes, which
-- more bytes may complete to one.
pub record AsksMemory (pieces : List (Bor (List ℕ))) (offset : ℕ) : Type 0 where
  pub taken : ℕ
  pub asked : SegmentAt (joined (take taken pieces)) offset ⊎ RestAt (joined (take taken pieces)) offset
