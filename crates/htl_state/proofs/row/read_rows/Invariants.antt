-- The rows so far, and those left, are all.
use Rattle.std.proofs.Common.{◌≡◌, ◌-◌, []}
use Rattle.htl_state.specs.Reading.{rows_in}
use Rattle.htl_state.proofs.row.read_rows.Given as goal

abbrev pub invariant-loop-place : goal.invariant-loop-place
invariant-loop-place g l =
    rows_in g.R.Row.format l.setting (l.count - l._place) l.rows.items l.rest ≡ rows_in g.R.Row.format l.setting l.count [] l.bytes
