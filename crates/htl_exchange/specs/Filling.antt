-- For the clauses of private functions: how the queue is filled, run by run.
use Rattle.std.specs.Prelude.{◌≡◌, ◌⊎◌, ℕ, zero, suc, ◌+◌, Bool, false, ◌&&◌, leb, List, [], if◌then◌else◌}
use Rattle.htl_segment.specs.Traces.{Trace}
use Rattle.htl_exchange.specs.declared.pass.Known.{Known}
use Rattle.htl_exchange.specs.Runs.{has, runs_of}
use Rattle.htl_exchange.specs.Rule.{all_parts}
use Rattle.htl_exchange.specs.Moves.{left_of}

-- how many processors below this one have a run
abbrev pub runs_below : List Bool → ℕ → ℕ
runs_below runs zero = 0
runs_below runs (suc p) = runs_below runs p + (if has runs p then 1 else 0)

-- the runs of the processors below this one are in the queue
pub record FillsTo (T : Trace) (p : ℕ) (v : Known) : Type 0 where
  pub parts : v.parts ≡ all_parts
  pub log : v.log ≡ []
  pub trace : (v.trace.segments ≡ []) ⊎ (v.trace ≡ T)
  pub pushes : v.pushes ≡ runs_below (runs_of T.segments) p
  pub left : (q : ℕ) → has (left_of T v.trace.segments v.got) q ≡ (has (runs_of T.segments) q && leb p q)

-- a pass with this number of parts that has got nothing, and with which nothing was done
pub record IsIdle (T : Trace) (count : ℕ) (v : Known) : Type 0 where
  pub trace : v.trace ≡ T
  pub parts : v.parts ≡ count
  pub log : v.log ≡ []
  pub got : (p : ℕ) → has v.got p ≡ false
