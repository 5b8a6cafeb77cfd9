-- The parts so far, and those left, are all.
use Rattle.std.proofs.Common.{◌≡◌, ◌-◌, []}
use Rattle.htl_state.specs.Reading.{parts_in}
use Rattle.htl_state.proofs.decoding.read_parts.Given as goal

abbrev pub invariant-loop-processor : goal.invariant-loop-processor
invariant-loop-processor l =
    parts_in l.setting (l.setting.processors - l.processor) l.processor l.parts.items l.rest
    ≡ parts_in l.setting l.setting.processors 0 [] l.bytes
