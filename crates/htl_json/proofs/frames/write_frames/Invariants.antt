-- The frames so far were added.
use Rattle.std.proofs.Common.{take}
use Rattle.std.specs.List.{flat_map}
use Rattle.json.specs.Tree.{json_tokens}
use Rattle.htl_json.specs.Frames.{frame}
use Rattle.htl_json.specs.Writing.{AddsTokens}
use Rattle.htl_json.proofs.frames.write_frames.Given as goal

abbrev pub invariant-loop-address : goal.invariant-loop-address
invariant-loop-address l =
    AddsTokens l.initial.lines l.lines (flat_map (λ address. json_tokens (frame l.symbols address)) (take l.address-index l.frames))
