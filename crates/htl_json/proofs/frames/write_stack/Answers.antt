-- A stack is one field: an array whose items are the frames.
use Rattle.std.proofs.Common.{codes, map, subst, sym}
use Rattle.std.proofs.lemmas.List.Folds.{flat_map-map}
use Rattle.std.proofs.lemmas.Result.{on_ok_weaker}
use Rattle.std.specs.List.{flat_map}
use Rattle.json.specs.Tree.{json_tokens}
use Rattle.htl_json.proofs.Depths.{depth_of_stack}
use Rattle.htl_json.proofs.Line.{array_added}
use Rattle.htl_json.specs.Frames.{frame, stack_fields}
use Rattle.htl_json.specs.Writing.{AddsTokens}
use Rattle.htl_json.proofs.frames.write_stack.Goals as goal

pub returns : goal.returns
unfolding stack_fields
returns c =
    let show = frame c.args.symbols.now in
    let frames = c.args.stack.now in
    let begun = c.begin_array.new.self in
    let written = c.write_frames.new.lines in
    let shown = subst (λ fs. AddsTokens begun written (flat_map (λ address. json_tokens (show address)) fs)) c.frames.ensures.value
    c.in_ok-write_frames.ensures in
    let items = subst (AddsTokens begun written) (sym (flat_map-map json_tokens show frames)) shown in
    on_ok_weaker c.end_array.result
    (array_added (codes "stack") (map show frames) c.args.lines.now c.key.new.self begun written c.end_array.new.self
    (depth_of_stack c.args.symbols.now frames) c.in_ok-key.ensures.added c.in_ok-begin_array.ensures items)
    c.end_array.ensures
