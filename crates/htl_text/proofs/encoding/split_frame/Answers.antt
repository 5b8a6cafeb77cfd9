-- Two blanks, an address and a line feed are the line of the frame.
use Rattle.std.proofs.Common.{◌≡◌, ◌++◌, ◌∷◌, ◌∙◌, [], sym, take-append-drop}
use Rattle.htl_text.proofs.FrameLines.{begun_with, frame_first}
use Rattle.htl_text.proofs.encoding.split_frame.Goals as goal

pub returns-clause-line : goal.returns-clause-line
returns-clause-line c =
    let blanks = c.in_ok-strip_prefix.ensures.cases in
    let cut = c.in_ok-address.ensures.cases in
    let feed = c.in_ok-rest.ensures.cases in
    let line = begun_with (32 ∷ 32 ∷ []) c.args.text.now c.in_ok-strip_prefix.field-0.now blanks.0 blanks.1 in
    let parts = sym (take-append-drop 18 c.in_ok-strip_prefix.field-0.now) in
    let behind = begun_with (10 ∷ []) c.in_ok-address.rest.now c.in_ok-rest.rest.now feed.0 feed.1 in
    let text : c.args.text.now ≡ 32 ∷ 32 ∷ (c.in_ok-address.address.now ++ 10 ∷ c.in_ok-rest.rest.now) =
    rw (cut.1, ← behind, cut.2) (rw parts at line) in
    frame_first c.args.text.now c.in_ok-rest.rest.now c.in_ok-address.address.now c.in_ok-frame_value.field-0 text
    (sym c.frame_value.ensures ∙ c.in_ok-frame_value.was)
