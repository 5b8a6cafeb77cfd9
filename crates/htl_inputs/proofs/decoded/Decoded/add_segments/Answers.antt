-- The span of the new segments stands behind the others.
use Rattle.std.proofs.Common.{◌≡◌, ◌∙◌, length, length-append, ap, arith}
use Rattle.std.proofs.lemmas.Grind.{common_steps}
use Rattle.htl_inputs.proofs.SpanLaws.{spans_more}
use Rattle.htl_inputs.proofs.decoded.Decoded.add_segments.Goals as goal

pub returns-clause-spans : goal.returns-clause-spans
returns-clause-spans c = λ form inputs text here decoded are.
    let segments = c.args.self.now.segments.items in
    let more = c.args.more.items in
    let end : c.len.result ≡ length c.append.new.self.items = grind (arith, common_steps) in
    rw (c.in_ok-append.ensures.items, c.in_ok-push.ensures.items) (spans_more form inputs segments more c.args.self.now.spans.items
    (record { input = c.args.input; end = c.len.result }) text here decoded
    (end ∙ ap length c.in_ok-append.ensures.items) (length-append segments more) are)
