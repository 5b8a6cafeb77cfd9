-- The lines of an equal stack stand at its place, and those of another stack are put there.
use Rattle.std.proofs.Common.{◌≡◌, ◌++◌, ◌∙◌, ap, arith, rules, slice_range, string_bytes}
use Rattle.std.proofs.lemmas.Grind.{common_steps}
use Rattle.std.proofs.lemmas.Str.{IsUtf8-string_bytes}
use Rattle.htl_report.specs.Addresses.{stack_lines}
use Rattle.htl_report.proofs.PrintedPlaces.{from_cuts, has_written, lines_there, printed_at, to_cuts, written_there}
use Rattle.htl_report.proofs.printed.Printed.write_stack.Goals as goal

pub range-requires-clause-start_boundary : goal.range-requires-clause-start_boundary
range-requires-clause-start_boundary c =
    let there =
    printed_at c.fingerprint.result c.len.result c.index.result.now c.requires (c.len.ensures ∙ c.args.self.now.places.ok.0) c.index.ensures in
    rw (c.as_str.ensures.value) (λ some. from_cuts there (IsUtf8-string_bytes c.args.out.now))

pub range-requires-clause-end_boundary : goal.range-requires-clause-end_boundary
range-requires-clause-end_boundary c =
    let there =
    printed_at c.fingerprint.result c.len.result c.index.result.now c.requires (c.len.ensures ∙ c.args.self.now.places.ok.0) c.index.ensures in
    rw (c.as_str.ensures.value) (to_cuts there (IsUtf8-string_bytes c.args.out.now))

pub returns-then-eq-clause-text : goal.returns-then-eq-clause-text
returns-then-eq-clause-text c =
    let place = c.index.result.now in
    let same : place.frames.now ≡ c.args.stack.now = search rules in
    let there = printed_at c.fingerprint.result c.len.result place c.requires (c.len.ensures ∙ c.args.self.now.places.ok.0) c.index.ensures in
    let copied : c.range.result.now ≡ stack_lines c.args.symbols.now c.args.stack.now =
    c.range.ensures.value ∙ ap (λ text. slice_range text place.from place.to) c.as_str.ensures.value
    ∙ lines_there there ∙ ap (stack_lines c.args.symbols.now) same in
    let lines : c.as_str-then-eq.result.now ≡ stack_lines c.args.symbols.now c.args.stack.now =
    c.as_str-then-eq.ensures.value ∙ c.in_ok-push_str.ensures.bytes ∙ ap (λ text. text ++ c.range.result.now) c.clear.ensures.bytes ∙ copied in
    grind (arith, common_steps, lines, c.push_str-then-eq.ensures.bytes)

pub returns-clause-kept : goal.returns-clause-kept
returns-clause-kept c =
    has_written _ _ c.in_ok-write_stack.ensures c.requires
    (written_there c.args.symbols.now (string_bytes c.args.out.now) (string_bytes c.write_stack.new.out) _ c.in_ok-write_stack.ensures
    (search rules) (search rules) (IsUtf8-string_bytes c.args.out.now) (IsUtf8-string_bytes c.write_stack.new.out))
