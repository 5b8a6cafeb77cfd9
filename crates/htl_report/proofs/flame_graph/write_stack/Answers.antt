-- The outermost frame is the last one, and those before it follow it in reverse.
use Rattle.std.proofs.Common.{◌≡◌, ◌++◌, ◌∷◌, [], ℕ, List, ap, append_assoc, codes, refl, reverse, sym, ◌∙◌}
use Rattle.std.proofs.lemmas.List.{reverse-append}
use Rattle.std.proofs.lemmas.Result.{on_ok_weaker}
use Rattle.std.specs.List.{flat_map, join_by}
use Rattle.htl_symbols.specs.Ranges.{Range}
use Rattle.htl_report.specs.Folded.{folded_frame, folded_stack}
use Rattle.htl_report.proofs.flame_graph.write_stack.Goals as goal

abbrev inner_frames : List Range → List ℕ → List ℕ
inner_frames symbols frames = flat_map (λ frame. codes ";" ++ folded_frame symbols frame) (reverse frames)

by_last : (symbols : List Range) (rest : List ℕ) (last : ℕ) → folded_stack symbols (rest ++ last ∷ []) ≡ folded_frame symbols last ++ inner_frames symbols rest
by_last symbols [] last = refl
by_last symbols (frame ∷ rest) last = ap (join_by (folded_frame symbols) (codes ";")) (reverse-append (frame ∷ rest) (last ∷ []))

pub returns-in_ok-write_frame-in-Some : goal.returns-in_ok-write_frame-in-Some
returns-in_ok-write_frame-in-Some c =
    let symbols = c.args.symbols.now in
    let inner = inner_frames symbols c.in-Some.inner.now in
    let whole = ap (folded_stack symbols) c.in-Some.ensures.cases.0 ∙ by_last symbols c.in-Some.inner.now c.in-Some.outermost.now in
    on_ok_weaker c.write_inner.result
    (λ written. written ∙ ap (λ bytes. bytes ++ inner) c.in_ok-write_frame-in-Some.ensures ∙ append_assoc c.args.out.now.items _ inner
    ∙ ap (λ bytes. c.args.out.now.items ++ bytes) (sym whole))
    c.write_inner.ensures
