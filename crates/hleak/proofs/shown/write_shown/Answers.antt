-- One character more is shown, and after the last one all characters of the text were.
use Rattle.std.proofs.Common.{[], List, ℕ, ap, flat_map, map-id, rules, sym, ◌∙◌}
use Rattle.std.proofs.Output.{has_written_append, has_written_of_eq}
use Rattle.std.proofs.lemmas.Iterator.{YieldsList-from_chars}
use Rattle.std.proofs.lemmas.Iterator.Consumers.{YieldsList-end}
use Rattle.std.proofs.lemmas.List.{flat_map_more}
use Rattle.hleak.specs.Shown.{is_kept, shown_char}
use Rattle.hleak.proofs.shown.write_shown.Goals as goal

pub loop-character-preserved : goal.loop-character-preserved
loop-character-preserved g c = λ plain.
    let so_far = c.loop-character.invariant plain in
    let shown : ℕ → List ℕ = λ x. shown_char (is_kept c.args.has_lines x) x in
    has_written_of_eq _ _ _ _ _ (flat_map_more shown [] c.loop-character.yielded c.in-Some.character)
    (has_written_append _ _ _ _ _ _ so_far (rw (← c.is_kept.ensures) (c.write.ensures.writes so_far.plain (search rules))))

pub returns : goal.returns
returns g c = λ plain ok.
    let end = YieldsList-end (YieldsList-from_chars c.args.text.now c.utf8.text (search rules)) c.loop-character.yielded _
    c.loop-character.yielded_by _ _ c.in-None.is c.next.ensures.steps in
    has_written_of_eq _ _ _ _ _
    (ap (flat_map (λ x. shown_char (is_kept c.args.has_lines x) x)) (sym (map-id c.loop-character.yielded) ∙ end.0))
    (c.loop-character.invariant plain)
