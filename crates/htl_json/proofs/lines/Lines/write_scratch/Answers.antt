-- The writer takes the text that was made, as a string.
use Rattle.std.proofs.Common.{◌≡◌, ◌++◌, ◌∷◌, [], ap, rules, string_bytes, ◌∙◌}
use Rattle.std.proofs.lemmas.Result.{on_ok_weaker}
use Rattle.json.specs.Token as token
use Rattle.htl_json.proofs.lines.Lines.write_scratch.Goals as goal

pub returns : goal.returns
returns c =
    let same : c.as_str.result.now ≡ string_bytes c.args.self.now.scratch = search rules in
    on_ok_weaker c.string.result
    (λ added. (c.string.ensures.room.0, added ∙ ap (λ s. c.args.self.now.writer.tokens ++ token.string s ∷ []) same))
    c.string.ensures.ok
