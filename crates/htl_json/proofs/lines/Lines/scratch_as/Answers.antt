-- The name and the text that was made are a field.
use Rattle.std.proofs.Common.{◌∷◌, [], arith, string_bytes, subst}
use Rattle.std.proofs.lemmas.Result.{on_ok_weaker}
use Rattle.json.specs.Json.{string}
use Rattle.json.specs.Token as token
use Rattle.htl_json.proofs.Line.{field_added}
use Rattle.htl_json.specs.Writing.{AddsTokens}
use Rattle.htl_json.proofs.lines.Lines.scratch_as.Goals as goal

pub returns : goal.returns
returns c =
    let key = c.key.new.self in
    let last = c.write_scratch.new.self in
    on_ok_weaker c.write_scratch.result
    (λ h. field_added c.args.name.now (string (string_bytes c.args.self.now.scratch)) c.args.self.now key last (omega arith) c.in_ok-key.ensures.added
    (subst (λ text. AddsTokens key last (token.string (string_bytes text) ∷ [])) c.in_ok-key.ensures.scratch h))
    c.write_scratch.ensures
