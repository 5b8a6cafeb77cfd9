-- Bytes are a text where they are that of a string.
use Rattle.std.proofs.Common.{◌≡◌, Bool, true, false, List, ℕ, refl, string_bytes, sym, ◌∙◌, ap}
use Rattle.std.specs.Str.{IsUtf8, is_utf8}
use Rattle.std.proofs.lemmas.Str.{IsUtf8-from_is_utf8, IsUtf8-had, is_utf8-from_IsUtf8}
use Rattle.htl_dialogue.proofs.splitting.text_of.Goals as goal

not_text : (bytes : List ℕ) → (IsUtf8 bytes → false ≡ true) → (b : Bool) → is_utf8 bytes ≡ b → b ≡ false
not_text bytes none true is = absurd (let bad : false ≡ true = none (IsUtf8-from_is_utf8 bytes is) in cc)
not_text bytes none false is = refl

pub returns-in-Ok-clause-ok : goal.returns-in-Ok-clause-ok
returns-in-Ok-clause-ok c =
    let is : string_bytes c.in-Ok.text ≡ c.args.bytes.items = ap (λ v. v.items) c.in-Ok.ensures.ok in
    (is, ap is_utf8 (sym is) ∙ is_utf8-from_IsUtf8 (string_bytes c.in-Ok.text) (IsUtf8-had (string_bytes c.in-Ok.text) c.in-Ok.text.ok))

pub returns-clause-err : goal.returns-clause-err
returns-clause-err c =
    not_text c.args.bytes.items c.in-Err.ensures.succeeds (is_utf8 c.args.bytes.items) refl
