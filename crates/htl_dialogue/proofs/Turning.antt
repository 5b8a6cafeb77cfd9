-- Where lines stand in a dialogue: with one line more, the process of the next is what that line leaves.
use Rattle.std.proofs.Common.{◌≡◌, ◌∙◌, ℕ, List, [], ◌∷◌, ◌++◌, None, ap, append_assoc, sym}
use Rattle.std.specs.Prelude.{Option}
use Rattle.std.proofs.lemmas.List.{map-append}
use Rattle.htl_dialogue.specs.Sayings.{Turn, lines_in, saying_of, turn, turns_of, used}

-- the lines of turns put together
pub lines_in-more : (turns : List Turn) (process : Option ℕ) (line : List ℕ) (more : List (List ℕ))
    → lines_in (turns ++ turn process line ∷ []) ++ more ≡ lines_in turns ++ line ∷ more
lines_in-more turns process line more =
    ap (λ l. l ++ more) (map-append (λ (t : Turn). t.line) turns (turn process line ∷ []))
    ∙ append_assoc (lines_in turns) (line ∷ []) more

-- lines that stand so, and one line more
pub turns_more : (turns : List Turn) (process next : Option ℕ) (line : List ℕ)
    → ((more : List (List ℕ)) → turns_of None (lines_in turns ++ more) ≡ turns ++ turns_of process more)
    → next ≡ used process (saying_of (turn process line)) → (more : List (List ℕ))
    → turns_of None (lines_in (turns ++ turn process line ∷ []) ++ more) ≡ (turns ++ turn process line ∷ []) ++ turns_of next more
turns_more turns process next line so_far is more =
    ap (turns_of None) (lines_in-more turns process line more) ∙ so_far (line ∷ more)
    ∙ ap (λ p. turns ++ turn process line ∷ turns_of p more) (sym is)
    ∙ sym (append_assoc turns (turn process line ∷ []) (turns_of next more))
