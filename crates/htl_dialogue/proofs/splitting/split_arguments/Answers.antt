-- Where nothing is left of the line, the arguments that were split off are all that it has.
use Rattle.std.proofs.Common.{◌≡◌, ◌∙◌, ◌++◌, List, [], ◌∷◌, ℕ, length, rules, sym, ap, map, string_bytes}
use Rattle.std.proofs.lemmas.List.{append-nil}
use Rattle.std.specs.List.{list_all}
use Rattle.std.specs.Str.{is_utf8}
use Rattle.htl_dialogue.specs.Lines.{arguments_of}
use Rattle.htl_dialogue.proofs.splitting.split_arguments.Goals as goal

nothing_left : (line rest : List ℕ) (arguments : List (List ℕ)) → length rest ≡ 0 → arguments_of line ≡ arguments ++ arguments_of rest
    → arguments ≡ arguments_of line
unfolding arguments_of
nothing_left line [] arguments none split = sym (split ∙ append-nil arguments)
nothing_left line (b ∷ bs) arguments none split = cc

pub returns-clause-ok : goal.returns-clause-ok
returns-clause-ok c =
    let inv = c.loop-rest.invariant in
    let none : length c.loop-rest.rest.now ≡ 0 = search rules in
    let all = nothing_left c.args.line.now c.loop-rest.rest.now (map string_bytes c.loop-rest.arguments.items) none inv.split in
    (all, ap (list_all is_utf8) (sym all) ∙ inv.texts)
