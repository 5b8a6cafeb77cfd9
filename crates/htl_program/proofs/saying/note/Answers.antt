-- The notes are said one after the other.
use Rattle.std.proofs.Common.{◌≡◌, rules, true}
use Rattle.htl_program.proofs.Told.{all_told}
use Rattle.htl_program.proofs.saying.note.Goals as goal

pub returns : goal.returns
returns g c =
    let wanted : c.args.in_words ≡ true = search (rules, c.if-not-in_words.false) in
    rw wanted (all_told _ _ _ _ _ c.note_lack.ensures (all_told _ _ _ _ _ (rw c.misses_names.ensures at c.note_names.ensures)
    c.note_inputs.ensures))
