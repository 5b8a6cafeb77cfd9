-- What was taken stays taken, whether it is folded or not.
use Rattle.std.proofs.Common.{append-nil}
use Rattle.htl_main.proofs.FolderLaws.{whatever}
use Rattle.htl_main.proofs.folding.folder.Folder.fold_if_full.Goals as goal

pub returns-then-self-most_held : goal.returns-then-self-most_held
returns-then-self-most_held g c = λ kind before folds. rw (append-nil before) folds

pub returns : goal.returns
returns g c =
    whatever c.fold_by.result (λ kind before folds. rw (append-nil before) (c.fold_by.ensures.kept kind.analyst before folds))
