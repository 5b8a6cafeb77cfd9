-- What was taken stays taken where it is folded.
use Rattle.std.proofs.Common.{◌≡◌, ◌<◌, ℕ, arith}
use Rattle.htl_analyst.proofs.TakenAll.{compact_has_taken_the_same}
use Rattle.htl_main.proofs.FolderLaws.{folded_too}
use Rattle.htl_main.proofs.folding.folder.Folder.fold_by.Goals as goal

pub returns-in-Some-clause-kept : goal.returns-in-Some-clause-kept
returns-in-Some-clause-kept g c = λ first given so_far.
    let old = c.in-Some.analyst in
    let new = c.compact_by.new.self in
    let kept = c.compact_by.ensures in
    let some : 0 < c.args.self.now.segments = some_of c.args.self.now.segments c.if-self-eq0.false in
    folded_too first old new c.args.self.now.unfit c.args.self.now.segments given (rw c.in-Some.is at so_far) some
    (record { fronts = kept.fronts; number = omega (arith, kept.number) })
    (λ segments took. compact_has_taken_the_same segments old new took kept.trace kept.keys kept.right)
  where
    some_of : (n : ℕ) → (n ≡ 0 → ⊥) → 0 < n
    some_of n not_none = omega (arith, not_none)
