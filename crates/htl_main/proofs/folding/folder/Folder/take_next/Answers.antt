-- One segment more was taken, or it is unfit.
use Rattle.std.proofs.Common.{◌∙◌, sym}
use Rattle.htl_main.proofs.FolderLaws.{fit_next, took_first, unfit_next}
use Rattle.htl_main.proofs.folding.folder.Folder.take_next.Goals as goal

pub returns-in_default : goal.returns-in_default
returns-in_default c = λ first given so_far.
    rw c.requires (took_first first c.in_ok-begun_by.field-0 given c.args.self.now.segments c.args.segment
    (rw (c.in_default.is, c.requires) at so_far) c.in_ok-begun_by.ensures)

pub returns-then-is_some : goal.returns-then-is_some
returns-then-is_some c = λ first given so_far.
    unfit_next first c.in-Some.analyst c.take.new.analyst given c.args.self.now.segments c.args.segment
    (rw (c.in-Some.is, c.requires) at so_far) c.in_ok-self.field-0 (sym c.is_some.ensures ∙ c.if-is_some.true) c.in_ok-self.ensures.same
    c.in_ok-self.ensures.taken

pub returns : goal.returns
returns c = λ first given so_far.
    fit_next first c.in-Some.analyst c.take.new.analyst given c.args.self.now.segments c.args.segment
    (rw (c.in-Some.is, c.requires) at so_far) c.in_ok-self.field-0 c.saturating_add-self.result (sym c.is_some.ensures ∙ c.if-is_some.false)
    c.saturating_add-self.ensures c.in_ok-self.ensures.keeps c.in_ok-self.ensures.taken
