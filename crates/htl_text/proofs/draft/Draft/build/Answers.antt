-- The fault of what is held is reported as that of the draft.
use Rattle.std.proofs.Common.{rules}
use Rattle.htl_text.specs.Steps.{held_draft}
use Rattle.htl_text.specs.Encoded.{draft_fault}
use Rattle.htl_text.proofs.Refusals.{is_reported}
use Rattle.htl_text.proofs.draft.Draft.build.Goals as goal

pub returns-in-Err : goal.returns-in-Err
returns-in-Err c =
    search (rules, is_reported c.self.inside.line c.self.inside.overfull (draft_fault (held_draft c.args.self)) c.in-Err.fault)
