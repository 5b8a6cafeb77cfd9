-- Where handles count since the snapshots of their processes, the field says so.
use Rattle.std.proofs.Common.{◌≡◌, rules, true}
use Rattle.htl_json.specs.Heads.{since_fields}
use Rattle.htl_question.specs.Questions.{is_since_snapshots}
use Rattle.htl_json.proofs.heads.write_since.Goals as goal

pub returns-then-is_since_snapshots : goal.returns-then-is_since_snapshots
unfolding since_fields
returns-then-is_since_snapshots c =
    let since : is_since_snapshots c.args.question ≡ true = search rules in
    rw (since) c.text.ensures
