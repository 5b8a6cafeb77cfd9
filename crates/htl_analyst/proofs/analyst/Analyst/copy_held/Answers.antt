-- A loose number of either side has a held segment there.
use Rattle.std.proofs.Common.{inl, inr}
use Rattle.htl_analyst.proofs.analyst.Analyst.copy_held.Goals as goal

pub unreachable-requires : goal.unreachable-requires
unreachable-requires g c =
    elim c.requires.loose [
      | inl own ↦ c.in-None.ensures.loose own
      | inr others ↦ c.in-None-find_held.ensures.loose others
    ]
