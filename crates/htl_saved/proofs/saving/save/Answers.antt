-- The bytes are the spelling of the rows.
use Rattle.htl_saved.proofs.saving.save.Goals as goal

pub returns-clause-saved : goal.returns-clause-saved
returns-clause-saved g c =
    record {
      rows = c.in_ok-rows.rows;
      are = c.in_ok-rows.ensures.rows;
      few = c.in_ok-rows.ensures.few;
      spelled = c.in_ok-bytes.ensures;
    }
