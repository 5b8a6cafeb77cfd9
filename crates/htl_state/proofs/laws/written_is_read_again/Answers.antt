-- The spelling of rows that are well-formed is read as these rows, and what is read is spelled so.
use Rattle.std.proofs.Common.{refl}
use Rattle.htl_state.specs.Format.{spelling}
use Rattle.htl_state.proofs.States.{state_sound, state_complete}
use Rattle.htl_state.proofs.laws.written_is_read_again.Goals as goal

pub returns-clause-read : goal.returns-clause-read
returns-clause-read c = λ s fits. state_complete (spelling s) s (record { bytes_are = refl; fits = fits })

pub returns-clause-written : goal.returns-clause-written
returns-clause-written c = λ bytes s small read. (state_sound bytes s small read).bytes_are
