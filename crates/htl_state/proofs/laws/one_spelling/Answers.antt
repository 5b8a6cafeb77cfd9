-- Both spellings are the bytes of the one state, and both states are read from the one spelling.
use Rattle.std.proofs.Common.{sym, ◌∙◌}
use Rattle.htl_state.proofs.Readings.{ok_is}
use Rattle.htl_state.proofs.States.{state_complete}
use Rattle.htl_state.proofs.laws.one_spelling.Goals as goal

pub returns-clause-one : goal.returns-clause-one
returns-clause-one c = λ a b s p q. p.bytes_are ∙ sym q.bytes_are

pub returns-clause-of_one : goal.returns-clause-of_one
returns-clause-of_one c = λ a s t p q. ok_is s t (sym (state_complete a s p) ∙ state_complete a t q)
