-- A text comes to one outcome, and what it encodes, or its first fault, is that.
use Rattle.htl_text.proofs.Outcomes.{one_list, one_fault, not_both, one_of_both}
use Rattle.htl_text.proofs.laws.a_text_is_read_in_one_way.Goals as goal

pub returns-clause-segments : goal.returns-clause-segments
returns-clause-segments c = one_list

pub returns-clause-fault : goal.returns-clause-fault
returns-clause-fault c = one_fault

pub returns-clause-not_both : goal.returns-clause-not_both
returns-clause-not_both c = not_both

pub returns-clause-some : goal.returns-clause-some
returns-clause-some c = one_of_both
