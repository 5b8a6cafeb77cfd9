-- The law: where two rows of one form have one value, they agree in all that the value shows.
use Rattle.htl_json.proofs.OneRow.{one_row}
use Rattle.htl_json.proofs.laws.a_value_is_of_one_row.Goals as goal

pub returns : goal.returns
returns c = one_row
