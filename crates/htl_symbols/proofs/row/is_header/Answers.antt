-- Four fields that equal the columns are the header, and no other record is.
use Rattle.csv.specs.Records.{fields_of}
use Rattle.htl_symbols.proofs.Fields.{columns-header, header-wrong}
use Rattle.htl_symbols.proofs.row.is_header.Goals as goal

pub returns-in-Some : goal.returns-in-Some
returns-in-Some c = rw c.are_columns.ensures (columns-header (fields_of c.args.fields.now) _ _ _ _ c.in-Some.ensures)

pub returns-in-None : goal.returns-in-None
returns-in-None c = (λ passes. absurd (cc passes), λ same. absurd (header-wrong (fields_of c.args.fields.now) c.in-None.ensures same))
