-- A read takes the next record, finds the end, or is refused at a record that is not UTF-8.
use Rattle.std.proofs.Common.{◌∙◌}
use Rattle.csv.specs.Records.{fields_of}
use Rattle.htl_symbols.proofs.Reader.{read-ok, read-refused}
use Rattle.htl_symbols.proofs.read.read_record.Goals as goal

pub returns-in-Ok : goal.returns-in-Ok
returns-in-Ok c = λ at.
    let said = c.in-Ok.ensures in
    read-ok c.args.number c.args.reader.now c.read_record.new.self (fields_of c.read_record.new.row) c.in-Ok.found at
    (said.reads at.trim at.ready) said.flexible (said.ready at.trim) (said.text at.trim)

pub returns : goal.returns
returns c = λ at.
    read-refused c.args.number c.args.reader.now c.read_record.new.self (fields_of c.read_record.new.row) _ at
    (c.in-Err.ensures.why at.trim at.ready)
    (λ e is. c.in_default.not-Io e (c.kind.ensures ∙ is)) (λ is. c.in_default.not-OutOfMemory (c.kind.ensures ∙ is))
