-- A row is what its fields write, or its first fault.
use Rattle.std.proofs.Common.{◌∙◌, refl}
use Rattle.std.specs.Prelude.{Some, None}
use Rattle.std.proofs.lemmas.Bool.{le-ltb, lt-ltb}
use Rattle.csv.specs.Records.{fields_of}
use Rattle.htl_symbols.proofs.Fields.{fields-right, fields-wrong}
use Rattle.htl_symbols.proofs.row.row_of.Goals as goal

pub returns-in_default-clause-row : goal.returns-in_default-clause-row
returns-in_default-clause-row c = fields-wrong c.args.number (fields_of c.args.fields.now) c.in_default.ensures

pub returns-in_default-address-clause-row : goal.returns-in_default-address-clause-row
returns-in_default-address-clause-row c =
    fields-right c.args.number (fields_of c.args.fields.now) _ _ _ _ None _ c.in-Some.ensures c.in_default-address.ensures refl

pub returns-in_default-address-2-clause-row : goal.returns-in_default-address-2-clause-row
returns-in_default-address-2-clause-row c =
    fields-right c.args.number (fields_of c.args.fields.now) _ _ _ _ (Some c.in-Some-address.start) None c.in-Some.ensures
    c.in-Some-address.ensures c.in_default-address-2.ensures

pub returns-then-start-end-clause-row : goal.returns-then-start-end-clause-row
returns-then-start-end-clause-row c =
    fields-right c.args.number (fields_of c.args.fields.now) _ _ _ _ (Some c.in-Some-address.start)
    (Some c.in-Some-address-2.end) c.in-Some.ensures c.in-Some-address.ensures c.in-Some-address-2.ensures
    ∙ rw (lt-ltb c.in-Some-address.start c.in-Some-address-2.end c.if-start-end.true) refl

pub returns-else-start-end-clause-row : goal.returns-else-start-end-clause-row
returns-else-start-end-clause-row c =
    fields-right c.args.number (fields_of c.args.fields.now) _ _ _ _ (Some c.in-Some-address.start)
    (Some c.in-Some-address-2.end) c.in-Some.ensures c.in-Some-address.ensures c.in-Some-address-2.ensures
    ∙ rw (le-ltb c.in-Some-address.start c.in-Some-address-2.end c.if-start-end.false) refl
