-- The rows have an address or a name where all their addresses have.
use Rattle.std.proofs.Common.{rules, true}
use Rattle.htl_report.specs.Names.{addresses_of, is_named}
use Rattle.htl_report.proofs.Stacked.{any_of_all}
use Rattle.htl_report.proofs.names.have_no_name.Goals as goal

pub returns-then-have_address : goal.returns-then-have_address
returns-then-have_address g c =
    rw (
      ← any_of_all (λ address. true) (λ row. addresses_of (g.F.Form.stack_of row)) c.args.rows.now,
      ← any_of_all (is_named c.args.symbols.now) (λ row. addresses_of (g.F.Form.stack_of row)) c.args.rows.now,
    ) (search (rules, c.if-have_address.true, c.have_address.ensures, c.have_name.ensures))

pub returns-else-have_address : goal.returns-else-have_address
returns-else-have_address g c =
    rw (← any_of_all (λ address. true) (λ row. addresses_of (g.F.Form.stack_of row)) c.args.rows.now)
    (search (rules, c.if-have_address.false, c.have_address.ensures))
