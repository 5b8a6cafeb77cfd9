-- The handles of all sites are those of all processes.
use Rattle.htl_summary.proofs.SiteLaws.{sites_add_up}
use Rattle.htl_summary.proofs.laws.sites_add_up.Goals as goal

pub returns : goal.returns
returns c = sites_add_up
