-- The rows are those of the definition, put in order.
use Rattle.std.proofs.Common.{◌≢◌, sym, subst}
use Rattle.htl_event.specs.Members.{IsRising}
use Rattle.htl_summary.specs.declared.usage.Usage.{Usage}
use Rattle.htl_summary.proofs.ProcessRows.{are_processes}
use Rattle.htl_summary.proofs.Sorted.{keys_differ, keys_rise}
use Rattle.htl_summary.proofs.by_process.processes_of.Goals as goal

pub put_most_first-requires : goal.put_most_first-requires
put_most_first-requires g c =
    let process = λ (usage : Usage). usage.process in
    let used = c.args.used.now in
    subst (IsRising (λ x y. x ≢ y)) (sym c.in_ok-rows.ensures.owners) (keys_differ process used (keys_rise process (λ usage. usage) used c.requires))

pub returns : goal.returns
returns g c = λ events sums are listed tables own.
    are_processes events sums c.args.used.now c.in_ok-rows.rows.items c.put_most_first.new.rows.items listed are.sorted are.values
    (c.in_ok-rows.ensures.rows events own tables) c.put_most_first.ensures.rising c.put_most_first.ensures.members
