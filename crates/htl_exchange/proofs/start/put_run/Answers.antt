-- A run that isn't empty is a parcel, its push keeps the rule, and there is room for it.
use Rattle.std.proofs.Common.{◌≡◌, ◌≢◌, ◌<◌, [], length, arith, ap}
use Rattle.std.proofs.lemmas.Grind.{common_steps}
use Rattle.htl_exchange.specs.declared.parcel.Parcel.{Parcel}
use Rattle.htl_exchange.specs.declared.parcel.Parcel.TheVariants as parcels
use Rattle.htl_exchange.specs.declared.pass.Known.{Known}
use Rattle.htl_exchange.specs.Moves.{known_of}
use Rattle.htl_exchange.proofs.Keeping.{counts_pushes}
use Rattle.htl_exchange.proofs.Fillings.{empty, skips, filled, may_fill, never_full, is_one, run_is_there, whole_run}
use Rattle.htl_exchange.proofs.start.put_run.Goals as goal

pub returns-then-is_empty-clause-ok : goal.returns-then-is_empty-clause-ok
returns-then-is_empty-clause-ok g c =
    let run = c.in_ok-run.run'.items in
    let n : length run ≡ 0 = grind (arith, common_steps) in
    skips c.args.case.now c.args.processor run (known_of c.args.pass.now) c.in_ok-run.ensures (empty run n) c.requires.fills

pub push_as-requires-clause-rule : goal.push_as-requires-clause-rule
push_as-requires-clause-rule g c =
    let T = c.args.case.now in
    let v : Known = known_of c.args.pass.now in
    let x : Parcel = parcels.Run c.in_ok-run.run' c.of.result in
    let run = c.in_ok-run.run'.items in
    let positive : 0 < length run = grind (arith, common_steps) in
    let some_segment : run ≢ [] = λ e. (let z : length run ≡ 0 = ap length e in omega (arith, positive, z)) in
    let of_run = c.in_ok-run.ensures in (
      may_fill _ _ T c.args.processor v x c.segments-is_case.ensures.is_case.some c.of.ensures
          (record {
            of = λ s h. ((of_run s).0 h).0;
            whole = whole_run T c.args.processor run of_run some_segment;
            one_run = (c.args.processor, is_one T c.args.processor run of_run some_segment);
          })
          (is_one T c.args.processor run of_run some_segment) (run_is_there T c.args.processor run of_run some_segment) c.requires.fills,
      counts_pushes _ _,
    )

pub returns-clause-ok : goal.returns-clause-ok
returns-clause-ok g c =
    let T = c.args.case.now in
    let v : Known = known_of c.args.pass.now in
    let w : Known = known_of c.push_as.new.pass in
    let x : Parcel = parcels.Run c.in_ok-run.run' c.of.result in
    let run = c.in_ok-run.run'.items in
    let positive : 0 < length run = grind (arith, common_steps) in
    let some_segment : run ≢ [] = λ e. (let z : length run ≡ 0 = ap length e in omega (arith, positive, z)) in
    let of_run = c.in_ok-run.ensures in
    filled T c.args.processor v w x c.segments-is_case.ensures.is_case.some c.of.ensures (is_one T c.args.processor run of_run some_segment)
    (run_is_there T c.args.processor run of_run some_segment) c.in-Ok.ensures.rule c.requires.fills

pub unreachable-requires : goal.unreachable-requires
unreachable-requires g c =
    never_full c.args.case.now c.args.processor _ (known_of c.args.pass.now) c.requires.room c.requires.fills c.in-Err.ensures.rule.2
