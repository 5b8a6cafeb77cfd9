-- A run is taken in segment by segment, and a state at once.
use Rattle.std.proofs.Common.{rules, ◌≡◌, ◌⊎◌, inl, sym, subst}
use Rattle.std.specs.Prelude.{◌↔◌}
use Rattle.htl_analyst.specs.Keys.{HasTaken}
use Rattle.htl_exchange.specs.declared.parcel.Parcel.{Parcel}
use Rattle.htl_exchange.specs.declared.parcel.Parcel.TheVariants as parcels
use Rattle.htl_exchange.specs.Parcels.{Brings, HasSegment, IsOf}
use Rattle.htl_exchange.proofs.taking.take_parcel.Goals as goal

pub returns-in-Ok-clause-taken : goal.returns-in-Ok-clause-taken
returns-in-Ok-clause-taken c =
    let is : c.args.parcel ≡ parcels.Run c.in-Run.segments c.in-Run.case = search rules in
    λ p n. subst (λ (x : Parcel). HasTaken c.take_run.new.analyst p n ↔ (HasTaken c.args.analyst.now p n ⊎ Brings x p n)) (sym is) (c.in-Ok.ensures.taken p n)

pub returns-in-Err-clause-left : goal.returns-in-Err-clause-left
returns-in-Err-clause-left c =
    let is : c.args.parcel ≡ parcels.Run c.in-Run.segments c.in-Run.case = search rules in
    λ p n. subst (λ (x : Parcel). (HasTaken c.take_run.new.analyst p n ⊎ HasSegment c.in-Err.rest.items p n) ↔ (HasTaken c.args.analyst.now p n ⊎ Brings x p n))
    (sym is) (c.in-Err.ensures.left p n)

pub returns-in-Ok-absorb-clause-taken : goal.returns-in-Ok-absorb-clause-taken
returns-in-Ok-absorb-clause-taken c =
    let is : c.args.parcel ≡ parcels.State c.in-State.state = search rules in
    λ p n. subst (λ (x : Parcel). HasTaken c.absorb.new.self p n ↔ (HasTaken c.args.analyst.now p n ⊎ Brings x p n)) (sym is)
    (c.in-Ok-absorb.ensures.merges.keys p n)

pub take_run-requires : goal.take_run-requires
take_run-requires c =
    let is : c.args.parcel ≡ parcels.Run c.in-Run.segments c.in-Run.case = search rules in
    (c.requires.0, c.requires.1, subst (IsOf c.requires.0) is c.requires.2)

pub unreachable-requires : goal.unreachable-requires
unreachable-requires c =
    let is : c.args.parcel ≡ parcels.State c.in-State.state = search rules in
    let says = c.in-Err-absorb.ensures.merges.lawful c.requires.0 c.requires.1 (subst (IsOf c.requires.0) is c.requires.2) in
    search (rules, says)

pub returns-in-Ok-clause-right : goal.returns-in-Ok-clause-right
returns-in-Ok-clause-right c = λ T right of.
    let is : c.args.parcel ≡ parcels.Run c.in-Run.segments c.in-Run.case = search rules in
    c.take_run.ensures.right T right (subst (IsOf T) is of)

pub returns-in-Err-clause-right : goal.returns-in-Err-clause-right
returns-in-Err-clause-right c = λ T right of.
    let is : c.args.parcel ≡ parcels.Run c.in-Run.segments c.in-Run.case = search rules in
    c.take_run.ensures.right T right (subst (IsOf T) is of)

pub returns-in-Ok-absorb-clause-right : goal.returns-in-Ok-absorb-clause-right
returns-in-Ok-absorb-clause-right c = λ T right of.
    let is : c.args.parcel ≡ parcels.State c.in-State.state = search rules in
    c.in-Ok-absorb.ensures.merges.right T right (subst (IsOf T) is of)

pub returns-in-Ok-absorb-clause-grows : goal.returns-in-Ok-absorb-clause-grows
returns-in-Ok-absorb-clause-grows c = λ p n h. (c.in-Ok-absorb.ensures.merges.keys p n).1 (inl h)
