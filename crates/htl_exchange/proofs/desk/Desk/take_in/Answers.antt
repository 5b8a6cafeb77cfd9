-- What is taken in, and what is left in hand, are the desk's keys as before.
use Rattle.std.proofs.Common.{rules, ◌≡◌, Some, None, sym, subst}
use Rattle.htl_analyst.specs.Keys.{HasTaken}
use Rattle.htl_exchange.specs.Moves.{known_of}
use Rattle.htl_exchange.specs.Desks.{Follows, DeskValue}
use Rattle.htl_exchange.specs.Collects.{IsLeftInHand}
use Rattle.htl_exchange.proofs.Following.{takes_all, takes_some}
use Rattle.htl_exchange.proofs.desk.Desk.take_in.Goals as goal

pub invariant_of-self-in-Ok : goal.invariant_of-self-in-Ok
invariant_of-self-in-Ok c =
    let v = known_of c.self.inside.pass in
    let a = c.self.inside.analyst in
    let b = c.take_parcel.new.analyst in
    let hand : c.self.inside.hand ≡ Some c.in-Some.parcel = search rules in
    let was : Follows v a (Some c.in-Some.parcel) = subst (λ h. Follows v a h) hand c.self.invariant.2 in
    let now : Follows v b None = takes_all v a b c.in-Some.parcel was c.take_parcel.ensures.right c.in-Ok.ensures.taken in
    (c.self.invariant.0, c.self.invariant.1, subst (λ h. Follows v b h) (sym c.take.ensures.after) now)

pub invariant_of-self-in-Err : goal.invariant_of-self-in-Err
invariant_of-self-in-Err c =
    let v = known_of c.self.inside.pass in
    let a = c.self.inside.analyst in
    let b = c.take_parcel.new.analyst in
    let hand : c.self.inside.hand ≡ Some c.in-Some.parcel = search rules in
    let was : Follows v a (Some c.in-Some.parcel) = subst (λ h. Follows v a h) hand c.self.invariant.2 in (
      c.self.invariant.0,
      c.self.invariant.1,
      takes_some v a b c.in-Some.parcel c.in-Err.rest was c.take_parcel.ensures.right c.in-Err.ensures.rest c.in-Err.ensures.left,
    )

pub returns-in-Ok-clause-follows : goal.returns-in-Ok-clause-follows
returns-in-Ok-clause-follows c =
    let v = known_of c.self.inside.pass in
    let a = c.self.inside.analyst in
    let b = c.take_parcel.new.analyst in
    let hand : c.self.inside.hand ≡ Some c.in-Some.parcel = search rules in
    let was : Follows v a (Some c.in-Some.parcel) = subst (λ h. Follows v a h) hand c.self.invariant.2 in
    let now : Follows v b None = takes_all v a b c.in-Some.parcel was c.take_parcel.ensures.right c.in-Ok.ensures.taken in
    subst (λ h. Follows v b h) (sym c.take.ensures.after) now

pub returns-in-Err-clause-follows : goal.returns-in-Err-clause-follows
returns-in-Err-clause-follows c =
    let v = known_of c.self.inside.pass in
    let a = c.self.inside.analyst in
    let b = c.take_parcel.new.analyst in
    let hand : c.self.inside.hand ≡ Some c.in-Some.parcel = search rules in
    let was : Follows v a (Some c.in-Some.parcel) = subst (λ h. Follows v a h) hand c.self.invariant.2 in
    takes_some v a b c.in-Some.parcel c.in-Err.rest was c.take_parcel.ensures.right c.in-Err.ensures.rest c.in-Err.ensures.left

pub take_parcel-requires : goal.take_parcel-requires
take_parcel-requires c =
    let v = known_of c.self.inside.pass in
    let hand : c.self.inside.hand ≡ Some c.in-Some.parcel = search rules in
    let was : Follows v c.self.inside.analyst (Some c.in-Some.parcel) =
    subst (λ h. Follows v c.self.inside.analyst h) hand c.self.invariant.2 in
    (v.trace, was.right, was.in_hand)

pub returns-in-Ok-clause-grows : goal.returns-in-Ok-clause-grows
returns-in-Ok-clause-grows c = λ p n h.
    c.take_parcel.ensures.grows p n (subst (λ (d : DeskValue). HasTaken d.analyst p n) (sym c.self.view_is) h)

pub returns-in-Err-clause-grows : goal.returns-in-Err-clause-grows
returns-in-Err-clause-grows c = λ p n h.
    c.take_parcel.ensures.grows p n (subst (λ (d : DeskValue). HasTaken d.analyst p n) (sym c.self.view_is) h)

pub returns-in-Err-clause-left : goal.returns-in-Err-clause-left
returns-in-Err-clause-left c =
    subst (λ (d : DeskValue). IsLeftInHand d.analyst c.take_parcel.new.analyst (Some c.in-Err.rest)) c.self.view_is c.in-Err.ensures.refused
