-- One processor more has what the greater front has folded.
use Rattle.std.proofs.Common.{◌≡◌, ◌<◌, ℕ, length, slice_set, ap, ◌∙◌, arith, refl, Bool}
use Rattle.std.specs.Prelude.{nat_lt, if◌then◌else◌}
use Rattle.htl_taken.specs.Numbers.{front_at}
use Rattle.htl_analyst.specs.States.{Part, part, part_at, held_at, folded_at}
use Rattle.htl_analyst.proofs.Holds.{part_read}
use Rattle.htl_analyst.proofs.United.{AreUnitedTo-none, AreUnitedTo-more}
use Rattle.htl_analyst.proofs.merging.unite.Goals as goal

pub loop-processor-init : goal.loop-processor-init
loop-processor-init g c =
    AreUnitedTo-none c.args.own_taken.now c.args.their_taken.now c.args.own.now.items c.args.theirs.now.items c.args.incoming.now.items

pub loop-processor-preserved : goal.loop-processor-preserved
loop-processor-preserved g c =
    let p = c.loop-processor.processor in
    let ts = c.args.own_taken.now in
    let us = c.args.their_taken.now in
    let own = c.loop-processor.own.items in
    let theirs = c.loop-processor.theirs.items in
    let incoming = c.loop-processor.incoming.items in
    let inv = c.loop-processor.invariant in
    let place : c.from-place.result ≡ p = c.from-place.ensures in
    let in_own : p < length own = omega (arith, inv.own_len, c.requires.own, c.loop-processor-test.true) in
    let in_theirs : p < length theirs = omega (arith, inv.theirs_len, c.requires.theirs, c.loop-processor-test.true) in
    let in_incoming : p < length incoming = omega (arith, inv.len, c.requires.incoming, c.loop-processor-test.true) in
    let k : Part = c.index_mut.result.now in
    let l : Part = c.index_mut-in-loop-processor.result.now in
    let m : Part = c.index_mut-in-loop-processor-2.result.now in
    let ek : k ≡ part_at own p = part_read own p k k in_own (rw place at c.index_mut.ensures.value) refl in
    let el : l ≡ part_at theirs p = part_read theirs p l l in_theirs (rw place at c.index_mut-in-loop-processor.ensures.value) refl in
    let em : m ≡ part_at incoming p =
    part_read incoming p m m in_incoming (rw place at c.index_mut-in-loop-processor-2.ensures.value) refl in
    let tests : nat_lt c.front.result c.front-in-loop-processor.result ≡ nat_lt (front_at ts p) (front_at us p) =
    rw (c.front.ensures.value, c.front-in-loop-processor.ensures.value) refl in
    let made : c.unite_at.new.incoming ≡ part (held_at incoming p)
    (if nat_lt (front_at ts p) (front_at us p) then folded_at theirs p else folded_at own p) =
    c.unite_at.ensures
    ∙ ap (λ (t : Bool). part m.held (if t then l.folded else k.folded)) tests
    ∙ ap (λ (x : Part). part x.held (if nat_lt (front_at ts p) (front_at us p) then l.folded else k.folded)) em
    ∙ ap (λ (x : Part). part (held_at incoming p) (if nat_lt (front_at ts p) (front_at us p) then x.folded else k.folded)) el
    ∙ ap (λ (x : Part). part (held_at incoming p) (if nat_lt (front_at ts p) (front_at us p) then folded_at theirs p else x.folded)) ek in
    AreUnitedTo-more ts us c.args.own.now.items c.args.theirs.now.items c.args.incoming.now.items own theirs incoming
    (slice_set own c.from-place.result c.unite_at.new.own) (slice_set theirs c.from-place.result c.unite_at.new.theirs)
    (slice_set incoming c.from-place.result c.unite_at.new.incoming)
    p c.unite_at.new.own c.unite_at.new.theirs c.unite_at.new.incoming inv in_incoming
    (ap (λ (i : ℕ). slice_set own i c.unite_at.new.own) place) (ap (λ (i : ℕ). slice_set theirs i c.unite_at.new.theirs) place)
    (ap (λ (i : ℕ). slice_set incoming i c.unite_at.new.incoming) place)
    made
