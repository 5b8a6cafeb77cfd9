-- A wanted event goes behind those of the batch, and each sequence is noted.
use Rattle.std.proofs.Common.{◌∷◌, [], ◌++◌, sym, ◌∙◌, append_assoc}
use Rattle.htl_event.specs.Interests.{as_needed, wants}
use Rattle.htl_segment.specs.Records.{event_of}
use Rattle.htl_segment.specs.Repeated.{sequences_of}
use Rattle.htl_segment.proofs.Batches.{batched, unwanted}
use Rattle.htl_segment.proofs.segment_bytes.pick.Goals as goal

pub loop-record-preserved-in-Continue-branch-3 : goal.loop-record-preserved-in-Continue-branch-3
loop-record-preserved-in-Continue-branch-3 c =
    let inv = c.loop-record.invariant in
    let x = event_of c.in-Some.record in
    record {
      events = batched (wants c.args.interest) (as_needed c.args.interest) _ _ _ _ c.next.new.self x _
          (rw c.as_needed.ensures at c.in_ok-put.ensures) (sym c.is_wanted.ensures ∙ c.if-is_wanted.true) (rw c.in-Some.ensures.steps at inv.events);
      taken = inv.taken ++ x.sequence ∷ [];
      all = append_assoc inv.taken (x.sequence ∷ []) (sequences_of c.next.new.self) ∙ (rw c.in-Some.ensures.steps at inv.all);
      saw = λ numbers seen.
          rw (sym (append_assoc numbers inv.taken (x.sequence ∷ []))) (c.in_ok-note.ensures (numbers ++ inv.taken) (inv.saw numbers seen));
      last = rw c.in-Some.ensures.steps at inv.last;
    }

pub loop-record-preserved : goal.loop-record-preserved
loop-record-preserved c =
    let inv = c.loop-record.invariant in
    let x = event_of c.in-Some.record in
    record {
      events = unwanted (wants c.args.interest) (as_needed c.args.interest) c.loop-record.events.items _ c.next.new.self x _
          (sym c.is_wanted.ensures ∙ c.if-is_wanted.false) (rw c.in-Some.ensures.steps at inv.events);
      taken = inv.taken ++ x.sequence ∷ [];
      all = append_assoc inv.taken (x.sequence ∷ []) (sequences_of c.next.new.self) ∙ (rw c.in-Some.ensures.steps at inv.all);
      saw = λ numbers seen.
          rw (sym (append_assoc numbers inv.taken (x.sequence ∷ []))) (c.in_ok-note.ensures (numbers ++ inv.taken) (inv.saw numbers seen));
      last = rw c.in-Some.ensures.steps at inv.last;
    }
