-- A keeper took all that stands at the front of a source which skips it, or nothing.
use Rattle.std.proofs.Common.{◌≡◌, ◌+◌, ◌<◌, ◌≤◌, ◌^◌, ◌∙◌, ℕ, List, [], length, take, ap, arith, subst, sym, Option, IfSome, Result, Ok, Err}
use Rattle.std.specs.Prelude.{IfOk}
use Rattle.std.proofs.lemmas.Option.{IfSome_then}
use Rattle.htl_device.specs.Devices.{tail_of}
use Rattle.htl_device.specs.States.{IsOpen, IsSkipped, SourceState}
use Rattle.htl_device.specs.declared.source.TheConstants.{MAX_READ_LEN}
use Rattle.htl_segment.specs.Content.{Content}
use Rattle.htl_segment.specs.Keepers.{Took}
use Rattle.htl_reading.specs.Keepers.{TookAll}
use Rattle.htl_reading.specs.Parts.{Skips, TookInOrder}
use Rattle.htl_reading.proofs.PartLaws.{AreThere, order_splits, skipped_memory, skipped_read, taken_skipped}
use Rattle.htl_reading.proofs.TakenLaws.{offset_memory, taken_far, taken_none, taken_still, taken_to_fault}

-- the answer that a source skipped up to an offset
abbrev pub skipped : {E : Type 0} → ℕ → Result ℕ E
skipped end = Ok end

abbrev pub refused : {E : Type 0} → E → Result ℕ E
refused fault = Err fault

-- the keepers took so many bytes in order
abbrev pub AreFront : {P : Type 0} → (P → P → List Content → Type 0) → P → List P → ℕ → Option (List ℕ) → Type 0
AreFront gathers part keepers len left = IfSome left (λ bytes. (len ≤ length bytes) × TookInOrder gathers part keepers (take len bytes))

-- so that segments stand there
pub front_there : {P : Type 0} (gathers : P → P → List Content → Type 0) (part : P) (keepers : List P) (len : ℕ) (left : Option (List ℕ))
    → AreFront gathers part keepers len left → AreThere len left
front_there gathers part keepers len left front =
    IfSome_then left front
    (λ bytes it. (let whole = order_splits gathers part keepers (take len bytes) it.1 in (it.0, whole.0, whole.1)))

-- a source of which other readers were asked for, and which then skipped bytes
module _ (old mid new : SourceState) (same : mid ≡ record old { tails = mid.tails }) (len : ℕ) (skips : IsSkipped len mid new) where
  -- which bytes are left
  behind : new.remaining ≡ tail_of len old.remaining
  behind = skips.bytes ∙ ap (λ (source : SourceState). tail_of len source.remaining) same

  fewer : new.good_reads ≤ old.good_reads
  fewer = rw (← ap (λ (source : SourceState). source.good_reads) same) skips.counts

module _ {K E : Type 0} (gathers : K → K → List Content → Type 0) (old : SourceState) (before : K) (offset : ℕ) (few : offset ≤ 2 ^ 61) where
  -- where nothing is skipped, the source and the keeper stay as they were, but for other readers
  pub none_skipped : (new : SourceState) → new ≡ record old { tails = new.tails } → IsOpen old
      → Skips {E = E} gathers old new before before offset (skipped offset)
  none_skipped new same ready = subst (λ (source : SourceState). Skips {E = E} gathers old source before before offset (skipped offset))
      (sym same) (record {
        ready = record { fine = ready.fine; inside = ready.inside };
        counts = omega arith;
        few = (omega arith, omega (arith, few));
        taken = λ start given at. at;
        memory = λ start given at. tt;
        to_fault = λ start given at. taken_to_fault at MAX_READ_LEN;
      })

  module _ (mid new : SourceState) (same : mid ≡ record old { tails = mid.tails }) (len : ℕ) (short : len ≤ 2 ^ 61)
      (skips : IsSkipped len mid new) (there : AreThere len old.remaining) (after : K) where
    -- where the keeper took the segments of so many bytes, the source skips them
    pub front_skipped : (end : ℕ) → end ≡ offset + len → IfSome old.remaining (λ bytes. (len ≤ length bytes) × TookAll gathers before after (take len bytes))
        → Skips {E = E} gathers old new before after offset (skipped end)
    front_skipped end is took = rw is (record {
      ready = skips.ready;
      counts = fewer old mid new same len skips;
      few = (omega arith, omega (arith, few, short));
      taken = λ start given at. rw (behind old mid new same len skips) (taken_skipped gathers start before offset len after at took);
      memory = λ start given at. tt;
      to_fault = λ start given at. rw (behind old mid new same len skips) (skipped_read gathers start before offset len MAX_READ_LEN at there);
    })

    -- where memory for the segments was refused, the source skips them, and memory may be asked for there
    pub front_refused : (fault : E) → 0 < len
        → Skips {E = E} gathers old new before after offset (refused fault)
    front_refused fault some = record {
      ready = skips.ready;
      counts = fewer old mid new same len skips;
      few = tt;
      taken = λ start given at. tt;
      memory = λ start given at. rw (behind old mid new same len skips)
          (skipped_memory gathers start before offset len new.ended some skips.ready.inside at there);
      to_fault = λ start given at. rw (behind old mid new same len skips) (skipped_read gathers start before offset len MAX_READ_LEN at there);
    }

-- ---- one round after another

module _ {K E : Type 0} (gathers : K → K → List Content → Type 0) (old mid : SourceState) (before between : K) (offset : ℕ)
    (first : Skips {E = E} gathers old mid before between 0 (skipped offset)) where
  -- so the source had as many bytes
  pub skipped_far : (most : ℕ) → most ≤ offset → IfSome old.remaining (λ bytes. most ≤ length bytes)
  skipped_far most inside = taken_far (first.taken before old.remaining (taken_none gathers before old.remaining)) most inside

  -- the keeper was called, and took none
  pub still_skipped : (next : K) → Took gathers between next []
      → Skips {E = E} gathers old mid before next 0 (skipped offset)
  still_skipped next still = record {
    ready = first.ready;
    counts = first.counts;
    few = first.few;
    taken = λ start given at. taken_still (first.taken start given at) still;
    memory = λ start given at. tt;
    to_fault = first.to_fault;
  }

  -- memory for that was refused
  pub still_refused : (next : K) (fault : E) → 0 < offset
      → Skips {E = E} gathers old mid before next 0 (refused fault)
  still_refused next fault some = record {
    ready = first.ready;
    counts = first.counts;
    few = tt;
    taken = λ start given at. tt;
    memory = λ start given at. offset_memory (first.taken start given at) mid.ended some first.ready.inside;
    to_fault = first.to_fault;
  }

  both_skipped : (new : SourceState) (after : K) (result : Result ℕ E)
      → Skips {E = E} gathers mid new between after offset result
      → IfOk result (λ end. (0 ≤ end) × (end ≤ 2 ^ 62))
      → Skips {E = E} gathers old new before after 0 result
  both_skipped new after result second few = record {
    ready = second.ready;
    counts = (let one = first.counts in let other = second.counts in omega (arith, one, other));
    few = few;
    taken = λ start given at. second.taken start given (first.taken start given at);
    memory = λ start given at. second.memory start given (first.taken start given at);
    to_fault = λ start given at. second.to_fault start given (first.taken start given at);
  }

  -- what was skipped and then skipped further on was skipped in one
  pub next_skipped : (new : SourceState) (after : K) (end : ℕ)
      → Skips {E = E} gathers mid new between after offset (skipped end)
      → Skips {E = E} gathers old new before after 0 (skipped end)
  next_skipped new after end second = both_skipped new after (skipped end) second (omega arith, second.few.1)

  -- what was skipped before memory was refused further on was refused as one
  pub next_refused : (new : SourceState) (after : K) (fault : E)
      → Skips {E = E} gathers mid new between after offset (refused fault)
      → Skips {E = E} gathers old new before after 0 (refused fault)
  next_refused new after fault second = both_skipped new after (refused fault) second tt

-- where a round took some bytes
pub some_more : (offset end : ℕ) → offset ≤ end → (end ≡ offset → ⊥) → 0 < end
some_more offset end least other = omega (arith, least, other)
