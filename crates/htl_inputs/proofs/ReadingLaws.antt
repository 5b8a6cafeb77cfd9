-- Sources are read one after another to their ends, up to the one at which a run ends.
use Rattle.std.proofs.Common.{◌≡◌, ◌<◌, ◌≤◌, ◌+◌, ℕ, Bool, false, List, length, map, take, All, refl, sym, ap, ◌∙◌, arith, inl, inr, IfSome, Option, Some}
use Rattle.std.proofs.Common.{Result, Ok, Err, get_or, length-set}
use Rattle.std.specs.Prelude.{IfErr, option_map, slice_get}
use Rattle.std.proofs.Math.ListN.{set}
use Rattle.std.proofs.lemmas.Bool.{false_from_ne_true}
use Rattle.std.proofs.lemmas.List.{length-map, map-set, take_all}
use Rattle.std.proofs.lemmas.List.Elements.{All-contains, All-set}
use Rattle.std.proofs.lemmas.Option.{slice_get-get_or, slice_get-map, slice_get_within}
use Rattle.htl_device.specs.States.{AreOpen, IsOpen, SourceState, ends, good_reads, has_ended, has_failed, lefts, remaining}
use Rattle.htl_device.specs.declared.whole.TheConstants.{MAX_READS}
use Rattle.htl_device.specs.declared.source.TheConstants.{MAX_READ_LEN}
use Rattle.htl_reading.specs.Sources.{AsksReaders}
use Rattle.htl_segment.specs.Content.{Content}
use Rattle.htl_segment.proofs.Spans.{at_place}
use Rattle.htl_command.specs.declared.question.InputForm.{InputForm}
use Rattle.htl_inputs.specs.Inputs.{DecodeAll, StopsAtInput}
use Rattle.htl_inputs.specs.Reads.{IsRead, NeverRead}
use Rattle.htl_inputs.specs.Readings.{AreRead, AskForReaders, readers_of}
use Rattle.htl_inputs.specs.Sources.{AreReadToFault, AreReadWithin, EndsBefore, IsReportedAt, IsReportedOfSource, IsTrueAt}
use Rattle.htl_inputs.specs.declared.fault.RunFault.{RunFault}
use Rattle.htl_inputs.specs.declared.fault.RunFault.TheVariants.{Memory, Read, Workers}
use Rattle.htl_inputs.proofs.SourceLaws.{at_known, ended_next, endless_at, known_now, knows_now, none_read, none_read_within, one_read, one_read_within}
use Rattle.htl_inputs.proofs.SourceLaws.{other_value, read_no_fault, slice_get-set_other, stopped_at, stopped_before, true_nowhere, true_of_all, true_of_new}
use Rattle.htl_inputs.proofs.SourceLaws.{true_there, value_there, one_asked}

-- a run that ends well, with a value
abbrev pub well : {S : Type 0} → S → Result S RunFault
well value = Ok value

-- a run that ends for a fault
abbrev pub ill : {S : Type 0} → RunFault → Result S RunFault
ill fault = Err fault

-- ---- what is known of sources

-- once all were read, what holds of the texts of those before a place holds of all texts
pub all_texts : {R : Type 0} (state : R → SourceState) (sources : List R) (texts : List (List ℕ)) (place : ℕ)
    → map remaining (map state sources) ≡ map (λ (x : List ℕ). Some x) texts → length sources ≤ place → take place texts ≡ texts
all_texts state sources texts place all done =
    let long = sym (length-map texts (λ (x : List ℕ). Some x)) ∙ sym (ap length all) ∙ length-map (map state sources) remaining
    ∙ length-map sources state in
    take_all place texts (omega (arith, long, done))

-- The sources before a place were read to their ends, and the others weren't read.
pub record ReadBefore (is_text : Bool) (first now : List SourceState) (place : ℕ) : Type 0 where
  pub same_length : length now ≡ length first
  pub left : (k : ℕ) → place ≤ k → slice_get now k ≡ slice_get first k
  pub ended : (k : ℕ) → k < place → IsTrueAt (map has_ended now) k
  pub fine : All (λ source. has_failed source ≡ false) now
  pub bounded : AreReadWithin (map good_reads first) (map good_reads now)
  pub to_fault : is_text ≡ false → AreReadToFault MAX_READ_LEN (map remaining first) (map remaining now)

module _ (is_text : Bool) (first : List SourceState) where
  -- before the first read
  pub none_before : AreOpen first
      → ReadBefore is_text first first 0
  none_before ready = record {
    same_length = refl;
    left = λ k above. refl;
    ended = λ k below. absurd (omega (arith, below));
    fine = λ k d below. (ready k d below).fine;
    bounded = none_read_within (map good_reads first);
    to_fault = λ bytes. none_read MAX_READ_LEN (map remaining first);
  }

  -- a run that ends before its first read reads no source
  pub unread : {S : Type 0} → AreOpen first
      → AreRead is_text first first (ill {S = S} Workers)
  unread ready = record {
    same_length = refl;
    ended = tt;
    in_order = λ earlier later below. inr refl;
    reported = λ place failed. absurd (true_nowhere has_failed first place (λ k d below. (ready k d below).fine) failed);
    read = λ place told. absurd (cc told);
    no_fault = λ place told bytes. absurd (cc told);
    bounded = none_read_within (map good_reads first);
    unread = λ place before. refl;
    to_fault = λ bytes. none_read MAX_READ_LEN (map remaining first);
  }

  module _ (now : List SourceState) where
    -- all were read
    pub all_read : {S : Type 0} (place : ℕ) (value : S) → ReadBefore is_text first now place
        → length now ≤ place
        → AreRead is_text first now (well {S = S} value)
    all_read place value before all = record {
      same_length = before.same_length;
      ended = true_of_all has_ended now (λ k within. before.ended k (omega (arith, all, within)));
      in_order = stopped_before has_ended first now place before.ended before.left;
      reported = λ at failed. absurd (true_nowhere has_failed now at before.fine failed);
      read = λ at is. absurd (cc is);
      no_fault = λ at is bytes. absurd (cc is);
      bounded = before.bounded;
      unread = tt;
      to_fault = before.to_fault;
    }

    -- a run ends for the fault of its sources, whatever it gives else
    pub ends_too : {S T : Type 0} (fault : RunFault)
        → AreRead is_text first now (ill {S = S} fault)
        → AreRead is_text first now (ill {S = T} fault)
    ends_too fault read = record {
      same_length = read.same_length;
      ended = tt;
      in_order = read.in_order;
      reported = λ at failed. (let same : fault ≡ Read at = cc (read.reported at failed) in rw same refl);
      read = λ at told. (let same : fault ≡ Read at = cc told in read.read at (rw same refl));
      no_fault = λ at told. (let same : fault ≡ Read at = cc told in read.no_fault at (rw same refl));
      bounded = read.bounded;
      unread = read.unread;
      to_fault = read.to_fault;
    }

    -- a run that has read all its sources ends well, or for a fault of no input
    pub read_then : {S T : Type 0} (value : S) (result : Result T RunFault)
        → AreRead is_text first now (well {S = S} value) → NeverRead result
        → IfErr result (λ fault. (place : ℕ) → EndsBefore fault place → ⊥)
        → AreRead is_text first now result
    read_then value (Ok done) read never names = record {
      same_length = read.same_length;
      ended = read.ended;
      in_order = read.in_order;
      reported = λ at failed. absurd (cc (read.reported at failed));
      read = λ at told. absurd (never at told);
      no_fault = λ at told. absurd (never at told);
      bounded = read.bounded;
      unread = tt;
      to_fault = read.to_fault;
    }
    read_then value (Err fault) read never names = record {
      same_length = read.same_length;
      ended = tt;
      in_order = read.in_order;
      reported = λ at failed. absurd (cc (read.reported at failed));
      read = λ at told. absurd (never at told);
      no_fault = λ at told. absurd (never at told);
      bounded = read.bounded;
      unread = λ place before. absurd (names place before);
      to_fault = read.to_fault;
    }

    -- The source x at a place is read next, and is y after that.
    module _ (place : ℕ) (x y : SourceState) (before : ReadBefore is_text first now place)
        (within : place < length now) (here : slice_get now place ≡ Some x) where
      bytes_of : slice_get (map remaining first) place ≡ Some (remaining x)
      bytes_of = known_now remaining first now place x (before.left place (omega arith)) here

      as_long : length (set now place y) ≡ length first
      as_long = length-set now place y ∙ before.same_length

      few : good_reads y ≤ good_reads x + MAX_READS → AreReadWithin (map good_reads first) (map good_reads (set now place y))
      few one = one_read_within good_reads (map good_reads first) now place x y within before.bounded
          (known_now good_reads first now place x (before.left place (omega arith)) here) one

      -- one source more
      pub one_before : {S : Type 0} (value : S)
          → IsRead is_text MAX_READS place x y (well {S = S} value)
          → ReadBefore is_text first (set now place y) (place + 1)
      one_before value is =
          let fine : has_failed y ≡ false = false_from_ne_true (has_failed y)
          (λ failed. cc (is.reported failed)) in
          record {
            same_length = as_long;
            left = λ k above. slice_get-set_other now place k y (λ e. omega (arith, above, e)) ∙ before.left k (omega (arith, above));
            ended = ended_next has_ended now place y within is.ended before.ended;
            fine = All-set (λ source. has_failed source ≡ false) now place y fine before.fine;
            bounded = few is.bounded;
            to_fault = λ bytes. one_read MAX_READ_LEN remaining (map remaining first) now place x y within (before.to_fault bytes) bytes_of
                (is.to_fault bytes);
          }

      -- a run ends at the source at a place
      pub read_to : {S T : Type 0} (fault : RunFault)
          → IsRead is_text MAX_READS place x y (ill {S = S} fault)
          → AreRead is_text first (set now place y) (ill {S = T} fault)
      read_to fault is = record {
        same_length = as_long;
        ended = tt;
        in_order = stopped_at has_ended first now place y before.ended before.left;
        reported = λ at failed.
            let new = true_of_new has_failed now place at y before.fine failed in
            let same : fault ≡ Read place = cc (is.reported new.1) in
            rw (new.0, same) refl;
        read = λ at told.
            let same : fault ≡ Read at = cc told in
            let read = is.read at (rw same refl) in
            rw (read.0) (elim (read.1) [
              | inl failed ↦ inl (true_there has_failed now place y within failed)
              | inr many ↦ inr (endless_at remaining good_reads first now place x y within bytes_of many)
            ]);
        no_fault = λ at told bytes.
            let same : fault ≡ Read at = cc told in
            let read = is.read at (rw same refl) in
            rw (read.0) (read_no_fault remaining (map remaining first) now place x y within bytes_of (is.no_fault at (rw same refl) bytes));
        bounded = few is.bounded;
        unread = λ later ends.
            let above : place < later = is.named later ends in
            slice_get-set_other now place later y (λ e. omega (arith, above, e)) ∙ before.left later (omega (arith, above));
        to_fault = λ bytes. one_read MAX_READ_LEN remaining (map remaining first) now place x y within (before.to_fault bytes) bytes_of
            (is.to_fault bytes);
      }

      -- a source was read, and then memory was refused
      pub refused_after : {S T : Type 0} (value : S)
          → IsRead is_text MAX_READS place x y (well {S = S} value)
          → AreRead is_text first (set now place y) (ill {S = T} Memory)
      refused_after value is =
          record {
            same_length = as_long;
            ended = tt;
            in_order = stopped_at has_ended first now place y before.ended before.left;
            reported = λ at failed.
                let new = true_of_new has_failed now place at y before.fine failed in
                absurd (cc (is.reported new.1));
            read = λ at told. absurd (cc told);
            no_fault = λ at told. absurd (cc told);
            bounded = few is.bounded;
            unread = λ later ends. absurd ends;
            to_fault = λ bytes. one_read MAX_READ_LEN remaining (map remaining first) now place x y within (before.to_fault bytes) bytes_of
                (is.to_fault bytes);
          }

-- the sources after the last that was read have all their bytes left
unread_later : {R : Type 0} (remaining : R → Option (List ℕ)) (first now : List R) (texts : List (List ℕ)) (place : ℕ) (y : R)
    → ((k : ℕ) → place ≤ k → slice_get now k ≡ slice_get first k) → map remaining first ≡ map (λ (x : List ℕ). Some x) texts
    → (later : ℕ) → place < later
    → slice_get (map remaining (set now place y)) later ≡ slice_get (map (λ (x : List ℕ). Some x) texts) later
unread_later remaining first now texts place y left all later above =
    other_value remaining now place later y (λ e. omega (arith, above, e)) ∙ slice_get-map remaining now later
    ∙ ap (option_map remaining) (left later (omega (arith, above))) ∙ sym (slice_get-map remaining first later)
    ∙ ap (λ (l : List (Option (List ℕ))). slice_get l later) all

-- ---- one source after another, in a loop

-- The sources before a place were read to their ends, and x, which stands there, is next.
pub record Next {R : Type 0} (state : R → SourceState) (is_text : Bool) (first now : List R) (place : ℕ) (x : R) : Type 0 where
  pub here : slice_get now place ≡ Some x
  pub before : ReadBefore is_text (map state first) (map state now) place

-- the source at the place that a loop has come to
pub next_of : {R : Type 0} (state : R → SourceState) (first now : List R) (place : ℕ) (d : R) {is_text : Bool}
    → ReadBefore is_text (map state first) (map state now) place → place < length now → Next state is_text first now place (get_or now place d)
next_of state first now place d before within = record { here = slice_get-get_or now place d within; before = before }

-- a fact of the text at a place
pub record AtText (texts : List (List ℕ)) (place : ℕ) (P : List ℕ → Type 0) : Type 0 where
  pub text : List ℕ
  pub here : slice_get texts place ≡ Some text
  pub holds : P text

module _ {R : Type 0} {state : R → SourceState} {is_text : Bool} {first now : List R} {place : ℕ} {x : R}
    (next : Next state is_text first now place x) where
  here_now : slice_get (map state now) place ≡ Some (state x)
  here_now = slice_get-map state now place ∙ ap (option_map state) next.here

  within_now : place < length (map state now)
  within_now = slice_get_within (map state now) place (state x) here_now

  left_now : slice_get (map state now) place ≡ slice_get (map state first) place
  left_now = next.before.left place (omega arith)

  -- it can be read
  pub next_open : AreOpen (map state first) → IsOpen (state x)
  next_open all = All-contains (λ source. IsOpen source) (map state first) (state x) all
      (at_place (map state first) place (state x) (sym left_now ∙ here_now))

  -- where the bytes of all sources are known, a fact of its own is one of the text there
  pub at_next : (texts : List (List ℕ)) → map remaining (map state first) ≡ map (λ (t : List ℕ). Some t) texts → (P : List ℕ → Type 0)
      → IfSome (remaining (state x)) P → AtText texts place P
  at_next texts all P fact =
      let knows = knows_now remaining (map state first) (map state now) texts place (state x) left_now here_now all in
      record { text = knows.input; here = knows.here; holds = at_known texts place (remaining (state x)) P knows fact }

  -- It is y once it was read.
  module _ (y : R) where
    -- one source more was read to its end
    pub one_more : {S : Type 0} (value : S) → IsRead is_text MAX_READS place (state x) (state y) (well {S = S} value)
        → ReadBefore is_text (map state first) (map state (set now place y)) (place + 1)
    one_more value is = rw (map-set state now place y) (one_before is_text (map state first) (map state now) place (state x) (state y)
        next.before within_now here_now value is)

    -- the run ends for its fault
    pub ends_there : {S T : Type 0} (fault : RunFault) → IsRead is_text MAX_READS place (state x) (state y) (ill {S = S} fault)
        → AreRead is_text (map state first) (map state (set now place y)) (ill {S = T} fault)
    ends_there fault is = rw (map-set state now place y) (read_to is_text (map state first) (map state now) place (state x) (state y)
        next.before within_now here_now fault is)

    -- or for refused memory, once it was read to its end
    pub refused_there : {S T : Type 0} (value : S) → IsRead is_text MAX_READS place (state x) (state y) (well {S = S} value)
        → AreRead is_text (map state first) (map state (set now place y)) (ill {S = T} Memory)
    refused_there value is = rw (map-set state now place y) (refused_after is_text (map state first) (map state now) place (state x) (state y)
        next.before within_now here_now value is)

    -- other readers of it were asked for, as of those before it
    pub asks_more : (workers : ℕ) → AskForReaders is_text workers (map state first) (map state now)
        → AsksReaders (readers_of is_text workers) (remaining (state x)) (state x) (state y)
        → AskForReaders is_text workers (map state first) (map state (set now place y))
    asks_more workers before one = rw (map-set state now place y) (one_asked is_text workers (map state first) (map state now) place (state x)
        (state y) within_now left_now here_now before one)

    -- what is left of it, and whether its end was found
    pub left_there : slice_get (lefts (map state (set now place y))) place ≡ Some (remaining (state y))
    left_there = rw (map-set state now place y) (value_there remaining (map state now) place (state y) within_now)

    pub ended_there : slice_get (ends (map state (set now place y))) place ≡ Some (has_ended (state y))
    ended_there = rw (map-set state now place y) (value_there has_ended (map state now) place (state y) within_now)

    -- all bytes of the later ones are left
    pub later_there : (texts : List (List ℕ)) → map remaining (map state first) ≡ map (λ (t : List ℕ). Some t) texts → (later : ℕ)
        → place < later → slice_get (lefts (map state (set now place y))) later ≡ slice_get (map (λ (t : List ℕ). Some t) texts) later
    later_there texts all = rw (map-set state now place y) (unread_later remaining (map state first) (map state now) texts place (state y)
        next.before.left all)

    -- the sources before it are decoded, and what is reported of it is reported
    pub stops_there : (form : InputForm) (texts : List (List ℕ)) (fault : RunFault) (segments : List Content)
        → map remaining (map state first) ≡ map (λ (t : List ℕ). Some t) texts → DecodeAll form (take place texts) segments
        → IfSome (remaining (state x)) (λ bytes. IsReportedOfSource form (remaining (state y)) (has_ended (state y)) place bytes fault)
        → StopsAtInput form (IsReportedAt form (lefts (map state (set now place y))) (ends (map state (set now place y)))) texts fault
    stops_there form texts fault segments all decoded told =
        let one = at_next texts all (λ bytes. IsReportedOfSource form (remaining (state y)) (has_ended (state y)) place bytes fault) told in
        record {
          place = place;
          input = one.text;
          here = one.here;
          segments = segments;
          before = decoded;
          reported = (remaining (state y), has_ended (state y), left_there, ended_there, one.holds);
        }

-- all were read in the loop
pub all_ended : {R S : Type 0} (state : R → SourceState) (first now : List R) (place : ℕ) (value : S) {is_text : Bool}
    → ReadBefore is_text (map state first) (map state now) place → length now ≤ place
    → AreRead is_text (map state first) (map state now) (well {S = S} value)
all_ended state first now place value before done =
    let long = length-map now state in all_read _ (map state first) (map state now) place value before (omega (arith, long, done))
