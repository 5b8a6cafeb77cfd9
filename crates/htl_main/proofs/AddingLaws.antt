-- What was loaded before counts as one more input behind the others, and a case has no fewer segments than one whose segments it has.
use Rattle.std.proofs.Common.{◌≡◌, ◌≢◌, ◌⊎◌, ◌≤◌, ◌<◌, ◌∙◌, ℕ, Bool, true, false, List, [], ◌∷◌, ◌++◌, length, map, Option, Some, None, refl, sym}
use Rattle.std.proofs.Common.{ap, subst, arith, inl, inr}
use Rattle.std.specs.Prelude.{Contains, slice_get}
use Rattle.std.proofs.lemmas.List.{length-map, take-append-le, take_all}
use Rattle.std.proofs.lemmas.List.Elements.{Contains-append_right}
use Rattle.std.proofs.lemmas.Option.{slice_get_within}
use Rattle.htl_device.specs.States.{SourceState, remaining}
use Rattle.htl_event.proofs.Members.{at_member, Contains-cases, Contains-here, Contains-nil, Contains-there}
use Rattle.htl_segment.specs.Content.{Content}
use Rattle.htl_segment.specs.Rising.{IsKeyBefore}
use Rattle.htl_segment.specs.Traces.{AreInOrder, IsBefore, Trace}
use Rattle.htl_tables.proofs.FirstNoted.{get_last}
use Rattle.htl_tables.proofs.FlatPlaces.{get_left}
use Rattle.htl_case.specs.Cases.{IsCase, IsCaseOf}
use Rattle.htl_case.specs.Faults.{key_of}
use Rattle.htl_case.proofs.KeyOrder.{before_before, not_itself}
use Rattle.htl_command.specs.declared.question.InputForm.{InputForm}
use Rattle.htl_command.specs.declared.question.Job.{Job}
use Rattle.htl_command.specs.declared.question.Setting.{Setting}
use Rattle.htl_inputs.specs.CutInputs.{AreCutEnds, Decoding, decoding}
use Rattle.htl_inputs.specs.Inputs.{DecodeAll, Decodes, IsReportedOfInput, StopsAtInput, HasSegment}
use Rattle.htl_inputs.specs.declared.cuts.CutEnd.{CutEnd}
use Rattle.htl_inputs.proofs.CutLaws.{ends_whole}
use Rattle.htl_inputs.proofs.EndLaws.{nothing_left}
use Rattle.htl_inputs.specs.Spans.{AreSpans}
use Rattle.htl_inputs.specs.Readings.{AreRead}
use Rattle.htl_inputs.specs.Sources.{IsReportedAt}
use Rattle.htl_inputs.specs.declared.decoded.InputSpan.{InputSpan}
use Rattle.htl_inputs.specs.declared.fault.RunFault.{RunFault}
use Rattle.htl_inputs.specs.declared.fault.RunFault.TheVariants.{Case, Hex, Memory, Read, Segment, Write}
use Rattle.htl_inputs.proofs.InputLaws.{asked_for, decode_more}
use Rattle.htl_inputs.proofs.ReadingLaws.{ill, read_then, well}
use Rattle.htl_main.specs.Causes.{IsCauseAfter, IsSourcesCause}
use Rattle.htl_main.specs.Loading.{in_setting}
use Rattle.htl_main.specs.Origins.{IsBetween}
use Rattle.htl_main.specs.Printed.{WorkersFit}
use Rattle.htl_main.specs.declared.origin.Between.TheVariants.{Nothing}
use Rattle.htl_main.proofs.AfterDecoding.{not_write, reads_then, some_job, sources_cause_of}

-- ---- how many segments there are

-- the first of segments in order comes before the others
before_later : (s : Content) (ss : List Content) (u : Content) → AreInOrder (s ∷ ss) → Contains ss u → IsBefore s u
before_later s ss u ordered there = at_member (IsBefore s) ss u ordered.0 there

before_itself : (s u : Content) → IsBefore s u → s ≡ u → ⊥
before_itself s u before same =
    not_itself (key_of s) (subst (λ (x : Content). IsKeyBefore (key_of s) (key_of x)) (sym same) before)

-- segments in order are no more than others that have them all
pub no_more : (ts ss : List Content) → AreInOrder ss → AreInOrder ts → ((s : Content) → Contains ss s → Contains ts s) → length ss ≤ length ts
no_more ts [] ordered others all = omega arith
no_more [] (s ∷ ss) ordered others all = absurd (Contains-nil s (all s (Contains-here s ss)))
no_more (t ∷ ts) (s ∷ ss) ordered others all =
    elim (Contains-cases t ts s (all s (Contains-here s ss))) [
      | inl first ↦
          let fewer = no_more ts ss ordered.1 others.1 (λ u there.
          elim (Contains-cases t ts u (all u (Contains-there s ss u there))) [
            | inl same ↦ absurd (before_itself s u (before_later s ss u ordered there) (sym first ∙ same))
            | inr later ↦ later
          ]) in
          omega (arith, fewer)
      | inr behind ↦
          let fewer = no_more ts (s ∷ ss) ordered others.1 (λ u there. elim (Contains-cases s ss u there) [
            | inl same ↦ subst (λ (x : Content). Contains ts x) same behind
            | inr later ↦ elim (Contains-cases t ts u (all u there)) [
              | inl is ↦ absurd (before_itself t u (before_before (key_of t) (key_of s) (key_of u) (before_later t ts s others behind)
                  (before_later s ss u ordered later)) is)
              | inr found ↦ found
            ]
          ]) in
          omega (arith, fewer)
    ]

-- a case has no fewer segments than one whose segments it has
pub no_fewer : (segments : List Content) (S T : Trace) → IsCase S → IsCaseOf (segments ++ S.segments) T → length S.segments ≤ length T.segments
no_fewer segments S T is case =
    no_more T.segments S.segments is.trace.in_order case.is_case.trace.in_order
    (λ s there. (case.members s).1 (Contains-append_right segments S.segments s there))

-- ---- one input more behind the others

-- the segments of all, where copies of some stand behind the others
pub behind : (all decoded copies kept before : List Content) → all ≡ decoded ++ copies → copies ≡ kept → kept ≡ before → all ≡ decoded ++ before
behind all decoded copies kept before added copied same = added ∙ ap (λ (ss : List Content). decoded ++ ss) (copied ∙ same)

has_too : (form : InputForm) (inputs : List (List ℕ)) (later : List ℕ) (place : ℕ) (s : Content) → HasSegment form inputs place s
    → HasSegment form (inputs ++ later ∷ []) place s
has_too form inputs later place s has = record {
  input = has.input;
  here = get_left inputs (later ∷ []) place has.input has.here;
  own = has.own;
  decoded = has.decoded;
  has = has.has;
}

-- the part of each segment is the same
pub spans_too : (form : InputForm) (inputs : List (List ℕ)) (later : List ℕ) (segments : List Content) (spans : List InputSpan)
    → AreSpans form inputs segments spans → AreSpans form (inputs ++ later ∷ []) segments spans
spans_too form inputs later segments spans are = record {
  within = are.within;
  each = λ place s at.
      let own = are.each place s at in
      (own.0, own.1, has_too form inputs later own.0.input s own.2);
}

-- what stops at an input stops there too
stops_too : (form : InputForm) (Reported Now : ℕ → List ℕ → RunFault → Type 0) (inputs : List (List ℕ)) (later : List ℕ) (fault : RunFault)
    → ((place : ℕ) (input : List ℕ) → Reported place input fault → Now place input fault) → StopsAtInput form Reported inputs fault
    → StopsAtInput form Now (inputs ++ later ∷ []) fault
stops_too form Reported Now inputs later fault too stops = record {
  place = stops.place;
  input = stops.input;
  here = get_left inputs (later ∷ []) stops.place stops.input stops.here;
  segments = stops.segments;
  before =
      let within = slice_get_within inputs stops.place stops.input stops.here in
      rw (take-append-le stops.place inputs (later ∷ []) (omega (arith, within))) stops.before;
  reported = too stops.place stops.input stops.reported;
}

-- an input of whole segments is one where inputs may be partial too
pub may_be_partial : (form : InputForm) (input : List ℕ) (segments : List Content) → Decodes (record form { partial = false }) input segments
    → Decodes form input segments
may_be_partial form input segments decoded = record {
  bytes = decoded.bytes;
  has = decoded.has;
  rest = decoded.rest;
  splits = decoded.splits;
  left = rw (decoded.left) (nothing_left form.partial);
}

-- what ends adding once all inputs were read: memory for copies was refused, or it is a cause after decoding
abbrev EndsAfter : Decoding → Setting → RunFault → Type 0
EndsAfter given setting fault =
    (fault ≡ Memory) ⊎ ((job : Job) → job.setting.complete ≡ setting.complete → job.until ≡ None → IsCauseAfter given None job fault)

module _ (setting : Setting) (inputs : List (List ℕ)) (earlier : List ℕ) (lefts : List (Option (List ℕ))) (ends : List Bool) where
  reported_too : (fault : RunFault) (place : ℕ) (input : List ℕ) → IsReportedAt setting.form lefts ends place input fault
      → IsReportedAt setting.form (lefts ++ Some [] ∷ []) (ends ++ true ∷ []) place input fault
  reported_too fault place input reported = (
    reported.0,
    reported.1,
    get_left lefts (Some [] ∷ []) place reported.0 reported.2,
    get_left ends (true ∷ []) place reported.1 reported.3,
    reported.4,
  )

  -- why reading ends
  pub stops_cause : (job : Job) (fault : RunFault) → WorkersFit setting.workers
      → StopsAtInput setting.form (IsReportedAt setting.form lefts ends) inputs fault
      → IsSourcesCause (in_setting setting job) (inputs ++ earlier ∷ []) (lefts ++ Some [] ∷ []) (ends ++ true ∷ []) None fault
  stops_cause job (Segment at offset found) fit stops = (
    fit,
    stops_too setting.form (IsReportedAt setting.form lefts ends) (IsReportedOfInput setting.form) inputs earlier (Segment at offset found)
        (λ place input reported. reported.4) stops,
  )
  stops_cause job (Hex at found) fit stops = (
    fit,
    stops_too setting.form (IsReportedAt setting.form lefts ends) (IsReportedOfInput setting.form) inputs earlier (Hex at found)
        (λ place input reported. reported.4) stops,
  )
  stops_cause job (Read at) fit stops = (
    fit,
    stops_too setting.form (IsReportedAt setting.form lefts ends) (IsReportedAt setting.form (lefts ++ Some [] ∷ []) (ends ++ true ∷ []))
        inputs earlier (Read at) (reported_too (Read at)) stops,
  )
  stops_cause job Memory fit stops = (
    fit,
    inl (stops_too setting.form (IsReportedAt setting.form lefts ends)
        (IsReportedAt setting.form (lefts ++ Some [] ∷ []) (ends ++ true ∷ [])) inputs earlier Memory (reported_too Memory) stops),
  )
  stops_cause job fault fit stops = absurd (stops.reported.4)

  -- which is about no two segments
  pub none_stops : (all : List (List ℕ)) (fault : RunFault) → StopsAtInput setting.form (IsReportedAt setting.form lefts ends) inputs fault
      → IsBetween setting.form all fault Nothing
  none_stops all (Case found) stops = absurd (stops.reported.4)
  none_stops all fault stops = refl

  -- Memory for what was loaded before is asked for at the input that has it.
  stops_there : (segments before : List Content) → DecodeAll setting.form inputs segments → Decodes setting.form earlier before
      → before ≢ [] → length lefts ≡ length inputs → length ends ≡ length inputs
      → StopsAtInput setting.form (IsReportedAt setting.form (lefts ++ Some [] ∷ []) (ends ++ true ∷ [])) (inputs ++ earlier ∷ []) Memory
  stops_there segments before all decoded some as_many so_many = record {
    place = length inputs;
    input = earlier;
    here = get_last inputs earlier;
    segments = segments;
    before = rw (take-append-le (length inputs) inputs (earlier ∷ []) (omega arith), take_all (length inputs) inputs (omega arith)) all;
    reported = (
      Some [],
      true,
      subst (λ (n : ℕ). slice_get (lefts ++ Some [] ∷ []) n ≡ Some (Some [])) as_many (get_last lefts (Some [])),
      subst (λ (n : ℕ). slice_get (ends ++ true ∷ []) n ≡ Some true) so_many (get_last ends true),
      inl (asked_for setting.form earlier before decoded (some_long before some)),
    );
  }
    where
      some_long : (ss : List Content) → ss ≢ [] → 0 < length ss
      some_long [] other = absurd (other refl)
      some_long (s ∷ ss) other = omega arith

  -- why adding ends once all inputs were read
  pub added_cause : (job : Job) (segments before : List Content) (cuts : List CutEnd) (fault : RunFault) → WorkersFit setting.workers
      → DecodeAll setting.form inputs segments → AreCutEnds setting.form.hex inputs cuts
      → Decodes (record (setting.form) { partial = false }) earlier before → before ≢ []
      → length lefts ≡ length inputs → length ends ≡ length inputs → job.until ≡ None
      → EndsAfter (decoding (segments ++ before) cuts) setting fault
      → IsSourcesCause (in_setting setting job) (inputs ++ earlier ∷ []) (lefts ++ Some [] ∷ []) (ends ++ true ∷ []) None fault
  added_cause job segments before cuts fault fit all are decoded some as_many so_many as_of (inl memory) =
      rw memory (fit, inl (stops_there segments before all (may_be_partial setting.form earlier before decoded) some as_many so_many))
  added_cause job segments before cuts fault fit all are decoded some as_many so_many as_of (inr cause) =
      sources_cause_of (in_setting setting job) (inputs ++ earlier ∷ []) (lefts ++ Some [] ∷ []) (ends ++ true ∷ []) None
      (decoding (segments ++ before) cuts) fault fit
      (record {
        segments = decode_more setting.form inputs earlier segments before all (may_be_partial setting.form earlier before decoded);
        cuts = ends_whole setting.form.hex inputs earlier cuts are (before, decoded);
      })
      (cause (in_setting setting job) refl as_of)

-- ---- how the sources are read where it ends so

abbrev job_of : Setting → Job
job_of setting = record some_job { setting = setting; until = None }

-- it is no failed write
pub no_write_after : (given : Decoding) (setting : Setting) (fault : RunFault) → EndsAfter given setting fault → fault ≢ Write
no_write_after given setting fault (inl memory) is = cc (memory, is)
no_write_after given setting fault (inr cause) is =
    not_write given None (job_of setting) fault (cause (job_of setting) refl refl) is

-- they are read as by a run that ends well
pub reads_after : {S T : Type 0} (is_text : Bool) (old new : List SourceState) (value : S) (given : Decoding) (setting : Setting)
    (fault : RunFault) → AreRead is_text old new (well value) → EndsAfter given setting fault → AreRead is_text old new (ill {S = T} fault)
reads_after is_text old new value given setting fault read (inl memory) =
    rw memory (read_then is_text old new value (ill Memory) read (λ at told. cc told) (λ place before. before))
reads_after is_text old new value given setting fault read (inr cause) =
    reads_then is_text old new value given None (job_of setting) fault read
    (cause (job_of setting) refl refl)

-- as many sources as texts were read
pub as_many : (old new : List SourceState) (texts : List (List ℕ))
    → map remaining old ≡ map (λ (x : List ℕ). Some x) texts → length new ≡ length old → length texts ≡ length new
as_many old new texts all same =
    sym (length-map texts (λ (x : List ℕ). Some x)) ∙ sym (ap length all) ∙ length-map old remaining ∙ sym same
