-- The states that a dialogue begins with are merged one after the other, so what was folded then is of what they tell; or one of them is
-- refused, as by a line that merges it.
use Rattle.std.proofs.Common.{◌≡◌, ◌≤◌, ◌+◌, ◌∙◌, ◌++◌, ◌∷◌, [], ℕ, Bool, false, true, List, All, None, Option, Some, ap, append-nil, arith, inl, inr}
use Rattle.std.proofs.Common.{length, map, refl, string_bytes, subst, sym, take}
use Rattle.std.specs.Prelude.{◌==◌, ◌||◌, ◌⊎◌, ⊤, IfSome, String, if◌then◌else◌, not, option_map, slice_get, Result, Ok, Err}
use Rattle.std.proofs.lemmas.Bool.{eqb-true}
use Rattle.std.proofs.lemmas.List.{length-map, map-append, nil_from_length, take_all, take_more}
use Rattle.std.proofs.lemmas.List.Elements.{All-nil, All-push}
use Rattle.std.proofs.lemmas.Option.{get_or_from_slice_get, slice_get_within}
use Rattle.htl_case.specs.declared.fault.CaseFault.TheVariants as cases
use Rattle.htl_command.specs.declared.command.Dialogue.{Dialogue}
use Rattle.htl_command.specs.declared.question.Setting.{Setting}
use Rattle.htl_device.specs.States.{SourceState, fresh, good_reads, has_failed}
use Rattle.htl_inputs.specs.Sources.{IsEndless, IsTrueAt}
use Rattle.htl_inputs.specs.declared.fault.RunFault.{RunFault}
use Rattle.htl_inputs.specs.declared.fault.RunFault.TheVariants as faults
use Rattle.htl_main.specs.Folding.{AreFolded}
use Rattle.htl_main.specs.SavedStates.{EndsMerging, HaveOtherCounts, HaveOtherIds, IsStateOf}
use Rattle.htl_main.specs.declared.folding.Folded.{Folded}
use Rattle.htl_main.specs.declared.loading.adding.Added.{Added}
use Rattle.htl_main.proofs.FoldInputs.{nothing_folded}
use Rattle.htl_segment.specs.Content.{Content}
use Rattle.htl_world.specs.Readings.{ReportsRead}
use Rattle.htl_world.specs.Rounds.{Asks}
use Rattle.htl_world.specs.Worlds.{Ask, IsAsked, Known, WorldState, change, of_each, to_read}
use Rattle.htl_world.specs.declared.world.OpenFault.{OpenFault}
use Rattle.htl_world.specs.declared.world.OpenFault.TheVariants.{NoMemory, Refused}
use Rattle.htl_world.proofs.Asked.{asked_more, asked_none}
use Rattle.htl_world.proofs.NamesRead.{lefts_of}
use Rattle.htl_world.proofs.PassedOn.{same_fault}
use Rattle.htl_ask.specs.Asking.{IsMergesFault, IsSavedState, KnownStates, if_of_one}
use Rattle.htl_ask.specs.Beginnings.{AllFit, EndsAtState, FitsBehind, IsUnmergedBehind, ReadsBehind, placed, told_by, told_first, told_with}
use Rattle.htl_ask.specs.LineRounds.{EndsReading, ReadsFor, ReadsOne, ReadsStates, all_read, unread}
use Rattle.htl_ask.specs.Loads.{MergesFolded}
use Rattle.htl_ask.proofs.StateLaws.{fault_of_run, merges_fault, merges_state}

-- What was folded is that of the states of these names, which the world was asked for.
pub record AreRestored (old now : WorldState) (names : List (List ℕ)) (folded : Folded) : Type 0 where
  pub asked : IsAsked old now (all_read names)
  pub are : All (IsSavedState old.known) names
  pub fit : (states : KnownStates old.known.holds) → AllFit states (Some []) names
  pub told : (states : KnownStates old.known.holds) → IfSome (told_first states names) (AreFolded folded.analyst)

-- before the first state
pub none_restored : (world : WorldState) (folded : Folded) → folded.analyst ≡ None → AreRestored world world [] folded
none_restored world folded none = record {
  asked = asked_none world;
  are = All-nil (IsSavedState world.known);
  fit = λ states. tt;
  told = λ states. subst (λ analyst. AreFolded analyst []) (sym none) nothing_folded;
}

told_more : {holds : List ℕ → Option (List ℕ)} (states : KnownStates holds) (before : Option (List Content)) (names : List (List ℕ))
    (name : List ℕ) → told_by states before (names ++ name ∷ []) ≡ told_with states (told_by states before names) name
told_more states before [] name = refl
told_more states before (first ∷ more) name = told_more states (told_with states before first) more name

fit_more : {holds : List ℕ → Option (List ℕ)} (states : KnownStates holds) (before : Option (List Content)) (names : List (List ℕ))
    (name : List ℕ) → AllFit states before names → FitsBehind states (told_by states before names) name
    → AllFit states before (names ++ name ∷ [])
fit_more states before [] name fit fits = (fits, tt)
fit_more states before (first ∷ more) name fit fits = (fit.0, fit_more states (told_with states before first) more name fit.1 fits)

-- where a merge ends with a fault, so it does whatever is said of what was folded
stays : (before told : List Content) (Keeps : List Content → Type 0) (Stays : Type 0) (fault : RunFault)
    → EndsMerging false before told Keeps Stays (Err fault) → EndsMerging false before told (λ all. ⊤) ⊤ (Err fault)
stays before told Keeps Stays (faults.Case (cases.OtherTrace place)) (at, some, ids, same) = (at, some, ids, tt)
stays before told Keeps Stays (faults.Case (cases.OtherProcessors place)) (at, some, counts, same) = (at, some, counts, tt)
stays before told Keeps Stays (faults.Case (cases.TwoContents processor number)) (two, same) = (two, tt)
stays before told Keeps Stays (faults.Incomplete processor number) (asked, all) = absurd (cc asked)
stays before told Keeps Stays faults.Memory is = tt
stays before told Keeps Stays fault is = absurd is

-- The state of a name was to be merged into what was folded of states that tell this, as far as that is known.
module _ (world : Known) (states : KnownStates world.holds) (setting : Setting) (name : List ℕ) (before after : Folded) where
  -- of one that was merged
  one_told : (added : Added) → MergesFolded world setting before name after (Ok added) → (so_far : Option (List Content))
      → IfSome so_far (AreFolded before.analyst) → IfSome (told_with states so_far name) (AreFolded after.analyst)
  one_told added is None are = tt
  one_told added is (Some all) are = by_told (states.tells name) (states.states name)
    where
      by_one : (told : List Content) (known : List ℕ) → world.holds name ≡ Some known → IsStateOf known told
          → (one : Bool) → states.are_of_one all told ≡ one → MergesFolded world setting before name after (Ok added)
          → IfSome (option_map (λ told. all ++ told) (if one then Some told else None)) (AreFolded after.analyst)
      by_one told known holds state false one is = tt
      by_one told known holds state true one (inl (bytes, held, there, merges)) =
          let here : bytes ≡ known = rw holds at held in
          let ended = merges.outcome all told are (rw here state) in
          (ended.3 (states.sound all told one)).kept
      by_one told known holds state true one (inr (inl unread)) = absurd (cc unread.0)
      by_one told known holds state true one (inr (inr memory)) = absurd (cc memory)

      by_told : (told : Option (List Content))
          → IfSome told (λ told. (known : List ℕ) × (world.holds name ≡ Some known) × IsStateOf known told)
          → IfSome (option_map (λ told. all ++ told) (if_of_one (states.are_of_one all) told)) (AreFolded after.analyst)
      by_told None state = tt
      by_told (Some told) state = by_one told state.0 state.1 state.2 (states.are_of_one all told) refl is

  -- it fits
  one_fits : (added : Added) → MergesFolded world setting before name after (Ok added) → (so_far : Option (List Content))
      → IfSome so_far (AreFolded before.analyst) → FitsBehind states so_far name
  one_fits added is None are = tt
  one_fits added is (Some all) are = by_told (states.tells name) (states.states name) is
    where
      by_told : (told : Option (List Content))
          → IfSome told (λ told. (known : List ℕ) × (world.holds name ≡ Some known) × IsStateOf known told)
          → MergesFolded world setting before name after (Ok added)
          → IfSome told (λ told. (HaveOtherIds all told → all ≡ []) × (HaveOtherCounts all told → all ≡ []))
      by_told None state is = tt
      by_told (Some told) (known, holds, state) (inl (bytes, held, there, merges)) =
          let here : bytes ≡ known = rw holds at held in
          let ended = merges.outcome all told are (rw here state) in
          (ended.1, ended.2)
      by_told (Some told) state (inr (inl unread)) = absurd (cc unread.0)
      by_told (Some told) state (inr (inr memory)) = absurd (cc memory)

  -- of one that was refused
  not_told : (fault : RunFault) → setting.complete ≡ false → MergesFolded world setting before name after (Err fault)
      → (so_far : Option (List Content)) → IfSome so_far (AreFolded before.analyst) → IsUnmergedBehind states so_far name fault
  not_told fault short is None are = tt
  not_told fault short is (Some all) are = by_told (states.tells name) (states.states name)
    where
      by_one : (told : List Content) (known : List ℕ) → world.holds name ≡ Some known → IsStateOf known told
          → (one : Bool) → states.are_of_one all told ≡ one → MergesFolded world setting before name after (Err fault)
          → IfSome (if one then Some told else None) (λ told. EndsMerging false all told (λ l. ⊤) ⊤ (Err fault))
      by_one told known holds state false one is = tt
      by_one told known holds state true one (inl (bytes, held, there, merges)) =
          let here : bytes ≡ known = rw holds at held in
          let Stays = after.analyst ≡ before.analyst in
          stays all told (AreFolded after.analyst) Stays fault
          (subst (λ complete. EndsMerging complete all told (AreFolded after.analyst) Stays (Err fault)) short
          (merges.outcome all told are (rw here state)))
      by_one told known holds state true one (inr (inl (unread, none, same))) = absurd (let both = sym none ∙ holds in cc both)
      by_one told known holds state true one (inr (inr memory)) = rw (fault_of_run fault faults.Memory memory) tt

      by_told : (told : Option (List Content))
          → IfSome told (λ told. (known : List ℕ) × (world.holds name ≡ Some known) × IsStateOf known told)
          → IfSome (if_of_one (states.are_of_one all) told) (λ told. EndsMerging false all told (λ l. ⊤) ⊤ (Err fault))
      by_told None state = tt
      by_told (Some told) state = by_one told state.0 state.1 state.2 (states.are_of_one all told) refl is

-- ---- what the world is asked for

-- what was merged was read
all_asked : (name : List ℕ) (added : Added) (asks : List Ask) → ReadsFor {S = Added} name (Ok added) asks → asks ≡ to_read name None ∷ []
all_asked name added asks (None, is, told) = is
all_asked name added asks (Some why, is, told) = absurd (cc told)

-- a fault has its place once
placed_again : (place : ℕ) (fault : RunFault) → placed place fault ≡ placed place (placed place fault)
placed_again place (faults.State state offset fault) = refl
placed_again place (faults.Unbounded state processor) = refl
placed_again place (faults.StateRead state) = refl
placed_again place (faults.Case (cases.OtherTrace segment)) = refl
placed_again place (faults.Case (cases.OtherProcessors segment)) = refl
placed_again place fault = refl

-- what could not be read is reported by its place
told_unread : (place : ℕ) (fault : RunFault) (why : Option OpenFault)
    → IfSome why (λ refused. ◌≡◌ {A = Result Added RunFault} (Err fault) (Err (unread 0 refused)))
    → IfSome why (λ refused. placed place fault ≡ unread place refused)
told_unread place fault None told = tt
told_unread place fault (Some Refused) told = ap (placed place) (fault_of_run fault (faults.StateRead 0) told)
told_unread place fault (Some NoMemory) told = ap (placed place) (fault_of_run fault faults.Memory told)

-- ---- one state more

module _ (old mid new : WorldState) (names : List (List ℕ)) (setting : Setting) (name : List ℕ) (before after : Folded) where
  -- it was merged
  pub one_restored : (added : Added) → AreRestored old mid names before → MergesFolded mid.known setting before name after (Ok added)
      → Asks (change mid new) (ReadsFor {S = Added} name (Ok added)) → AreRestored old new (names ++ name ∷ []) after
  one_restored added so_far merges (log, asked, of) =
      let is = subst (λ world. MergesFolded world setting before name after (Ok added)) so_far.asked.known merges in
      record {
        asked = subst (IsAsked old new) (ap (λ l. all_read names ++ l) (all_asked name added log of)
            ∙ sym (map-append (λ name. to_read name None) names (name ∷ []))) (asked_more so_far.asked asked);
        are = All-push (IsSavedState old.known) names name so_far.are (merges_state old.known setting name before after added is);
        fit = λ states. fit_more states (Some []) names name (so_far.fit states)
            (one_fits old.known states setting name before after added is (told_first states names) (so_far.told states));
        told = λ states. subst (λ told. IfSome told (AreFolded after.analyst)) (sym (told_more states (Some []) names name))
            (one_told old.known states setting name before after added is (told_first states names) (so_far.told states));
      }

module _ (old mid new : WorldState) (names : List (List ℕ)) (place : ℕ) (setting : Setting) (name : List ℕ) (before after : Folded)
    (here : slice_get names place ≡ Some name) (so_far : AreRestored old mid (take place names) before) (fault : RunFault) where
  -- it was refused, or memory was
  pub one_refused : setting.complete ≡ false → MergesFolded mid.known setting before name after (Err fault)
      → (states : KnownStates old.known.holds) → EndsAtState old.known states names (placed place fault)
  one_refused short merges states =
      let is = subst (λ world. MergesFolded world setting before name after (Err fault)) so_far.asked.known merges in
      elim (merges_fault old.known setting name before after fault is) [
        | inl why ↦ inl (record {
          place = place;
          name = name;
          here = here;
          before = so_far.are;
          fit = so_far.fit states;
          fault = fault;
          is = refl;
          why = why;
          unmerged = not_told old.known states setting name before after fault short is (told_first states (take place names))
              (so_far.told states);
        })
        | inr memory ↦ inr (ap (placed place) memory)
      ]

  pub ends_reading : Asks (change mid new) (ReadsFor {S = Added} name (Err fault)) → Asks (change old new) (EndsReading names (placed place fault))
  ends_reading (log, asked, (why, is, told)) = (
    all_read (take place names) ++ log,
    asked_more so_far.asked asked,
    (
      place,
      name,
      why,
      here,
      ap (λ l. all_read (take place names) ++ l) is,
      placed_again place fault,
      told_unread place fault why told,
    ),
  )

-- ---- what follows

-- a state that is asked for is asked for once
pub reads_one : {S : Type 0} (old new : WorldState) (name : List ℕ) (ended : Result S RunFault) → Asks (change old new) (ReadsFor name ended)
    → Asks (change old new) (ReadsOne name)
reads_one old new name ended (log, asked, (why, is, told)) = (log, asked, (why, is))

module _ {S : Type 0} (old mid new : WorldState) (names : List (List ℕ)) (ended : Result S RunFault) (Next : List Ask → Type 0) where
  -- all states were read, and then others were asked for
  pub states_then : IsAsked old mid (all_read names) → Asks (change mid new) Next → Asks (change old new) (ReadsStates names ended Next)
  states_then asked (log, later, next) = (all_read names ++ log, asked_more asked later, inl (log, refl, next))

  -- or none were
  pub states_alone : IsAsked old mid (all_read names) → Next [] → Asks (change old mid) (ReadsStates names ended Next)
  states_alone asked next = (all_read names, asked, inl ([], sym (append-nil (all_read names)), next))

  -- that ended at one of them
  pub states_ended : (fault : RunFault) → ended ≡ Err fault → Asks (change old new) (EndsReading names fault)
      → Asks (change old new) (ReadsStates names ended Next)
  states_ended fault is (log, asked, ends) = (log, asked, inr (fault, is, ends))

-- ---- the names

-- the first names and the next one
pub next_name : (names : List (List ℕ)) (place : ℕ) (name : List ℕ) → slice_get names place ≡ Some name
    → take (place + 1) names ≡ take place names ++ name ∷ []
next_name names place name here =
    take_more names place name (slice_get_within names place name here)
    ∙ ap (λ n. take place names ++ n ∷ []) (get_or_from_slice_get names place name name here)

-- as many names as there are are all
pub all_names : {A : Type 0} (names : List (String A)) (count : ℕ) → length names ≤ count
    → take count (map string_bytes names) ≡ map string_bytes names
all_names names count le =
    let long = length-map names string_bytes in
    take_all count (map string_bytes names) (omega (arith, long, le))

not_false : (is : Bool) → not is ≡ false → is ≡ true
not_false true e = refl
not_false false e = absurd (cc e)

-- a dialogue that keeps segments begins with no state
pub no_states : {A : Type 0} (folds : Bool) (names : List A) → (folds || not (length names == 0)) ≡ false → names ≡ []
no_states true names keeps = absurd (cc keeps)
no_states false names keeps =
    nil_from_length names (eqb-true (length names) 0 (not_false (length names == 0) keeps))

-- ---- failed reads

-- no state is refused for a failed read of an input
never_read : (held : Option (List ℕ)) (place input : ℕ) (fault : RunFault) → IsMergesFault held fault → placed place fault ≡ faults.Read input → ⊥
never_read held place input (faults.State state offset fault) why is = absurd (cc is)
never_read held place input (faults.Unbounded state processor) why is = absurd (cc is)
never_read held place input (faults.StateRead state) why is = absurd (cc is)
never_read held place input (faults.Case (cases.OtherTrace segment)) why is = absurd (cc is)
never_read held place input (faults.Case (cases.OtherProcessors segment)) why is = absurd (cc is)
never_read held place input (faults.Case fault) why is = absurd (cc is)
never_read held place input (faults.Incomplete processor number) why is = absurd (cc is)
never_read held place input fault why is = absurd why

module _ {S : Type 0} (world : Known) (states : KnownStates world.holds) (of : Dialogue) (sources : List SourceState) (result : Result S RunFault) where
  -- a failed read that is reported is one of an input
  pub behind_read : ReadsBehind world states of.setting.form.hex (map string_bytes of.states.items) (map fresh (of_each world.holds of.files.items))
      sources result → ReportsRead world (of_each world.holds of.files.items) of.files.items sources result
  behind_read (inl (all, fit, read)) place told =
      inr (subst (λ known. IsTrueAt (map has_failed sources) place ⊎ IsEndless (map good_reads sources) known place) (lefts_of refl)
      (read.read place told))
  behind_read (inr (fault, is, same, (inl refuses))) place told =
      absurd (never_read (world.holds refuses.name) refuses.place place refuses.fault refuses.why
      (sym refuses.is ∙ same_fault fault (faults.Read place) result is told))
  behind_read (inr (fault, is, same, (inr memory))) place told =
      absurd (let read = sym memory ∙ same_fault fault (faults.Read place) result is told in cc read)
