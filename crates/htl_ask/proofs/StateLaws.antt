-- What is said of a saved state that is merged into what was folded, or made of it, is said of the segments that were taken.
use Rattle.std.proofs.Common.{◌≡◌, ◌≢◌, ◌∙◌, ◌++◌, ℕ, Bool, false, true, List, [], None, Option, Some, inl, inr, refl, subst, sym}
use Rattle.std.specs.Prelude.{◌⊎◌, IfErr, IfSome, OnOk, if◌then◌else◌, is_some, Result, Ok, Err}
use Rattle.htl_analyst.specs.States.{State as Analyst}
use Rattle.htl_case.specs.declared.fault.CaseFault.TheVariants as cases
use Rattle.htl_command.specs.declared.question.Setting.{Setting}
use Rattle.htl_inputs.specs.declared.fault.RunFault.{RunFault}
use Rattle.htl_inputs.specs.declared.fault.RunFault.TheVariants as faults
use Rattle.htl_main.specs.Folding.{AreFolded, IsHalfKnown}
use Rattle.htl_main.specs.Origins.{by_fault}
use Rattle.htl_main.specs.Printed.{HasSymbols}
use Rattle.htl_main.specs.SavedStates.{AreOfOne, EndsMerging, IsNoState, IsStateOf, IsUnsaved}
use Rattle.htl_main.specs.declared.folding.Folded.{Folded}
use Rattle.htl_main.specs.declared.loading.adding.Added.{Added}
use Rattle.htl_main.specs.declared.refused.Refused.{Refused}
use Rattle.htl_saved.specs.Loads.{IsLoaded}
use Rattle.htl_segment.specs.Content.{Content}
use Rattle.htl_world.specs.Worlds.{Known, WorldChange}
use Rattle.htl_ask.specs.Asking.{GoesOn, IsMergesFault, IsSavedState, KnownStates, MergesName, MergesState, MergesTold, SavesName, SavesSegments}
use Rattle.htl_ask.specs.Asking.{Taken, if_of_one, inputs, merged_unknown, segments}
use Rattle.htl_ask.specs.Loads.{AreKept, MergesFile, MergesFolded, SavesFile, SavesFolded}
use Rattle.htl_ask.specs.declared.kept.Kept.{Kept}
use Rattle.htl_ask.specs.declared.kept.Kept.TheVariants.{Case, State}
use Rattle.htl_ask.proofs.KeptLaws.{Holds}

pub fault_of_run : (x y : RunFault) → ◌≡◌ {A = Result Added RunFault} (Err x) (Err y) → x ≡ y
fault_of_run x y e = cc

-- what is no state, as a name is known to hold it
no_state : (held : Option (List ℕ)) (bytes : List ℕ) (fault : RunFault) → IfSome held (λ known. bytes ≡ known) → IsNoState bytes fault
    → IfSome held (λ known. IsNoState known fault)
no_state None bytes fault same is = tt
no_state (Some known) bytes fault same is = subst (λ b. IsNoState b fault) same is

-- ---- merging

-- a merge that isn't refused memory, by its fault
abbrev IsKnown : Result Added RunFault → Type 0
IsKnown ended = ended ≢ Err faults.Memory

goes_on_known : (ended : Result Added Refused) → GoesOn ended → IsKnown (by_fault ended)
goes_on_known (Ok added) goes_on e = cc e
goes_on_known (Err refused) goes_on e = goes_on (fault_of_run refused.fault faults.Memory e)

-- the segments by then, once a state of these was merged into those from before, or was refused
abbrev merged : List Content → List Content → Result Added RunFault → List Content
merged before told (Ok added) = before ++ told
merged before told (Err (faults.Incomplete processor number)) = before ++ told
merged before told (Err fault) = before

-- Where both lists are of one trace, these are what was folded by then.
module _ (complete : Bool) (before told : List Content) (old now : Option Analyst) (are : AreFolded old before) (one : AreOfOne before told) where
  abbrev Then : List Content → Result Added RunFault → Type 0
  Then all ended =
      AreFolded now all
      × EndsMerging complete before told (λ l. Some (segments all) ≡ Some (segments l)) (Some (segments all) ≡ Some (segments before)) ended

  stayed : now ≡ old → AreFolded now before
  stayed same = subst (λ (analyst : Option Analyst). AreFolded analyst before) (sym same) are

  merged_then : (ended : Result Added RunFault) → IsKnown ended → EndsMerging complete before told (AreFolded now) (now ≡ old) ended
      → Then (merged before told ended) ended
  merged_then (Ok added) known (cut, ids, counts, all) =
      let is = all one in (
        is.kept,
        (cut, ids, counts, λ same. record { kept = refl; segments = is.segments; new = is.new; coverage = is.coverage }),
      )
  merged_then (Err (faults.Case (cases.OtherTrace place))) known (at, some, ids, same) = (stayed same, (at, some, ids, refl))
  merged_then (Err (faults.Case (cases.OtherProcessors place))) known (at, some, counts, same) = (stayed same, (at, some, counts, refl))
  merged_then (Err (faults.Case (cases.TwoContents processor number))) known (two, same) = (stayed same, (two, refl))
  merged_then (Err (faults.Incomplete processor number)) known (asked, all) =
      let is = all one in (is.0, (asked, λ same. (refl, is.1)))
  merged_then (Err faults.Memory) known is = absurd (known refl)
  merged_then (Err fault) known is = absurd is

-- The state of a name was to be merged into what was folded.
module _ (world : Known) (setting : Setting) (name : List ℕ) (before after : Folded) where
  -- why it isn't merged
  pub merges_fault : (fault : RunFault) → MergesFolded world setting before name after (Err fault)
      → IsMergesFault (world.holds name) fault ⊎ (fault ≡ faults.Memory)
  merges_fault fault (inr (inl (told, none, same))) =
      let read : fault ≡ faults.StateRead 0 = fault_of_run fault (faults.StateRead 0) told in inl (rw read (refl, none))
  merges_fault fault (inr (inr memory)) = inr (fault_of_run fault faults.Memory memory)
  merges_fault (faults.State place offset fault) (inl (bytes, held, there, is)) =
      inl (no_state (world.holds name) bytes (faults.State place offset fault) held is.no_state.0)
  merges_fault (faults.Unbounded place processor) (inl (bytes, held, there, is)) =
      inl (no_state (world.holds name) bytes (faults.Unbounded place processor) held is.no_state.0)
  merges_fault (faults.Case fault) (inl (bytes, held, there, is)) = inl tt
  merges_fault (faults.Incomplete processor number) (inl (bytes, held, there, is)) = inl tt
  merges_fault faults.Memory (inl (bytes, held, there, is)) = inr refl
  merges_fault fault (inl (bytes, held, there, is)) = absurd is.no_state

  -- what was merged is a state
  pub merges_state : (added : Added) → MergesFolded world setting before name after (Ok added) → IsSavedState world name
  merges_state added (inl (bytes, held, there, is)) = record { there = there; loaded = as_held (world.holds name) held }
    where
      as_held : (held : Option (List ℕ)) → IfSome held (λ known. bytes ≡ known)
          → IfSome held (λ known. (analyst : Analyst) × IsLoaded known analyst)
      as_held None same = tt
      as_held (Some known) same = subst (λ b. (analyst : Analyst) × IsLoaded b analyst) same is.loaded
  merges_state added (inr (inl unread)) = absurd (cc unread.0)
  merges_state added (inr (inr memory)) = absurd (cc memory)

  merges_loaded : (ended : Result Added Refused) → MergesFolded world setting before name after (by_fault ended)
      → OnOk ended (IsSavedState world name)
  merges_loaded (Ok added) is = merges_state added is
  merges_loaded (Err refused) is = tt

  merges_faults : (ended : Result Added Refused) → GoesOn ended → MergesFolded world setting before name after (by_fault ended)
      → IfErr ended (λ refused. IsHalfKnown refused.fault refused.between)
      → IfErr ended (λ refused. IsMergesFault (world.holds name) refused.fault × IsHalfKnown refused.fault refused.between)
  merges_faults (Ok added) goes_on is between = tt
  merges_faults (Err refused) goes_on is between =
      elim (merges_fault refused.fault is) [
        | inl why ↦ (why, between)
        | inr memory ↦ absurd (goes_on memory)
      ]

  -- where there is nothing under the name, that is reported
  merges_absent : (ended : Result Added RunFault) → IsKnown ended → MergesFolded world setting before name after ended
      → world.is_absent name ≡ true → ended ≡ Err (faults.StateRead 0)
  merges_absent ended known (inl (bytes, held, there, is)) absent = absurd (let both = sym there ∙ absent in cc both)
  merges_absent ended known (inr (inl unread)) absent = unread.0
  merges_absent ended known (inr (inr memory)) absent = absurd (known memory)

  -- that ended so, in a dialogue that goes on
  merges_so : (ended : Result Added Refused) → GoesOn ended → MergesFolded world setting before name after (by_fault ended)
      → IfErr ended (λ refused. IsHalfKnown refused.fault refused.between) → MergesState world name ended
  merges_so ended goes_on is between = record {
    goes_on = goes_on;
    absent = merges_absent (by_fault ended) (goes_on_known ended goes_on) is;
    loaded = merges_loaded ended is;
    fault = merges_faults ended goes_on is between;
  }

-- A state that a name gave was to be merged into what was folded.
module _ (world : Known) (states : KnownStates world.holds) (setting : Setting) (symbols : Option (List ℕ)) (name : List ℕ) (before after : Folded)
  where
    -- What was read then, of which what was folded is.
    abbrev Leads : List Content → Bool → Option (List Content) → Result Added RunFault → Type 0
    Leads taken absent told ended =
        (later : Option Taken) × Holds setting symbols (State after) later × MergesTold setting.complete taken absent told later ended

    module _ (taken : List Content) (are : AreFolded before.analyst taken) (named : HasSymbols symbols before.symbols) where
      same_kept : after ≡ before → AreKept setting symbols (State after) (segments taken)
      same_kept same =
          subst (λ (folded : Folded). AreFolded folded.analyst taken × HasSymbols symbols folded.symbols) (sym same) (are, named)

      -- where there is nothing under the name, nothing was merged
      absent_leads : (told : Option (List Content)) (ended : Result Added RunFault) → IsKnown ended
          → MergesFolded world setting before name after ended → world.is_absent name ≡ true → Leads taken true told ended
      absent_leads told ended known (inl (bytes, held, there, is)) absent = absurd (let both = sym there ∙ absent in cc both)
      absent_leads told ended known (inr (inl (refused, none, same))) absent =
          (Some (segments taken), record { covered = tt; are = same_kept same }, refl)
      absent_leads told ended known (inr (inr memory)) absent = absurd (known memory)

      -- where it isn't known of which segments the state is, what was folded is known only where it was refused
      unknown_then : (ended : Result Added RunFault) → IsKnown ended → MergesFolded world setting before name after ended
          → IfSome (merged_unknown taken ended) (AreKept setting symbols (State after))
      unknown_then (Ok added) known is = tt
      unknown_then (Err (faults.Incomplete processor number)) known is = tt
      unknown_then (Err fault) known (inr (inl (told, none, same))) = same_kept same
      unknown_then (Err fault) known (inr (inr memory)) = absurd (known memory)
      unknown_then (Err (faults.State place offset fault)) known (inl (bytes, held, there, is)) = same_kept is.no_state.1
      unknown_then (Err (faults.Unbounded place processor)) known (inl (bytes, held, there, is)) = same_kept is.no_state.1
      unknown_then (Err (faults.Case fault)) known (inl (bytes, held, there, is)) = same_kept is.no_state
      unknown_then (Err faults.Memory) known (inl (bytes, held, there, is)) = absurd (known refl)
      unknown_then (Err fault) known (inl (bytes, held, there, is)) = absurd is.no_state

      unknown_leads : (ended : Result Added RunFault) → IsKnown ended → MergesFolded world setting before name after ended
          → Leads taken false None ended
      unknown_leads ended known is =
          (merged_unknown taken ended, record { covered = tt; are = unknown_then ended known is }, refl)

      -- where that is known, and all segments are of one trace, all of them are folded
      told_leads : (told : List Content) (held : List ℕ) → world.holds name ≡ Some held → IsStateOf held told → AreOfOne taken told
          → (ended : Result Added RunFault) → IsKnown ended → MergesFolded world setting before name after ended
          → Leads taken false (Some told) ended
      told_leads told held holds state one ended known (inl (bytes, same, there, is)) =
          let here : bytes ≡ held = rw holds at same in
          let later = merged_then setting.complete taken told before.analyst after.analyst are one ended known
          (is.outcome taken told are (rw here state)) in (
            Some (segments (merged taken told ended)),
            record { covered = tt; are = (later.0, subst (HasSymbols symbols) (sym is.symbols) named) },
            later.1,
          )
      told_leads told held holds state one ended known (inr (inl (refused, none, same))) = absurd (let both = sym none ∙ holds in cc both)
      told_leads told held holds state one ended known (inr (inr memory)) = absurd (known memory)

      leads : (ended : Result Added RunFault) → IsKnown ended → MergesFolded world setting before name after ended
          → Leads taken (world.is_absent name) (if_of_one (states.are_of_one taken) (states.tells name)) ended
      leads ended known is = by_absent (world.is_absent name) refl
        where
          by_one : (told : List Content) (held : List ℕ) → world.holds name ≡ Some held → IsStateOf held told
              → (one : Bool) → states.are_of_one taken told ≡ one → Leads taken false (if one then Some told else None) ended
          by_one told held holds state true one = told_leads told held holds state (states.sound taken told one) ended known is
          by_one told held holds state false one = unknown_leads ended known is

          by_told : (told : Option (List Content))
              → IfSome told (λ these. (bytes : List ℕ) × (world.holds name ≡ Some bytes) × IsStateOf bytes these)
              → Leads taken false (if_of_one (states.are_of_one taken) told) ended
          by_told None state = unknown_leads ended known is
          by_told (Some told) state = by_one told state.0 state.1 state.2 (states.are_of_one taken told) refl

          by_absent : (absent : Bool) → world.is_absent name ≡ absent
              → Leads taken absent (if_of_one (states.are_of_one taken) (states.tells name)) ended
          by_absent true absent = absent_leads (if_of_one (states.are_of_one taken) (states.tells name)) ended known is absent
          by_absent false there = by_told (states.tells name) (states.states name)

-- Where a state is merged into what is kept, what is kept then is of what was read then.
module _ (world : Known) (states : KnownStates world.holds) (setting : Setting) (symbols : Option (List ℕ)) (name : List ℕ) where
  pub merging_one : (before : Kept) (read : Option Taken) (after : Kept) (ended : Result Added Refused) → Holds setting symbols before read
      → MergesFile world setting before name after ended
      → (later : Option Taken) × Holds setting symbols after later × MergesName world states setting read name later ended
  merging_one (State before) None (State after) ended holds (merges, goes_on, between) =
      (None, record { covered = tt; are = tt }, (merges_so world setting name before after ended goes_on merges between, refl))
  merging_one (State before) (Some (inputs texts)) (State after) ended holds is = absurd holds.are
  merging_one (State before) (Some (segments taken)) (State after) ended holds (merges, goes_on, between) =
      let are : AreFolded before.analyst taken × HasSymbols symbols before.symbols = holds.are in
      let known = goes_on_known ended goes_on in
      let later = leads world states setting symbols name before after taken are.0 are.1 (by_fault ended) known merges in
      (later.0, later.1, (merges_so world setting name before after ended goes_on merges between, later.2))
  merging_one (Case before) read after ended holds is = absurd is
  merging_one (State before) read (Case after) ended holds is = absurd is

-- ---- saving

saves_segments : (whole : WorldChange) (folded : Folded) (taken : List Content) (name : List ℕ) → AreFolded folded.analyst taken
    → (ended : Result ℕ RunFault) → SavesFolded whole folded name ended → SavesSegments whole taken name ended
saves_segments whole folded taken name are (Ok count) (bytes, size, is, written) =
    (some_folded folded.analyst are is.some, bytes, size, (λ T all. is.state taken T are all), written)
  where
    some_folded : (analyst : Option Analyst) → AreFolded analyst taken → is_some analyst ≡ true → taken ≢ []
    some_folded None are some = absurd (cc some)
    some_folded (Some a) are some = are.taken.0
saves_segments whole folded taken name are (Err (faults.Case cases.Empty)) is = none_taken folded.analyst are is.0
  where
    none_taken : (analyst : Option Analyst) → AreFolded analyst taken → analyst ≡ None → taken ≡ []
    none_taken None are none = are.taken
    none_taken (Some a) are none = absurd (cc none)
saves_segments whole folded taken name are (Err faults.StateStacks) is = some_taken folded.analyst are is.0
  where
    some_taken : (analyst : Option Analyst) → AreFolded analyst taken → IsUnsaved analyst faults.StateStacks → taken ≢ []
    some_taken None are is = absurd is
    some_taken (Some a) are is = are.taken.0
saves_segments whole folded taken name are (Err faults.StateWrite) is = tt
saves_segments whole folded taken name are (Err faults.Memory) is = absurd (is.1 refl)
saves_segments whole folded taken name are (Err fault) is = absurd is.0

-- what is saved of what is kept is the state of what was read
pub saving_one : (whole : WorldChange) (setting : Setting) (symbols : Option (List ℕ)) (kept : Kept) (read : Option Taken) (name : List ℕ)
    (ended : Result ℕ RunFault) → Holds setting symbols kept read → SavesFile whole kept name ended → SavesName whole read name ended
saving_one whole setting symbols kept None name ended holds is = tt
saving_one whole setting symbols (State folded) (Some (inputs texts)) name ended holds is = absurd holds.are
saving_one whole setting symbols (State folded) (Some (segments taken)) name ended holds is =
    let are : AreFolded folded.analyst taken × HasSymbols symbols folded.symbols = holds.are in
    saves_segments whole folded taken name are.0 ended is
saving_one whole setting symbols (Case loaded) (Some read) name ended holds is = absurd is
