-- What the names of a world hold, as far as that is known, and what the world was asked for.
use Rattle.std.specs.Prelude.{◌≡◌, ◌++◌, ◌∷◌, [], ⊤, ℕ, Bool, true, false, List, All, Option, Some, None, String, map, slice_get, IfOk}
use Rattle.std.specs.Prelude.{IfSome, OnOk, Result, Ok, Err, string_bytes, take}
use Rattle.std.specs.Global.{Vec}
use Rattle.htl_device.specs.States.{SourceState, fresh}
use Rattle.htl_world.specs.declared.world.OpenFault.{OpenFault}
use Rattle.htl_world.specs.declared.world.OpenFault.TheVariants.{Refused}

-- What is known of a world: what each name holds, whether there is nothing to open for it, and whether it may be read again; what standard
-- input holds, and whether that may be read again.
pub record Known : Type 0 where
  pub holds : List ℕ → Option (List ℕ)
  pub is_absent : List ℕ → Bool
  pub can_be_read_again : List ℕ → Bool
  pub standard : Option (List ℕ)
  pub standard_can_be_read_again : Bool

-- One thing that a world was asked for: to open a name, to read all of one, or to have one hold these bytes, and why that was refused, if
-- it was; standard input; or standard input as the lines of a dialogue.
pub data Ask : Type 0 where
  to_open : List ℕ → Option OpenFault → Ask
  to_read : List ℕ → Option OpenFault → Ask
  to_write : List ℕ → List ℕ → Option OpenFault → Ask
  for_standard : Ask
  for_questions : Ask

-- what is known of a world, and what it was asked for so far, where that is known
pub record WorldState : Type 0 where
  pub known : Known
  pub asked : Option (List Ask)

-- a world before a run and after it
pub record WorldChange : Type 0 where
  pub old : WorldState
  pub new : WorldState

abbrev pub change : WorldState → WorldState → WorldChange
change old new = record { old = old; new = new }

-- A log that is known goes on with these asks, or is known no longer. One that isn't known stays so.
abbrev pub Logs : Option (List Ask) → Option (List Ask) → List Ask → Type 0
Logs None new asks = new ≡ None
Logs (Some log) None asks = ⊤
Logs (Some log) (Some new) asks = new ≡ log ++ asks

-- The world was asked for these, one after the other, and what is known of it stays.
pub record IsAsked (old new : WorldState) (asks : List Ask) : Type 0 where
  pub known : new.known ≡ old.known
  pub log : Logs old.asked new.asked asks

-- why nothing was given, if nothing was
abbrev pub refusal_of : {X : Type 0} → Result X OpenFault → Option OpenFault
refusal_of (Ok given) = None
refusal_of (Err fault) = Some fault

-- A name was asked for once: it gives a source of which nothing was read, or it can't be opened.
pub record IsOpened {R : Type 0} (state : R → SourceState) (old new : WorldState) (name : List ℕ) (result : Result R OpenFault)
    : Type 0 where
  pub asked : IsAsked old new (to_open name (refusal_of result) ∷ [])
  pub source : IfOk result (λ input. state input ≡ fresh (old.known.holds name))
  pub there : OnOk result (old.known.is_absent name ≡ false)
  pub refused : result ≡ Err Refused → old.known.holds name ≡ None

-- The same of a name that gives all its bytes.
pub record IsReadWhole (old new : WorldState) (name : List ℕ) (result : Result (Vec ℕ) OpenFault) : Type 0 where
  pub asked : IsAsked old new (to_read name (refusal_of result) ∷ [])
  pub bytes : IfOk result (λ bytes. IfSome (old.known.holds name) (λ known. bytes.items ≡ known))
  pub there : OnOk result (old.known.is_absent name ≡ false)
  pub refused : result ≡ Err Refused → old.known.holds name ≡ None

-- A name was to hold these bytes, once. What is known of the world stays, so nothing is known of a name that may be written.
pub record IsWritten {X : Type 0} (old new : WorldState) (name bytes : List ℕ) (result : Result X OpenFault) : Type 0 where
  pub asked : IsAsked old new (to_write name bytes (refusal_of result) ∷ [])

-- Standard input was asked for once, as inputs or as lines, and nothing of it was read.
pub record IsStandard {R : Type 0} (state : R → SourceState) (old new : WorldState) (ask : Ask) (input : R) : Type 0 where
  pub asked : IsAsked old new (ask ∷ [])
  pub source : state input ≡ fresh old.known.standard

-- of each of the names
abbrev pub of_each : {X A : Type 0} → (List ℕ → X) → List (String A) → List X
of_each of names = map of (map string_bytes names)

-- of each input: the files of the names in their order, or standard input where there is none
abbrev pub of_inputs : {X A : Type 0} → (List ℕ → X) → X → List (String A) → List X
of_inputs of standard [] = standard ∷ []
of_inputs of standard (name ∷ more) = of_each of (name ∷ more)

-- the table of symbols has these bytes, if one is named
abbrev pub IsTable : {A : Type 0} → (List ℕ → Option (List ℕ)) → Option (String A) → Option (List ℕ) → Type 0
IsTable holds None table = table ≡ None
IsTable holds (Some name) table = (bytes : List ℕ) × (holds (string_bytes name) ≡ Some bytes) × (table ≡ Some bytes)

-- it is known that there is nothing to open for the table of symbols
abbrev pub IsTableAbsent : {A : Type 0} → (List ℕ → Bool) → Option (String A) → Type 0
IsTableAbsent is_absent None = ⊥
IsTableAbsent is_absent (Some name) = is_absent (string_bytes name) ≡ true

-- what the table of symbols holds is not known
abbrev pub IsTableUnknown : {A : Type 0} → (List ℕ → Option (List ℕ)) → Option (String A) → Type 0
IsTableUnknown holds None = ⊥
IsTableUnknown holds (Some name) = holds (string_bytes name) ≡ None

-- The name at the place can't be opened, as far as is known, and each before it can be.
pub record IsFirstRefused (holds : List (Option (List ℕ))) (absences : List Bool) (place : ℕ) : Type 0 where
  pub here : slice_get holds place ≡ Some None
  pub before : All (λ absent. absent ≡ false) (take place absences)

-- The name at the place is the first for which there is nothing to open: what those before it hold is known.
pub record IsFirstAbsent (holds : List (Option (List ℕ))) (absences : List Bool) (place : ℕ) : Type 0 where
  pub here : slice_get absences place ≡ Some true
  pub texts : List (List ℕ)
  pub before : take place holds ≡ map Some texts

-- the inputs of the names have these texts
abbrev pub HaveTexts : {A : Type 0} → Known → List (String A) → List (List ℕ) → Type 0
HaveTexts world names texts = of_inputs world.holds world.standard names ≡ map Some texts

-- the files of the names have these texts
abbrev pub FilesHaveTexts : {A : Type 0} → Known → List (String A) → List (List ℕ) → Type 0
FilesHaveTexts world names texts = of_each world.holds names ≡ map Some texts

-- the name at the place is the first for which there is nothing
abbrev pub IsAbsentAt : {A : Type 0} → Known → List (String A) → ℕ → Type 0
IsAbsentAt world names place = IsFirstAbsent (of_each world.holds names) (of_each world.is_absent names) place
