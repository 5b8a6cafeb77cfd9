-- How inputs and a table of symbols are opened, all of them or none (this project's own).
use Rattle.std.specs.Prelude.{◌≡◌, ◌++◌, ◌∷◌, ◌⊎◌, [], ℕ, false, List, All, IfErr, IfOk, OnErr, OnOk, Option, Some, None, Result, Ok, Err}
use Rattle.std.specs.Prelude.{String, Vec, map, option_map, string_bytes}
use Rattle.htl_device.specs.States.{AreOpen, SourceState, fresh}
use Rattle.htl_inputs.specs.declared.fault.RunFault.{RunFault}
use Rattle.htl_inputs.specs.declared.fault.RunFault.TheVariants.{Memory, SymbolsRead}
use Rattle.htl_world.specs.Endings.{IsUnopened, IsUntabled}
use Rattle.htl_world.specs.Worlds.{Ask, IsAsked, IsTable, IsTableAbsent, IsTableUnknown, WorldChange, IsAbsentAt, of_each}
use Rattle.htl_world.specs.Worlds.{of_inputs, to_read}
use Rattle.htl_world.specs.Readings.{AreUnread, IsUnopenedFor}
use Rattle.htl_world.specs.Rounds.{Asks, EndsEarly, OpensBy, all_opened, inputs_opened, untabled}
use Rattle.htl_world.specs.declared.world.OpenFault.{OpenFault}

-- The world was asked for all of these, or for those up to the name at which that ended.
abbrev pub AsksFor : {S : Type 0} → WorldChange → List (List ℕ) → List Ask → Result S RunFault → Type 0
AsksFor world names all (Ok opened) = IsAsked world.old world.new all
AsksFor world names all (Err fault) = Asks world (EndsEarly names all fault)

-- The files of these names, of which nothing was read, or why there are none.
pub record AreOpened {R A : Type 0} (state : R → SourceState) (world : WorldChange) (names : List (List ℕ))
    (result : Result (Vec R A) RunFault) : Type 0 where
  pub ready : IfOk result (λ files. AreOpen (map state files.items))
  pub sources : IfOk result (λ files. map state files.items ≡ map fresh (map world.old.known.holds names))
  pub there : OnOk result (All (λ absent. absent ≡ false) (map world.old.known.is_absent names))
  pub refused : IfErr result (IsUnopenedFor (map world.old.known.holds names) (map world.old.known.is_absent names))
  pub asked : AsksFor world names (all_opened names) result

-- The inputs of the names were opened, which these are and of which nothing was read; or none of them is there, and why.
pub record OpensInputsOf {A : Type 0} (world : WorldChange) (names : List (String A)) (inputs : List SourceState)
    (result : Result (Unit {0}) RunFault) : Type 0 where
  pub ready : OnOk result (AreOpen inputs)
  pub sources : OnOk result (inputs ≡ map fresh (of_inputs world.old.known.holds world.old.known.standard names))
  pub there : OnOk result (All (λ absent. absent ≡ false) (of_each world.old.known.is_absent names))
  pub none : OnErr result (inputs ≡ [])
  pub refused : IfErr result (IsUnopenedFor (of_each world.old.known.holds names) (of_each world.old.known.is_absent names))
  pub asked : AsksFor world (map string_bytes names) (inputs_opened (map string_bytes names)) result

-- the world was asked for the table, if one is named
abbrev pub AsksForTable : {S : Type 0} → WorldChange → Option (List ℕ) → Result S RunFault → Type 0
AsksForTable world None (Ok read) = world.new ≡ world.old
AsksForTable world None (Err fault) = ⊥
AsksForTable world (Some name) (Ok read) = IsAsked world.old world.new (to_read name None ∷ [])
AsksForTable world (Some name) (Err fault) =
    (why : OpenFault) × (fault ≡ untabled why) × IsAsked world.old world.new (to_read name (Some why) ∷ [])

-- The table of symbols, or why it could not be read.
pub record IsTableRead {A B : Type 0} (world : WorldChange) (name : Option (String A)) (result : Result (Option (Vec ℕ B)) RunFault)
    : Type 0 where
  pub bytes : IfOk result (λ read. (table : Option (List ℕ)) → IsTable world.old.known.holds name table
      → table ≡ option_map (λ v. v.items) read)
  pub there : OnOk result (IsTableAbsent world.old.known.is_absent name → ⊥)
  pub refused : IfErr result (λ fault. (fault ≡ Memory) ⊎ ((fault ≡ SymbolsRead) × IsTableUnknown world.old.known.holds name))
  pub asked : AsksForTable world (option_map string_bytes name) result

-- what a world is asked for once all inputs are opened, for the table of symbols
abbrev pub table_asked : Option (List ℕ) → List Ask
table_asked None = []
table_asked (Some name) = to_read name None ∷ []

-- The world was asked for all names, which these asks open, and for the table; or this ended before.
abbrev pub AsksForAll : {S : Type 0} → WorldChange → List Ask → List (List ℕ) → Option (List ℕ) → Result S RunFault → Type 0
AsksForAll world opened names table (Ok read) = IsAsked world.old world.new (opened ++ table_asked table)
AsksForAll world opened names table (Err fault) = Asks world (OpensBy {S = Unit {0}} opened names table (Err fault) (λ more. ⊥))

-- The names were opened by these asks, of whose inputs this is known: these are the inputs, and the table was read; or that ended before
-- any was read.
pub record OpensAllBy {A B C : Type 0} (world : WorldChange) (opened : List Ask) (held : List (Option (List ℕ))) (names : List (String A))
    (symbols : Option (String B)) (inputs : List SourceState) (result : Result (Option (Vec ℕ C)) RunFault) : Type 0 where
  pub ready : OnOk result (AreOpen inputs)
  pub sources : OnOk result (inputs ≡ map fresh held)
  pub unread : IfErr result (AreUnread held (of_each world.old.known.holds names) (of_each world.old.known.is_absent names) inputs)
  pub read : IfOk result (λ read. (table : Option (List ℕ)) → IsTable world.old.known.holds symbols table
      → table ≡ option_map (λ v. v.items) read)
  pub known : (texts : List (List ℕ)) → (table : Option (List ℕ)) → held ≡ map Some texts
      → IsTable world.old.known.holds symbols table → IfErr result (λ fault. fault ≡ Memory)
  pub absent : (place : ℕ) → IsAbsentAt world.old.known names place → IsUnopened place result
  pub untabled : (texts : List (List ℕ)) → held ≡ map Some texts → IsTableAbsent world.old.known.is_absent symbols → IsUntabled result
  pub asked : AsksForAll world opened (map string_bytes names) (option_map string_bytes symbols) result

-- the same of the inputs of the names, which are standard input where there is no name; and of their files alone
abbrev pub OpensAll : {A B C : Type 0} → WorldChange → List (String A) → Option (String B) → List SourceState
    → Result (Option (Vec ℕ C)) RunFault → Type 0
OpensAll world names =
    OpensAllBy world (inputs_opened (map string_bytes names)) (of_inputs world.old.known.holds world.old.known.standard names) names

abbrev pub OpensNamed : {A B C : Type 0} → WorldChange → List (String A) → Option (String B) → List SourceState
    → Result (Option (Vec ℕ C)) RunFault → Type 0
OpensNamed world names = OpensAllBy world (all_opened (map string_bytes names)) (of_each world.old.known.holds names) names
