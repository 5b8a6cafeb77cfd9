-- What a world is asked for where names are opened (this project's own): each name once a round, in their order.
use Rattle.std.specs.Prelude.{◌≡◌, ◌++◌, ◌∷◌, ◌⊎◌, [], ℕ, zero, suc, Bool, true, false, List, All, Option, Some, None, Result, Err, map}
use Rattle.std.specs.Prelude.{slice_get, take}
use Rattle.htl_inputs.specs.declared.fault.RunFault.{RunFault}
use Rattle.htl_inputs.specs.declared.fault.RunFault.TheVariants.{Memory, Read, SymbolsRead}
use Rattle.htl_world.specs.Worlds.{Ask, IsAsked, Known, WorldChange, for_standard, to_open, to_read}
use Rattle.htl_world.specs.declared.world.OpenFault.{OpenFault}
use Rattle.htl_world.specs.declared.world.OpenFault.TheVariants.{NoMemory, Refused}

-- the world was asked for some, of which this holds
abbrev pub Asks : WorldChange → (List Ask → Type 0) → Type 0
Asks world Are = (asks : List Ask) × IsAsked world.old world.new asks × Are asks

-- each of the names was opened
abbrev pub all_opened : List (List ℕ) → List Ask
all_opened names = map (λ name. to_open name None) names

-- the same of inputs: of standard input, where no name is given
abbrev pub inputs_opened : List (List ℕ) → List Ask
inputs_opened [] = for_standard ∷ []
inputs_opened (name ∷ more) = all_opened (name ∷ more)

-- what is reported of a name that could not be opened, and of a table of symbols that could not be read
abbrev pub unopened : ℕ → OpenFault → RunFault
unopened place Refused = Read place
unopened place NoMemory = Memory

abbrev pub untabled : OpenFault → RunFault
untabled Refused = SymbolsRead
untabled NoMemory = Memory

-- A round that would open all of these ended before: at the first name that could not be opened, or since memory was refused.
abbrev pub EndsEarly : List (List ℕ) → List Ask → RunFault → List Ask → Type 0
EndsEarly names all fault asks =
    (place : ℕ) × (((asks ≡ take place all) × (fault ≡ Memory))
    ⊎ ((name : List ℕ) × (why : OpenFault) × (slice_get names place ≡ Some name)
    × (asks ≡ take place all ++ to_open name (Some why) ∷ []) × (fault ≡ unopened place why)))

-- One round, in which these asks open the names: all were opened, and this holds of what was asked for next; or it ended before, as is
-- reported, and that was all.
abbrev pub RoundBy : {S : Type 0} → List Ask → List (List ℕ) → Result S RunFault → (List Ask → Type 0) → List Ask → Type 0
RoundBy opened names ended Next asks =
    ((more : List Ask) × (asks ≡ opened ++ more) × Next more)
    ⊎ ((fault : RunFault) × (ended ≡ Err fault) × EndsEarly names opened fault asks)

-- one round, in which the inputs of the names are opened
abbrev pub Round : {S : Type 0} → List (List ℕ) → Result S RunFault → (List Ask → Type 0) → List Ask → Type 0
Round names = RoundBy (inputs_opened names) names

-- The table of symbols, if one is named, was read once, and this holds of what was asked for next; or it could not be read, as is reported,
-- and that was all.
abbrev pub Tabled : {S : Type 0} → Option (List ℕ) → Result S RunFault → (List Ask → Type 0) → List Ask → Type 0
Tabled None ended Next asks = Next asks
Tabled (Some name) ended Next asks =
    ((more : List Ask) × (asks ≡ to_read name None ∷ more) × Next more)
    ⊎ ((why : OpenFault) × (ended ≡ Err (untabled why)) × (asks ≡ to_read name (Some why) ∷ []))

-- The names were opened in one round by these asks, and then the table of symbols was read.
abbrev pub OpensBy : {S : Type 0} → List Ask → List (List ℕ) → Option (List ℕ) → Result S RunFault → (List Ask → Type 0) → List Ask
    → Type 0
OpensBy opened names table ended Next = RoundBy opened names ended (Tabled table ended Next)

-- the same of the inputs of the names, and of their files alone
abbrev pub OpensInputs : {S : Type 0} → List (List ℕ) → Option (List ℕ) → Result S RunFault → (List Ask → Type 0) → List Ask → Type 0
OpensInputs names = OpensBy (inputs_opened names) names

abbrev pub OpensFiles : {S : Type 0} → List (List ℕ) → Option (List ℕ) → Result S RunFault → (List Ask → Type 0) → List Ask → Type 0
OpensFiles names = OpensBy (all_opened names) names

-- The inputs of the names were opened in one round, and that was all.
abbrev pub OpensOnce : {S : Type 0} → List (List ℕ) → Result S RunFault → List Ask → Type 0
OpensOnce names ended = Round names ended (λ more. more ≡ [])

-- at most so many rounds over the inputs
abbrev pub Rounds : {S : Type 0} → ℕ → List (List ℕ) → Result S RunFault → List Ask → Type 0
Rounds zero names ended asks = asks ≡ []
Rounds (suc count) names ended asks = (asks ≡ []) ⊎ Round names ended (Rounds count names ended) asks

-- all inputs can be read again: the files of the names, or standard input where there is none
abbrev pub CanBeReadAgain : Known → List (List ℕ) → Type 0
CanBeReadAgain known [] = known.standard_can_be_read_again ≡ true
CanBeReadAgain known (name ∷ more) = All (λ can. can ≡ true) (map known.can_be_read_again (name ∷ more))

-- Inputs of bytes that can all be read again were opened at most two times more; other inputs weren't.
abbrev pub OpensAgain : {S : Type 0} → Known → Bool → List (List ℕ) → Result S RunFault → List Ask → Type 0
OpensAgain known is_text names ended asks =
    (asks ≡ [])
    ⊎ ((is_text ≡ false) × CanBeReadAgain known names × Rounds 2 names ended asks)
