-- What a world is asked for by a dialogue (this project's own): before its lines the states that it begins with, once and in order; then by
-- each line that reads, its names once and in order, and by one that merges or saves a state, its name once.
use Rattle.std.specs.Prelude.{◌≡◌, ◌++◌, ◌∷◌, ◌⊎◌, [], ⊤, ℕ, Bool, List, All, Option, Some, None, Result, Ok, Err, IfSome}
use Rattle.std.specs.Prelude.{map, slice_get, take}
use Rattle.htl_inputs.specs.declared.fault.RunFault.{RunFault}
use Rattle.htl_inputs.specs.declared.fault.RunFault.TheVariants.{Memory, StateRead}
use Rattle.htl_dialogue.specs.Dialogues.{asked_lines}
use Rattle.htl_dialogue.specs.Sayings.{Saying, Turn, merges, reads, saves, saying_in}
use Rattle.htl_world.specs.Worlds.{Ask, to_open, to_read, to_write}
use Rattle.htl_world.specs.Rounds.{EndsEarly, all_opened}
use Rattle.htl_world.specs.declared.world.OpenFault.{OpenFault}
use Rattle.htl_world.specs.declared.world.OpenFault.TheVariants.{NoMemory, Refused}
use Rattle.htl_ask.specs.Beginnings.{placed}

-- a name was asked for: not standard input
abbrev pub IsOfName : Ask → Type 0
IsOfName (to_open name why) = ⊤
IsOfName (to_read name why) = ⊤
IsOfName (to_write name bytes why) = ⊤
IsOfName other = ⊥

-- Names were asked for one after the other, each once: all of them, or those up to one at which that ended.
abbrev pub AsksNames : List (List ℕ) → List Ask → Type 0
AsksNames names asks = (asks ≡ all_opened names) ⊎ ((fault : RunFault) × EndsEarly names (all_opened names) fault asks)

-- all bytes of a name were asked for, once
abbrev pub ReadsOne : List ℕ → List Ask → Type 0
ReadsOne name asks = (why : Option OpenFault) × (asks ≡ to_read name why ∷ [])

-- A name was to hold some bytes, once; or nothing was asked for, where there was nothing to write.
abbrev pub WritesOne : List ℕ → List Ask → Type 0
WritesOne name asks = (asks ≡ []) ⊎ ((bytes : List ℕ) × (why : Option OpenFault) × (asks ≡ to_write name bytes why ∷ []))

-- what is asked for by what a line says: the names that it reads, or that of a state
abbrev pub LineAsks : Saying → List Ask → Type 0
LineAsks (reads names) asks = AsksNames names asks
LineAsks (merges name) asks = ReadsOne name asks
LineAsks (saves name) asks = WritesOne name asks
LineAsks other asks = asks ≡ []

-- The same by lines, one after the other, in a dialogue that forgets events or keeps them.
abbrev pub LinesAsk : Bool → List Turn → List Ask → Type 0
LinesAsk forgets [] asks = asks ≡ []
LinesAsk forgets (line ∷ more) asks =
    (own later : List Ask) × LineAsks (saying_in forgets line) own × LinesAsk forgets more later × (asks ≡ own ++ later)

-- The lines of a text asked for what they read, up to one of them. Where the text isn't known, only names were asked for.
abbrev pub DialogueAsks : Bool → Option (List ℕ) → List Ask → Type 0
DialogueAsks forgets None asks = All IsOfName asks
DialogueAsks forgets (Some text) asks =
    (earlier later : List Turn) × (asked_lines text ≡ earlier ++ later) × LinesAsk forgets earlier asks

-- Once a dialogue began, its lines asked; where it didn't begin, nothing more was asked for.
abbrev pub AsksLater : {S E : Type 0} → Bool → Option (List ℕ) → Result S E → List Ask → Type 0
AsksLater forgets text (Ok began) asks = DialogueAsks forgets text asks
AsksLater forgets text (Err why) asks = asks ≡ []

-- ---- the beginning

-- what is reported of a state that could not be read, by its place
abbrev pub unread : ℕ → OpenFault → RunFault
unread place Refused = StateRead place
unread place NoMemory = Memory

-- all bytes of a name were asked for, once, and what is reported where that was refused
abbrev pub ReadsFor : {S : Type 0} → List ℕ → Result S RunFault → List Ask → Type 0
ReadsFor name ended asks =
    (why : Option OpenFault) × (asks ≡ to_read name why ∷ []) × IfSome why (λ refused. ended ≡ Err (unread 0 refused))

-- all bytes of each of the names were asked for
abbrev pub all_read : List (List ℕ) → List Ask
all_read names = map (λ name. to_read name None) names

-- Of names that would all be read once and in order, those up to one were: it could not be read, or what it holds was refused. What is
-- reported of it has its place.
abbrev pub EndsReading : List (List ℕ) → RunFault → List Ask → Type 0
EndsReading names fault asks =
    (place : ℕ) × (name : List ℕ) × (why : Option OpenFault) × (slice_get names place ≡ Some name)
    × (asks ≡ all_read (take place names) ++ to_read name why ∷ []) × (fault ≡ placed place fault)
    × IfSome why (λ refused. fault ≡ unread place refused)

-- All states were read once and in order, and this holds of what was asked for next; or that ended at one of them, as is reported, and that
-- was all.
abbrev pub ReadsStates : {S : Type 0} → List (List ℕ) → Result S RunFault → (List Ask → Type 0) → List Ask → Type 0
ReadsStates names ended Next asks =
    ((more : List Ask) × (asks ≡ all_read names ++ more) × Next more)
    ⊎ ((fault : RunFault) × (ended ≡ Err fault) × EndsReading names fault asks)
