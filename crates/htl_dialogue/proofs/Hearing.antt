-- What a line says where events are forgotten, or kept, follows from what it says in whatever dialogue.
use Rattle.std.proofs.Common.{◌≡◌, ◌∙◌, ℕ, Bool, true, false, refl, sym, ap}
use Rattle.std.specs.Prelude.{Option, if◌then◌else◌}
use Rattle.htl_command.specs.Needs.{needs_events}
use Rattle.htl_dialogue.specs.Dialogues.{is_end}
use Rattle.htl_dialogue.specs.Replying.{KeepsFault, KeepsOwnFault}
use Rattle.htl_dialogue.specs.Sayings.{Saying, Turn, asks, heard, merges, nothing, quits, reads, saves, saying, saying_in, saying_of, used, uses}
use Rattle.htl_dialogue.specs.Sayings.{wrong}
use Rattle.htl_dialogue.specs.declared.saying.Said.{Said}
use Rattle.htl_dialogue.specs.declared.saying.Said.TheVariants as said

-- the same lines end a dialogue
same_end : (forgets : Bool) (said : Saying) → is_end said ≡ is_end (heard forgets said)
same_end false (asks job) = refl
same_end false (reads files) = refl
same_end false (uses process) = refl
same_end false (merges name) = refl
same_end false (saves name) = refl
same_end false nothing = refl
same_end false quits = refl
same_end false wrong = refl
same_end true (asks job) = go (needs_events job)
  where
    go : (b : Bool) → false ≡ is_end (if b then wrong else asks job)
    go true = refl
    go false = refl
same_end true (reads files) = refl
same_end true (uses process) = refl
same_end true (merges name) = refl
same_end true (saves name) = refl
same_end true nothing = refl
same_end true quits = refl
same_end true wrong = refl

-- and the same process is used after a line
same_use : (forgets : Bool) (before : Option ℕ) (said : Saying) → used before (heard forgets said) ≡ used before said
same_use false before (asks job) = refl
same_use false before (reads files) = refl
same_use false before (uses process) = refl
same_use false before (merges name) = refl
same_use false before (saves name) = refl
same_use false before nothing = refl
same_use false before quits = refl
same_use false before wrong = refl
same_use true before (asks job) = go (needs_events job)
  where
    go : (b : Bool) → used before (if b then wrong else asks job) ≡ before
    go true = refl
    go false = refl
same_use true before (reads files) = refl
same_use true before (uses process) = refl
same_use true before (merges name) = refl
same_use true before (saves name) = refl
same_use true before nothing = refl
same_use true before quits = refl
same_use true before wrong = refl

-- what is said of a line uses the process that the line does
pub use_of_line : (forgets : Bool) (before : Option ℕ) (line : Turn) (of : Said) → saying of ≡ saying_in forgets line
    → used before (saying of) ≡ used before (saying_of line)
use_of_line forgets before line of same = ap (used before) same ∙ same_use forgets before (saying_of line)

-- what is said of a line ends the dialogue where the line does
pub end_of_line : (forgets : Bool) (line : Turn) (of : Said) → saying of ≡ saying_in forgets line
    → is_end (saying_of line) ≡ is_end (saying of)
end_of_line forgets line of same = same_end forgets (saying_of line) ∙ ap is_end (sym same)

-- the fault of what is said of a line stays its fault
pub fault_stays : (forgets : Bool) (line : Turn) (of : Said) → saying of ≡ saying_of line → KeepsOwnFault line of
    → KeepsFault forgets line of
fault_stays forgets line said.Nothing same keeps = keeps
fault_stays forgets line said.Quits same keeps = keeps
fault_stays forgets line (said.Asks job) same keeps = keeps
fault_stays forgets line (said.Reads files) same keeps = keeps
fault_stays forgets line (said.Uses process) same keeps = keeps
fault_stays forgets line (said.Merges name) same keeps = keeps
fault_stays forgets line (said.Saves name) same keeps = keeps
fault_stays false line (said.Wrong fault) same keeps = (keeps.0, rw (← same) keeps.1)
fault_stays true line (said.Wrong fault) same keeps = (keeps.0, rw (← same) keeps.1)
