-- The lines of a dialogue ask for the names that they read or write, one line after the other.
use Rattle.std.proofs.Common.{◌≡◌, ◌++◌, ◌∷◌, ◌∙◌, [], Bool, false, List, ℕ, All, None, Some, ap, append_assoc, append-nil, refl, subst, sym, Result, Ok, Err}
use Rattle.std.proofs.Common.{inl, inr, take}
use Rattle.std.specs.Prelude.{Option}
use Rattle.std.proofs.lemmas.List.Elements.{All-append, All-nil, All-cons}
use Rattle.std.proofs.lemmas.List.{take-map}
use Rattle.htl_dialogue.specs.Dialogues.{asked_lines, before_end, is_end}
use Rattle.htl_dialogue.specs.Lines.{lines_of_dialogue}
use Rattle.htl_dialogue.specs.Sayings.{Saying, Turn, asks, merges, nothing, quits, reads, saves, saying, saying_in, saying_of, turn, turns_of}
use Rattle.htl_dialogue.specs.Sayings.{used, uses, wrong}
use Rattle.htl_dialogue.specs.declared.reading.NextLine.{NextLine}
use Rattle.htl_dialogue.specs.declared.saying.Said.{Said}
use Rattle.htl_dialogue.proofs.Conversing.{Takes, asked_one, line_is_end}
use Rattle.htl_dialogue.proofs.Hearing.{end_of_line, use_of_line}
use Rattle.htl_dialogue.proofs.NextLines.{first_line}
use Rattle.htl_inputs.specs.declared.fault.RunFault.{RunFault}
use Rattle.htl_world.specs.Rounds.{Asks, all_opened}
use Rattle.htl_world.specs.Worlds.{Ask, WorldState, change, to_open, to_read, to_write}
use Rattle.htl_world.proofs.Asked.{asked_more, asked_none}
use Rattle.htl_world.specs.Openings.{AsksFor}
use Rattle.htl_ask.specs.LineRounds.{DialogueAsks, IsOfName, LineAsks, LinesAsk, AsksNames}

all_names : (names : List (List ℕ)) → All IsOfName (all_opened names)
all_names [] = All-nil IsOfName
all_names (name ∷ names) = All-cons IsOfName (to_open name None) (all_opened names) tt (all_names names)

some_names : (place : ℕ) (names : List (List ℕ)) → All IsOfName (take place (all_opened names))
some_names place names = subst (All IsOfName) (sym (take-map (λ name. to_open name None) place names)) (all_names (take place names))

-- who opens names asks for them one after the other
pub names_asked : {S : Type 0} (old new : WorldState) (names : List (List ℕ)) (result : Result S RunFault)
    → AsksFor (change old new) names (all_opened names) result → Asks (change old new) (AsksNames names)
names_asked old new names (Ok opened) asked = (all_opened names, asked, inl refl)
names_asked old new names (Err fault) (log, asked, ends) = (log, asked, inr (fault, ends))

-- and for nothing else
pub only_names : (names : List (List ℕ)) (log : List Ask) → AsksNames names log → All IsOfName log
only_names names log (inl all) = subst (All IsOfName) (sym all) (all_names names)
only_names names log (inr (fault, (place, inl memory))) = subst (All IsOfName) (sym memory.0) (some_names place names)
only_names names log (inr (fault, (place, inr (name, why, here, is, told)))) =
    subst (All IsOfName) (sym is) (All-append IsOfName (take place (all_opened names)) (to_open name (Some why) ∷ []) (some_names place names)
    (All-cons IsOfName (to_open name (Some why)) [] tt (All-nil IsOfName)))

-- a line that reads nothing asks for nothing
pub asks_nothing : (world : WorldState) (said : Saying) → LineAsks said [] → Asks (change world world) (LineAsks said)
asks_nothing world said none = ([], asked_none world, none)

-- The first lines of a text asked for these, and this is left of it, where this process is used.
pub record FirstAsk (forgets : Bool) (text : List ℕ) (process : Option ℕ) (left : Option (List ℕ)) (log : List Ask) : Type 0 where
  pub rest : List ℕ
  pub left_is : left ≡ Some rest
  pub earlier : List Turn
  pub cut : asked_lines text ≡ earlier ++ before_end (turns_of process (lines_of_dialogue rest))
  pub asked : LinesAsk forgets earlier log

-- The same of a text that may be unknown: only names were asked for.
pub record AsksSoFar (forgets : Bool) (known : Option (List ℕ)) (process : Option ℕ) (left : Option (List ℕ)) (log : List Ask)
    : Type 0 where
  pub names : All IsOfName log
  pub lines : (text : List ℕ) → known ≡ Some text → FirstAsk forgets text process left log

-- a line asks for names alone
line_names : (said : Saying) (log : List Ask) → LineAsks said log → All IsOfName log
line_names (reads names) log is = only_names names log is
line_names (merges name) log (why, is) =
    subst (All IsOfName) (sym is) (All-cons IsOfName (to_read name why) [] tt (All-nil IsOfName))
line_names (saves name) log (inl none) = subst (All IsOfName) (sym none) (All-nil IsOfName)
line_names (saves name) log (inr (bytes, why, is)) =
    subst (All IsOfName) (sym is) (All-cons IsOfName (to_write name bytes why) [] tt (All-nil IsOfName))
line_names (asks job) log is = subst (All IsOfName) (sym is) (All-nil IsOfName)
line_names (uses process) log is = subst (All IsOfName) (sym is) (All-nil IsOfName)
line_names nothing log is = subst (All IsOfName) (sym is) (All-nil IsOfName)
line_names quits log is = subst (All IsOfName) (sym is) (All-nil IsOfName)
line_names wrong log is = subst (All IsOfName) (sym is) (All-nil IsOfName)

-- lines asked for these, and one more for those
lines_then : (forgets : Bool) (earlier : List Turn) (line : Turn) (log own : List Ask) → LinesAsk forgets earlier log
    → LineAsks (saying_in forgets line) own → LinesAsk forgets (earlier ++ line ∷ []) (log ++ own)
lines_then forgets [] line log own none is = rw none (own, [], is, refl, sym (append-nil own))
lines_then forgets (first ∷ more) line log own (one, later, is_one, are, split) is =
    (one, later ++ own, is_one, lines_then forgets more line later own are is, ap (λ l. l ++ own) split ∙ append_assoc one later own)

of_known : (forgets : Bool) (known : Option (List ℕ)) (log : List Ask) → All IsOfName log
    → ((text : List ℕ) → known ≡ Some text → DialogueAsks forgets (Some text) log) → DialogueAsks forgets known log
of_known forgets None log names lines = names
of_known forgets (Some text) log names lines = lines text refl

-- before the first line
pub none_so_far : (forgets : Bool) (known left : Option (List ℕ)) (world : WorldState) → left ≡ known
    → Asks (change world world) (AsksSoFar forgets known None left)
none_so_far forgets known left world same = (
  [],
  asked_none world,
  record {
    names = All-nil IsOfName;
    lines = λ text is. record { rest = text; left_is = same ∙ is; earlier = []; cut = refl; asked = refl };
  },
)

module _ {forgets : Bool} {known : Option (List ℕ)} {process : Option ℕ} {left : Option (List ℕ)} {old mid : WorldState}
    (so_far : Asks (change old mid) (AsksSoFar forgets known process left)) where
  -- the lines so far are all that asked
  pub all_so_far : Asks (change old mid) (DialogueAsks forgets known)
  all_so_far = (
    so_far.0,
    so_far.1,
    of_known forgets known so_far.0 so_far.2.names
        (λ text is. let first = so_far.2.lines text is in
        (first.earlier, before_end (turns_of process (lines_of_dialogue first.rest)), first.cut, first.asked)),
  )

  -- One line more was read, which doesn't end the dialogue, and asked for what it says.
  module _ {now : Option (List ℕ)} {new : WorldState} {next : NextLine} {of : Said} (line : Takes forgets process left now next of)
      (goes_on : is_end (saying of) ≡ false) (reply : Asks (change mid new) (LineAsks (saying of))) where
    names_of_both : All IsOfName (so_far.0 ++ reply.0)
    names_of_both = All-append IsOfName so_far.0 reply.0 so_far.2.names (line_names (saying of) reply.0 reply.2)

    one_more : (process_then : Option ℕ) → process_then ≡ used process (saying of) → (text : List ℕ) → FirstAsk forgets text process left so_far.0
        → next.is_last ≡ false → FirstAsk forgets text process_then now (so_far.0 ++ reply.0)
    one_more process_then moved text before more =
        let first = first_line before.rest left now next before.left_is line.found in
        let this : Turn = turn process first.bytes in
        let same = line.says first.bytes first.is in
        let not_end : line_is_end this ≡ false = end_of_line forgets this of same ∙ goes_on in
        let next_is : process_then ≡ used process (saying_of this) = moved ∙ use_of_line forgets process this of same in
        let later = turns_of process_then (lines_of_dialogue first.later) in
        let lines : turns_of process (lines_of_dialogue before.rest) ≡ this ∷ later = ap (turns_of process) (first.lines
        ∙ ap (λ l. first.bytes ∷ l) (first.more more).0) ∙ ap (λ p. this ∷ turns_of p (lines_of_dialogue first.later)) (sym next_is) in
        record {
          rest = first.later;
          left_is = first.left_is;
          earlier = before.earlier ++ this ∷ [];
          cut = before.cut ∙ ap (λ l. before.earlier ++ l) (ap before_end lines ∙ asked_one this later not_end)
              ∙ sym (append_assoc before.earlier (this ∷ []) (before_end later));
          asked = lines_then forgets before.earlier this so_far.0 reply.0 before.asked (subst (λ s. LineAsks s reply.0) same reply.2);
        }

    last_one : (text : List ℕ) → FirstAsk forgets text process left so_far.0 → DialogueAsks forgets (Some text) (so_far.0 ++ reply.0)
    last_one text before =
        let first = first_line before.rest left now next before.left_is line.found in
        let this : Turn = turn process first.bytes in
        let others = turns_of (used process (saying_of this)) first.others in
        let same = line.says first.bytes first.is in
        let not_end : line_is_end this ≡ false = end_of_line forgets this of same ∙ goes_on in (
          before.earlier ++ this ∷ [],
          before_end others,
          before.cut ∙ ap (λ l. before.earlier ++ l) (ap (λ l. before_end (turns_of process l)) first.lines ∙ asked_one this others not_end)
              ∙ sym (append_assoc before.earlier (this ∷ []) (before_end others)),
          lines_then forgets before.earlier this so_far.0 reply.0 before.asked (subst (λ s. LineAsks s reply.0) same reply.2),
        )

    -- lines are left
    pub line_so_far : (process_then : Option ℕ) → process_then ≡ used process (saying of) → next.is_last ≡ false
        → Asks (change old new) (AsksSoFar forgets known process_then now)
    line_so_far process_then moved more = (
      so_far.0 ++ reply.0,
      asked_more so_far.1 reply.1,
      record { names = names_of_both; lines = λ text is. one_more process_then moved text (so_far.2.lines text is) more },
    )

    -- it is the last that asked
    pub last_so_far : Asks (change old new) (DialogueAsks forgets known)
    last_so_far = (
      so_far.0 ++ reply.0,
      asked_more so_far.1 reply.1,
      of_known forgets known (so_far.0 ++ reply.0) names_of_both (λ text is. last_one text (so_far.2.lines text is)),
    )
