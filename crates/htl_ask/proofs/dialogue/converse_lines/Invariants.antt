-- The lines so far got their replies, and the speaker their notes; what is kept is of the form from the beginning.
use Rattle.std.proofs.Common.{◌≡◌, ℕ, List, Some, false}
use Rattle.std.specs.Io.KnownBytes.{prepend_known}
use Rattle.htl_dialogue.proofs.Conversing.{Progress}
use Rattle.htl_world.specs.Rounds.{Asks}
use Rattle.htl_world.specs.Worlds.{WorldChange, change}
use Rattle.htl_ask.specs.Loads.{IsPartOf, answers_from, is_state}
use Rattle.htl_ask.proofs.dialogue.converse_lines.Given as goal
use Rattle.htl_ask.proofs.LinesAsked.{AsksSoFar}

abbrev pub invariant-loop-line : goal.invariant-loop-line
invariant-loop-line g l = record {
  readable : (g.Q.Source.state l.questions).failed ≡ false;
  inside : (g.Q.Source.state l.questions).ended ≡ false;
  writable : (g.O.Sink.state l.out).failed ≡ false;
  form : is_state l.kept ≡ is_state l.initial.kept;
  wants : g.S.Speaker.wants_notes l.speaker ≡ g.S.Speaker.wants_notes l.initial.speaker;
  asked : Asks (change (g.W.World.state l.initial.world) (g.W.World.state l.world)) (AsksSoFar (is_state l.initial.kept)
      (g.Q.Source.state l.initial.questions).remaining l.process (prepend_known l.held (g.Q.Source.state l.questions).remaining));
  so_far : (whole : WorldChange) → IsPartOf (change (g.W.World.state l.initial.world) (g.W.World.state l.world)) whole
      → (text : List ℕ) → (g.Q.Source.state l.initial.questions).remaining ≡ Some text
      → Progress (answers_from (g.W.World.state l.initial.world).known whole l.fn.files.dialogue.now.setting (is_state l.initial.kept)
      l.fn.has_table) (g.S.Speaker.wants_notes l.initial.speaker) g.S.Speaker.told l.initial.kept text (g.O.Sink.state l.initial.out).contents l.initial.speaker
      l.process (prepend_known l.held (g.Q.Source.state l.questions).remaining) l.kept (g.O.Sink.state l.out).contents l.speaker l.conversed l._line;
}
