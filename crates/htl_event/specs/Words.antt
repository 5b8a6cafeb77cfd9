-- The words of the debugger's `!htrace` and `!obtrace` for what events record.
use Rattle.std.specs.Prelude.{ℕ, List, codes}
use Rattle.htl_event.specs.declared.kind.Kind.{Kind}
use Rattle.htl_event.specs.declared.kind.Kind.TheVariants.{Opened, Closed, BadRef, Snapshot, Ref, Deref, Exited}

-- the word of a kind, as bytes
abbrev pub word_of : Kind → List ℕ
word_of Opened = codes "OPEN"
word_of Closed = codes "CLOSE"
word_of BadRef = codes "BAD REF"
word_of Snapshot = codes "SNAPSHOT"
word_of Ref = codes "REF"
word_of Deref = codes "DEREF"
word_of Exited = codes "EXIT"
